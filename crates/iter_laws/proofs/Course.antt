-- The walk through a tree: from its root, entered, to the slot above it, in so many moves, with
-- these events.
use mathlib.Core.Path.{◌≡◌, refl, ap, ◌∙◌}
use mathlib.Core.Bool.{Bool, true, false, cond}
use mathlib.Core.List.{List, [], ◌∷◌, ◌++◌, append_assoc}
use Prim.Native.Nat.{ℕ, suc, ◌+◌, ◌<◌, ◌≤◌}
use native.Mathlib.Omega.{arith}
use lib.ListN.{length}
use borrow.Author.Tests.{lt-ltb}
use Rattle.words.specs.Nodes.{kid, par}
use Rattle.tree.specs.Tree.{Tree, leaf, node, height, Shape}
use Rattle.iter.specs.declared.Cursor.{Cursor}
use Rattle.iter_laws.specs.Place.{at, held}
use Rattle.iter.specs.Walk.{Rules, move}
use Rattle.iter.proofs.Events.{Event, found, told, events}
use Rattle.iter_laws.proofs.Script.{Linked, script, moves}
use Rattle.iter.specs.Lists.{when}
use Rattle.iter_laws.proofs.Ways.{back, move_left, move_on, move_match, move_right, move_up, move_back, slot_at, told_entered, told_returned, told_side, told_back}

module _ (W : List ℕ) (n : ℕ) (Q : Rules) (small : n ≤ 65535) (linked : Linked W n Q) where
  pub one : (g f : ℕ) (c d : Cursor) → g ≡ suc f → c.slot < n → move W Q c ≡ d → events W n Q g c ≡ told n Q d ++ events W n Q f d
  unfolding events
  one g f c d e h m = rw (e, lt-ltb c.slot n h, m)

  -- a subtree that is gone into leaves the stack a level
  pub room : (p k : ℕ) (t : Tree) (j : ℕ) → Shape W n p k t → k < n → suc j + height t ≤ 32 → suc j < 32
  room p k leaf j h q m = absurd (omega arith)
  room p k (node l s r) j h q m = omega arith

  abbrev pub Through : Tree → Type 0
  Through t = (p k : ℕ) (bs : List Bool) (g f : ℕ) → Shape W n p k t → k < n → length bs + height t ≤ 32 → g ≡ moves Q t + f
      → told n Q (at k 0 bs) ++ events W n Q g (at k 0 bs) ≡ script Q bs t ++ events W n Q f (back p bs)

  -- the left subtree, if the walk goes there
  left_part : (l : Tree) (s : ℕ) (bs : List Bool) (g f : ℕ) → Through l → Shape W n s (kid W true s) l → s < n → suc (length bs) + height l ≤ 32
      → (i : Bool) → Q.go true s ≡ i → g ≡ cond i (moves Q l) 0 + suc f
      → events W n Q g (at s 0 bs) ≡ when i (script Q (true ∷ bs) l) ++ events W n Q f (at s 2 bs)
  left_part l s bs g f rec h q a true e m =
      one g (moves Q l + f) (at s 0 bs) (at (kid W true s) 0 (true ∷ bs)) (omega arith) (rw slot_at q) (move_left W Q s bs (room s (kid W true s) l (length bs) h (linked true s e) a) e)
      ∙ rec s (kid W true s) (true ∷ bs) (moves Q l + f) f h (linked true s e) a refl
  left_part l s bs g f rec h q a false e m =
      one g f (at s 0 bs) (at s 2 bs) (omega arith) (rw slot_at q) (move_on W Q s bs e) ∙ rw (told_side n Q s true bs)

  -- the node's own entry
  pub own_part : (s : ℕ) (bs : List Bool) (g f : ℕ) → s < n → g ≡ suc f
      → events W n Q g (at s 2 bs) ≡ when (Q.match s) (found (held s bs) ∷ []) ++ events W n Q f (held s bs)
  own_part s bs g f q m = one g f (at s 2 bs) (held s bs) m (rw slot_at q) (move_match W Q s bs) ∙ rw (told_returned n Q s bs q)

  -- the right subtree, if the walk goes there, and the way up
  pub right_part : (r : Tree) (s : ℕ) (bs : List Bool) (g f : ℕ) → Through r → Shape W n s (kid W false s) r → s < n → suc (length bs) + height r ≤ 32
      → (j : Bool) → Q.go false s ≡ j → g ≡ cond j (suc (moves Q r)) 0 + suc f
      → events W n Q g (held s bs) ≡ when j (script Q (false ∷ bs) r) ++ events W n Q f (back (par W s) bs)
  right_part r s bs g f rec h q a true e m =
      one g (moves Q r + suc f) (held s bs) (at (kid W false s) 0 (false ∷ bs)) (omega arith) (rw slot_at q) (move_right W Q s bs (room s (kid W false s) r (length bs) h (linked false s e) a) e)
      ∙ rec s (kid W false s) (false ∷ bs) (moves Q r + suc f) (suc f) h (linked false s e) a refl
      ∙ ap (λ (x : List Event). script Q (false ∷ bs) r ++ x)
      (one (suc f) f (at s 3 bs) (back (par W s) bs) refl (rw slot_at q) (move_back W Q s bs) ∙ rw (told_back n Q (par W s) bs small))
  right_part r s bs g f rec h q a false e m =
      one g f (held s bs) (back (par W s) bs) (omega arith) (rw slot_at q) (move_up W Q s bs e) ∙ rw (told_back n Q (par W s) bs small)

  pub through : (t : Tree) → Through t
  through leaf p k bs g f h q d m = absurd (omega arith)
  through (node l s r) p k bs g f h q d m =
      let a : ℕ = cond (Q.go false s) (suc (moves Q r)) 0 + suc f in
      let ql : s < n = h.live in
      rw (h.here, told_entered n Q s bs h.live)
      (rw (
        left_part l s bs g (suc a) (through l) h.left ql (omega arith) (Q.go true s) refl (omega arith),
        own_part s bs (suc a) a ql refl,
        right_part r s bs a f (through r) h.right ql (omega arith) (Q.go false s) refl refl,
        h.up,
        append_assoc,
        append_assoc,
      )
      )
