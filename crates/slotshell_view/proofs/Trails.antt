-- The trail of a lookup that is worked out from an image has the nodes that the entered rule names.
use mathlib.Core.Path.{◌≡◌, refl, sym, ap, ◌∙◌}
use mathlib.Core.Bool.{Bool, true, false, cond}
use mathlib.Core.List.{List, [], ◌∷◌, ◌++◌}
use Prim.Native.Nat.{ℕ, zero, suc, ◌+◌, ◌<◌, ◌≤◌}
use native.Mathlib.Omega.{arith}
use lib.ListN.{length, drop, set, length-append}
use lib.Seq.{sets, length-sets, sets-eq, take_at}
use borrow.Author.Tests.{lt-ltb}
use Rattle.words.specs.Nodes.{kid, hull}
use Rattle.tree.specs.Tree.{Tree, leaf, node, size, height, Shape}
use Rattle.tree_edit.proofs.Links.{on_slot, on_none}
use Rattle.iter.specs.Lists.{when}
use Rattle.iter.specs.declared.rules.Query.{Query}
use Rattle.iter_laws.specs.Entered.{goes, entered}
use Rattle.image_rule.specs.Stored.{child_in_lem}
use Rattle.little.proofs.Numbers.{sets_append}
use Rattle.slotshell_view.specs.View.{hull_in_lem, Trail, trail, noted, trail_below_lem, trail_beside_lem}
use Rattle.slotshell_view.specs.Shown.{noticed}
use Rattle.slotshell_view.proofs.Hulls.{Alike}
use Rattle.slotshell_view.proofs.Turns.{entry_rule, turns_are}

-- a trail with the slots of a list after its own
unfoldable pub onward : Trail → List ℕ → Trail
onward x l = trail (sets x.list x.taken l) (x.taken + length l)

-- and there is room for them
abbrev pub Room : Trail → List ℕ → Type 0
Room x l = x.taken + length l ≤ length x.list

pub onward_none : (x : Trail) → onward x [] ≡ x
unfolding onward
onward_none x = let e : x.taken + 0 ≡ x.taken = omega arith in λ t. record { list = x.list; taken = e t }

onward_append : (x : Trail) (a b : List ℕ) → onward (onward x a) b ≡ onward x (a ++ b)
unfolding onward
onward_append x a b =
    let e : x.taken + length a + length b ≡ x.taken + length (a ++ b) = omega (arith, length-append a b) in
    λ t. record { list = sym (sets_append a b x.list x.taken) t; taken = e t }

onward_room : (x : Trail) (a b : List ℕ) → Room x (a ++ b) → Room (onward x a) b
unfolding onward
onward_room x a b h = omega (arith, length-append a b, length-sets x.list x.taken a)

noted_is : (x : Trail) (s : ℕ) → Room x (s ∷ []) → noted x s ≡ onward x (s ∷ [])
unfolding onward
noted_is x s h =
    let e : suc x.taken ≡ x.taken + 1 = omega arith in
    rw (lt-ltb x.taken (length x.list) (omega arith)) (λ t. record { list = set x.list x.taken s; taken = e t })

pub noticed_is : (l out : List ℕ) → Room (trail out 0) l → noticed (onward (trail out 0) l) ≡ l
unfolding onward
noticed_is l out h =
    let e : 0 + length l ≡ length l = omega arith in
    rw (e, sets-eq l out 0 (omega arith)) (take_at l (drop (0 + length l) out) (length l) refl)

-- no more nodes are entered than there are
pub entered_few : (E : Bool → ℕ → ℕ → Bool) (t : Tree) → length (entered E t) ≤ size t
entered_few E leaf = omega arith
entered_few E (node l s r) =
    omega (
      arith,
      length-append (when (goes E true s l) (entered E l)) (when (goes E false s r) (entered E r)),
      part (goes E true s l) (entered E l) (size l) (entered_few E l),
      part (goes E false s r) (entered E r) (size r) (entered_few E r),
    )
  where
    part : (b : Bool) (l : List ℕ) (m : ℕ) → length l ≤ m → length (when b l) ≤ m
    part true l m h = h
    part false l m h = omega arith

module _ (I W : List ℕ) (n : ℕ) (alike : Alike I W n) (hulls : (s : ℕ) → s < n → hull_in_lem I n s ≡ hull W s) (q : Query) where
  abbrev E : Bool → ℕ → ℕ → Bool
  E = entry_rule W q

  on_side_lem : (h : ℕ) (b : Bool) (s : ℕ) (t : Tree) (x : Trail) → s < n → Shape W n s (kid W b s) t → Room x (when (goes E b s t) (entered E t))
      → (Room x (entered E t) → trail_below_lem I n q h (kid W b s) x ≡ onward x (entered E t))
      → trail_beside_lem I n q h b s x ≡ onward x (when (goes E b s t) (entered E t))
  on_side_lem h b s t x live g room f =
      ap (λ (u : Bool). cond u (trail_below_lem I n q h (child_in_lem I n b s) x) x) (turns_are I W n alike hulls q b s t live g)
      ∙ ap (λ (k : ℕ). cond (goes E b s t) (trail_below_lem I n q h k x) x) (alike.child b s live)
      ∙ go (goes E b s t) room
    where
      go : (u : Bool) → Room x (when u (entered E t)) → cond u (trail_below_lem I n q h (kid W b s) x) x ≡ onward x (when u (entered E t))
      go true room = f room
      go false room = sym (onward_none x)

  -- a link to a tree that is not too high
  pub trail_below_law : (h p k : ℕ) (t : Tree) (x : Trail) → Shape W n p k t → height t ≤ h → Room x (entered E t)
      → trail_below_lem I n q h k x ≡ onward x (entered E t)
  unfolding trail_below_lem
  trail_below_law zero p k leaf x g i room = sym (onward_none x)
  trail_below_law zero p k (node l s r) x g i room = absurd (omega arith)
  trail_below_law (suc h) p k leaf x g i room = on_none n k (omega (arith, alike.few)) _ x ∙ sym (onward_none x)
  trail_below_law (suc h) p k (node l s r) x g i room =
      let e : k ≡ s = g.here in
      let L : List ℕ = when (goes E true s l) (entered E l) in
      let R : List ℕ = when (goes E false s r) (entered E r) in
      let y : Trail = onward x (s ∷ []) in
      let z : Trail = onward y L in
      let m : length (L ++ R) ≡ length L + length R = length-append L R in
      let more : Room y (L ++ R) = onward_room x (s ∷ []) (L ++ R) room in
      rw e
      (on_slot n s g.live _ x
      ∙ ap (λ (o : Trail). trail_beside_lem I n q h false s (trail_beside_lem I n q h true s o)) (noted_is x s (omega arith))
      ∙ ap (trail_beside_lem I n q h false s)
      (on_side_lem h true s l y g.live g.left (omega arith) (trail_below_law h s (kid W true s) l y g.left (omega arith)))
      ∙ on_side_lem h false s r z g.live g.right (onward_room y L R more) (trail_below_law h s (kid W false s) r z g.right (omega arith))
      ∙ onward_append y L R
      ∙ onward_append x (s ∷ []) (L ++ R))
