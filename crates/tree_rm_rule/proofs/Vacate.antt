-- The slot to vacate is found, and its entry exchanged with that of the given slot.
use mathlib.Core.Path.{◌≡◌, refl, sym, ap, ◌∙◌}
use mathlib.Core.Logic.{◌≢◌}
use mathlib.Core.Bool.{Bool, true, false}
use mathlib.Core.List.{List, [], ◌∷◌, ◌++◌, append_assoc, map}
use Prim.Native.Nat.{ℕ, zero, suc, ◌+◌, ◌<◌, ◌≤◌}
use native.Mathlib.Omega.{arith}
use borrow.Author.Tests.{eq-eqb, ne_eqb, lt-leb, le-leb}
use Rattle.words.specs.Ix.{U}
use Rattle.words.specs.Nodes.{kid, entry, swap, Holds}
use Rattle.words.proofs.Nodes.{word_swap_slot, entry_swap_second, entry_swap_first}
use Rattle.tree.specs.Tree.{Tree, slots, without, hit, occ, height, Shape, leaf, node, times}
use Rattle.tree.specs.Zipper.{bin, Frame, plug, occs, frame}
use Rattle.tree.specs.Hulls.{Hulls}
use Rattle.tree.proofs.Slots.{hit_same, hit_zero, occ_plug, times_slots}
use Rattle.tree.proofs.Frames.{shape_live, unplug_shape, find, way_height}
use Rattle.tree_rm_rule.specs.Pairs.{moved_to}
use Rattle.tree_edit.specs.Links.{leftmost}
use Rattle.tree_rm_rule.specs.Remove.{vacated, exchanged, vacated_with}
use Rattle.tree_edit.proofs.Carried.{Kept, kept_entry}
use Rattle.tree_edit.proofs.Links.{on_slot, on_none}
use Rattle.tree_edit.proofs.Beside.{HullsBy, beside, along, occs_parts, along_append, by_same, hulls_by}
use Rattle.tree_rm_rule.proofs.Loop.{plug_append}
use Rattle.tree_rm_rule.proofs.Rows.{moved_to_self, map_id, couple, exchange, exchange_slots, around}

-- the leftmost slot of a tree, within its height
pub leftmost_at : {A : Type 0} (W : List ℕ) (n : ℕ) → n ≤ 65535 → (steps p k : ℕ) (l : Tree) (s : ℕ) (r : Tree) → Shape W n p k (node l s r)
    → height (node l s r) ≤ steps
    → ((m : ℕ) (i : List Frame) (y : Tree) (rest : List ℕ) → node l s r ≡ plug i (node leaf m y) → leftmost n steps W k ≡ m → slots (node l s r) ≡ m ∷ rest → A)
    → A
unfolding leftmost
leftmost_at W n small zero p k l s r h q go = absurd (omega arith)
leftmost_at W n small (suc steps) p k leaf s r h q go =
    go s [] r (slots r) refl (rw h.here (on_none n (kid W true s) (omega (arith, h.left)) (λ m. leftmost n steps W m) s)) refl
leftmost_at W n small (suc steps) p k (node a b c) s r h q go =
    leftmost_at W n small steps s (kid W true s) a b c h.left (omega arith) (λ m i y rest e f g.
    go m (i ++ (frame true s r ∷ [])) y (rest ++ (s ∷ slots r))
    (ap (λ (u : Tree). node u s r) e ∙ sym (plug_append i (frame true s r ∷ []) (node leaf m y)))
    (rw h.here (on_slot n (kid W true s) (rw h.left.here h.left.live) (λ m. leftmost n steps W m) s ∙ f))
    (ap (λ (u : List ℕ). u ++ (s ∷ slots r)) g))

-- The slot x is the one to vacate for s: it has one child tree at the most, on the side b. X are
-- the words after the exchange of entries.
pub record Chosen (s x : ℕ) (t : Tree) (W X : List ℕ) : Type 0 where
  pub b : Bool
  pub c : List Frame
  pub near : Tree
  pub tree_is : t ≡ plug c (bin b near x leaf)
  pub on_way : 0 < occs s c + hit s x
  pub entries : map (entry X) (without x (slots t)) ≡ map (entry W) (without s (slots t))
  pub slots_are : without x (slots t) ≡ map (moved_to x s) (without s (slots t))
  pub entry_is : entry X x ≡ entry W s
  pub hulls : HullsBy X c

module _ (W : List ℕ) (n r s : ℕ) (t : Tree) (small : n ≤ 65535) (fit : Holds W n) (shape : Shape W n U r t)
    (most : (a : ℕ) → occ a t ≤ 1) (hulls : Hulls W t) where
  -- the slot itself
  self : (b : Bool) (c : List Frame) (near : Tree) → t ≡ plug c (bin b near s leaf) → Chosen s s t W W
  self b c near e =
      record {
        b = b;
        c = c;
        near = near;
        tree_is = e;
        on_way = omega (arith, hit_same s);
        entries = refl;
        slots_are = sym (map_id (moved_to s s) (without s (slots t)) (λ a o. moved_to_self s a));
        entry_is = refl;
        hulls = (hulls_by W c (bin b near s leaf) (rw e at hulls)).0;
      }

  -- the next slot in tree order, in the right subtree
  next : (d i : List Frame) (l y : Tree) (x : ℕ) (rest : List ℕ) → t ≡ plug d (node l s (plug i (node leaf x y))) → slots (plug i (node leaf x y)) ≡ x ∷ rest
      → Chosen s x t W (swap W s x)
  next d i l y x rest e g =
      let c : List Frame = i ++ (frame false s l ∷ d) in
      let e' : t ≡ plug c (bin false y x leaf) = e ∙ sym (plug_append i (frame false s l ∷ d) (node leaf x y)) in
      let two : (a : ℕ) → occs a c + (0 + hit a x + occ a y) ≤ 1 =
      λ a. let q : occ a (plug c (node leaf x y)) ≤ 1 = rw e' at (most a) in omega (arith, occ_plug a c (node leaf x y)) in
      let lx : x < n = shape_live W n U r t x shape (rw e' (omega (arith, occ_plug x c (node leaf x y), hit_same x))) in
      let on_s : 0 < along s c = omega (arith, along_append s i (frame false s l ∷ d), hit_same s) in
      let ls : s < n = shape_live W n U r t s shape (rw e' (omega (arith, occ_plug s c (node leaf x y), occs_parts s c))) in
      let kept : (a : ℕ) → a ≢ s → a ≢ x → Kept W (swap W s x) a = λ a p q h z. word_swap_slot W s x h a p q in
      around d (λ A B f.
      let o : slots t ≡ (A ++ slots l) ++ couple true s x (rest ++ B) =
      ap slots e ∙ f (node l s (plug i (node leaf x y))) ∙ rw g (simp append_assoc) in
      let one : (a : ℕ) → times a ((A ++ slots l) ++ couple true s x (rest ++ B)) ≤ 1 =
      λ a. let w : times a (slots t) ≤ 1 = omega (arith, times_slots a t, most a) in rw o at w in
      record {
        b = false;
        c = c;
        near = y;
        tree_is = e';
        on_way = omega (arith, occs_parts s c);
        entries = rw o (exchange true s x (A ++ slots l) (rest ++ B) one (entry W) (entry (swap W s x))
            (entry_swap_first W s x (omega arith)) (λ a p q. kept_entry W (swap W s x) a (kept a p q)));
        slots_are = rw o (exchange_slots true s x (A ++ slots l) (rest ++ B) one);
        entry_is = entry_swap_second W s x (omega arith);
        hulls = by_same W (swap W s x) c
            (λ a p. kept a
            (λ q. let w : 0 < beside s c = rw q at p in omega (arith, two s, occs_parts s c))
            (λ q. let w : 0 < beside x c = rw q at p in omega (arith, two x, occs_parts x c, hit_same x)))
            (hulls_by W c (node leaf x y) (rw e' at hulls)).0;
      })

  pub chosen : 0 < occ s t → height t ≤ 32 → Chosen s (vacated n W s) t W (exchanged W s (vacated n W s))
  unfolding vacated_with exchanged
  chosen o tall = find s t [] o go
    where
      go : (d : List Frame) (l r' : Tree) → t ≡ plug d (node l s r') → Chosen s (vacated n W s) t W (exchanged W s (vacated n W s))
      go d l leaf e =
          let (p, k, a, sh) = unplug_shape W n r d (node l s leaf) (rw e at shape) in
          rw (le-leb n (kid W false s) (omega (arith, sh.right)), eq-eqb s s refl) (self true d l e)
      go d l (node u v w) e =
          let (p, k, a, sh) = unplug_shape W n r d (node l s (node u v w)) (rw e at shape) in
          let low : height (plug d (node l s (node u v w))) ≤ 32 = rw e at tall in
          leftmost_at W n small 32 s (kid W false s) u v w sh.right (omega (arith, way_height d (node l s (node u v w)))) (λ x i y rest f g h.
          let e' : t ≡ plug d (node l s (plug i (node leaf x y))) = e ∙ ap (λ (q : Tree). plug d (node l s q)) f in
          let h' : slots (plug i (node leaf x y)) ≡ x ∷ rest = ap slots (sym f) ∙ h in
          let z : occ s (plug d (node l s (plug i (node leaf x y)))) ≤ 1 = rw e' at (most s) in
          let sx : hit s x ≡ 0 = omega (arith, occ_plug s d (node l s (plug i (node leaf x y))), occ_plug s i (node leaf x y), hit_same s) in
          let d₀ : s ≢ x = hit_zero s x sx in
          rw (lt-leb n (kid W false s) (rw sh.right.here sh.right.live), g, ne_eqb x s (λ q. d₀ (sym q))) (next d i l y x rest e' h'))
