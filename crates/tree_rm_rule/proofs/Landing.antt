-- The last slot moves into the vacated one: the tree of a store that has one slot less, with all
-- data and colours.
use mathlib.Core.Path.{◌≡◌, subst, refl, sym, ap, ◌∙◌}
use mathlib.Core.Logic.{◌≢◌}
use mathlib.Core.Bool.{Bool, true, false, cond}
use mathlib.Core.List.{List, [], ◌∷◌}
use Prim.Native.Nat.{ℕ, suc, ◌+◌, ◌*◌, ◌<◌, ◌≤◌}
use native.Mathlib.Omega.{arith}
use lib.ListN.{length}
use lib.Dec.{eqb}
use borrow.Author.Tests.{eqb-true, eqb-false}
use Rattle.words.specs.Ix.{U}
use Rattle.words.specs.Nodes.{kid, par, Has, Holds, HoldsBits}
use Rattle.words.specs.declared.node.Field.TheVariants.{Child, Parent}
use Rattle.bitvec.specs.Colours.{red, paint}
use Rattle.bitvec.proofs.Bytes.{bit_at_same, bit_at_other}
use Rattle.tree.specs.Tree.{Tree, hit, occ, Shape, node}
use Rattle.tree.specs.Zipper.{Frame, plug, occs, Above, frame}
use Rattle.tree.specs.View.{datum, view}
use Rattle.tree.proofs.Cases.{compare}
use Rattle.tree.proofs.Slots.{hit_same, hit_ne, hit_cases, hit_zero, apart, occ_plug}
use Rattle.tree.proofs.Frames.{shape_live, off_link, keep, unplug_shape, shrink, find}
use Rattle.tree.proofs.Views.{view_keep}
use Rattle.tree_edit.specs.Links.{root_after}
use Rattle.tree_rm_rule.specs.Pairs.{moved_to}
use Rattle.tree_edit.specs.Store.{Store, store}
use Rattle.tree_rm_rule.specs.Remove.{relinked, cleared, swap_remove_lem}
use Rattle.tree_edit.proofs.Carried.{Carried, Kept, datum_carried}
use Rattle.tree_edit.proofs.Links.{on_slot, on_none, by_side}
use Rattle.tree_edit.proofs.Rotations.{off_parent}
use Rattle.tree_rm_rule.proofs.Rows.{moved_to_here, moved_to_other}
use Rattle.tree_rm_rule.proofs.Moves.{move_to, is_moved, kept_relinked, carried_relinked, word_cleared}
use Rattle.tree_rm_rule.proofs.Rename.{rename, view_rename, rename_away, rename_at}

-- the store S has the tree t of W and C, with the slot z called v
pub record Landed (W C : List ℕ) (z v : ℕ) (t : Tree) (S : Store) : Type 0 where
  pub shape : Shape S.words z U S.root (rename (moved_to z v) t)
  pub once : (s : ℕ) → s < z → occ s (rename (moved_to z v) t) ≡ 1
  pub view_is : view S.words (red S.colours) (rename (moved_to z v) t) ≡ view W (red C) t

-- the root is on every way up
way_root : (W : List ℕ) (n r : ℕ) (b : Bool) (s : ℕ) (far : Tree) (c : List Frame) (p k : ℕ) → Above W n r (frame b s far ∷ c) p k
    → 0 < occs r (frame b s far ∷ c)
way_root W n r b s far [] p k h = rw (← h.rest.1) (omega (arith, hit_same s))
way_root W n r b s far (frame d a f ∷ c) p k h = omega (arith, way_root W n r d a f c (par W s) s h.rest)

-- the root that is z becomes v: z is the root exactly if it has no parent
root_moves : (W : List ℕ) (n r : ℕ) (c : List Frame) (z v : ℕ) → n ≤ 65535 → occs z c ≡ 0 → Above W n r c (par W z) z
    → moved_to z v r ≡ root_after n W r z v
unfolding root_after
root_moves W n r [] z v m o h =
    rw (← h.1) (moved_to_here z v ∙ sym (on_none n (par W z) (omega (arith, h.0)) (λ s. z) v))
root_moves W n r (frame b s far ∷ c) z v m o h =
    let d : r ≢ z = λ e. let y : 0 < occs z (frame b s far ∷ c) = subst (λ (k : ℕ). 0 < occs k (frame b s far ∷ c)) e (way_root W n r b s far c (par W z) z h) in omega arith in
    moved_to_other z v r d ∙ sym (on_slot n (par W z) (omega (arith, h.live, h.at)) (λ s. r) v)

module _ (n z v : ℕ) (W C : List ℕ) (r : ℕ) (t : Tree) (small : n ≤ 65535) (last : suc z ≡ n) (lv : v < n)
    (fit : Holds W n) (bits : HoldsBits C n) (shape : Shape W n U r t) (once : (s : ℕ) → s < n → occ s t + hit s v ≡ 1) where
  live : (s : ℕ) → 0 < occ s t → s < n
  live s = shape_live W n U r t s shape

  no_v : occ v t ≡ 0
  no_v = omega (arith, once v lv, hit_same v)

  most : (s : ℕ) → occ s t ≤ 1
  most s = compare (occ s t) 1 (λ q. q) (λ q. omega (arith, once s (live s (omega arith))))

  -- a tree without z stays, with a lower count, where z is cleared
  cleared_shape : (X : List ℕ) (q : ℕ) (u : Tree) → occ z u ≡ 0 → Shape X n U q u → Shape (cleared X z) z U q u
  cleared_shape X q u o sh =
      let off : (a : ℕ) → 0 < occ a u → a ≢ z = λ a i. apart a z u o i in
      shrink (cleared X z) n z U q u (λ s i. let d : s ≢ z = off s i in omega (arith, shape_live X n U q u s sh i))
      (keep X (cleared X z) n U q u
      (λ a i. (λ b. word_cleared X z (Child b) a (off a i), word_cleared X z Parent a (off a i))) sh)

  -- the vacated slot is the last one
  stays : v ≡ z → Landed W C z v t (store (cleared W z) C r)
  stays e =
      let no_z : occ z t ≡ 0 = rw e at no_v in
      let same : rename (moved_to z v) t ≡ t = rename_away z v t no_z in
      record {
        shape = rw same (cleared_shape W r t no_z shape);
        once = λ s q. rw same (omega (arith, once s (omega arith), hit_ne s v (omega arith)));
        view_is = rw same (view_keep W (red C) (cleared W z) (red C) t (λ a o.
            datum_carried W (cleared W z) (red C) (red C) a a (λ g q. word_cleared W z g a (apart a z t no_z o)) refl));
      }

  -- the last slot moves
  module _ (vz : v ≢ z) where
    abbrev X : List ℕ
    X = relinked n W z v

    abbrev S : Store
    S = store (cleared X z) (paint C v (red C z)) (moved_to z v r)

    at : (c : List Frame) (l r' : Tree) → t ≡ plug c (node l z r') → Landed W C z v t S
    at c l r' e =
        let (p, k, a₀, s₀) = unplug_shape W n r c (node l z r') (rw e at shape) in
        let a : Above W n r c (par W z) z = rw (s₀.here, ← s₀.up) at a₀ in
        let s : Shape W n (par W z) z (node l z r') = record { here = refl; live = s₀.live; up = refl; left = s₀.left; right = s₀.right } in
        let all : (s : ℕ) → occs s c + occ s (node l z r') ≤ 1 =
        λ s. let y : occ s (plug c (node l z r')) ≤ 1 = rw e at (most s) in omega (arith, occ_plug s c (node l z r')) in
        let zv : occs v c + occ v (node l z r') ≡ 0 =
        let y : occ v (plug c (node l z r')) ≡ 0 = rw e at no_v in omega (arith, occ_plug v c (node l z r')) in
        let off_z : (occs z c ≡ 0) × (occ z l ≡ 0) × (occ z r' ≡ 0) = omega (arith, all z, hit_same z) in
        let vk : (d : Bool) → v ≢ kid W d z =
        by_side (λ d. v ≢ kid W d z) true
        (off_link W n z (kid W true z) l v small s.left lv (omega arith)) (off_link W n z (kid W false z) r' v small s.right lv (omega arith)) in
        let vg : v ≢ par W z = off_parent W n r c (par W z) z v small a lv (omega arith) in
        let fk : (d : Bool) → kid W d z < n → kid W d z * 8 + 8 ≤ length W = λ d u. omega arith in
        let fg : par W z < n → par W z * 8 + 8 ≤ length W = λ u. omega arith in
        let fv : Has W v = omega arith in
        let sh : Shape X n U (root_after n W r z v) (plug c (node l v r')) =
        move_to W X n r c l r' z v small lv all zv a s (is_moved n W z v fv vk vg fk fg) in
        let same : rename (moved_to z v) t ≡ plug c (node l v r') =
        ap (λ (u : Tree). rename (moved_to z v) u) e ∙ rename_at z v c l r' off_z.0 off_z.1 off_z.2 in
        let zn : occ z (plug c (node l v r')) ≡ 0 = omega (arith, occ_plug z c (node l v r'), hit_ne z v (λ e. vz (sym e))) in
        record {
          shape = rw (same, root_moves W n r c z v small off_z.0 a) (cleared_shape X (root_after n W r z v) (plug c (node l v r')) zn sh);
          once = λ s q. rw same
              (let y : occ s (plug c (node l z r')) + hit s v ≡ 1 = rw e at (once s (omega arith)) in
              omega (arith, occ_plug s c (node l v r'), occ_plug s c (node l z r'), hit_ne s z (omega arith)));
          view_is = view_rename W (red C) (cleared X z) (red (paint C v (red C z))) (moved_to z v) t
              (λ b o. datum_at (carried_relinked n W z v fv vk vg fk fg) (kept_relinked n W z v fv vk vg fk fg) b o);
        }
      where
        datum_at : Carried W X z v → ((a : ℕ) → a ≢ v → Kept W X a) → (b : ℕ) → 0 < occ b t
            → datum (cleared X z) (red (paint C v (red C z))) (moved_to z v b) ≡ datum W (red C) b
        datum_at cz ck b o =
            hit_cases b z
            (λ q. rw (q, moved_to_here z v)
            (datum_carried W (cleared X z) (red C) (red (paint C v (red C z))) z v (λ g i. word_cleared X z g v vz ∙ cz g i)
            (bit_at_same C v (red C z) (omega arith))))
            (λ q. let bz : b ≢ z = hit_zero b z q in
            let bv : b ≢ v = apart b v t no_v o in
            rw (moved_to_other z v b bz)
            (datum_carried W (cleared X z) (red C) (red (paint C v (red C z))) b b (λ g i. word_cleared X z g b bz ∙ ck b bv g i)
            (bit_at_other C v (red C z) b bv)))

    moves : Landed W C z v t S
    moves = find z t [] (omega (arith, once z (omega arith), hit_ne z v (λ e. vz (sym e)))) at

  pub landed : Landed W C z v t (swap_remove_lem n W C r z v)
  unfolding swap_remove_lem
  landed = go (eqb v z) refl
    where
      go : (q : Bool) → eqb v z ≡ q
          → Landed W C z v t (cond q (store (cleared W z) C r) (store (cleared (relinked n W z v) z) (paint C v (red C z)) (moved_to z v r)))
      go true q = stays (eqb-true v z q)
      go false q = moves (eqb-false v z q)
