-- Shape and slots: a slot is cut off, and the last slot moves into the vacated one.
use mathlib.Core.Path.{◌≡◌, subst, refl, sym, ◌∙◌}
use mathlib.Core.Logic.{◌≢◌}
use mathlib.Core.Bool.{Bool, true, false, not}
use mathlib.Core.List.{List}
use Prim.Native.Nat.{ℕ, ◌+◌, ◌*◌, ◌<◌, ◌≤◌}
use native.Mathlib.Omega.{arith}
use lib.ListN.{length}
use lib.Dec.{eqb}
use Rattle.words.specs.Ix.{U}
use Rattle.words.specs.Nodes.{word, kid, par, Has, Holds}
use Rattle.words.proofs.Nodes.{length_put_node, word_put_node_slot, entry_put_node, hull_put_node, kid_put_node, par_put_node}
use Rattle.words.specs.declared.node.Field.{Field}
use Rattle.words.specs.declared.node.Field.TheVariants.{Child, Parent}
use Rattle.tree.specs.Tree.{Tree, hit, occ, Shape, node}
use Rattle.tree.specs.Zipper.{Frame, plug, occs, Above}
use Rattle.tree.proofs.Slots.{hit_same}
use Rattle.tree.proofs.Frames.{shape_live, way_live, off_link, move, plug_shape}
use Rattle.tree_edit.specs.Links.{adopt, redirect, root_after}
use Rattle.tree_rm_rule.specs.Remove.{copied, relinked, cleared}
use Rattle.tree_edit.proofs.Carried.{Carried, Kept, carry}
use Rattle.tree_edit.proofs.Links.{by_side, length_adopt, kept_adopt, kid_adopt, par_adopt, word_adopt_slot, par_adopt_kept, kept_redirect, par_redirect, word_redirect_slot, kid_redirect, kid_redirect_not}
use Rattle.tree_edit.proofs.Rotations.{swing, off_parent}

-- what led to x is undefined
pub cut_way : (W : List ℕ) (n r : ℕ) (c : List Frame) (x : ℕ) → n ≤ 65535 → Holds W n → x < n
    → occs x c ≡ 0 → ((s : ℕ) → occs s c ≤ 1) → Above W n r c (par W x) x
    → Above (redirect n W (par W x) x U) n (root_after n W r x U) c (par W x) U
cut_way W n r c x m fit q z one h =
    swing W (redirect n W g x U) n r c x U m q z one
    (λ s o d. (λ b. word_redirect_slot n W g x U (Child b) s d, word_redirect_slot n W g x U Parent s d))
    (λ o. let l : g < n = way_live W n r c g x g h o in (
      par_redirect n W g x U g,
      λ b e. kid_redirect n W g x U b l (omega arith) e,
      λ b e. kid_redirect_not n W g x U b e,
    ))
    h
  where
    g : ℕ
    g = par W x

-- The words X come from W by moving the node of slot z to slot x.
pub record Moved (n : ℕ) (W X : List ℕ) (z x : ℕ) : Type 0 where
  pub kids : (d : Bool) (s : ℕ) → s ≢ x → s ≢ par W z → kid X d s ≡ kid W d s
  pub pars : (s : ℕ) → s ≢ x → ((d : Bool) → s ≢ kid W d z) → par X s ≡ par W s
  pub kid_x : (d : Bool) → kid X d x ≡ kid W d z
  pub par_x : par X x ≡ par W z
  pub par_kid : (d : Bool) → kid W d z < n → par X (kid W d z) ≡ x
  pub to_x : par W z < n → (d : Bool) → eqb (kid W true (par W z)) z ≡ d → kid X d (par W z) ≡ x
  pub other : par W z < n → (d : Bool) → eqb (kid W true (par W z)) z ≡ not d → kid X d (par W z) ≡ kid W d (par W z)

module _ (W X : List ℕ) (n r : ℕ) (c : List Frame) (l r' : Tree) (z x : ℕ) (small : n ≤ 65535) (lx : x < n)
    (once : (s : ℕ) → occs s c + occ s (node l z r') ≤ 1) (zx : occs x c + occ x (node l z r') ≡ 0)
    (h : Above W n r c (par W z) z) (t : Shape W n (par W z) z (node l z r')) (v : Moved n W X z x) where
  off : (s : ℕ) → 0 < occs s c + occ s (node l z r') → s ≢ x
  off s o e = let w : 0 < occs x c + occ x (node l z r') = subst (λ (k : ℕ). 0 < occs k c + occ k (node l z r')) e o in omega arith

  not_g : (s : ℕ) → s < n → occs s c ≡ 0 → s ≢ par W z
  not_g s = off_parent W n r c (par W z) z s small h

  not_kid : (s : ℕ) → s < n → occ s l ≡ 0 → occ s r' ≡ 0 → (d : Bool) → s ≢ kid W d z
  not_kid s q i j =
      by_side (λ d. s ≢ kid W d z) true
      (off_link W n z (kid W true z) l s small t.left q i)
      (off_link W n z (kid W false z) r' s small t.right q j)

  -- the subtree u on the side d, where o is the other one
  new_kid : (d : Bool) (u o : Tree) → Shape W n z (kid W d z) u → Shape W n z (kid W (not d) z) o
      → ((s : ℕ) → occ s (node l z r') ≡ occ s u + hit s z + occ s o) → Shape X n x (kid W d z) u
  new_kid d u o hu ho e =
      move W X n z x (kid W d z) u
      (λ s i y. let q : s < n = shape_live W n z (kid W d z) u s hu i in (
        λ b. v.kids b s (off s (omega (arith, e s))) (not_g s q (omega (arith, once s, e s))),
        v.pars s (off s (omega (arith, e s)))
            (by_side (λ b. s ≢ kid W b z) d y (off_link W n z (kid W (not d) z) o s small ho q (omega (arith, once s, e s)))),
      ))
      (λ i. let q : kid W d z < n = shape_live W n z (kid W d z) u (kid W d z) hu i in (
        λ b. v.kids b (kid W d z) (off (kid W d z) (omega (arith, e (kid W d z)))) (not_g (kid W d z) q (omega (arith, once (kid W d z), e (kid W d z)))),
        v.par_kid d q,
      ))
      (omega (arith, once (kid W d z), e (kid W d z)))
      hu

  new_way : Above X n (root_after n W r z x) c (par W z) x
  new_way =
      swing W X n r c z x small t.live (omega (arith, once z, hit_same z)) (λ s. omega (arith, once s))
      (λ s o y. let q : s < n = way_live W n r c (par W z) z s h o in (
        λ d. v.kids d s (off s (omega arith)) y,
        v.pars s (off s (omega arith)) (not_kid s q (omega (arith, once s)) (omega (arith, once s))),
      ))
      (λ o. let q : par W z < n = way_live W n r c (par W z) z (par W z) h o in (
        v.pars (par W z) (off (par W z) (omega arith)) (not_kid (par W z) q (omega (arith, once (par W z))) (omega (arith, once (par W z)))),
        v.to_x q,
        v.other q,
      ))
      h

  pub move_to : Shape X n U (root_after n W r z x) (plug c (node l x r'))
  move_to =
      plug_shape X n (root_after n W r z x) c (par W z) x (node l x r') new_way
      (record {
        here = refl;
        live = lx;
        up = v.par_x;
        left = rw (v.kid_x true) (new_kid true l r' t.left t.right (λ s. refl));
        right = rw (v.kid_x false) (new_kid false r' l t.right t.left (λ s. omega arith));
      })

-- `swap_remove`: what its words say, where slot v is none of those next to z
module _ (n : ℕ) (W : List ℕ) (z v : ℕ) (fit : Has W v)
    (vk : (d : Bool) → v ≢ kid W d z) (vg : v ≢ par W z)
    (fit-k : (d : Bool) → kid W d z < n → kid W d z * 8 + 8 ≤ length W)
    (fit-g : par W z < n → par W z * 8 + 8 ≤ length W) where
  X₁ : List ℕ
  X₁ = copied W z v

  X₂ : List ℕ
  X₂ = adopt n X₁ (kid W true z) v

  X₃ : List ℕ
  X₃ = adopt n X₂ (kid W false z) v

  length_X₁ : length X₁ ≡ length W
  unfolding X₁ copied
  length_X₁ = length_put_node W v _ _ _ _ _

  length_X₂ : length X₂ ≡ length W
  unfolding X₂
  length_X₂ = length_adopt n X₁ (kid W true z) v ∙ length_X₁

  length_X₃ : length X₃ ≡ length W
  unfolding X₃
  length_X₃ = length_adopt n X₂ (kid W false z) v ∙ length_X₂

  word_X₁ : (g : Field) (a : ℕ) → a ≢ v → word X₁ g a ≡ word W g a
  unfolding X₁ copied
  word_X₁ g a d = word_put_node_slot W v _ _ _ _ _ g a d

  kid_X₁ : (d : Bool) → kid X₁ d v ≡ kid W d z
  unfolding X₁ copied
  kid_X₁ true = kid_put_node W v _ _ _ _ _ true fit
  kid_X₁ false = kid_put_node W v _ _ _ _ _ false fit

  par_X₁ : par X₁ v ≡ par W z
  unfolding X₁ copied
  par_X₁ = par_put_node W v _ _ _ _ _ fit

  kid_X₃ : (d : Bool) (a : ℕ) → kid X₃ d a ≡ kid X₁ d a
  unfolding X₃ X₂
  kid_X₃ d a = kid_adopt n X₂ (kid W false z) v d a ∙ kid_adopt n X₁ (kid W true z) v d a

  par_X₃ : (a : ℕ) → ((d : Bool) → a ≢ kid W d z) → par X₃ a ≡ par X₁ a
  unfolding X₃ X₂
  par_X₃ a h = word_adopt_slot n X₂ (kid W false z) v Parent a (h false) ∙ word_adopt_slot n X₁ (kid W true z) v Parent a (h true)

  kids_X₃ : (d : Bool) → kid W d z < n → par X₃ (kid W d z) ≡ v
  unfolding X₃ X₂
  kids_X₃ true u =
      par_adopt_kept n X₂ (kid W false z) v (kid W true z) (rw length_X₂ (fit-k true u)) u
      (par_adopt n X₁ (kid W true z) v u (rw length_X₁ (fit-k true u)))
  kids_X₃ false u = par_adopt n X₂ (kid W false z) v u (rw length_X₂ (fit-k false u))

  g≢v : par W z ≢ v
  g≢v e = vg (sym e)

  at_g : eqb (kid X₃ true (par W z)) z ≡ eqb (kid W true (par W z)) z
  at_g = rw (kid_X₃ true (par W z), word_X₁ (Child true) (par W z) g≢v)

  pub is_moved : Moved n W (relinked n W z v) z v
  unfolding relinked X₃ X₂ X₁
  is_moved =
      record {
        kids = λ d s p q. word_redirect_slot n X₃ (par W z) z v (Child d) s q ∙ kid_X₃ d s ∙ word_X₁ (Child d) s p;
        pars = λ s p q. par_redirect n X₃ (par W z) z v s ∙ par_X₃ s q ∙ word_X₁ Parent s p;
        kid_x = λ d. word_redirect_slot n X₃ (par W z) z v (Child d) v vg ∙ kid_X₃ d v ∙ kid_X₁ d;
        par_x = par_redirect n X₃ (par W z) z v v ∙ par_X₃ v vk ∙ par_X₁;
        par_kid = λ d u. par_redirect n X₃ (par W z) z v (kid W d z) ∙ kids_X₃ d u;
        to_x = λ u d e. kid_redirect n X₃ (par W z) z v d u (rw length_X₃ (fit-g u)) (at_g ∙ e);
        other = λ u d e. kid_redirect_not n X₃ (par W z) z v d (at_g ∙ e) ∙ kid_X₃ d (par W z) ∙ word_X₁ (Child d) (par W z) g≢v;
      }

  kept_X₁ : (a : ℕ) → Kept X₁ (relinked n W z v) a
  unfolding relinked X₁
  kept_X₁ a g q = kept_redirect n _ (par W z) z v a g q ∙ kept_adopt n _ (kid W false z) v a g q ∙ kept_adopt n _ (kid W true z) v a g q

  pub kept_relinked : (a : ℕ) → a ≢ v → Kept W (relinked n W z v) a
  kept_relinked a d g q = kept_X₁ a g q ∙ word_X₁ g a d

  pub carried_relinked : Carried W (relinked n W z v) z v
  unfolding X₁ copied
  carried_relinked g q = kept_X₁ v g q ∙ carry W X₁ z v (entry_put_node W v _ _ _ _ _ fit) (hull_put_node W v _ _ _ _ _ fit) g q

-- a slot that is cleared is read nowhere else
pub word_cleared : (W : List ℕ) (z : ℕ) (g : Field) (a : ℕ) → a ≢ z → word (cleared W z) g a ≡ word W g a
unfolding cleared
word_cleared W z g a d = word_put_node_slot W z _ _ _ _ _ g a d
