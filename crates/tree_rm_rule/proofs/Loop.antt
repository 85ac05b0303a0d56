-- The invariant of the repair's loop, where shape, order, hulls and colours meet; and that each of
-- the five cases keeps it, or ends it.
use mathlib.Core.Path.{◌≡◌, refl, sym, ◌∙◌}
use mathlib.Core.Logic.{◌≢◌}
use mathlib.Core.Bool.{Bool, true, false, not, false≢true}
use mathlib.Core.List.{List, [], ◌∷◌, ◌++◌, append_assoc}
use Prim.Native.Nat.{ℕ, suc, ◌+◌, ◌<◌, ◌≤◌}
use native.Mathlib.Omega.{arith}
use native.Mathlib.Numerals.{one-add}
use lib.ListN.{length}
use Rattle.words.specs.Ix.{U}
use Rattle.words.specs.Nodes.{kid, par, fix, Holds}
use Rattle.tree.specs.Tree.{Tree, slots, hit, occ, Node, Shape, leaf, node}
use Rattle.tree.specs.Zipper.{bin, Frame, plug, occs, frame}
use Rattle.tree.specs.RedBlack.{root_red, blacks, RedBlack}
use Rattle.tree.proofs.Slots.{hit_same, hit_zero, occ_bin, occ_plug}
use Rattle.tree.proofs.Frames.{open_bin, plug_shape}
use Rattle.tree_edit.specs.Links.{root_after}
use Rattle.tree_edit.specs.Rotations.{rotate, rotate_2, rotate_4}
use Rattle.tree_edit.proofs.Links.{kept_rotate, kept_rotate_2, kept_rotate_4}
use Rattle.tree_edit.proofs.Beside.{HullsBy, by_rotate}
use Rattle.tree_edit.proofs.Upward.{by_four}
use Rattle.tree_edit.proofs.Stand.{Stand, stand_up, stand_fix}
use Rattle.tree_edit.proofs.Rotations.{stand_rotate, stand_rotate_2}
use Rattle.tree_rm_rule.proofs.Nephew.{stand_rotate_4}
use Rattle.tree_edit.proofs.Colours.{with_colour, with_colour_same, with_colour_other}
use Rattle.tree_edit.proofs.Fits.{Fits, Keeps, keeps, root_bin}
use Rattle.tree_rm_rule.proofs.Repaint.{fits_1, fits_2, fits_3, fits_4, fits_5}
use Rattle.tree_rm_rule.proofs.Weight.{weight, weight_le, weight_red, weight_distant}
use Rattle.tree_edit.proofs.Rows.{rotated_slots, slots_four}

abbrev pub Bare : ℕ → Tree
Bare x = node leaf x leaf

-- The way i, from x up, fits below any way that takes m blacks, once x is cut off: as long as the
-- colours of its slots stay.
abbrev Thin : (ℕ → Bool) → ℕ → List Frame → ℕ → Type 0
Thin K x i m =
    (L : ℕ → Bool) → ((s : ℕ) → 0 < occ s (plug i (Bare x)) → L s ≡ K s) → (d : List Frame) → Fits L d m false → Fits L (i ++ d) 0 false

-- The slot x is short of one black; ix is x or above it, i is the way from x up to ix, c that from
-- ix up; `base` are all slots in tree order.
pub record LoopInvariant (n x : ℕ) (base W : List ℕ) (K : ℕ → Bool) (r ix p : ℕ) (c i : List Frame) (m : ℕ) : Type 0 where
  pub live : ix < n
  pub stand : Stand W n r ix p c (plug i (Bare x))
  pub fits : Fits K c (suc m) false
  pub thin : Thin K x i m
  pub order : slots (plug c (plug i (Bare x))) ≡ base
  pub hulls : HullsBy W (i ++ c)

pub record Loop (n x : ℕ) (base W : List ℕ) (K : ℕ → Bool) (r ix : ℕ) : Type 0 where
  pub c : List Frame
  pub i : List Frame
  pub m : ℕ
  pub p : ℕ
  pub invariant : LoopInvariant n x base W K r ix p c i m

-- the loop goes on, with less weight than w
abbrev pub Lighter : ℕ → ℕ → List ℕ → ℕ → List ℕ → (ℕ → Bool) → ℕ → ℕ → Type 0
Lighter n x base w W K r ix = (l : Loop n x base W K r ix) × (weight K l.c < w)

-- the tree is even once x is cut off
pub record Fixed (n x : ℕ) (base W : List ℕ) (K : ℕ → Bool) (r : ℕ) : Type 0 where
  pub q : List Frame
  pub shape : Shape W n U r (plug q (Bare x))
  pub once : (s : ℕ) → occ s (plug q (Bare x)) ≤ 1
  pub fits : Fits K q 0 false
  pub room : Holds W n
  pub order : slots (plug q (Bare x)) ≡ base
  pub hulls : HullsBy W q

pub plug_append : (i c : List Frame) (t : Tree) → plug (i ++ c) t ≡ plug c (plug i t)
plug_append [] c t = refl
plug_append (frame b s far ∷ i) c t = plug_append i c (bin b t s far)

-- the end of the loop, at ix: the way up takes what is there
pub ended : (n x : ℕ) (base W : List ℕ) (K L : ℕ → Bool) (r ix p : ℕ) (c i : List Frame) (m : ℕ)
    → Stand W n r ix p c (plug i (Bare x)) → Fits L c m false
    → ((s : ℕ) → 0 < occ s (plug i (Bare x)) → L s ≡ K s) → Thin K x i m
    → slots (plug c (plug i (Bare x))) ≡ base
    → HullsBy W (i ++ c)
    → Fixed n x base W L r
ended n x base W K L r ix p c i m h fits f thin o u =
    record {
      q = i ++ c;
      shape = rw plug_append (plug_shape W n r c p ix (plug i (Bare x)) h.way h.tree);
      once = λ s. rw (plug_append, occ_plug) (h.once s);
      fits = thin L f c fits;
      room = h.room;
      order = rw plug_append o;
      hulls = u;
    }

-- a red root is there
as_bin : {A : Type 0} (K : ℕ → Bool) (b : Bool) (t : Tree) → root_red K t ≡ true → ((X : Tree) (Q : ℕ) (Y : Tree) → t ≡ bin b X Q Y → A) → A
as_bin K b leaf e k = absurd (false≢true e)
as_bin K true (node l s r) e k = k l s r refl
as_bin K false (node l s r) e k = k r s l refl

-- the five cases, at the slot ix below P with the sibling S
module _ (n x : ℕ) (base W : List ℕ) (K : ℕ → Bool) (r ix : ℕ) (b : Bool) (P S : ℕ) (c : List Frame) (C D : Tree) (i : List Frame) (m : ℕ)
    (invariant : LoopInvariant n x base W K r ix P (frame b P (bin b C S D) ∷ c) i m) where
  abbrev t : Tree
  t = plug i (Bare x)

  abbrev h : Stand W n r ix P (frame b P (bin b C S D) ∷ c) t
  h = invariant.stand

  above_once : (s : ℕ) → occs s (frame b P (bin b C S D) ∷ c) ≤ 1
  above_once s = omega (arith, h.once s)

  none : (s : ℕ) → 0 < occ s t → (hit s P ≡ 0) × (hit s S ≡ 0) × (occ s C ≡ 0) × (occ s D ≡ 0)
  none s o = omega (arith, h.once s, occ_bin s b C S D)

  P≢S : P ≢ S
  P≢S = hit_zero P S (omega (arith, h.once P, occ_bin P b C S D, hit_same P))

  sib : Node W n P (kid W (not b) P) S (Shape W n S (kid W b S) C) (Shape W n S (kid W (not b) S) D)
  sib = open_bin W n P (kid W (not b) P) b C S D h.way.far

  thin_1 : K P ≡ false → (m ≡ blacks (with_colour K S true) (bin b C S D)) × RedBlack (with_colour K S true) (bin b C S D)
      → Thin (with_colour K S true) x (i ++ (frame b P (bin b C S D) ∷ [])) (suc m)
  thin_1 kp z L g d q =
      let e : (s : ℕ) → occ s (plug (i ++ (frame b P (bin b C S D) ∷ [])) (Bare x)) ≡ occ s t + hit s P + occ s (bin b C S D) =
      λ s. rw plug_append (occ_bin s b t P (bin b C S D)) in
      let k : Keeps (with_colour K S true) L (bin b C S D) = keeps (with_colour K S true) L (bin b C S D) (λ s o. g s (omega (arith, e s))) in
      let lp : L P ≡ false = g P (omega (arith, e P, hit_same P)) ∙ with_colour_other K S true P P≢S ∙ kp in
      rw append_assoc (invariant.thin L
      (λ s o. g s (omega (arith, e s)) ∙ with_colour_other K S true s (hit_zero s S (none s o).1))
      (frame b P (bin b C S D) ∷ d)
      (record {
        equal_blacks = z.0 ∙ sym k.blacks_is;
        red_black = k.red_black_is z.1;
        no_red_red = λ y. absurd (false≢true (sym lp ∙ y));
        rest = rw (lp, one-add) q;
      }))

  pub good_1 : K P ≡ false → K S ≡ false → root_red K C ≡ false → root_red K D ≡ false → Lighter n x base (4 + length c) W (with_colour K S true) r P
  good_1 kp ks kc kd =
      let (fits, equal_blacks, red_black) = fits_1 K b P S c C D m above_once invariant.fits kp ks kc kd in (
        record {
          c = c;
          i = i ++ (frame b P (bin b C S D) ∷ []);
          m = suc m;
          p = par W P;
          invariant = record {
            live = h.way.live;
            stand = rw plug_append (stand_up W n r b P (bin b C S D) c t P ix h);
            fits = fits;
            thin = thin_1 kp (equal_blacks, red_black);
            order = rw plug_append invariant.order;
            hulls = rw append_assoc invariant.hulls;
          };
        },
        omega (arith, weight_le (with_colour K S true) c),
      )

  pub good_2 : K P ≡ false → K S ≡ true → Lighter n x base 3 (rotate_2 n W b P S) (with_colour (with_colour K P true) S false) (root_after n W r P S) ix
  good_2 kp ks =
      let L : ℕ → Bool = with_colour (with_colour K P true) S false in
      let f : (s : ℕ) → 0 < occ s t → L s ≡ K s =
      λ s o. with_colour_other _ S false s (hit_zero s S (none s o).1) ∙ with_colour_other K P true s (hit_zero s P (none s o).0) in
      let lp : L P ≡ true = with_colour_other _ S false P P≢S ∙ with_colour_same K P true in (
        record {
          c = frame b P C ∷ frame b S D ∷ c;
          i = i;
          m = m;
          p = P;
          invariant = record {
            live = invariant.live;
            stand = stand_rotate_2 W n r ix b P S c C D t h;
            fits = fits_2 K b P S c C D m above_once invariant.fits kp ks;
            thin = λ M g d q. invariant.thin M (λ s o. g s o ∙ f s o) d q;
            order = rotated_slots b P S c t C D ∙ invariant.order;
            hulls = by_rotate W (rotate_2 n W b P S) b P S C D i c (kept_rotate_2 n W b P S) invariant.hulls;
          };
        },
        omega (arith, weight_red L b P C (frame b S D ∷ c) lp),
      )

  pub good_3 : K P ≡ true → K S ≡ false → root_red K C ≡ false → root_red K D ≡ false
      → Fixed n x base W (with_colour (with_colour K P false) S true) r
  good_3 kp ks kc kd =
      ended n x base W K (with_colour (with_colour K P false) S true) r ix P (frame b P (bin b C S D) ∷ c) i m
      h (fits_3 K b P S c C D m above_once invariant.fits kp ks kc kd)
      (λ s o. with_colour_other _ S true s (hit_zero s S (none s o).1) ∙ with_colour_other K P false s (hit_zero s P (none s o).0))
      invariant.thin invariant.order invariant.hulls

  pub good_4 : K S ≡ false → root_red K C ≡ true → root_red K D ≡ false
      → Lighter n x base 2 (fix n (fix n (rotate_4 n W b P S (kid W b S)) S) (kid W b S)) (with_colour (with_colour K (kid W b S) false) S true) r ix
  good_4 ks kc kd = as_bin K b C kc go
    where
      go : (X : Tree) (Q : ℕ) (Y : Tree) → C ≡ bin b X Q Y
          → Lighter n x base 2 (fix n (fix n (rotate_4 n W b P S (kid W b S)) S) (kid W b S)) (with_colour (with_colour K (kid W b S) false) S true) r ix
      go X Q Y e =
          let h' : Stand W n r ix P (frame b P (bin b (bin b X Q Y) S D) ∷ c) t = rw e at h in
          let L : ℕ → Bool = with_colour (with_colour K Q false) S true in
          let X₄ : List ℕ = rotate_4 n W b P S Q in
          let kq : K Q ≡ true = sym (root_bin K b X Q Y) ∙ (rw e at kc) in
          let cq : kid W b S ≡ Q = (open_bin W n S (kid W b S) b X Q Y (rw e at sib.left)).here in
          let qt : (s : ℕ) → 0 < occ s t → hit s Q ≡ 0 =
          λ s o. let y : occ s (bin b X Q Y) ≡ 0 = rw e at (none s o).2 in omega (arith, occ_bin s b X Q Y) in
          let f : (s : ℕ) → 0 < occ s t → L s ≡ K s =
          λ s o. with_colour_other _ S true s (hit_zero s S (none s o).1) ∙ with_colour_other K Q false s (hit_zero s Q (qt s o)) in
          let qs : Q ≢ S = hit_zero Q S (omega (arith, h'.once Q, occ_bin Q b (bin b X Q Y) S D, occ_bin Q b X Q Y, hit_same Q)) in
          let lq : L Q ≡ false = with_colour_other _ S true Q qs ∙ with_colour_same K Q false in
          let ls : root_red L (bin b Y S D) ≡ true = root_bin _ b Y S D ∙ with_colour_same _ S true in
          let h₄ : Stand X₄ n r ix P (frame b P (bin b X Q (bin b Y S D)) ∷ c) t = stand_rotate_4 W n r ix b P S c t X Q Y D h' in
          rw cq ((
            record {
              c = frame b P (bin b X Q (bin b Y S D)) ∷ c;
              i = i;
              m = m;
              p = P;
              invariant = record {
                live = invariant.live;
                stand = stand_fix (fix n X₄ S) n r ix P (frame b P (bin b X Q (bin b Y S D)) ∷ c) t Q
                    (stand_fix X₄ n r ix P (frame b P (bin b X Q (bin b Y S D)) ∷ c) t S h₄);
                fits = fits_4 K b P S c X Q Y D m (rw e at above_once) (rw e at invariant.fits) ks kq kd;
                thin = λ M g d q. invariant.thin M (λ s o. g s o ∙ f s o) d q;
                order = slots_four b c t P X Q Y S D ∙ (rw e at invariant.order);
                hulls = by_four W X₄ n P (kid X₄ (not b) P) b P Q S X Y D i c h.small h₄.room (kept_rotate_4 n W b P S Q)
                    (λ a. omega (arith, h'.once a, occ_bin a b (bin b X Q Y) S D, occ_bin a b X Q Y, occ_plug a i (Bare x)))
                    h₄.way.far (rw e at invariant.hulls);
              };
            },
            omega (arith, weight_distant L b P X Q (bin b Y S D) c lq ls),
          ))

  pub good_5 : K S ≡ false → root_red K D ≡ true
      → Fixed n x base (rotate n W b P S) (with_colour (with_colour (with_colour K S (K P)) P false) (kid W (not b) S) false) (root_after n W r P S)
  good_5 ks kd = as_bin K b D kd go
    where
      go : (X : Tree) (Q : ℕ) (Y : Tree) → D ≡ bin b X Q Y
          → Fixed n x base (rotate n W b P S) (with_colour (with_colour (with_colour K S (K P)) P false) (kid W (not b) S) false) (root_after n W r P S)
      go X Q Y e =
          let h' : Stand W n r ix P (frame b P (bin b C S (bin b X Q Y)) ∷ c) t = rw e at h in
          let kq : K Q ≡ true = sym (root_bin K b X Q Y) ∙ (rw e at kd) in
          let cq : kid W (not b) S ≡ Q = (open_bin W n S (kid W (not b) S) b X Q Y (rw e at sib.right)).here in
          let qt : (s : ℕ) → 0 < occ s t → hit s Q ≡ 0 =
          λ s o. let y : occ s (bin b X Q Y) ≡ 0 = rw e at (none s o).3 in omega (arith, occ_bin s b X Q Y) in
          rw cq (ended n x base (rotate n W b P S) K (with_colour (with_colour (with_colour K S (K P)) P false) Q false) (root_after n W r P S) ix P
          (frame b P C ∷ frame b S (bin b X Q Y) ∷ c) i m
          (stand_rotate W n r ix b P S c C (bin b X Q Y) t h')
          (fits_5 K b P S c C X Q Y m (rw e at above_once) (rw e at invariant.fits) ks kq)
          (λ s o. with_colour_other _ Q false s (hit_zero s Q (qt s o)) ∙ with_colour_other _ P false s (hit_zero s P (none s o).0)
          ∙ with_colour_other K S (K P) s (hit_zero s S (none s o).1))
          invariant.thin
          (rotated_slots b P S c t C (bin b X Q Y) ∙ (rw e at invariant.order))
          (by_rotate W (rotate n W b P S) b P S C (bin b X Q Y) i c (kept_rotate n W b P S) (rw e at invariant.hulls)))
