-- The invariant of the repair's loop, where shape, order, hulls and colours meet; and that each
-- round of it keeps it or ends it.
use mathlib.Core.Path.{◌≡◌, refl, sym, ◌∙◌}
use mathlib.Core.Logic.{◌≢◌}
use mathlib.Core.Bool.{Bool, true, false, not, false≢true, true≢false}
use mathlib.Core.List.{List, [], ◌∷◌}
use Prim.Native.Nat.{ℕ, ◌+◌, ◌<◌, ◌≤◌}
use native.Mathlib.Omega.{arith}
use native.Mathlib.Nat.{zero-add}
use Rattle.words.specs.Ix.{U}
use Rattle.words.specs.Nodes.{par, Holds}
use Rattle.tree.specs.Tree.{Tree, node, slots, hit, occ, Shape}
use Rattle.tree.specs.Zipper.{bin, Frame, frame, plug, occs}
use Rattle.tree.specs.RedBlack.{root_red, RedBlack}
use Rattle.tree.proofs.Slots.{hit_same, hit_zero, apart, occ_bin, occ_plug}
use Rattle.tree.proofs.Frames.{bin_flip, plug_shape}
use Rattle.tree_edit.specs.Links.{root_after}
use Rattle.tree_edit.proofs.Links.{on_slot}
use Rattle.tree_edit.proofs.Colours.{with_colour, with_colour_same, with_colour_other}
use Rattle.tree_edit.proofs.Fits.{Fits, Keeps, keeps, fits_plug}
use Rattle.tree_edit.proofs.Stand.{stand_up}
use Rattle.tree_in_rule.specs.InsertRepair.{rotated}
use Rattle.tree_in_rule.proofs.Partly.{Partly, make_partly, hulls_partly, plug_partly}
use Rattle.tree_in_rule.proofs.Rotate.{Placed, placed_rotated}
use Rattle.tree_in_rule.proofs.Reds.{BlackHeight, BlackRoot, blackened, reddened, opened, keep_black_height, keep_black_root, with_colour_keeps, with_colour_fits, two_keeps}

-- x is the root of t, seen from either side
abbrev pub Rooted : ℕ → Tree → Type 0
Rooted x t = (b : Bool) → (A : Tree) × (B : Tree) × (t ≡ bin b A x B)

pub rooted : (a : Bool) (l : Tree) (x : ℕ) (e : Tree) → Rooted x (bin a l x e)
rooted true l x e true = (l, e, refl)
rooted true l x e false = (e, l, refl)
rooted false l x e true = (e, l, refl)
rooted false l x e false = (l, e, refl)

-- The red slot x stands where the way up c takes no red root: a black one with as many blacks would
-- fit.
pub record LoopInvariant (n z : ℕ) (base W : List ℕ) (K : ℕ → Bool) (r x p : ℕ) (c : List Frame) (t : Tree) (m : ℕ) : Type 0 where
  pub placed : Placed W n z base r x p c t
  pub root : Rooted x t
  pub red : K x ≡ true
  pub equal_blacks : BlackHeight K m t
  pub fits : Fits K c m false

-- the whole tree is even, and its root black
pub record Settled (n z : ℕ) (base W : List ℕ) (K : ℕ → Bool) (r : ℕ) : Type 0 where
  pub tree : Tree
  pub shape : Shape W n U r tree
  pub once : (s : ℕ) → occ s tree ≤ 1
  pub room : Holds W n
  pub order : slots tree ≡ base
  pub partly : Partly W z tree
  pub red_black : RedBlack K tree
  pub top : root_red K tree ≡ false

pub settle : (n z : ℕ) (base W : List ℕ) (K : ℕ → Bool) (r ix p : ℕ) (c : List Frame) (t : Tree) (m : ℕ)
    → Placed W n z base r ix p c t → BlackHeight K m t → Fits K c m (root_red K t) → Settled n z base W K r
settle n z base W K r ix p c t m h e f =
    let g = h.stand in
    let o = fits_plug K c t (rw e.count f) e.red_black in
    record {
      tree = plug c t;
      shape = plug_shape W n r c p ix t g.way g.tree;
      once = λ s. rw occ_plug (g.once s);
      room = g.room;
      order = h.order;
      partly = plug_partly W z c t h.has h.partly h.hulls;
      red_black = o.0;
      top = o.1;
    }

-- one step up
pub placed_up : (W : List ℕ) (n z : ℕ) (base : List ℕ) (r ix p : ℕ) (b : Bool) (s : ℕ) (far : Tree) (c : List Frame) (t : Tree)
    → Placed W n z base r ix p (frame b s far ∷ c) t → Placed W n z base r s (par W s) c (bin b t s far)
placed_up W n z base r ix p b s far c t h =
    let i = occ_bin z b t s far in
    record {
      stand = stand_up W n r b s far c t p ix h.stand;
      order = h.order;
      hulls = h.hulls.1;
      partly = make_partly W z b t s far (λ e. absurd (omega (arith, h.has))) h.partly (hulls_partly W z far h.hulls.0);
      has = omega (arith, h.has);
    }

-- The child T of G, on the side b, comes up over G, and T becomes black and G red: X and Y are T's
-- subtrees, and u is G's other one.
pub crowned : (W : List ℕ) (n z : ℕ) (base : List ℕ) (K : ℕ → Bool) (r p : ℕ) (b : Bool) (T G : ℕ) (c : List Frame) (X Y u : Tree) (m : ℕ)
    → Placed W n z base r G p c (bin b (bin b X T Y) G u) → BlackHeight K m X → BlackRoot K m Y → BlackRoot K m u → Fits K c (1 + m) false
    → Settled n z base (rotated n W (not b) G T) (with_colour (with_colour K T false) G true) (root_after n W r G T)
crowned W n z base K r p b T G c X Y u m h ex dy du f =
    let L : ℕ → Bool = with_colour (with_colour K T false) G true in
    let one : (a : ℕ) → occs a c + (occ a X + hit a T + occ a Y + hit a G + occ a u) ≤ 1 =
    λ a. omega (arith, h.stand.once a, occ_bin a b (bin b X T Y) G u, occ_bin a b X T Y) in
    let t≢g : T ≢ G = hit_zero T G (omega (arith, one T, hit_same T)) in
    let h' : Placed W n z base r G p c (bin (not b) u G (bin (not b) Y T X)) = rw (bin_flip b (bin (not b) Y T X) G u, bin_flip b X T Y) h in
    let g = placed_rotated W n z base r p (not b) G T c u Y X h' in
    let kx = two_keeps K T G false true X (omega (arith, one T, hit_same T)) (omega (arith, one G, hit_same G)) in
    let ky = two_keeps K T G false true Y (omega (arith, one T, hit_same T)) (omega (arith, one G, hit_same G)) in
    let ku = two_keeps K T G false true u (omega (arith, one T, hit_same T)) (omega (arith, one G, hit_same G)) in
    let low : BlackHeight L m (bin (not b) u G Y) =
    reddened L m (not b) u G Y (with_colour_same _ G true) (keep_black_root K L m u ku du) (keep_black_root K L m Y ky dy) in
    let all : BlackRoot L (1 + m) (bin (not b) (bin (not b) u G Y) T X) =
    blackened L m (not b) (bin (not b) u G Y) T X (with_colour_other _ G true T t≢g ∙ with_colour_same K T false) low (keep_black_height K L m X kx ex) in
    settle n z base (rotated n W (not b) G T) L (root_after n W r G T) T _ c (bin (not b) (bin (not b) u G Y) T X) (1 + m) g all.equal_blacks
    (rw all.black (with_colour_fits _ G true c (1 + m) false (omega (arith, one G, hit_same G))
    (with_colour_fits K T false c (1 + m) false (omega (arith, one T, hit_same T)) f)))

-- a rotation below another slot leaves the root
root_stays : (W : List ℕ) (n r P S : ℕ) → par W P < n → root_after n W r P S ≡ r
unfolding root_after
root_stays W n r P S h = on_slot n (par W P) h (λ s. r) S

module _ (n z : ℕ) (base W : List ℕ) (K : ℕ → Bool) (r x p : ℕ) (t : Tree) (m : ℕ) where
  -- at the root: "root black last"
  pub at_root : LoopInvariant n z base W K r x p [] t m → Settled n z base W (with_colour K x false) r
  at_root h =
      let (A, B, e) = h.root true in
      let g : Placed W n z base r x p [] (bin true A x B) = rw e at h.placed in
      let (da, db) = opened K m true A x B h.red (rw e at h.equal_blacks) in
      let one : (a : ℕ) → occ a A + hit a x + occ a B ≤ 1 = λ a. omega (arith, g.stand.once a) in
      let L : ℕ → Bool = with_colour K x false in
      let d : BlackRoot L (1 + m) (bin true A x B) =
      blackened L m true A x B (with_colour_same K x false)
      (keep_black_height K L m A (with_colour_keeps K x false A (omega (arith, one x, hit_same x))) da.equal_blacks)
      (keep_black_height K L m B (with_colour_keeps K x false B (omega (arith, one x, hit_same x))) db.equal_blacks) in
      settle n z base W L r x p [] (bin true A x B) (1 + m) g d.equal_blacks d.black

  -- below a black parent a red root is taken
  pub below_black : (b : Bool) (P : ℕ) (Y : Tree) (c : List Frame) → LoopInvariant n z base W K r x p (frame b P Y ∷ c) t m → K P ≡ false
      → Settled n z base W K r
  below_black b P Y c h k =
      settle n z base W K r x p (frame b P Y ∷ c) t m h.placed h.equal_blacks
      (record { equal_blacks = h.fits.equal_blacks; red_black = h.fits.red_black; no_red_red = λ q. absurd (false≢true (sym k ∙ q)); rest = h.fits.rest })

  -- a red parent is not the root
  pub not_root : {A : Type 0} (b : Bool) (P : ℕ) (Y : Tree) → LoopInvariant n z base W K r x p (frame b P Y ∷ []) t m → K P ≡ true → A
  not_root b P Y h k = absurd (true≢false (sym k ∙ h.fits.rest))

  -- below the red P, on its side d, and P on the side b of G
  module _ (d : Bool) (P : ℕ) (Y : Tree) (b : Bool) (G : ℕ) (u : Tree) (c : List Frame)
      (h : LoopInvariant n z base W K r x p (frame d P Y ∷ frame b G u ∷ c) t m) (kp : K P ≡ true) where
    above : Fits K (frame b G u ∷ c) (0 + m) true
    above = rw kp at h.fits.rest

    pub black_G : K G ≡ false
    black_G = go (K G) refl
      where
        go : (v : Bool) → K G ≡ v → v ≡ false
        go true e = (above.no_red_red e).0
        go false e = refl

    brother : BlackRoot K m Y
    brother = record { equal_blacks = record { red_black = h.fits.red_black; count = sym h.fits.equal_blacks }; black = (h.fits.no_red_red kp).1 }

    uncle : BlackHeight K m u
    uncle = record { red_black = above.red_black; count = sym above.equal_blacks ∙ zero-add m }

    beyond : Fits K c (1 + m) false
    beyond = rw (black_G, zero-add m) at above.rest

    up : Placed W n z base r P (par W P) (frame b G u ∷ c) (bin d t P Y)
    up = placed_up W n z base r x p d P Y (frame b G u ∷ c) t h.placed

    upper : Placed W n z base r G (par W G) c (bin b (bin d t P Y) G u)
    upper = placed_up W n z base r P (par W P) b G u c (bin d t P Y) up

    once : (a : ℕ) → occs a c + (occ a t + hit a P + occ a Y + hit a G + occ a u) ≤ 1
    once a = omega (arith, upper.stand.once a, occ_bin a b (bin d t P Y) G u, occ_bin a d t P Y)

    -- the uncle Q is red: "recolour", and G is where the loop goes on
    module _ (v : Tree) (Q : ℕ) (w : Tree) (is : u ≡ node v Q w) (kq : K Q ≡ true) where
      abbrev L : ℕ → Bool
      L = with_colour (with_colour (with_colour K P false) Q false) G true

      one : (a : ℕ) → occs a c + (occ a t + hit a P + occ a Y + hit a G + (occ a v + hit a Q + occ a w)) ≤ 1
      one a = let o : occ a u ≡ occ a v + hit a Q + occ a w = rw is in omega (arith, once a)

      stays : (s : Tree) → occ P s ≡ 0 → occ Q s ≡ 0 → occ G s ≡ 0 → Keeps K L s
      stays s i j k =
          keeps K L s (λ a o. with_colour_other _ G true a (apart a G s k o) ∙ with_colour_other _ Q false a (apart a Q s j o)
          ∙ with_colour_other K P false a (apart a P s i o))

      at_P : (hit P Q ≡ 0) × (hit P G ≡ 0) × (occs P c ≡ 0) × (occ P t ≡ 0) × (occ P Y ≡ 0) × (occ P v ≡ 0) × (occ P w ≡ 0)
      at_P = omega (arith, one P, hit_same P)

      at_Q : (hit Q G ≡ 0) × (occs Q c ≡ 0) × (occ Q t ≡ 0) × (occ Q Y ≡ 0) × (occ Q v ≡ 0) × (occ Q w ≡ 0)
      at_Q = omega (arith, one Q, hit_same Q)

      at_G : (occs G c ≡ 0) × (occ G t ≡ 0) × (occ G Y ≡ 0) × (occ G v ≡ 0) × (occ G w ≡ 0)
      at_G = omega (arith, one G, hit_same G)

      black_P : BlackRoot L (1 + m) (bin d t P Y)
      black_P =
          blackened L m d t P Y
          (with_colour_other _ G true P (hit_zero P G at_P.1) ∙ with_colour_other _ Q false P (hit_zero P Q at_P.0) ∙ with_colour_same K P false)
          (keep_black_height K L m t (stays t at_P.3 at_Q.2 at_G.1) h.equal_blacks)
          (keep_black_height K L m Y (stays Y at_P.4 at_Q.3 at_G.2) brother.equal_blacks)

      black_Q : BlackRoot L (1 + m) u
      black_Q =
          let (dv, dw) = opened K m true v Q w kq (rw is at uncle) in
          rw is
          (blackened L m true v Q w (with_colour_other _ G true Q (hit_zero Q G at_Q.0) ∙ with_colour_same _ Q false)
          (keep_black_height K L m v (stays v at_P.5 at_Q.4 at_G.3) dv.equal_blacks)
          (keep_black_height K L m w (stays w at_P.6 at_Q.5 at_G.4) dw.equal_blacks))

      pub red_uncle : LoopInvariant n z base W L r G (par W G) c (bin b (bin d t P Y) G u) (1 + m)
      red_uncle =
          record {
            placed = upper;
            root = rooted b (bin d t P Y) G u;
            red = with_colour_same _ G true;
            equal_blacks = reddened L (1 + m) b (bin d t P Y) G u (with_colour_same _ G true) black_P black_Q;
            fits = with_colour_fits _ G true c (1 + m) false at_G.0
                (with_colour_fits _ Q false c (1 + m) false at_Q.1 (with_colour_fits K P false c (1 + m) false at_P.2 beyond));
          }

    -- the uncle is not red, and x an outer child of P: one rotation
    pub outer_child : d ≡ b → root_red K u ≡ false
        → Settled n z base (rotated n W (not b) G P) (with_colour (with_colour K P false) G true) (root_after n W r G P)
    outer_child e k =
        crowned W n z base K r (par W G) b P G c t Y u m (rw e at upper) h.equal_blacks brother (record { equal_blacks = uncle; black = k }) beyond

    -- and an inner child: two
    pub inner_child : d ≡ not b → root_red K u ≡ false
        → Settled n z base (rotated n (rotated n W b P x) (not b) G x) (with_colour (with_colour K x false) G true) (root_after n (rotated n W b P x) r G x)
    inner_child e k =
        let (A, B, i) = h.root b in
        let X : List ℕ = rotated n W b P x in
        let at = up.stand.way in
        let (da, db) = opened K m b A x B h.red (rw i at h.equal_blacks) in
        let g : Placed W n z base r P (par W P) (frame b G u ∷ c) (bin b Y P (bin b A x B)) = rw (e, bin_flip b Y P t, i) at up in
        let q = placed_rotated W n z base r (par W P) b P x (frame b G u ∷ c) Y A B g in
        let root : root_after n W r P x ≡ r = root_stays W n r P x (omega (arith, at.at, at.live)) in
        let o = placed_up X n z base r x _ b G u c (bin b (bin b Y P A) x B) (rw root at q) in
        crowned X n z base K r (par X G) b x G c (bin b Y P A) B u m o (reddened K m b Y P A kp brother da) db
        (record { equal_blacks = uncle; black = k }) beyond
