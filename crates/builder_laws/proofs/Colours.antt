-- The colours of a span: every level but the last is full and black.
use mathlib.Core.Path.{◌≡◌, refl, sym, ap, ◌∙◌}
use mathlib.Core.Bool.{Bool, true, false, true≢false}
use mathlib.Core.List.{List}
use Prim.Native.Nat.{ℕ, zero, suc, ◌+◌, ◌-◌, ◌*◌, ◌^◌, ◌<◌, ◌≤◌}
use native.Mathlib.Omega.{arith}
use native.Mathlib.Nat.{pow-suc}
use lib.Pow.{pow_pos}
use lib.ListN.{length}
use lib.Dec.{eqb, ltb}
use borrow.Author.Tests.{lt-ltb, le-ltb, ne_eqb}
use Rattle.bitvec.specs.Colours.{red, paint}
use Rattle.bitvec.proofs.Bytes.{length_set_bit, bit_at_same, bit_at_other}
use Rattle.tree.specs.Tree.{Tree, leaf, node}
use Rattle.tree.specs.RedBlack.{root_red, blacks, RedBlack}
use Rattle.tree.proofs.Cases.{compare}
use Rattle.builder.specs.Build.{center, painted}
use Rattle.builder.proofs.Spans.{painted_none, painted_some}
use Rattle.builder_laws.specs.Built.{Depths}
use Rattle.builder_laws.proofs.Trees.{tree_of, spans}
use Rattle.words.specs.Nodes.{HoldsBits}

pub length_painted : (f : ℕ) (C : List ℕ) (a b : ℕ) → length (painted f C a b) ≡ length C
unfolding painted
length_painted zero C a b = refl
length_painted (suc f) C a b =
    compare b a
    (λ h. ap length (painted_none (suc f) C a b h))
    (λ h. ap length (painted_some f C a b h)
    ∙ length_painted f (painted f (paint C (center a b) (eqb f 0)) a (center a b)) (center a b + 1) b
    ∙ length_painted f (paint C (center a b) (eqb f 0)) a (center a b)
    ∙ length_set_bit C (center a b) (eqb f 0))

-- a slot outside of the span keeps its colour
pub painted_out : (f : ℕ) (C : List ℕ) (a b s : ℕ) → (a ≤ s → s < b → ⊥) → red (painted f C a b) s ≡ red C s
unfolding painted
painted_out zero C a b s h = refl
painted_out (suc f) C a b s h =
    compare b a
    (λ e. ap (λ (c : List ℕ). red c s) (painted_none (suc f) C a b e))
    (λ e. ap (λ (c : List ℕ). red c s) (painted_some f C a b e)
    ∙ painted_out f (painted f (paint C (center a b) (eqb f 0)) a (center a b)) (center a b + 1) b s (λ x y. h (omega arith) y)
    ∙ painted_out f (paint C (center a b) (eqb f 0)) a (center a b) s (λ x y. h x (omega arith))
    ∙ bit_at_other C (center a b) (eqb f 0) s (λ q. h (omega arith) (omega arith)))

-- K has the colours of a span
abbrev Agree : (ℕ → Bool) → List ℕ → ℕ → ℕ → Type 0
Agree K C a b = (s : ℕ) → a ≤ s → s < b → K s ≡ red C s

module _ (K : ℕ → Bool) (f : ℕ) (C : List ℕ) (a b : ℕ) (e : a < b) (room : HoldsBits C b)
    (h : Agree K (painted (suc f) C a b) a b) where
  -- the colours with the root's written, and then those of the left half
  C₁ : List ℕ
  C₁ = paint C (center a b) (eqb f 0)

  C₂ : List ℕ
  C₂ = painted f C₁ a (center a b)

  length_C₁ : length C₁ ≡ length C
  unfolding C₁
  length_C₁ = length_set_bit C (center a b) (eqb f 0)

  length_C₂ : length C₂ ≡ length C
  unfolding C₂
  length_C₂ = length_painted f C₁ a (center a b) ∙ length_C₁

  agree : (s : ℕ) → a ≤ s → s < b → K s ≡ red (painted f C₂ (center a b + 1) b) s
  unfolding C₁ C₂
  agree s x y = h s x y ∙ ap (λ (c : List ℕ). red c s) (painted_some f C a b e)

  agree_left : (s : ℕ) → a ≤ s → s < center a b + 1 → K s ≡ red C₂ s
  agree_left s x y = agree s x (omega arith) ∙ painted_out f C₂ (center a b + 1) b s (λ u v. omega arith)

  root_colour : K (center a b) ≡ eqb f 0
  unfolding C₁ C₂
  root_colour =
      agree_left (center a b) (omega arith) (omega arith) ∙ painted_out f C₁ a (center a b) (center a b) (λ x y. omega arith)
      ∙ bit_at_same C (center a b) (eqb f 0) (omega arith)

-- the halves of a span of which every level but the last is full
full_left : (f a b : ℕ) → a < b → 2 ^ suc f ≤ 2 * (b - a + 1) → 2 ^ f ≤ 2 * (center a b - a + 1)
full_left f a b e h = let p : 2 ^ suc f ≡ 2 ^ f * 2 = pow-suc 2 f in omega arith

half_le : (q k : ℕ) → q * 2 ≤ k * 2 + 1 → q ≤ k
half_le q k h = omega arith

full_right : (f a b : ℕ) → a < b → 2 ^ suc f ≤ 2 * (b - a + 1) → 2 ^ f ≤ 2 * (b - (center a b + 1) + 1)
full_right zero a b e h = omega arith
full_right (suc f) a b e h =
    let p : 2 ^ suc (suc f) ≡ 2 ^ suc f * 2 = pow-suc 2 (suc f) in
    let q : 2 ^ suc f ≡ 2 ^ f * 2 = pow-suc 2 f in
    let k : 2 ^ f ≤ b - (center a b + 1) + 1 = half_le (2 ^ f) (b - (center a b + 1) + 1) (omega arith) in
    omega arith

-- what the colours of a span of f levels are
pub record SpanColours (K : ℕ → Bool) (f : ℕ) (t : Tree) : Type 0 where
  pub red_black : RedBlack K t
  pub deep : blacks K t ≡ f - 1
  pub top : (f ≡ 1 → ⊥) → root_red K t ≡ false
  pub depths : (D d : ℕ) → f + d ≡ D + 2 → Depths K D d t

-- the last level is the one whose depth is above D
last_level : (f D d : ℕ) → suc f + d ≡ D + 2 → eqb f 0 ≡ ltb D d
last_level zero D d h = sym (lt-ltb D d (omega arith))
last_level (suc f) D d h = ne_eqb (suc f) 0 (omega arith) ∙ sym (le-ltb D d (omega arith))

colours_none : (K : ℕ → Bool) (f : ℕ) → 2 ^ f ≤ 2 → SpanColours K f leaf
colours_none K f full = record { red_black = tt; deep = small f full; top = λ q. refl; depths = λ D d q. tt }
  where
    small : (f : ℕ) → 2 ^ f ≤ 2 → 0 ≡ f - 1
    small zero h = refl
    small (suc zero) h = refl
    small (suc (suc f)) h =
        let p : 2 ^ suc (suc f) ≡ 2 ^ suc f * 2 = pow-suc 2 (suc f) in
        let q : 2 ^ suc f ≡ 2 ^ f * 2 = pow-suc 2 f in
        absurd (omega (arith, pow_pos f))

colours_some : (K : ℕ → Bool) (f s : ℕ) (l r : Tree) → K s ≡ eqb f 0 → SpanColours K f l → SpanColours K f r → SpanColours K (suc f) (node l s r)
colours_some K f s l r k x y =
    record {
      red_black = record { no_red_red = no_red_red f k x y; equal_blacks = x.deep ∙ sym y.deep; left = x.red_black; right = y.red_black };
      deep = deep f k x.deep;
      top = top f k;
      depths = λ D d q. (k ∙ last_level f D d q, x.depths D (suc d) (omega arith), y.depths D (suc d) (omega arith));
    }
  where
    no_red_red : (f : ℕ) → K s ≡ eqb f 0 → SpanColours K f l → SpanColours K f r → K s ≡ true
        → (root_red K l ≡ false) × (root_red K r ≡ false)
    no_red_red zero k x y q = (x.top (omega arith), y.top (omega arith))
    no_red_red (suc f) k x y q = absurd (true≢false (sym q ∙ k ∙ ne_eqb (suc f) 0 (omega arith)))

    deep : (f : ℕ) → K s ≡ eqb f 0 → blacks K l ≡ f - 1 → blacks K (node l s r) ≡ suc f - 1
    deep zero k z = rw k (omega arith)
    deep (suc f) k z = rw (k ∙ ne_eqb (suc f) 0 (omega arith)) (omega arith)

    top : (f : ℕ) → K s ≡ eqb f 0 → (suc f ≡ 1 → ⊥) → K s ≡ false
    top zero k q = absurd (q refl)
    top (suc f) k q = k ∙ ne_eqb (suc f) 0 (omega arith)

pub colours_span : (K : ℕ → Bool) (f a b : ℕ) (C : List ℕ) → b - a < 2 ^ f → 2 ^ f ≤ 2 * (b - a + 1) → HoldsBits C b
    → Agree K (painted f C a b) a b → SpanColours K f (tree_of f a b)
unfolding C₂
colours_span K f a b C few full room h =
    spans (λ f a b t. (C : List ℕ) → 2 ^ f ≤ 2 * (b - a + 1) → HoldsBits C b → Agree K (painted f C a b) a b → SpanColours K f t)
    (λ f a b h C full room k. colours_none K f (omega arith)) some f a b few C full room h
  where
    some : (f a b : ℕ) (l r : Tree) → b - a < 2 ^ suc f → a < b
        → ((C : List ℕ) → 2 ^ f ≤ 2 * (center a b - a + 1) → center a b ≤ length C * 8
        → Agree K (painted f C a (center a b)) a (center a b) → SpanColours K f l)
        → ((C : List ℕ) → 2 ^ f ≤ 2 * (b - (center a b + 1) + 1) → HoldsBits C b
        → Agree K (painted f C (center a b + 1) b) (center a b + 1) b → SpanColours K f r)
        → (C : List ℕ) → 2 ^ suc f ≤ 2 * (b - a + 1) → HoldsBits C b → Agree K (painted (suc f) C a b) a b
        → SpanColours K (suc f) (node l (center a b) r)
    some f a b l r h e x y C full room k =
        colours_some K f (center a b) l r (root_colour K f C a b e room k)
        (x (C₁ K f C a b e room k) (full_left f a b e full) (omega (arith, length_C₁ K f C a b e room k))
        (λ s u v. agree_left K f C a b e room k s u (omega arith)))
        (y (C₂ K f C a b e room k) (full_right f a b e full) (omega (arith, length_C₂ K f C a b e room k))
        (λ s u v. agree K f C a b e room k s (omega arith) v))
