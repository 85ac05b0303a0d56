-- Document 02, item 9: the hulls that a change works out, one after the other, and how many of them
-- change.
-- Letters: W words, C colours, n count, r root, s slot, w work, l hulls, a first slot, b second
--   slot, ix slot, f continue, Z final words, k link, X later words, D later colours, q later root,
--   i later slot, h height
use Rattle.std.specs.Prelude.{◌≡◌, cond, List, [], ◌∷◌, ◌++◌, ℕ, zero, suc, ◌+◌}
use Rattle.words.specs.Ix.{on_link}
use Rattle.words.specs.Nodes.{par, hull, altered, fix}
use Rattle.tree_edit.specs.Rounds.{Next, done, again}

-- a hull that is worked out: in which words, and of which slot
pub record Work : Type 0 where
  pub words : List ℕ
  pub slot : ℕ

abbrev pub work : (words : List ℕ) (slot : ℕ) → Work
work W s = record { words = W; slot = s }

-- "whether either end changed": 1 where one did, else 0
unfoldable pub differs : (count : ℕ) (words : List ℕ) (slot : ℕ) → ℕ
differs n W s = cond (altered n W s) 1 0

-- how many of them changed: "A hull worked out twice counts each time it changes."
abbrev pub changes : (count : ℕ) (hulls : List Work) → ℕ
changes n [] = 0
changes n (w ∷ l) = differs n w.words w.slot + changes n l

-- two hulls, one after the other
abbrev pub both_hulls : (count : ℕ) (words : List ℕ) (first second : ℕ) → List Work
both_hulls n W a b = work W a ∷ work (fix n W a) b ∷ []

-- those of the walk upward, at most `height` of them
unfoldable pub up_hulls : (count height : ℕ) (words : List ℕ) (link : ℕ) → List Work
up_hulls n zero W k = []
up_hulls n (suc height) W k =
    let up : List Work = up_hulls n height (fix n W k) (par W k) in
    on_link n k (λ s. work W k ∷ up) []

-- where the loop goes on
abbrev pub onward : (next : Next) (continue : (words colours : List ℕ) (root slot : ℕ) → List Work)
    → List Work
onward (done W C r) f = []
onward (again W C r ix) f = f W C r ix

-- those of the loop over the round f, where h gives those of a round
unfoldable pub loop_hulls : (continue : (words colours : List ℕ) (root slot : ℕ) → Next)
    (height : List ℕ → List ℕ → ℕ → List Work) (rounds : ℕ) (words colours : List ℕ) (root slot : ℕ)
    → List Work
loop_hulls f h zero W C r ix = []
loop_hulls f h (suc rounds) W C r ix = h W C ix ++ onward (f W C r ix) (λ X D q i. loop_hulls f h rounds X D q i)

-- no hull is other than it was
abbrev pub Stays : (words later : List ℕ) → Type 0
Stays W X = (a : ℕ) → hull X a ≡ hull W a

-- From W to Z these hulls are worked out, in this order, and no hull changes in between.
abbrev pub Follows : (count : ℕ) (words : List ℕ) (hulls : List Work) (final : List ℕ) → Type 0
Follows n W [] Z = Stays W Z
Follows n W (w ∷ l) Z = Stays W w.words × Follows n (fix n w.words w.slot) l Z
