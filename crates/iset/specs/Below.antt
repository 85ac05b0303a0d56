-- "Slots from count up are not read": two stores for one map, as long as one another, that agree in
-- each slot below the count and in its colour.
-- Letters: W words, C colours, n count, X other words, D other colours, x interval, y refusal
use Rattle.std.specs.Prelude.{◌≡◌, ℕ, List}
use Rattle.tree.specs.Below.{Agree, SameColours}
use Rattle.iset.specs.Effects.{Effect}

pub record SameBelow (n : ℕ) (W C X D : List ℕ) : Type 0 where
  pub words : Agree n W X
  pub colours : SameColours n C D

-- two calls that answer the same and leave two such stores
pub record SameEffect {A : Type 0} (n : ℕ) (x y : Effect A) : Type 0 where
  pub answers : x.answer ≡ y.answer
  pub leaves : SameBelow n x.words x.colours y.words y.colours
