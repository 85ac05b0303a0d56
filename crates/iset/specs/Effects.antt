-- What a call answers and leaves, said once.
-- Letters: W words, C colours, a answer, A any type
use Rattle.std.specs.Prelude.{ℕ, List}

-- a call that writes the store: its answer, the words and the colours that it leaves
pub record Effect (A : Type 0) : Type 0 where
  pub answer : A
  pub words : List ℕ
  pub colours : List ℕ

abbrev pub effect : {A : Type 0} → (answer : A) (words colours : List ℕ) → Effect A
effect a W C = record { answer = a; words = W; colours = C }

-- a call that writes an output: its answer, and the output that it leaves
pub record Output (A : Type 0) : Type 0 where
  pub answer : A
  pub output : List ℕ

abbrev pub output : {A : Type 0} → (answer : A) (out : List ℕ) → Output A
output a out = record { answer = a; output = out }
