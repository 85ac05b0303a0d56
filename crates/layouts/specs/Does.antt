-- An operation in a layout, and any list of them, each on the map and the memory that the one
-- before it answered and left.
-- Letters: m map, o operation, n map at the end, M memory, X memory afterwards, Z memory at the
--   end, a answer, l operations with their answers, x operation with its answer
use Rattle.std.specs.Prelude.{◌≡◌, Bool, List, [], ◌∷◌}
use Rattle.words.specs.Layouts.{as_eight}
use Rattle.iset.specs.declared.Map.{Map}
use Rattle.layouts.specs.Operations.{Operation, Answer, Memory, result, map_after}

-- the memory with the eight-word form of its words
abbrev pub seen : (narrow : Bool) (memory : Memory) → Memory
seen narrow M = record { words = as_eight narrow M.words; colours = M.colours; out = M.out }

-- the operation o answers a and leaves X, on the map m and the memory M
pub record Does (narrow : Bool) (o : Operation) (m : Map) (M : Memory) (a : Answer o) (X : Memory) : Type 0 where
  pub answers : a ≡ (result o m (seen narrow M)).answer
  pub leaves : seen narrow X ≡ (result o m (seen narrow M)).memory

-- an operation with what it answered
pub record Told : Type 0 where
  pub operation : Operation
  pub answer : Answer operation

-- one after the other, from the map m and the memory M to those at the end
pub data Runs (narrow : Bool) : Map → Memory → List Told → Map → Memory → Type 0 where
  end : (m : Map) (M : Memory) → Runs narrow m M [] m M
  next : (m n : Map) (M X Z : Memory) (l : List Told) (o : Operation) (a : Answer o) → Does narrow o m M a X
      → Runs narrow (map_after o m a) X l n Z → Runs narrow m M (record { operation = o; answer = a } ∷ l) n Z

-- the operations of such a list
abbrev pub operations : (told : List Told) → List Operation
operations [] = []
operations (x ∷ l) = x.operation ∷ operations l
