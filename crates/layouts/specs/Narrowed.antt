-- Document 02, item 12, as one record.
-- Letters: m map, C colours, N memory or words of six-word nodes, X memory or words afterwards,
--   Y other memory afterwards, Z memory at the end, M memory, a answer, b other answer, n map at
--   the end, p other map at the end, l operations with their answers, k others, f field, s slot,
--   o operation
use Rattle.std.specs.Prelude.{◌≡◌, Bool, true, false, List, ℕ, ◌+◌, ◌-◌, ◌*◌, ◌/◌, ◌<◌, ◌≤◌, min, length, get_or}
use Rattle.words.specs.Nodes.{bits_of, word, capacity}
use Rattle.words.specs.Layouts.{unpack}
use Rattle.words.specs.declared.node.Field.{Field}
use Rattle.iset.specs.Check.{check_rule}
use Rattle.iset.specs.Remove.{remove_number, remove_call}
use Rattle.iset.specs.declared.Map.{Map}
use Rattle.layouts.specs.Operations.{Operation, Answer, Memory}
use Rattle.layouts.specs.Does.{seen, Does, Told, Runs, operations}

pub record Request12 : Type 0 where
  -- "unpacking after an operation gives the map .. that the old operation gives on the unpacked
  -- store, and .. the call's other answers and outputs are the same"; of the memory all is the same
  pub agrees : (o : Operation) (m : Map) (N X Y : Memory) (a b : Answer o) → Does true o m N a X → Does false o m (seen true N) b Y
      → (a ≡ b) × (seen true X ≡ Y)
  -- "and the slots below its count": each word of each slot
  pub slots_agree : (o : Operation) (m : Map) (N X Y : Memory) (a b : Answer o) → Does true o m N a X → Does false o m (seen true N) b Y
      → (f : Field) (s : ℕ) → word (unpack X.words) f s ≡ word Y.words f s
  -- the same of any list of operations, each on the map and the memory that the one before it
  -- answered and left
  pub runs_agree : (m n p : Map) (N Z Y : Memory) (l k : List Told) → Runs true m N l n Z → Runs false m (seen true N) k p Y → operations l ≡ operations k
      → (l ≡ k) × (n ≡ p) × (seen true Z ≡ Y)
  -- `Does` leaves no choice
  pub determined : (narrow : Bool) (o : Operation) (m : Map) (M X Y : Memory) (a b : Answer o) → Does narrow o m M a X → Does narrow o m M b Y
      → (a ≡ b) × (X ≡ Y)
  -- "Capacity there counts words div 6."
  pub room : (N : List ℕ) (bytes : ℕ) → capacity (length (unpack N)) bytes ≡ min (length N / 6) (min (bits_of bytes) 65535)
  -- "2 where top bits are set", of a slot below the count
  pub tops : (m : Map) (N C : List ℕ) (s : ℕ) → m.count ≤ capacity (length (unpack N)) (length C) → s < m.count
      → 281474976710656 ≤ get_or N (s * 6 + 5) 0 → check_rule m (unpack N) C ≡ 2
  -- "the old last slot gets three undefined links": X is what a removal that is not refused leaves
  pub emptied : (m : Map) (N C X : List ℕ) (s : ℕ) → remove_number m (unpack N) C s ≡ 0 → unpack X ≡ (remove_call m (unpack N) C s).words
      → get_or X ((m.count - 1) * 6 + 5) 0 ≡ 281474976710655
