-- What a caller in another language reads of an export: the number that it returns, and after 0 the
-- places of its answer.
-- Letters: l numbers, A answer before, X answer afterwards, r returned number, b answer of the call
use Rattle.std.specs.Prelude.{◌≡◌, ◌⊎◌, List, [], ◌∷◌, ℕ, ◌<◌, length, take, drop}
use Rattle.iset.specs.Lookup.{StepAnswer, DrainAnswer}
use Rattle.iset.specs.Tallies.{TallyAnswer}
use Rattle.iset.specs.Refusals.{Rows, refuse, Exactly}

-- The number r is given exactly as the rows say, after 101, ShortAnswer: the answer has fewer
-- places than there are numbers. After 0 the first places of the answer, which was A and is X, hold
-- the numbers l in this order, and the others are as they were.
pub record Told (rows : Rows) (l A X : List ℕ) (r : ℕ) : Type 0 where
  pub number : Exactly (refuse 101 (length A < length l) rows) r
  pub places : r ≡ 0 → (take (length l) X ≡ l) × (drop (length l) X ≡ drop (length l) A)

-- 102, BadBound: one of the two is no kind of a bound
abbrev pub BadBound : (lo-kind hi-kind : ℕ) → Type 0
BadBound lo-kind hi-kind = (2 < lo-kind) ⊎ (2 < hi-kind)

-- the places of a step: its slot, the next cursor's slot, levels, bits, the nodes entered; of a
-- drain: the hits, the nodes entered, the next cursor; of a lookup that finds all hits at once: the
-- hits, the nodes entered
abbrev pub step_places : (answer : StepAnswer) → List ℕ
step_places b = b.slot ∷ b.next.slot ∷ b.next.levels ∷ b.next.bits ∷ b.entered ∷ []

abbrev pub drain_places : (answer : DrainAnswer) → List ℕ
drain_places b = b.hits ∷ b.entered ∷ b.next.slot ∷ b.next.levels ∷ b.next.bits ∷ []

abbrev pub tally_places : (answer : TallyAnswer) → List ℕ
tally_places b = b.hits ∷ b.entered ∷ []
