-- The refusals by their numbers in document 01's table, and in document 02.
use Rattle.std.specs.Prelude.{ℕ}
use Rattle.words.specs.declared.refusal.Refusal.{Refusal}
use Rattle.words.specs.declared.refusal.Refusal.TheVariants.{NoRoom, Broken, NoSuch, BadRange, BadInterval, NotSorted, BadCursor, BadList, ShortOutput, BadBit, Stale, BadImage, Overlap, NotDisjoint, BadPlan}

abbrev pub refusal_number : (refusal : Refusal) → ℕ
refusal_number NoRoom = 1
refusal_number Broken = 2
refusal_number NoSuch = 3
refusal_number BadRange = 4
refusal_number BadInterval = 5
refusal_number NotSorted = 6
refusal_number BadCursor = 7
refusal_number BadList = 8
refusal_number ShortOutput = 9
refusal_number BadBit = 10
refusal_number Stale = 11
refusal_number BadImage = 12
refusal_number Overlap = 13
refusal_number NotDisjoint = 14
refusal_number BadPlan = 15
