use Rattle.words.proofs.Layouts.{high_enough, low_narrowed, high_narrowed, high_narrow}
use native.Mathlib.Omega.{arith}
use Rattle.words.proofs.links.narrowed.Goals as goal

pub overflow_sub-result : goal.overflow_sub-result
overflow_sub-result c = search high_enough

pub returns-then-v-lt65535 : goal.returns-then-v-lt65535
returns-then-v-lt65535 c = (search low_narrowed, omega arith)

pub returns-else-v-lt65535 : goal.returns-else-v-lt65535
returns-else-v-lt65535 c = (search high_narrowed, search high_narrow)
