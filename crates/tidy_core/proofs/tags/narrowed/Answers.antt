use Rattle.tidy_core.proofs.Tagging.{narrow_between}
use Rattle.words.proofs.Layouts.{low_narrowed, high_narrowed}
use Rattle.tidy_core.proofs.tags.narrowed.Goals as goal

pub returns-then-v-lt65535 : goal.returns-then-v-lt65535
returns-then-v-lt65535 c = search low_narrowed

pub returns-then-v-lt4294901760 : goal.returns-then-v-lt4294901760
returns-then-v-lt4294901760 c = search narrow_between

pub returns-else-v-lt4294901760 : goal.returns-else-v-lt4294901760
returns-else-v-lt4294901760 c = search high_narrowed
