use mathlib.Core.Path.{◌≡◌}
use lib.Seq.{sets}
use Rattle.words.specs.Layouts.{as_eight}
use Rattle.image_rule.specs.Written.{entries}
use Rattle.image.proofs.write.put_entries.Given as goal

abbrev pub invariant-loop-s : goal.invariant-loop-s
invariant-loop-s l = l.out ≡ sets l.initial.out 44 (entries (as_eight l.narrow l.nodes) l.s)
