use mathlib.Core.Path.{◌≡◌}
use Rattle.words.specs.Layouts.{as_eight}
use Rattle.image_rule.specs.Stored.{unpacked}
use Rattle.image.proofs.load.unpack.Given as goal

abbrev pub invariant-loop-s : goal.invariant-loop-s
invariant-loop-s l = as_eight l.narrow l.nodes ≡ unpacked l.image l.count l.s (as_eight l.narrow l.initial.nodes)
