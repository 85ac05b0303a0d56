use mathlib.Core.Path.{◌≡◌}
use lib.Seq.{sets}
use Rattle.words.specs.Layouts.{as_eight}
use Rattle.image_rule.specs.Layout.{links_at_lem}
use Rattle.image_rule.specs.Written.{links}
use Rattle.image.proofs.write.put_links.Given as goal

abbrev pub invariant-loop-s : goal.invariant-loop-s
invariant-loop-s l = l.out ≡ sets l.initial.out (links_at_lem l.count) (links (as_eight l.narrow l.nodes) l.s)
