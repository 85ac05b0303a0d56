-- What a round's answer stands for. Together the definitions tell any two answers apart.
-- Letters: W words, C colours, d what the repair made, s where it goes on
use Rattle.std.specs.Prelude.{List, ℕ}
use Rattle.std.specs.declared.ops.ControlFlow.{ControlFlow}
use Rattle.std.specs.declared.ops.ControlFlow.TheVariants.{Continue, Break}
use Rattle.tree_edit.specs.Rounds as rule
use Rattle.tree_links.specs.declared.Onward.{Onward}
use Rattle.tree_links.specs.declared.Repaired.{Repaired}

-- a round's answer, with the words and the colours that it leaves
abbrev pub next : (next : ControlFlow Repaired Onward) (words colours : List ℕ) → rule.Next
next (Break d) W C = rule.done W C d.root
next (Continue s) W C = rule.again W C s.root s.at

-- how many hulls changed in it
abbrev pub reach : (next : ControlFlow Repaired Onward) → ℕ
reach (Break d) = d.reach
reach (Continue s) = s.reach
