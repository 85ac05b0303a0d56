-- A node without children, judged; and the whole store.
use mathlib.Core.Path.{◌≡◌, ap, ap₂, ◌∙◌}
use mathlib.Core.Bool.{Bool, true}
use mathlib.Core.List.{List}
use Prim.Native.Nat.{ℕ}
use Rattle.words.specs.declared.interval.Interval.{Interval}
use Rattle.audit.specs.declared.Node.{Node}
use Rattle.audit.specs.declared.Found.{Found}
use Rattle.audit.specs.Survey.{no_nodes_lem, combined}
use Rattle.image_rule.specs.Judge.{shaped, whole_at}
use Rattle.image_rule.specs.Layout.{count_in_lem, root_in_lem}
use Rattle.image_rule.specs.Stored.{node_in_lem, is_good}

pub lone_is : (d : Interval) (a : Found) (x : Node) (r : Found) → a ≡ no_nodes_lem true d → r ≡ combined (shaped x a a) a a
    → r ≡ combined (shaped x (no_nodes_lem true d) (no_nodes_lem true d)) (no_nodes_lem true d) (no_nodes_lem true d)
lone_is d a x r e f = f ∙ ap (λ (b : Found). combined (shaped x b b) b b) e

pub good_is : (I : List ℕ) (n r : ℕ) (b : Bool) → n ≡ count_in_lem I → r ≡ root_in_lem I → b ≡ whole_at (node_in_lem I n) n r → b ≡ is_good I
good_is I n r b e f g = g ∙ ap₂ (λ (m s : ℕ). whole_at (node_in_lem I m) m s) e f
