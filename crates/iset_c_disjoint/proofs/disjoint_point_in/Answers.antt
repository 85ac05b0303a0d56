use mathlib.Core.Path.{refl}
use Prim.Native.Nat.{ℕ}
use Rattle.disjoint.specs.Point.{point_answer}
use Rattle.disjoint_core.specs.declared.point.Spot.{Spot}
use Rattle.iset_c_disjoint.specs.Replies.{point_reply, spot_numbers}
use Rattle.iset_c.proofs.Laws.{told_answer}
use Rattle.iset_c_disjoint.proofs.disjoint_point_in.Goals as goal

pub returns : goal.returns
returns c = search (told_answer (λ (g : ℕ). point_answer) point_reply (λ (a : Spot). spot_numbers a.slot a.entered) (λ g x. refl) (λ g y. refl) 0)
