-- On a store that passes the check of a disjoint map an export of an opened call returns and leaves
-- what the export that runs the check does.
use mathlib.Core.Path.{◌≡◌, ap}
use mathlib.Core.Bool.{true}
use mathlib.Core.List.{List}
use Prim.Native.Nat.{ℕ}
use Rattle.words.specs.declared.node.Entry.{Entry}
use Rattle.iset.specs.Effects.{Effect}
use Rattle.iset.specs.Insert.{InsertAnswer}
use Rattle.iset.specs.Remove.{RemoveAnswer}
use Rattle.iset.specs.declared.Map.{Map}
use Rattle.disjoint.specs.Check.{disjoint_rule_lem}
use Rattle.disjoint.specs.Point.{PointAnswer}
use Rattle.disjoint.proofs.Opened.{point_is, place_is, take_is}
use Rattle.iset_c.specs.Replies.{answer_exit, effect_exit, remove_reply}
use Rattle.iset_c_disjoint.specs.Replies.{point_reply, placed_exit, point_exit, open_point_exit, place_exit, open_place_exit, take_exit, open_take_exit}

module _ (A : List ℕ) (m : Map) (W C : List ℕ) (h : disjoint_rule_lem m W C ≡ 0) where
  pub point_exit_is : (x : ℕ) → open_point_exit A m W C x ≡ point_exit A m W C x
  point_exit_is x = ap (λ (k : PointAnswer). answer_exit true A (point_reply k)) (point_is m W C h x)

  pub place_exit_is : (e : Entry) → open_place_exit A m W C e ≡ place_exit A m W C e
  place_exit_is e = ap (λ (k : Effect InsertAnswer). placed_exit A W C k) (place_is m W C h e)

  pub take_exit_is : (s : ℕ) → open_take_exit A m W C s ≡ take_exit A m W C s
  take_exit_is s = ap (λ (k : Effect RemoveAnswer). effect_exit remove_reply A W C k) (take_is m W C h s)
