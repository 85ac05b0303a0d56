-- An opened call, which does not run the check, on a store that passes it: it answers and leaves
-- exactly what the public call does.
use mathlib.Core.Path.{◌≡◌, refl}
use mathlib.Core.List.{List}
use Prim.Native.Nat.{ℕ}
use Rattle.words.specs.declared.node.Entry.{Entry}
use Rattle.iset.specs.Remove.{open_remove_call}
use Rattle.iset.specs.declared.Map.{Map}
use Rattle.disjoint.specs.Check.{disjoint_rule_lem}
use Rattle.disjoint.specs.Point.{open_point_call, point_call}
use Rattle.disjoint.specs.Place.{place_number, open_place_call, place_call}
use Rattle.disjoint.specs.Take.{take_number, take_call}
use Rattle.disjoint.proofs.Checks.{counted}

-- the store passes
module _ (m : Map) (W C : List ℕ) (h : disjoint_rule_lem m W C ≡ 0) where
  pub point_is : (x : ℕ) → open_point_call m W C x ≡ point_call m W C x
  unfolding open_point_call point_call
  point_is x = rw (h, counted m W C h) refl

  pub place_is : (e : Entry) → open_place_call m W C e ≡ place_call m W C e
  unfolding open_place_call place_call place_number
  place_is e = rw h refl

  pub take_is : (s : ℕ) → open_remove_call m W C s ≡ take_call m W C s
  unfolding open_remove_call take_call take_number
  take_is s = rw h refl
