-- Tags against their rule, in the form that `search` takes.
use mathlib.Core.Path.{◌≡◌, refl, ap, ◌∙◌}
use mathlib.Core.Bool.{Bool, true, false}
use mathlib.Core.List.{List}
use Prim.Native.Nat.{ℕ, ◌+◌, ◌*◌, ◌/◌, ◌%◌, ◌<◌, ◌≤◌}
use native.Mathlib.Omega.{arith}
use native.Mathlib.Numerals.{add-one}
use lib.ListN.{length, get_or}
use borrow.Author.Tests.{le-ltb}
use Rattle.words.specs.Ix.{link_of}
use Rattle.words.specs.Layouts.{narrowed, widened, kid_fits, up_fits_lem}
use Rattle.words.specs.Nodes.{kid, par, put_kid, put_par}
use Rattle.std.specs.declared.option.Option.{Option}
use Rattle.std.specs.declared.option.Option.TheVariants.{Some}
use Rattle.words.proofs.Laws.{slot_live}
use Rattle.words.proofs.Layouts.{slot_fits, none_fits, narrow_kid}
use Rattle.tidy_rule.specs.Plan.{fits, renamed}
use Rattle.tidy_rule.specs.Tidy.{with_tag, rename_kid, tag_node_lem, tagged, tag, untag_node_lem, untagged}
use Rattle.tidy_rule.proofs.Plans.{fits_is, plan_low, renamed_cases}

-- between the slots and U there is no word of a link
pub narrow_between : (v : ℕ) → 65535 ≤ v → v < 4294901760 → 0 ≡ narrowed v
unfolding narrowed
narrow_between v h i = rw (le-ltb v 65535 h) (omega arith)

-- what fits six-word nodes fits both
pub up_any : (narrow : Bool) (v : ℕ) → up_fits_lem true v ≡ true → up_fits_lem narrow v ≡ true
unfolding up_fits_lem
up_any true v h = h
up_any false v h = refl

-- an accepted plan
module _ (n : ℕ) (P : List ℕ) (w : fits n P ≡ true) where
  pub plan_has : (s : ℕ) → s < n → s < length P
  plan_has s h = rw (fits_is n P w).long h

  pub plan_has_link : (k s : ℕ) (l : Option ℕ) → l ≡ link_of n k → l ≡ Some s → s < length P
  plan_has_link k s l e q = plan_has s (slot_live n k s l e q)

  module _ (small : n ≤ 65535) where
    pub plan_small : (s : ℕ) → s < n → get_or P s 0 < 65535
    plan_small s h = omega (arith, plan_low n P (fits_is n P w) s h)

    pub link_fits : (narrow : Bool) (k v : ℕ) → v ≡ renamed n P k → kid_fits narrow v ≡ true
    link_fits narrow k v e =
        rw e (renamed_cases n P (fits_is n P w) k (λ q. slot_fits narrow (renamed n P k) (omega arith)) (λ q. rw q (none_fits narrow)))

    pub link_short : (k v : ℕ) → v ≡ renamed n P k → narrowed v < 65536
    link_short k v e = narrow_kid v (link_fits true k v e)

-- one node
module _ (n : ℕ) (P W : List ℕ) (s : ℕ) where
  pub kid_is : (b : Bool) (X : List ℕ) (a v : ℕ) → a ≡ kid W b s → v ≡ renamed n P a → X ≡ put_kid W b s v → X ≡ rename_kid n P W b s
  unfolding rename_kid
  kid_is b X a v e f q = rw (← e, ← f) q

  pub tag_node_is : (X Y Z : List ℕ) (c up v : ℕ) → X ≡ rename_kid n P W true s → Y ≡ rename_kid n P X false s → c ≡ par Y s → up ≡ renamed n P c
      → v ≡ with_tag up (get_or P s 0) → Z ≡ put_par Y s v → Z ≡ tag_node_lem n P W s
  unfolding tag_node_lem
  tag_node_is X Y Z c up v ex ey ec eu ev ez = rw (← ex, ← ey, ← ec, ← eu, ← ev) ez

pub with_tag_is : (k v x r : ℕ) → x ≡ narrowed k → r ≡ widened (x + v * 65536) → r ≡ with_tag k v
with_tag_is k v x r e q = rw (← e) q

pub tag_is : (W : List ℕ) (s p r : ℕ) → p ≡ par W s → r ≡ narrowed p → r / 65536 ≡ tag W s
unfolding tag
tag_is W s p r e f = rw (f, e)

pub untag_node_is : (W X : List ℕ) (s p r v : ℕ) → p ≡ par W s → r ≡ narrowed p → v ≡ widened (r % 65536) → X ≡ put_par W s v → X ≡ untag_node_lem W s
unfolding untag_node_lem
untag_node_is W X s p r v e f g q = rw (← e, ← f, ← g) q

-- all of them
pub tagged_none : (n : ℕ) (P W : List ℕ) → W ≡ tagged n P 0 W
unfolding tagged
tagged_none n P W = refl

pub tagged_on : (n : ℕ) (P W X Y : List ℕ) (m : ℕ) → X ≡ tagged n P m W → Y ≡ tag_node_lem n P X m → Y ≡ tagged n P (m + 1) W
unfolding tagged
tagged_on n P W X Y m e q = rw (add-one m, ← e) q

pub tagged_done : (n : ℕ) (P W X : List ℕ) (m : ℕ) → X ≡ tagged n P m W → m ≤ n → n ≤ m → X ≡ tagged n P n W
tagged_done n P W X m e h i = let q : m ≡ n = omega arith in e ∙ ap (λ (k : ℕ). tagged n P k W) q

pub untagged_none : (W : List ℕ) → W ≡ untagged 0 W
unfolding untagged
untagged_none W = refl

pub untagged_on : (W X Y : List ℕ) (m : ℕ) → X ≡ untagged m W → Y ≡ untag_node_lem X m → Y ≡ untagged (m + 1) W
unfolding untagged
untagged_on W X Y m e q = rw (add-one m, ← e) q

pub untagged_done : (n : ℕ) (W X : List ℕ) (m : ℕ) → X ≡ untagged m W → m ≤ n → n ≤ m → X ≡ untagged n W
untagged_done n W X m e h i = let q : m ≡ n = omega arith in e ∙ ap (λ (k : ℕ). untagged k W) q
