-- "Refusals: 12 BadImage for any other layout or length, then 1 .., then 2 for the store in the
-- image": whether an image is accepted, or its refusal; and the number of that refusal, 0 where the
-- image is accepted. The room is that of the greatest map.
-- Letters: I image (its bytes)
use Rattle.std.specs.Prelude.{cond, List, ℕ, Result, Ok, Err, ltb}
use Rattle.words.specs.declared.refusal.Refusal.{Refusal}
use Rattle.words.specs.declared.refusal.Refusal.TheVariants.{NoRoom, Broken, BadImage}
use Rattle.image_rule.specs.Layout.{laid_out_lem, count_in_lem}
use Rattle.image_rule.specs.Stored.{is_good}

abbrev pub store_checked : (image : List ℕ) → Result Unit Refusal
store_checked I = cond (is_good I) (Ok tt) (Err Broken)

unfoldable pub image_checked : (image : List ℕ) → Result Unit Refusal
image_checked I = cond (laid_out_lem I) (cond (ltb 65535 (count_in_lem I)) (Err NoRoom) (store_checked I)) (Err BadImage)

abbrev pub store_number_lem : (image : List ℕ) → ℕ
store_number_lem I = cond (is_good I) 0 2

unfoldable pub image_number : (image : List ℕ) → ℕ
image_number I = cond (laid_out_lem I) (cond (ltb 65535 (count_in_lem I)) 1 (store_number_lem I)) 12
