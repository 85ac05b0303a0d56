-- Document 02, item 7: "the number of entries holding an address and the value of the k-th in tree
-- order", over the bytes of an image alone.
-- Letters: n count, I image (its bytes), a address, k index of the hit asked for, L children (by
--   side and slot), s slot
use Rattle.std.specs.Prelude.{Bool, true, false, cond, List, ℕ, zero, suc, ◌+◌, eqb, ltb}
use Rattle.words.specs.Ix.{on_link}
use Rattle.image_rule.specs.declared.Seen.{Seen}
use Rattle.image_rule.specs.Layout.{count_in_lem, root_in_lem, laid_out_lem}
use Rattle.image_rule.specs.Stored.{entry_in_lem, child_in_lem, is_good}
use Rattle.image_rule.specs.Sought.{sought}
use Rattle.iset.specs.Check.{first}

-- the refusal's number of an image, 0 for none: "12, 1 for a count above 65,535, 2"
unfoldable pub host_image : (image : List ℕ) → ℕ
host_image I = cond (laid_out_lem I) (cond (ltb 65535 (count_in_lem I)) 1 (cond (is_good I) 0 2)) 12

-- what is seen of the address a, and of hit k, in all entries below the root
unfoldable pub seen_in_lem : (image : List ℕ) (address index : ℕ) → Seen
seen_in_lem I a k = sought (entry_in_lem I) (child_in_lem I (count_in_lem I)) (count_in_lem I) a k 33 (root_in_lem I) (record { hits = 0; value = 0 })

-- the first call; "where a call is refused its answer is 0"
unfoldable pub host_count : (image : List ℕ) (address : ℕ) → ℕ
host_count I a = cond (eqb (host_image I) 0) (seen_in_lem I a 0).hits 0

-- the third: "the refusal number of the second, 0 for none", .. "then for the value 3 where k,
-- counted from 0, is too large"
unfoldable pub host_number : (image : List ℕ) (address index : ℕ) → ℕ
host_number I a k = first (host_image I) (cond (ltb k (seen_in_lem I a k).hits) 0 3)

-- the second
unfoldable pub host_value : (image : List ℕ) (address index : ℕ) → ℕ
host_value I a k = cond (eqb (host_number I a k) 0) (seen_in_lem I a k).value 0

-- the calls that the search comes to, the first one counted: one for each link that it follows
unfoldable pub seek_calls : (children : Bool → ℕ → ℕ) (count height link : ℕ) → ℕ
seek_calls L n zero link = 1
seek_calls L n (suc height) link =
    on_link n link (λ s. suc (seek_calls L n height (L true s) + seek_calls L n height (L false s))) 1
