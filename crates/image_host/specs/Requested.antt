-- Document 02, item 7, as one statement about what the public calls answer: looking an address up
-- in an image. `proofs/Hosts` proves it.
-- Letters: m map, W words, C colours, I image (its bytes), a address, k index of the hit asked for,
--   c reading (what the reader left), d drain
use Rattle.std.specs.Prelude.{◌≡◌, true, List, ℕ, ◌+◌, ◌*◌, ◌<◌, ◌≤◌, length, get_or}
use Rattle.words.specs.Ix.{U}
use Rattle.words.specs.Nodes.{value, Holds, HoldsBits}
use Rattle.std.specs.declared.ops.Bound.TheVariants.{Included}
use Rattle.words.specs.declared.interval.Span.{Span}
use Rattle.audit.specs.Calls.{calls}
use Rattle.iter.specs.Cursors.{fresh}
use Rattle.iter.specs.Drains.{limit_of_lem}
use Rattle.iter.specs.declared.rules.Query.TheVariants.{Overlap}
use Rattle.image_rule.specs.Layout.{count_in_lem, root_in_lem, laid_out_lem}
use Rattle.image_rule.specs.Stored.{child_in_lem, node_in_lem, is_good}
use Rattle.iset.specs.Effects.{Effect, Output}
use Rattle.iset.specs.Build.{BuildAnswer}
use Rattle.iset.specs.Image.{read_image_call}
use Rattle.iset.specs.Lookup.{DrainAnswer, drain_call}
use Rattle.iset.specs.Refusals.{Rows, accept, refuse, Exactly}
use Rattle.iset.specs.declared.Map.{Map}
use Rattle.image_host.specs.Host.{host_image, host_count, host_number, host_value, seek_calls}

-- "12, 1 for a count above 65,535, 2, then for the value 3 where k, counted from 0, is too large"
abbrev pub host_rows : (image : List ℕ) (address index : ℕ) → Rows
host_rows I a k =
    refuse 12 (laid_out_lem I ≡ true → ⊥) (refuse 1 (65535 < count_in_lem I) (refuse 2 (is_good I ≡ true → ⊥) (refuse 3 (host_count I a ≤ k) accept)))

-- the range of the one address a. An entry intersects it exactly if start ≤ a < end.
abbrev pub only : (address : ℕ) → Span
only a = record { lo = Included a; hi = Included a }

-- what the proved drain answers and writes for the address a, from the fresh cursor, in the map
-- that the proved reader left
abbrev pub drained_after : (reading : Effect BuildAnswer) (address limit : ℕ) (out : List ℕ)
    → Output DrainAnswer
drained_after c a limit out =
    drain_call c.answer.map c.words c.colours (Overlap (only a)) (fresh c.answer.map.root) limit out

-- The two calls beside the drain d in the words that were read: the drain is not refused, the first
-- call answers its hits, and the second the value at its k-th slot.
pub record AsDrained (I : List ℕ) (a : ℕ) (words : List ℕ) (d : Output DrainAnswer) : Type 0 where
  pub accepted : d.answer.no ≡ 0
  pub count : host_count I a ≡ d.answer.hits
  pub values : (k : ℕ) → k < host_count I a → host_value I a k ≡ value words (get_or d.output k 0)

pub record Request7 (I : List ℕ) (a : ℕ) : Type 0 where
  -- "gives the refusal number of the second, 0 for none"
  pub refusals : (k : ℕ) → Exactly (host_rows I a k) (host_number I a k)
  -- "where a call is refused its answer is 0"; 12, 1 and 2 refuse the first call too
  pub count_refused : (host_image I ≡ 0 → ⊥) → host_count I a ≡ 0
  pub value_refused : (k : ℕ) → (host_number I a k ≡ 0 → ⊥) → host_value I a k ≡ 0
  -- 12, 1 and 2 are the refusals of "the proved reader with room enough", in the place of any map m
  pub as_reader : (m : Map) (W C : List ℕ) → Holds W (count_in_lem I) → HoldsBits C (count_in_lem I) → (read_image_call m W C I).answer.no ≡ host_image I
  -- "as the proved reader with room enough, followed by a drain with room for all, would": any
  -- target in which the image is accepted, any limit and any output with a place for each entry
  pub as_drained : (m : Map) (W C : List ℕ) → (read_image_call m W C I).answer.no ≡ 0 → (limit : ℕ) (out : List ℕ)
      → count_in_lem I ≤ limit_of_lem limit (length out) → limit_of_lem limit (length out) ≤ length out
      → AsDrained I a (read_image_call m W C I).words (drained_after (read_image_call m W C I) a limit out)
  -- the judge and, in an image that is not refused, the search follow at most two links for each
  -- entry, and one
  pub judge_linear : calls (node_in_lem I (count_in_lem I)) (count_in_lem I) 33 U (root_in_lem I) ≤ 2 * count_in_lem I + 1
  pub seek_linear : host_image I ≡ 0 → seek_calls (child_in_lem I (count_in_lem I)) (count_in_lem I) 33 (root_in_lem I) ≤ 2 * count_in_lem I + 1
