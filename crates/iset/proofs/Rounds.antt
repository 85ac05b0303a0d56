-- "at exactly that many it can pass": 4,294,967,296 builds, one after the other, after which a
-- ticket passes. The list of them is stated and not computed. Then the item as a whole.
use Rattle.std.proofs.Common.{◌≡◌, ℕ, zero, suc, ◌<◌, List, [], ◌∷◌, length, replicate, refl, ◌∙◌, arith, eq-eqb}
use Rattle.builder.specs.Input.{start_of, end_of, every, proper_at, in_order_lem, all_proper_lem, sorted}
use Rattle.iset.specs.Maps.{empty_map}
use Rattle.iset.specs.Build.{build_number}
use Rattle.iset.specs.Sequence.{Call, build, State, answered, all_answered, refusal_of, made}
use Rattle.iset.specs.Ticket.{ticket_of}
use Rattle.iset.specs.Versions.{read_in_lem, Request4}
use Rattle.iset.proofs.Answers.{build_answers}
use Rattle.iset.proofs.Refusals.{build_no, read_refusals, read_leaves}
use Rattle.iset.proofs.Sequence.{Sound, empty_passes, calls_sound}
use Rattle.iset.proofs.Raised.{build_version, remove_version, insert_version, read_image_version, unload_version, renumber_version}
use Rattle.iset.proofs.Tickets.{version_run, reads, stale_refused, stale, unchanged, round}

-- the build of one entry, and k of them
abbrev one : List ℕ
one = 10 ∷ 20 ∷ 1 ∷ []

unfoldable builds : ℕ → List Call
builds k = replicate k (build one)

fits : build_number 8 1 one ≡ 0
unfolding build_number all_proper_lem sorted every proper_at in_order_lem start_of end_of
fits = refl

-- a state of one entry, in slices for it
pub record Single (S : State) : Type 0 where
  pub words : length S.words ≡ 8
  pub colours : length S.colours ≡ 1
  pub count : S.map.count ≡ 1

-- each build is accepted, and comes to such a state, from any map in such slices
module _ (S : State) (w : length S.words ≡ 8) (c : length S.colours ≡ 1) where
  accepted : refusal_of S (build one) ≡ 0
  accepted = build_no S.map S.words S.colours one ∙ rw (w, c) fits

  single : Single (answered S (build one))
  single =
      let a = build_answers S.map S.words S.colours one accepted in
      record { words = a.1.words_length ∙ w; colours = a.1.bits_length ∙ c; count = a.0 }

builds_made : (k : ℕ) (S : State) → Single S → (made S (builds k) ≡ k) × Single (all_answered S (builds k))
unfolding builds
builds_made zero S h = (refl, h)
builds_made (suc k) S h =
    let r = builds_made k (answered S (build one)) (single S h.words h.colours) in
    (rw (eq-eqb (refusal_of S (build one)) 0 (accepted S h.words h.colours)) (omega (arith, r.0)), r.1)

-- a ticket of slot 0, taken in any such state that passes, after that many builds
passes_again : (k : ℕ) → k ≡ 4294967296 → (S : State) → Single S → Sound S → S.map.version < 4294967296
    → (made S (builds k) ≡ 4294967296)
    × ((read_in_lem (all_answered S (builds k)) (ticket_of S.map 0)).no ≡ 0)
passes_again k e S h p v =
    let r = builds_made k S h in
    let z : made S (builds k) ≡ 4294967296 = r.0 ∙ e in
    (z, round S v 0 (builds k) p z (omega (arith, r.1.count)))

-- the map of no entries in one slot's words, and one build
abbrev first : State
first = record { map = empty_map; words = replicate 8 0; colours = replicate 1 0 }

abbrev begun : State
begun = answered first (build one)

pub can_pass : (S : State) × (l : List Call) × (made S l ≡ 4294967296)
    × ((read_in_lem (all_answered S l) (ticket_of S.map 0)).no ≡ 0)
can_pass =
    let v : begun.map.version ≡ _ = version_run (build one ∷ []) first (omega arith) in
    let r = passes_again 4294967296 refl begun (single first refl refl) (calls_sound (build one ∷ []) first (empty_passes first.words first.colours)) (omega arith) in
    (begun, builds 4294967296, r.0, r.1)

pub request_4 : (S : State) → S.map.version < 4294967296 → Request4 S
request_4 S h =
    record {
      build_raises = λ l. build_version S.map S.words S.colours l;
      remove_raises = λ s. remove_version S.map S.words S.colours s;
      insert_raises = λ e. insert_version S.map S.words S.colours e;
      read_image_raises = λ I. read_image_version S.map S.words S.colours I;
      unload_raises = λ k q. unload_version S.map S.words S.colours h k q;
      renumber_raises = λ l. renumber_version S.map S.words S.colours l;
      version_run = λ l. version_run l S h;
      refusals = λ t. read_refusals S.map S.words S.colours t;
      refused = λ t. read_leaves S.map S.words S.colours t;
      reads = λ t. reads S t;
      stale_refused = λ l s. stale_refused S h s l;
      stale = λ p l s. stale S h s l p;
      unchanged = λ p l s. unchanged S h p s l;
      round = λ p l s. round S h s l p;
      can_pass = can_pass;
    }
