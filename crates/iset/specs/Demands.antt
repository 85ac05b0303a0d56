-- The three demands, and document 02's item 9, each as one statement about what the public calls
-- answer and leave. A call's rule (specs/Check to Lookup) is what its code is proved to answer and
-- leave on every input, so a statement about the rules is one about the calls. `proofs/Demands`
-- proves them.
-- Letters: m map, W words, C colours, r root, S triples, a slot, t ticket, k rule, s slot, e entry,
--   x interval, q query or range, c cursor, P proof that the store passes, l calls, I image (its
--   bytes)
use Rattle.std.specs.Prelude.{◌≡◌, ℕ, ◌+◌, ◌-◌, ◌/◌, ◌≤◌, ◌≢◌, List, length}
use Rattle.words.specs.Nodes.{hull, entry}
use Rattle.words.specs.declared.interval.Interval.{Interval}
use Rattle.words.specs.declared.interval.Span.{Span}
use Rattle.words.specs.declared.node.Entry.{Entry}
use Rattle.tree.specs.Passes.{Passes}
use Rattle.builder_laws.specs.Built.{Built}
use Rattle.tree_rm_rule.specs.Remove.{vacated, Removed, remove_with}
use Rattle.tree_edit.specs.Store.{Store, store}
use Rattle.tree_edit.specs.Reach.{changes, Follows}
use Rattle.tree_rm_rule.specs.Reach.{remove_hulls, cut_from, last_step}
use Rattle.tree_rm_rule.specs.RemovalGuarantee.{RemovalGuarantee}
use Rattle.tree_in_rule.specs.Descent.{under}
use Rattle.tree_in_rule.specs.Insert.{own, hung_words}
use Rattle.tree_in_rule.specs.InsertionGuarantee.{InsertionGuarantee, insert_with}
use Rattle.tree_in_rule.specs.Reach.{insert_hulls}
use Rattle.iter.specs.declared.Cursor.{Cursor}
use Rattle.iter.specs.declared.rules.Query.{Query}
use Rattle.iset.specs.Check.{check_rule}
use Rattle.iset.specs.Effects.{Effect, effect, output}
use Rattle.iset.specs.Build.{refused_build, build_call}
use Rattle.iset.specs.Remove.{RemoveAnswer, refused_removal, remove_call}
use Rattle.iset.specs.Insert.{InsertAnswer, refused_insertion, insert_call}
use Rattle.iset.specs.Ticket.{refused_reading, read_call}
use Rattle.iset.specs.Image.{refused_write, write_image_call, read_image_call}
use Rattle.iset.specs.Unload.{refused_unloading, unload_call}
use Rattle.iset.specs.Tidy.{propose_call, refused_renumbering, renumber_call}
use Rattle.iset.specs.Lookup.{refused_start, start_call, refused_step, step_call, refused_drain, drain_call}
use Rattle.iset.specs.Tallies.{refused_tally}
use Rattle.iset.specs.Plain.{plain_call}
use Rattle.iset.specs.Find.{find_all_call}
use Rattle.iset.specs.Refusals.{BadRange, BadInterval, Exactly, check_rows, build_rows, remove_rows, insert_rows, read_rows, start_rows, step_rows, drain_rows, plain_rows, find_all_rows, write_image_rows, read_image_rows, unload_rows, propose_rows, renumber_rows}
use Rattle.iset.specs.Runs.{Ask, OverlapRun, ExactRun}
use Rattle.iset.specs.declared.Map.{Map}
use Rattle.iset.specs.declared.ticket.Ticket.{Ticket}

-- Demand 1: "Every public call .. tests everything itself, gives the first refusal in document 01's
-- order, and then nothing lent has changed." `Exactly` is both directions: a call gives a row's
-- number exactly if that row's condition holds, and that of no row before it. That a call ends, on
-- any numbers and any lent memory, is part of what the prover shows of its code.
pub record Demand1 (m : Map) (W C : List ℕ) : Type 0 where
  pub check : Exactly (check_rows m W C) (check_rule m W C)
  pub build : (S : List ℕ) → Exactly (build_rows W C S) (build_call m W C S).answer.no
  pub remove : (s : ℕ) → Exactly (remove_rows m W C s) (remove_call m W C s).answer.no
  pub insert : (e : Entry) → Exactly (insert_rows m W C e) (insert_call m W C e).answer.no
  pub read : (t : Ticket) → Exactly (read_rows m W C t) (read_call m W C t).no
  pub fresh_exact_law : (x : Interval) → Exactly (start_rows m W C x) (start_call m W C x).no
  pub step : (q : Query) (c : Cursor) → Exactly (step_rows m W C q c) (step_call m W C q c).no
  pub drain : (q : Query) (c : Cursor) (limit : ℕ) (out : List ℕ) → Exactly (drain_rows m W C q c limit (length out)) (drain_call m W C q c limit out).answer.no
  pub plain : (q : Query) (out : List ℕ) → Exactly (plain_rows m W C q (length out)) (plain_call m W C q out).answer.no
  pub find_all_law : (q : Query) (out : List ℕ) → Exactly (find_all_rows m W C q) (find_all_call m W C q out).answer.no
  pub write_image_law : (out : List ℕ) → Exactly (write_image_rows m W C (length out)) (write_image_call m W C out).answer.no
  pub read_image_law : (I : List ℕ) → Exactly (read_image_rows W C I) (read_image_call m W C I).answer.no
  pub unload : (k : ℕ) (q : Span) → Exactly (unload_rows m W C k q) (unload_call m W C k q).answer.no
  pub propose : (out : List ℕ) → Exactly (propose_rows m W C (length out)) (propose_call m W C out).answer
  pub renumber : (plan : List ℕ) → Exactly (renumber_rows m W C plan) (renumber_call m W C plan).answer.no
  -- a refused call answers its number with the map or the cursor as given ("a refused build: count
  -- 0, root U", with the version as given), and leaves what was lent
  pub build_leaves : (S : List ℕ) → ((build_call m W C S).answer.no ≢ 0) → build_call m W C S ≡ effect (refused_build m (build_call m W C S).answer.no) W C
  pub remove_leaves : (s : ℕ) → ((remove_call m W C s).answer.no ≢ 0)
      → remove_call m W C s ≡ effect (refused_removal m (remove_call m W C s).answer.no) W C
  pub insert_leaves : (e : Entry) → ((insert_call m W C e).answer.no ≢ 0)
      → insert_call m W C e ≡ effect (refused_insertion m (insert_call m W C e).answer.no) W C
  pub read_leaves : (t : Ticket) → ((read_call m W C t).no ≢ 0) → read_call m W C t ≡ refused_reading (read_call m W C t).no
  pub fresh_exact_leaves : (x : Interval) → ((start_call m W C x).no ≢ 0) → start_call m W C x ≡ refused_start (start_call m W C x).no
  pub step_leaves : (q : Query) (c : Cursor) → ((step_call m W C q c).no ≢ 0) → step_call m W C q c ≡ refused_step c (step_call m W C q c).no
  pub drain_leaves : (q : Query) (c : Cursor) (limit : ℕ) (out : List ℕ) → ((drain_call m W C q c limit out).answer.no ≢ 0)
      → drain_call m W C q c limit out ≡ output (refused_drain c (drain_call m W C q c limit out).answer.no) out
  pub plain_leaves : (q : Query) (out : List ℕ) → ((plain_call m W C q out).answer.no ≢ 0)
      → plain_call m W C q out ≡ output (refused_tally (plain_call m W C q out).answer.no) out
  pub find_all_leaves : (q : Query) (out : List ℕ) → ((find_all_call m W C q out).answer.no ≢ 0)
      → find_all_call m W C q out ≡ output (refused_tally (find_all_call m W C q out).answer.no) out
  pub write_image_leaves : (out : List ℕ) → ((write_image_call m W C out).answer.no ≢ 0)
      → write_image_call m W C out ≡ output (refused_write (write_image_call m W C out).answer.no) out
  pub read_image_leaves : (I : List ℕ) → ((read_image_call m W C I).answer.no ≢ 0)
      → read_image_call m W C I ≡ effect (refused_build m (read_image_call m W C I).answer.no) W C
  pub unload_leaves : (k : ℕ) (q : Span) → ((unload_call m W C k q).answer.no ≢ 0)
      → unload_call m W C k q ≡ effect (refused_unloading m (unload_call m W C k q).answer.no) W C
  pub propose_leaves : (out : List ℕ) → ((propose_call m W C out).answer ≢ 0) → propose_call m W C out ≡ output (propose_call m W C out).answer out
  pub renumber_leaves : (plan : List ℕ) → ((renumber_call m W C plan).answer.no ≢ 0)
      → renumber_call m W C plan ≡ effect (refused_renumbering m (renumber_call m W C plan).answer.no) W C

-- What `Map::remove` answers and leaves, in the form of the rule of removal; what `Map::insert`
-- leaves, in that of insertion.
abbrev pub removal : (map : Map) (words colours : List ℕ) (slot : ℕ) → Removed
removal m W C s =
    let r : Effect RemoveAnswer = remove_call m W C s in
    record { store = store r.words r.colours r.answer.map.root; value = r.answer.value; pairs = r.answer.pairs }

abbrev pub insertion : (map : Map) (words colours : List ℕ) (entry : Entry) → Store
insertion m W C e = let r : Effect InsertAnswer = insert_call m W C e in store r.words r.colours r.answer.map.root

-- Demand 2, of calls that are not refused; P is the tree of the store before, the only one
-- (`unique`, tree/proofs/Checked). "On stores that pass the check, removal, insertion .. are proved
-- equal to document 01's rules. Each removal names exactly the entries that changed slot."
pub record Demand2 (m : Map) (W C : List ℕ) : Type 0 where
  -- a build's store passes, with entry k in slot k
  pub builds : (S : List ℕ) → (build_call m W C S).answer.no ≡ 0
      → ((build_call m W C S).answer.map.count ≡ length S / 3)
      × Built S W C (length S / 3) (build_call m W C S).words (build_call m W C S).colours (build_call m W C S).answer.map.root
  -- a removal's store passes, with the other entries in their order; value and pairs are those of
  -- the removed and of the moved entries
  pub removes : (s : ℕ) → (remove_call m W C s).answer.no ≡ 0 → (P : Passes W C m.count m.root)
      → ((remove_call m W C s).answer.map.count ≡ m.count - 1) × RemovalGuarantee W C m.count m.root s P (removal m W C s)
  -- an insertion's store passes, with every old entry in its slot and the new one, after its
  -- equals, in the slot that is named: the old count
  pub inserts : (e : Entry) → (insert_call m W C e).answer.no ≡ 0 → (P : Passes W C m.count m.root)
      → ((insert_call m W C e).answer.slot ≡ m.count)
      × (entry (insert_call m W C e).words (insert_call m W C e).answer.slot ≡ e)
      × ((insert_call m W C e).answer.map.count ≡ m.count + 1)
      × InsertionGuarantee W C m.count m.root e P (insertion m W C e)
  -- the numbers at which the rules stop counting never decide: any greater ones come to the same
  pub remove_enough : (s : ℕ) → (remove_call m W C s).answer.no ≡ 0 → (rounds links hulls : ℕ) → 36 ≤ rounds → 32 ≤ links → 32 ≤ hulls
      → removal m W C s ≡ remove_with rounds links hulls W C m.count m.root s
  pub insert_enough : (e : Entry) → (insert_call m W C e).answer.no ≡ 0 → (levels rounds hulls : ℕ) → 32 ≤ levels → 32 ≤ rounds → 32 ≤ hulls
      → insertion m W C e ≡ insert_with levels rounds hulls W C m.count m.root e

-- Demand 3, of any lookup by `Map::step` and `Map::drain` from the fresh cursor, in any mixture and
-- with any limits, on an unchanged store that passes; the range is no BadRange, the interval no
-- BadInterval. specs/Runs has the two records.
pub record Demand3 (m : Map) (W C : List ℕ) : Type 0 where
  pub overlap : check_rule m W C ≡ 0 → (q : Span) → (BadRange q.lo q.hi → ⊥) → (P : Passes W C m.count m.root) (l : List Ask)
      → OverlapRun m W C q P.tree l
  pub exact : check_rule m W C ≡ 0 → (x : Interval) → (BadInterval x.start x.end → ⊥) → (P : Passes W C m.count m.root) (l : List Ask)
      → ExactRun m W C x P.tree l

-- Document 02, item 9: "removal and insertion return the sum, a refusal 0 .. Prove the sum equal to
-- the changes in document 01's and item 1's steps." `remove_hulls` and `insert_hulls` list the
-- hulls that are worked out, each with the words that it is worked out in; `changes` counts those
-- of them of which either end changes. `Follows` ties such a list to what is left: from the first
-- words to the last these hulls are worked out, in this order, and no hull changes in between.
pub record Request9 (m : Map) (W C : List ℕ) : Type 0 where
  pub remove_sum : (s : ℕ) → (remove_call m W C s).answer.no ≡ 0 → (remove_call m W C s).answer.reach ≡ changes m.count (remove_hulls W C m.count m.root s)
  -- up to the words in which the last slot moves, with its hull, into the emptied one
  pub remove_hulls_lem : (s : ℕ) → (remove_call m W C s).answer.no ≡ 0
      → Follows m.count W (remove_hulls W C m.count m.root s) (cut_from W C m.count m.root s (vacated m.count W s))
  pub remove_moves : (s : ℕ) → (remove_call m W C s).answer.no ≡ 0
      → (removal m W C s).store
      ≡ last_step (cut_from W C m.count m.root s (vacated m.count W s)) W C m.count m.root s (vacated m.count W s)
  pub remove_none : (s : ℕ) → ((remove_call m W C s).answer.no ≢ 0) → (remove_call m W C s).answer.reach ≡ 0
  pub insert_sum : (e : Entry) → (insert_call m W C e).answer.no ≡ 0 → (insert_call m W C e).answer.reach ≡ changes (m.count + 1) (insert_hulls W C m.count m.root e)
  -- from the words in which the new node hangs: its first hull is set and not worked out, and every
  -- other hull is as it was
  pub insert_hangs : (e : Entry) → (insert_call m W C e).answer.no ≡ 0
      → (hull (hung_words W m.count e (under m.count W m.root (own e))) m.count ≡ own e)
      × ((a : ℕ) → a ≢ m.count → hull (hung_words W m.count e (under m.count W m.root (own e))) a ≡ hull W a)
  pub insert_hulls_lem : (e : Entry) → (insert_call m W C e).answer.no ≡ 0
      → Follows (m.count + 1) (hung_words W m.count e (under m.count W m.root (own e))) (insert_hulls W C m.count m.root e) (insert_call m W C e).words
  pub insert_none : (e : Entry) → ((insert_call m W C e).answer.no ≢ 0) → (insert_call m W C e).answer.reach ≡ 0
