-- Document 02, item 4: "a ticket is refused when at least 1 and fewer than 4,294,967,296 changes
-- have come since; at exactly that many it can pass". A ticket is taken in a state S; then come
-- calls, each on what the one before it answered and left, refused ones among them.
use Rattle.std.proofs.Common.{◌≡◌, ℕ, ◌+◌, ◌%◌, ◌<◌, ◌≤◌, Bool, true, false, cond, eqb, List, [], ◌∷◌, sym, refl, ap, ◌∙◌, arith, eq-eqb}
use Rattle.iset.specs.Effects.{Effect}
use Rattle.iset.specs.Maps.{raised, raised_by}
use Rattle.iset.specs.Build.{BuildAnswer}
use Rattle.iset.specs.Remove.{RemoveAnswer}
use Rattle.iset.specs.Insert.{InsertAnswer}
use Rattle.iset.specs.Tidy.{RenumberAnswer}
use Rattle.iset.specs.Sequence.{Call, build, remove, insert, read, unload, renumber, State, answered, all_answered, refusal_of, once, changes_of, made}
use Rattle.iset.specs.Ticket.{ticket_of, age, read_number_lem, read_done_lem, read_call}
use Rattle.iset.specs.Versions.{read_in_lem}
use Rattle.iset.specs.declared.ticket.Ticket.{Ticket}
use Rattle.iset.proofs.Readings as readings
use Rattle.iset.proofs.Refusals.{build_leaves, remove_leaves, insert_leaves, read_no}
use Rattle.iset.proofs.Sequence.{Sound, calls_sound}
use Rattle.iset.proofs.ImageRefusals.{read_image_leaves}
use Rattle.iset.proofs.TidyRefusals.{renumber_leaves}
use Rattle.iset.proofs.Unloadings.{unload_words}
use Rattle.iset.proofs.Raised.{build_version, remove_version, insert_version, read_image_version, unload_version, renumber_version}
use Rattle.iset.proofs.Versions.{raise_more, raised_below, age_is}

-- One call raises the version by the changes that it made: by one if it was accepted, by none if it
-- was refused, by as many as went if it is an unloading.
by_once : (v k r : ℕ) → v < 4294967296 → r ≡ cond (eqb k 0) (raised v) v → r ≡ raised_by v (once k)
by_once v k r h e = go (eqb k 0) e
  where
    go : (t : Bool) → r ≡ cond t (raised v) v → r ≡ raised_by v (cond t 1 0)
    go true i = i
    go false i = omega (arith, i)

call_version : (S : State) (x : Call) → S.map.version < 4294967296 → (answered S x).map.version ≡ raised_by S.map.version (changes_of S x)
call_version S (build l) h = by_once S.map.version (refusal_of S (build l)) _ h (build_version S.map S.words S.colours l)
call_version S (remove s) h = by_once S.map.version (refusal_of S (remove s)) _ h (remove_version S.map S.words S.colours s)
call_version S (insert e) h = by_once S.map.version (refusal_of S (insert e)) _ h (insert_version S.map S.words S.colours e)
call_version S (read I) h = by_once S.map.version (refusal_of S (read I)) _ h (read_image_version S.map S.words S.colours I)
call_version S (unload k q) h = unload_version S.map S.words S.colours h k q
call_version S (renumber l) h = by_once S.map.version (refusal_of S (renumber l)) _ h (renumber_version S.map S.words S.colours l)

-- and any number of calls: the version counts the changes that they made, modulo 2^32
pub version_run : (l : List Call) (S : State) → S.map.version < 4294967296
    → (all_answered S l).map.version ≡ (S.map.version + made S l) % 4294967296
version_run [] S h = omega arith
version_run (x ∷ l) S h =
    let e : (answered S x).map.version ≡ raised_by S.map.version (changes_of S x) = call_version S x h in
    version_run l (answered S x) (rw e (raised_below S.map.version (changes_of S x)))
    ∙ rw e (raise_more S.map.version (changes_of S x) (made (answered S x) l))

-- A ticket of slot s, taken in S, read after the calls l.
module _ (S : State) (h : S.map.version < 4294967296) (s : ℕ) (l : List Call) where
  abbrev N : State
  N = all_answered S l

  abbrev t : Ticket
  t = ticket_of S.map s

  number : (read_in_lem N t).no ≡ read_number_lem N.map N.words N.colours t
  number = read_no N.map N.words N.colours t

  -- the distance is the number of changes
  aged : age N.map.version t.version ≡ made S l % 4294967296
  aged = ap (λ (v : ℕ). age v S.map.version) (version_run l S h) ∙ age_is S.map.version (made S l) h

  far : 1 ≤ made S l → made S l < 4294967296 → age N.map.version t.version ≡ 0 → ⊥
  far i j z = omega (arith, aged)

  -- at least 1 change and fewer than 2^32: refused, whatever the store is
  pub stale_refused : 1 ≤ made S l → made S l < 4294967296 → (read_in_lem N t).no ≡ 0 → ⊥
  stale_refused i j z = far i j (readings.accepts N.map N.words N.colours t (sym number ∙ z)).1

  module _ (p : Sound S) where
    -- by 11 if the first store passes, whether or not the slot is still there
    pub stale : 1 ≤ made S l → made S l < 4294967296 → (read_in_lem N t).no ≡ 11
    stale i j = number ∙ readings.changed N.map N.words N.colours t (calls_sound l S p) (far i j)

    -- exactly 2^32 changes: it passes if the slot is there
    pub round : made S l ≡ 4294967296 → s < N.map.count → (read_in_lem N t).no ≡ 0
    round e i = number ∙ readings.accepted N.map N.words N.colours t (calls_sound l S p) (omega (arith, aged)) i

    -- no change: it passes if the slot is there
    same : made S l ≡ 0 → s < N.map.count → (read_in_lem N t).no ≡ 0
    same e i = number ∙ readings.accepted N.map N.words N.colours t (calls_sound l S p) (omega (arith, aged)) i

-- A call that makes no change leaves the words.
refused_by_lem : (k : ℕ) → once k ≡ 0 → k ≡ 0 → ⊥
refused_by_lem k e i = let z : ◌≡◌ {A = ℕ} 1 0 = rw (eq-eqb k 0 i) at e in omega arith

unmade_call : (S : State) (x : Call) → changes_of S x ≡ 0 → (answered S x).words ≡ S.words
unmade_call S (build l) e = ap (λ (c : Effect BuildAnswer). c.words) (build_leaves S.map S.words S.colours l (refused_by_lem _ e))
unmade_call S (remove s) e = ap (λ (c : Effect RemoveAnswer). c.words) (remove_leaves S.map S.words S.colours s (refused_by_lem _ e))
unmade_call S (insert x) e = ap (λ (c : Effect InsertAnswer). c.words) (insert_leaves S.map S.words S.colours x (refused_by_lem _ e))
unmade_call S (read I) e = ap (λ (c : Effect BuildAnswer). c.words) (read_image_leaves S.map S.words S.colours I (refused_by_lem _ e))
unmade_call S (unload k q) e = unload_words S.map S.words S.colours k q e
unmade_call S (renumber l) e = ap (λ (c : Effect RenumberAnswer). c.words) (renumber_leaves S.map S.words S.colours l (refused_by_lem _ e))

unmade_words : (l : List Call) (S : State) → made S l ≡ 0 → (all_answered S l).words ≡ S.words
unmade_words [] S z = refl
unmade_words (x ∷ l) S z = unmade_words l (answered S x) (omega (arith, z)) ∙ unmade_call S x (omega (arith, z))

-- what is read: the entry that the slot has
pub reads : (S : State) (t : Ticket) → (read_in_lem S t).no ≡ 0 → read_in_lem S t ≡ read_done_lem S.words t.slot
unfolding read_call
reads S t e =
    let z : read_number_lem S.map S.words S.colours t ≡ 0 = sym (read_no S.map S.words S.colours t) ∙ e in
    rw (eq-eqb (read_number_lem S.map S.words S.colours t) 0 z)

-- no change: the entry that the slot had when the ticket was taken
pub unchanged : (S : State) → S.map.version < 4294967296 → Sound S → (s : ℕ) (l : List Call) → made S l ≡ 0 → s < (all_answered S l).map.count
    → read_in_lem (all_answered S l) (ticket_of S.map s) ≡ read_done_lem S.words s
unchanged S h p s l e i =
    reads (all_answered S l) (ticket_of S.map s) (same S h s l p e i) ∙ ap (λ (X : List ℕ). read_done_lem X s) (unmade_words l S e)
