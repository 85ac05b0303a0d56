-- "The store after every build and removal passes the check", and after every insertion, every
-- reading of an image, every unloading and every renumbering: a build with any number of changes
-- after it, and any public calls one after the other.
use Rattle.std.proofs.Common.{◌≡◌, ℕ, zero, suc, ◌+◌, ◌-◌, ◌/◌, ◌≤◌, cond, eqb, List, [], ◌∷◌, length, refl, ap, arith, eq-eqb, ne_eqb}
use Rattle.words.specs.Ix.{U}
use Rattle.words.specs.Nodes.{capacity}
use Rattle.words.specs.declared.interval.Span.{Span}
use Rattle.words.specs.declared.node.Entry.{Entry}
use Rattle.tree.specs.Tree.{leaf}
use Rattle.tree.specs.Passes.{Passes}
use Rattle.builder.specs.Build.{build_words, build_colours, build_root}
use Rattle.tree_edit.specs.Store.{Store, store}
use Rattle.tree_edit.specs.Inside.{Inside}
use Rattle.tree_rm_rule.specs.Remove.{Removed, remove_rule}
use Rattle.tree_rm_rule.proofs.Inside.{removed_inside}
use Rattle.tree_in_rule.specs.Insert.{insert_rule}
use Rattle.tree_changes.specs.Sequence.{Change, run, total, TakesAll}
use Rattle.tree_in_rule.proofs.Inside.{inserted_inside}
use Rattle.tree_changes.proofs.Sequence.{ran}
use Rattle.image_rule.specs.Layout.{count_in_lem, root_in_lem}
use Rattle.image_rule.specs.Stored.{loaded_words, loaded_colours}
use Rattle.image_rule.proofs.Stores.{length_loaded_words, length_loaded_colours}
use Rattle.iter.specs.Ranges.{by_rule_lem}
use Rattle.unload_rule.specs.Sweep.{Sweep}
use Rattle.unload_rule.specs.Swept.{Swept}
use Rattle.unload_rule.specs.Unload.{within, unload_rule_lem}
use Rattle.iset.specs.Effects.{effect}
use Rattle.iset.specs.Effects as calls
use Rattle.iset.specs.Check.{check_rule}
use Rattle.iset.specs.Build.{build_number, BuildAnswer, refused_build, build_list_lem, build_call}
use Rattle.iset.specs.Remove.{remove_number, RemoveAnswer, refused_removal, remove_slot_lem, remove_call}
use Rattle.iset.specs.Insert.{insert_number, InsertAnswer, refused_insertion, insert_entry_lem, insert_call}
use Rattle.iset.specs.Image.{read_image_number, read_store, read_image_call}
use Rattle.iset.specs.Unload.{unload_number, UnloadAnswer, refused_unloading, unload_range_lem, unload_call}
use Rattle.tidy_rule.specs.Plan.{renamed}
use Rattle.tidy_rule.specs.Tidy.{Both, tidied}
use Rattle.tidy_rule.specs.Tidied.{Tidied}
use Rattle.tidy_rule.proofs.Renumbers as renumbers
use Rattle.iset.specs.Tidy.{renumber_number, RenumberAnswer, refused_renumbering, renumber_plan_lem, renumber_call}
use Rattle.iset.specs.Maps.{map_at, empty_map, next_map, raised_by}
use Rattle.iset.specs.Sequence.{Call, build, remove, insert, read, unload, renumber, State, left, removed, inserted, unloaded, renumbered, answered, all_answered, open_answered, all_open_answered}
use Rattle.iset.specs.declared.Map.{Map}
use Rattle.iset.proofs.Builds.{Accepted, accepted, builds}
use Rattle.iset.proofs.Checks.{check_zero, zero_check}
use Rattle.iset.proofs.Images as images
use Rattle.iset.proofs.Insertions as insertions
use Rattle.iset.proofs.Opened.{remove_is, insert_is, unload_is, renumber_is}
use Rattle.iset.proofs.Removals as removals
use Rattle.iset.proofs.Unloadings as unloadings
use Rattle.iset.proofs.Tidyings as tidyings

-- what a build leaves
abbrev pub built_store : Map → List ℕ → List ℕ → List ℕ → Store
built_store m W C S = let b = build_call m W C S in store b.words b.colours b.answer.map.root

-- a build, and any insertions and removals after it that find their slot or places
pub build_then_change : (m : Map) (W C S : List ℕ) (l : List Change) → build_number (length W) (length C) S ≡ 0
    → TakesAll (capacity (length W) (length C)) (length S / 3) l
    → Passes (run (built_store m W C S) (length S / 3) l).words (run (built_store m W C S) (length S / 3) l).colours (total (length S / 3) l)
    (run (built_store m W C S) (length S / 3) l).root
build_then_change m W C S l e t =
    let a : Accepted (length W) (length C) S = accepted (length W) (length C) S e in
    let b = builds m W C S e in
    (ran l (built_store m W C S) (length S / 3) (capacity (length W) (length C)) (omega arith) (omega (arith, b.words_length))
    (omega (arith, b.bits_length)) a.room_for_lem b.passes t).0

-- the map of no entries passes in any words, whatever its version is
none_passes : (v : ℕ) (W C : List ℕ) → check_rule (map_at 0 U v) W C ≡ 0
none_passes v W C =
    zero_check (map_at 0 U v) W C (omega arith)
    (record {
      tree = leaf;
      shape = refl;
      once = λ s l. absurd (omega arith);
      proper = λ s l. absurd (omega arith);
      rising = record {};
      hulls = record {};
      top = refl;
      red_black = record {};
    })

pub empty_passes : (W C : List ℕ) → check_rule empty_map W C ≡ 0
empty_passes = none_passes 0

-- the store passes
abbrev pub Sound : State → Type 0
Sound S = check_rule S.map S.words S.colours ≡ 0

-- a call that is refused, by the number k, or not
by_number : {A : Type 0} (map : A → Map) (k : ℕ) (x y : calls.Effect A) → (k ≡ 0 → Sound (left map x)) → Sound (left map y)
    → Sound (left map (cond (eqb k 0) x y))
by_number map zero x y f g = f refl
by_number map (suc k) x y f g = rw (ne_eqb (suc k) 0 (λ z. omega arith)) g

-- any one call leaves a store that passes
module _ (m : Map) (W C : List ℕ) where
  abbrev S : State
  S = record { map = m; words = W; colours = C }

  build_sound : (l : List ℕ) → Sound (answered S (build l))
  unfolding build_call
  build_sound l =
      by_number (λ (a : BuildAnswer). a.map) (build_number (length W) (length C) l) (build_list_lem m W C l)
      (effect (refused_build m (build_number (length W) (length C) l)) W C)
      (λ e. let a : Accepted (length W) (length C) l = accepted (length W) (length C) l e in
      let b = rw (eq-eqb (build_number (length W) (length C) l) 0 e) at (builds m W C l e) in
      zero_check (next_map m (length l / 3) (build_root (length l / 3))) (build_words l (length l / 3) W) (build_colours (length l / 3) C)
      (rw (b.words_length, b.bits_length) a.room_for_lem) b.passes)
      (none_passes m.version W C)

  read_sound : (I : List ℕ) → Sound (answered S (read I))
  unfolding read_image_call
  read_sound I =
      by_number (λ (a : BuildAnswer). a.map) (read_image_number (length W) (length C) I) (read_store m W C I)
      (effect (refused_build m (read_image_number (length W) (length C) I)) W C)
      (λ e. zero_check (next_map m (count_in_lem I) (root_in_lem I)) (loaded_words I (count_in_lem I) (root_in_lem I) W) (loaded_colours I (count_in_lem I) C)
      (rw (length_loaded_words I (count_in_lem I) (root_in_lem I) W, length_loaded_colours I (count_in_lem I) C) (images.accepts W C I e).1) (images.read_sound W C I e))
      (none_passes m.version W C)

  module _ (h : Sound S) where
    fits : m.count ≤ capacity (length W) (length C)
    fits = (check_zero m W C h).0

    remove_sound : (s : ℕ) → Sound (answered S (remove s))
    unfolding remove_call
    remove_sound s =
        let R : Removed = remove_rule W C m.count m.root s in
        by_number (λ (a : RemoveAnswer). a.map) (remove_number m W C s) (remove_slot_lem m W C s) (effect (refused_removal m (remove_number m W C s)) W C)
        (λ e. let i : Inside m.count W C R.store = removed_inside W C m.count m.root s (removals.accepts m W C s e).1 in
        zero_check (next_map m (m.count - 1) R.store.root) R.store.words R.store.colours
        (rw (i.words_length, i.colours_length) (omega (arith, fits))) (removals.by_rule_law m W C s e).passes)
        h

    insert_sound : (e : Entry) → Sound (answered S (insert e))
    unfolding insert_call
    insert_sound e =
        let R : Store = insert_rule W C m.count m.root e in
        by_number (λ (a : InsertAnswer). a.map) (insert_number m W C e) (insert_entry_lem m W C e) (effect (refused_insertion m (insert_number m W C e)) W C)
        (λ z. let i : Inside (m.count + 1) W C R = inserted_inside W C m.count m.root e in
        zero_check (next_map m (m.count + 1) R.root) R.words R.colours
        (rw (i.words_length, i.colours_length) (omega (arith, (insertions.accepts m W C e z).0))) (insertions.by_rule_law m W C e z).passes)
        h

    unload_sound : (k : ℕ) (q : Span) → Sound (answered S (unload k q))
    unfolding unload_call
    unload_sound k q =
        let R : Sweep = unload_rule_lem W C m.count m.root (by_rule_lem k q) in
        by_number (λ (a : UnloadAnswer). a.map) (unload_number m W C k q) (unload_range_lem m W C k q) (effect (refused_unloading m (unload_number m W C k q)) W C)
        (λ e. let w : Swept W C m.count m.root (within (by_rule_lem k q)) (check_zero m W C h).1 R = unloadings.by_rule_law m W C k q h (check_zero m W C h).1 in
        zero_check (map_at R.count R.store.root (raised_by m.version R.gone)) R.store.words R.store.colours
        (rw (w.inside.words_length, w.inside.colours_length) (omega (arith, fits, w.count_is))) w.passes)
        h

    renumber_sound : (plan : List ℕ) → Sound (answered S (renumber plan))
    unfolding renumber_call
    renumber_sound plan =
        let R : Both = tidied m.count plan W C in
        by_number (λ (a : RenumberAnswer). a.map) (renumber_number m W C plan) (renumber_plan_lem m W C plan) (effect (refused_renumbering m (renumber_number m W C plan)) W C)
        (λ e. let o : Tidied m.count plan W C R.words R.colours = tidyings.by_rule_law m W C plan e in
        zero_check (next_map m m.count (renamed m.count plan m.root)) R.words R.colours
        (rw (o.words_length, o.colours_length) fits)
        (renumbers.renumbered m.count plan W C R.words R.colours (tidyings.plan_fits m W C plan e) o m.root (tidyings.few m W C plan e)
        (tidyings.tree_before m W C plan e)))
        h

    answered_sound : (x : Call) → Sound (answered S x)
    answered_sound (build l) = build_sound l
    answered_sound (remove s) = remove_sound s
    answered_sound (insert e) = insert_sound e
    answered_sound (read I) = read_sound I
    answered_sound (unload k q) = unload_sound k q
    answered_sound (renumber plan) = renumber_sound plan

-- and so do any calls one after the other, refused ones among them
pub calls_sound : (l : List Call) (S : State) → Sound S → Sound (all_answered S l)
calls_sound [] S h = h
calls_sound (x ∷ l) S h = calls_sound l (answered S x) (answered_sound S.map S.words S.colours h x)

-- a store that was checked once: the calls that do not run the check leave what the public ones do,
-- and it passes. With `Opened` they, and the lookups between them, answer what the public calls
-- answer.
opened_call : (S : State) → Sound S → (x : Call) → open_answered S x ≡ answered S x
opened_call S h (build l) = refl
opened_call S h (read I) = refl
opened_call S h (remove s) = ap removed (remove_is S.map S.words S.colours h s)
opened_call S h (insert e) = ap inserted (insert_is S.map S.words S.colours h e)
opened_call S h (unload k q) = ap unloaded (unload_is S.map S.words S.colours h k q)
opened_call S h (renumber plan) = ap renumbered (renumber_is S.map S.words S.colours h plan)

pub opened_calls : (l : List Call) (S : State) → Sound S → all_open_answered S l ≡ all_answered S l
opened_calls [] S h = refl
opened_calls (x ∷ l) S h =
    rw (opened_call S h x) (opened_calls l (answered S x) (answered_sound S.map S.words S.colours h x))

pub opened_keeps : (l : List Call) (S : State) → Sound S → Sound (all_open_answered S l)
opened_keeps l S h = rw (opened_calls l S h) (calls_sound l S h)
