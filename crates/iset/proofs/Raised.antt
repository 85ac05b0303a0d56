-- The version after one call: raised if the call is accepted, by as many as went if it is an
-- unloading, and left if it is refused. On any words.
use Rattle.std.proofs.Common.{◌≡◌, ℕ, ◌<◌, Bool, true, false, cond, eqb, List, length, refl, arith}
use Rattle.words.specs.declared.interval.Span.{Span}
use Rattle.words.specs.declared.node.Entry.{Entry}
use Rattle.iset.specs.Effects.{Effect, effect}
use Rattle.iset.specs.Maps.{raised, raised_by}
use Rattle.iset.specs.Build.{build_number, BuildAnswer, refused_build, build_list_lem, build_call}
use Rattle.iset.specs.Remove.{remove_number, RemoveAnswer, refused_removal, remove_slot_lem, remove_call}
use Rattle.iset.specs.Insert.{insert_number, InsertAnswer, refused_insertion, insert_entry_lem, insert_call}
use Rattle.iset.specs.Image.{read_image_number, read_store, read_image_call}
use Rattle.iset.specs.Unload.{unload_number, UnloadAnswer, refused_unloading, unload_range_lem, unload_call}
use Rattle.iset.specs.Tidy.{renumber_number, RenumberAnswer, refused_renumbering, renumber_plan_lem, renumber_call}
use Rattle.iset.specs.Versions.{version_after}
use Rattle.iset.specs.declared.Map.{Map}
use Rattle.iset.proofs.Refusals.{build_no, remove_no, insert_no}
use Rattle.iset.proofs.ImageRefusals.{read_image_no}
use Rattle.iset.proofs.TidyRefusals.{renumber_no}

-- by the number k of the call
by_number : {A : Type 0} (version : A → ℕ) (v k : ℕ) (x y : A) → version x ≡ raised v → version y ≡ v
    → version (cond (eqb k 0) x y) ≡ cond (eqb k 0) (raised v) v
by_number version v k x y p q = go (eqb k 0)
  where
    go : (t : Bool) → version (cond t x y) ≡ cond t (raised v) v
    go true = p
    go false = q

module _ (m : Map) (W C : List ℕ) where
  pub build_version : (l : List ℕ)
      → (build_call m W C l).answer.map.version ≡ version_after m (build_call m W C l).answer.no
  unfolding build_call
  build_version l =
      rw (build_no m W C l)
      (by_number (λ (c : Effect BuildAnswer). c.answer.map.version) m.version (build_number (length W) (length C) l) (build_list_lem m W C l)
      (effect (refused_build m (build_number (length W) (length C) l)) W C) refl refl)

  pub remove_version : (s : ℕ)
      → (remove_call m W C s).answer.map.version ≡ version_after m (remove_call m W C s).answer.no
  unfolding remove_call
  remove_version s =
      rw (remove_no m W C s)
      (by_number (λ (c : Effect RemoveAnswer). c.answer.map.version) m.version (remove_number m W C s) (remove_slot_lem m W C s)
      (effect (refused_removal m (remove_number m W C s)) W C) refl refl)

  pub insert_version : (e : Entry)
      → (insert_call m W C e).answer.map.version ≡ version_after m (insert_call m W C e).answer.no
  unfolding insert_call
  insert_version e =
      rw (insert_no m W C e)
      (by_number (λ (c : Effect InsertAnswer). c.answer.map.version) m.version (insert_number m W C e) (insert_entry_lem m W C e)
      (effect (refused_insertion m (insert_number m W C e)) W C) refl refl)

  pub read_image_version : (I : List ℕ)
      → (read_image_call m W C I).answer.map.version ≡ version_after m (read_image_call m W C I).answer.no
  unfolding read_image_call
  read_image_version I =
      rw (read_image_no m W C I)
      (by_number (λ (c : Effect BuildAnswer). c.answer.map.version) m.version (read_image_number (length W) (length C) I) (read_store m W C I)
      (effect (refused_build m (read_image_number (length W) (length C) I)) W C) refl refl)

  pub renumber_version : (plan : List ℕ)
      → (renumber_call m W C plan).answer.map.version ≡ version_after m (renumber_call m W C plan).answer.no
  unfolding renumber_call
  renumber_version plan =
      rw (renumber_no m W C plan)
      (by_number (λ (c : Effect RenumberAnswer). c.answer.map.version) m.version (renumber_number m W C plan) (renumber_plan_lem m W C plan)
      (effect (refused_renumbering m (renumber_number m W C plan)) W C) refl refl)

  pub unload_version : m.version < 4294967296 → (k : ℕ) (q : Span)
      → (unload_call m W C k q).answer.map.version ≡ raised_by m.version (unload_call m W C k q).answer.gone
  unfolding unload_call
  unload_version h k q = go (eqb (unload_number m W C k q) 0)
    where
      c : Bool → Effect UnloadAnswer
      c t = cond t (unload_range_lem m W C k q) (effect (refused_unloading m (unload_number m W C k q)) W C)

      go : (t : Bool) → (c t).answer.map.version ≡ raised_by m.version (c t).answer.gone
      go true = refl
      go false = omega arith
