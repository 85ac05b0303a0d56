-- A lookup in parts: a cursor that has a form leads to one that has a form, with 32 levels at the
-- most on the way; the parts of a lookup, put together, are the lookup; and one that has come to
-- its end has handed out all, and entered all that the entered rule names.
use mathlib.Core.Path.{◌≡◌, refl, sym, ap, ◌∙◌}
use mathlib.Core.Bool.{Bool, true, false, cond}
use mathlib.Core.List.{List, [], ◌++◌, append_assoc, append-nil}
use Prim.Native.Nat.{ℕ, zero, suc, ◌+◌, ◌<◌, ◌≤◌}
use native.Mathlib.Omega.{arith}
use native.Mathlib.Nat.{zero-add, suc-add}
use lib.ListN.{length}
use lib.Dec.{ltb}
use borrow.Author.Tests.{ltb-true}
use Rattle.words.specs.Lists.{filter}
use Rattle.tree.specs.Tree.{Tree, slots}
use Rattle.iter.specs.Cursors.{ended, fresh}
use Rattle.iter.specs.Walk.{Rules, Answer, enters, fuel, step, call, after}
use Rattle.iter.specs.Drains.{Drained, more, drain, calls}
use Rattle.iter.specs.Forms.{form_of}
use Rattle.iter.specs.declared.Cursor.{Cursor}
use Rattle.iter.specs.declared.Form.{Form}
use Rattle.iter.specs.declared.Form.TheVariants as form
use Rattle.iter.proofs.Steps.{no_slot, step_end, step_stops}
use Rattle.iter.proofs.Drains.{drain_end, drain_split}
use Rattle.iter_laws.specs.Place.{Held}
use Rattle.iter_laws.specs.Entered.{entered}
use Rattle.iter_laws.proofs.Walks.{Walk}
use Rattle.iter_laws.proofs.Places.{fresh_low, stands_low, after_end, step_held, held_stands, fresh_held}
use Rattle.iter_laws.proofs.Fresh.{fresh_run, fresh_nodes}
use Rattle.iter_laws.proofs.Forms.{fresh_form, ended_form, held_form_lem, bad_form}

-- the nodes entered, on any words
module _ (W : List ℕ) (n : ℕ) (Q : Rules) (small : n ≤ 65535) where
  call_end : (f : ℕ) → call W n Q f ended ≡ []
  unfolding call enters
  call_end zero = rw (no_slot W n Q small)
  call_end (suc f) = rw (no_slot W n Q small)

  pub calls_end : (limit : ℕ) → calls W n Q limit ended ≡ []
  unfolding calls
  calls_end zero = refl
  calls_end (suc limit) = rw (step_end W n Q small ended refl, no_slot W n Q small, call_end (fuel n))

  -- those of a drain in two parts
  pub calls_split : (i j : ℕ) (c : Cursor) → calls W n Q (i + j) c ≡ calls W n Q i c ++ calls W n Q j (drain W n Q i c).next
  unfolding calls drain
  calls_split zero j c = rw (zero-add j)
  calls_split (suc i) j c = rw suc-add (go (calls_split i j (step W n Q c).next) (ltb (step W n Q c).slot n) refl)
    where
      a : Answer
      a = step W n Q c

      go : calls W n Q (i + j) a.next ≡ calls W n Q i a.next ++ calls W n Q j (drain W n Q i a.next).next
          → (b : Bool) → ltb a.slot n ≡ b
          → call W n Q (fuel n) c ++ cond b (calls W n Q (i + j) a.next) []
          ≡ (call W n Q (fuel n) c ++ cond b (calls W n Q i a.next) [])
          ++ calls W n Q j (cond b (more a.slot a.entered (drain W n Q i a.next)) (record { slots = []; next = a.next; entered = a.entered })).next
      go rec true e = rw (rec, append_assoc)
      go rec false e = rw (step_stops W n Q small c e, calls_end j, append-nil, append-nil)

module _ (W : List ℕ) (n : ℕ) (Q : Rules) (E : Bool → ℕ → ℕ → Bool) (p k : ℕ) (t : Tree) (w : Walk W n Q E p k t) where
  -- a cursor that the form test does not find bad
  abbrev pub Formed : Cursor → Type 0
  Formed c = form_of W n k c ≡ form.Bad → ⊥

  kinds : {X : Type 0} (c : Cursor) → Formed c → (c ≡ fresh k → X) → (c ≡ ended → X) → (Held t c → X) → X
  kinds {X} c b x y z = go (form_of W n k c) refl
    where
      go : (f : Form) → form_of W n k c ≡ f → X
      go form.Fresh e = x ((fresh_form W n w.small p k t w.shape w.low c).0 e)
      go form.Held e = z ((held_form_lem W n w.small p k t w.shape w.low c).0 e)
      go form.Ended e = y ((ended_form W n w.small p k t w.shape w.low c).0 e)
      go form.Bad e = absurd (b e)

  ended_formed : Formed ended
  ended_formed e = (bad_form W n w.small p k t w.shape w.low ended e).1 refl

  held_formed : (c : Cursor) → Held t c → Formed c
  held_formed c h e = (bad_form W n w.small p k t w.shape w.low c e).2 h

  -- after a step: where it has a hit, by what is known of that; else at the end
  one_formed : (c : Cursor) → ((step W n Q c).slot < n → Held t (step W n Q c).next) → Formed (step W n Q c).next
  one_formed c h = go (ltb (step W n Q c).slot n) refl
    where
      go : (b : Bool) → ltb (step W n Q c).slot n ≡ b → Formed (step W n Q c).next
      go true e = held_formed (step W n Q c).next (h (ltb-true (step W n Q c).slot n e))
      go false e = rw (step_stops W n Q w.small c e) ended_formed

  pub step_formed : (c : Cursor) → Formed c → Formed (step W n Q c).next
  step_formed c f =
      kinds c f
      (λ e. rw e (one_formed (fresh k) (λ h. (fresh_held W n Q E p k t w h).0)))
      (λ e. rw (e, step_end W n Q w.small ended refl) ended_formed)
      (λ i. one_formed c (λ h. (step_held W n Q E p k t w c (held_stands W n Q E p k t w c i) h).0))

  pub drain_formed : (limit : ℕ) (c : Cursor) → Formed c → Formed (drain W n Q limit c).next
  unfolding drain
  drain_formed zero c f = f
  drain_formed (suc limit) c f =
      go (step_formed c f) (drain_formed limit (step W n Q c).next (step_formed c f)) (ltb (step W n Q c).slot n)
    where
      go : Formed (step W n Q c).next → Formed (drain W n Q limit (step W n Q c).next).next → (b : Bool)
          → Formed (cond b (more (step W n Q c).slot (step W n Q c).entered (drain W n Q limit (step W n Q c).next))
          (record { slots = []; next = (step W n Q c).next; entered = (step W n Q c).entered })).next
      go one rest true = rest
      go one rest false = one

  -- no push is refused
  pub formed_low : (c : Cursor) → Formed c → (m : ℕ) → (after W n Q m c).levels ≤ 32
  formed_low c f m =
      kinds c f
      (λ e. rw e (fresh_low W n Q E p k t w m))
      (λ e. rw (e, after_end W n Q E p k t w m ended refl) (omega arith))
      (λ i. stands_low W n Q E p k t w c (held_stands W n Q E p k t w c i) m)

  -- all hits, and one more
  abbrev most : ℕ
  most = suc (length (filter Q.match (slots t)))

  -- from the fresh cursor: what is left after a first part
  pub slots_parts : (limit : ℕ)
      → (drain W n Q limit (fresh k)).slots ++ (drain W n Q most (drain W n Q limit (fresh k)).next).slots ≡ filter Q.match (slots t)
  slots_parts limit =
      ap (λ (d : Drained). d.slots) (sym (drain_split W n Q w.small limit most (fresh k)) ∙ fresh_run W n Q E p k t w (limit + most) (omega arith))

  pub nodes_parts : (limit : ℕ) → calls W n Q limit (fresh k) ++ calls W n Q most (drain W n Q limit (fresh k)).next ≡ entered E t
  nodes_parts limit = sym (calls_split W n Q w.small limit most (fresh k)) ∙ fresh_nodes W n Q E p k t w (limit + most) (omega arith)

  -- at the end nothing is left
  module _ (limit : ℕ) (e : (drain W n Q limit (fresh k)).next ≡ ended) where
    pub slots_end : (drain W n Q limit (fresh k)).slots ≡ filter Q.match (slots t)
    slots_end = rw (e, drain_end W n Q w.small most, append-nil) at (slots_parts limit)

    pub nodes_end : calls W n Q limit (fresh k) ≡ entered E t
    nodes_end = rw (e, calls_end W n Q w.small most, append-nil) at (nodes_parts limit)
