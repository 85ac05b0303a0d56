-- What a reading through a ticket accepts, and its code's tests in the form that `search` takes.
use Rattle.std.proofs.Common.{◌≡◌, ℕ, ◌+◌, ◌<◌, ◌≤◌, Bool, true, false, cond, eqb, ltb, List, length, sym, refl, arith, ltb-true, lt-ltb, ne_eqb, eqb-true}
use Rattle.words.specs.Nodes.{capacity}
use Rattle.words.specs.Layouts.{as_eight, HasIn}
use Rattle.iset.specs.Check.{count_number, check_rule}
use Rattle.iset.specs.Ticket.{age, ticket_number, open_read_number, read_number_lem}
use Rattle.iset.specs.declared.Map.{Map}
use Rattle.iset.specs.declared.ticket.Ticket.{Ticket}
use Rattle.iset.proofs.Layouts.{held_in}
use Rattle.iset.proofs.Checks.{both_zero, count_zero, checked_count}

module _ (m : Map) (W C : List ℕ) (t : Ticket) where
  abbrev distance : ℕ
  distance = age m.version t.version

  ticket_accepts : ticket_number m t ≡ 0 → (distance ≡ 0) × (t.slot < m.count)
  unfolding ticket_number
  ticket_accepts e = go (eqb distance 0) (ltb t.slot m.count) refl refl e
    where
      go : (a b : Bool) → eqb distance 0 ≡ a → ltb t.slot m.count ≡ b → ◌≡◌ {A = ℕ} (cond a (cond b 0 3) 11) 0
          → (distance ≡ 0) × (t.slot < m.count)
      go true true p q z = (eqb-true distance 0 p, ltb-true t.slot m.count q)
      go true false p q z = absurd (omega arith)
      go false b p q z = absurd (omega arith)

  pub open_accepts : open_read_number m W C t ≡ 0 → (m.count ≤ capacity (length W) (length C)) × (distance ≡ 0) × (t.slot < m.count)
  unfolding open_read_number
  open_accepts e =
      let z : (count_number m W C ≡ 0) × (ticket_number m t ≡ 0) = both_zero (count_number m W C) (ticket_number m t) e in
      let y : (distance ≡ 0) × (t.slot < m.count) = ticket_accepts z.1 in
      (count_zero m W C z.0, y.0, y.1)

  -- a store that passes, no change in between, and a slot that is there
  pub accepts : read_number_lem m W C t ≡ 0 → (check_rule m W C ≡ 0) × (distance ≡ 0) × (t.slot < m.count)
  unfolding read_number_lem
  accepts e =
      let z : (check_rule m W C ≡ 0) × (open_read_number m W C t ≡ 0) = both_zero (check_rule m W C) (open_read_number m W C t) e in
      (z.0, (open_accepts z.1).1, (open_accepts z.1).2)

  pub accepted : check_rule m W C ≡ 0 → distance ≡ 0 → t.slot < m.count → read_number_lem m W C t ≡ 0
  unfolding read_number_lem open_read_number ticket_number
  accepted e d h = rw (e, checked_count m W C e, d, lt-ltb t.slot m.count h)

  pub changed : check_rule m W C ≡ 0 → (distance ≡ 0 → ⊥) → read_number_lem m W C t ≡ 11
  unfolding read_number_lem open_read_number ticket_number
  changed e d = rw (e, checked_count m W C e, ne_eqb distance 0 d)

-- what the tests leave: a slot in the words
pub readable : (m : Map) (narrow : Bool) (N C : List ℕ) (t : Ticket) → 0 ≡ open_read_number m (as_eight narrow N) C t → HasIn narrow N t.slot
readable m narrow N C t e =
    let h = open_accepts m (as_eight narrow N) C t (sym e) in
    held_in narrow N (length C) (t.slot + 1) (omega (arith, h.0, h.2))
