-- The numbers of the public calls as document 01's table has them, each row once. By their rules
-- they are the check's and then the opened call's, which tests the count again.
use Rattle.std.proofs.Common.{◌≡◌, ℕ, zero, suc, Bool, true, false, cond, eqb, ltb, leb, List, length, refl, arith, ne_eqb}
use Rattle.words.specs.Nodes.{capacity}
use Rattle.words.specs.declared.node.Entry.{Entry}
use Rattle.iter.specs.Drains.{limit_of_lem}
use Rattle.iter.specs.Forms.{form_of}
use Rattle.iter.specs.declared.Cursor.{Cursor}
use Rattle.iter.specs.declared.rules.Query.{Query}
use Rattle.iset.specs.Check.{first, count_number, check_rule}
use Rattle.iset.specs.Remove.{open_remove_number, remove_number}
use Rattle.iset.specs.Insert.{full_number, open_insert_number, room_then_check, insert_number}
use Rattle.iset.specs.Lookup.{query_number, beginning, form_number, open_start_number, open_step_number, open_drain_number, start_number, step_number, drain_number}
use Rattle.iset.specs.Plain.{open_plain_number, plain_number}
use Rattle.image_rule.specs.Layout.{image_length_lem}
use Rattle.iset.specs.Image.{open_write_image_number, write_image_number}
use Rattle.tidy_rule.specs.Plan.{fits}
use Rattle.iset.specs.Tidy.{open_propose_number, propose_number, open_renumber_number, renumber_number}
use Rattle.iset.specs.Ticket.{ticket_number, open_read_number, read_number_lem}
use Rattle.iset.specs.declared.Map.{Map}
use Rattle.iset.specs.declared.ticket.Ticket.{Ticket}
use Rattle.iset.proofs.Checks.{checked_count}

-- a refusal d that is not given where k is not
passed_on : (k d x : ℕ) → (k ≡ 0 → d ≡ 0) → first k (first d x) ≡ first k x
passed_on zero d x f = rw (f refl) refl
passed_on (suc k) d x f = let n : eqb (suc k) 0 ≡ false = ne_eqb (suc k) 0 (λ e. omega arith) in rw n refl

grouped : (k d x : ℕ) → first k (first d x) ≡ first (first k d) x
grouped zero d x = refl
grouped (suc k) d x = let n : eqb (suc k) 0 ≡ false = ne_eqb (suc k) 0 (λ e. omega arith) in rw (n, n) refl

module _ (m : Map) (W C : List ℕ) where
  -- "remove 1, 2, 3"
  pub remove_order : (s : ℕ) → remove_number m W C s ≡ first (check_rule m W C) (cond (ltb s m.count) 0 3)
  unfolding remove_number open_remove_number
  remove_order s = passed_on (check_rule m W C) (count_number m W C) (cond (ltb s m.count) 0 3) (checked_count m W C)

  -- the check, then the ticket
  pub read_order : (t : Ticket) → read_number_lem m W C t ≡ first (check_rule m W C) (ticket_number m t)
  unfolding read_number_lem open_read_number
  read_order t = passed_on (check_rule m W C) (count_number m W C) (ticket_number m t) (checked_count m W C)

  -- the check, then an output with room for the image
  pub write_image_order : (places : ℕ)
      → write_image_number m W C places ≡ first (check_rule m W C) (cond (leb (image_length_lem m.count) places) 0 9)
  unfolding write_image_number open_write_image_number
  write_image_order places = passed_on (check_rule m W C) (count_number m W C) (cond (leb (image_length_lem m.count) places) 0 9) (checked_count m W C)

  -- the check, then an output with a place for every slot; the check, then the plan
  pub propose_order : (places : ℕ) → propose_number m W C places ≡ first (check_rule m W C) (cond (leb m.count places) 0 9)
  unfolding propose_number open_propose_number
  propose_order places = passed_on (check_rule m W C) (count_number m W C) (cond (leb m.count places) 0 9) (checked_count m W C)

  pub renumber_order : (plan : List ℕ) → renumber_number m W C plan ≡ first (check_rule m W C) (cond (fits m.count plan) 0 15)
  unfolding renumber_number open_renumber_number
  renumber_order plan = passed_on (check_rule m W C) (count_number m W C) (cond (fits m.count plan) 0 15) (checked_count m W C)

  -- a full store, then the check, then the interval
  pub insert_order : (e : Entry)
      → insert_number m W C e ≡ cond (ltb m.count (capacity (length W) (length C))) (first (check_rule m W C) (cond (ltb e.start e.end) 0 5)) 1
  unfolding insert_number room_then_check open_insert_number full_number
  insert_order e = go (ltb m.count (capacity (length W) (length C)))
    where
      go : (t : Bool) → first (first (cond t 0 1) (check_rule m W C)) (first (cond t 0 1) (cond (ltb e.start e.end) 0 5))
          ≡ cond t (first (check_rule m W C) (cond (ltb e.start e.end) 0 5)) 1
      go true = refl
      go false = refl

  -- the check, then the query
  pub start_order : (q : Query) → start_number m W C q ≡ first (check_rule m W C) (query_number q)
  unfolding start_number open_start_number
  start_order q = passed_on (check_rule m W C) (count_number m W C) (query_number q) (checked_count m W C)

  -- then an output with a place for every entry
  pub plain_order : (q : Query) (places : ℕ) → plain_number m W C q places ≡ first (start_number m W C q) (cond (leb m.count places) 0 9)
  unfolding start_number plain_number open_plain_number
  plain_order q places = grouped (check_rule m W C) (open_start_number m W C q) (cond (leb m.count places) 0 9)

  module _ (q : Query) (c : Cursor) where
    -- then the cursor
    pub step_order : step_number m W C q c ≡ first (start_number m W C q) (form_number (form_of W m.count (beginning m W q) c))
    unfolding start_number step_number open_step_number
    step_order = grouped (check_rule m W C) (open_start_number m W C q) (form_number (form_of W m.count (beginning m W q) c))

    -- "drain as its step, then 9"
    pub drain_order : (limit places : ℕ) → drain_number m W C q c limit places ≡ first (step_number m W C q c) (cond (ltb places (limit_of_lem limit places)) 9 0)
    unfolding step_number drain_number open_drain_number
    drain_order limit places = grouped (check_rule m W C) (open_step_number m W C q c) (cond (ltb places (limit_of_lem limit places)) 9 0)
