-- What an insertion guarantees: it is refused exactly as document 02 says, and what it leaves
-- passes the check and holds the old entries in their slots and their order, with the new one among
-- them.
use Rattle.std.proofs.Common.{◌≡◌, ℕ, ◌<◌, ◌≤◌, Bool, true, false, cond, ltb, List, length, refl, arith, ltb-true, le-ltb, lt-ltb, ne_eqb}
use Rattle.words.specs.Nodes.{capacity}
use Rattle.words.specs.declared.node.Entry.{Entry}
use Rattle.tree.specs.Passes.{Passes}
use Rattle.tree_in_rule.specs.Insert.{insert_rule}
use Rattle.tree_in_rule.specs.InsertionGuarantee.{InsertionGuarantee}
use Rattle.tree_in_rule.proofs.Insertion.{inserted}
use Rattle.iset.specs.Check.{first, check_rule}
use Rattle.iset.specs.Insert.{full_number, open_insert_number, room_then_check, insert_number}
use Rattle.iset.specs.declared.Map.{Map}
use Rattle.iset.proofs.Checks.{both_zero, check_zero}

module _ (m : Map) (W C : List ℕ) (e : Entry) where
  abbrev held : ℕ
  held = capacity (length W) (length C)

  -- 1 if the count has reached the capacity or is above it
  pub no_room : held ≤ m.count → insert_number m W C e ≡ 1
  unfolding insert_number room_then_check full_number
  no_room h = rw (le-ltb m.count held h)

  -- then the check's refusal
  pub check_next : m.count < held → (check_rule m W C ≡ 0 → ⊥) → insert_number m W C e ≡ check_rule m W C
  unfolding insert_number room_then_check full_number
  check_next h d = rw (lt-ltb m.count held h, ne_eqb (check_rule m W C) 0 d)

  -- 5 exactly if the store has room and passes, and the interval holds no address
  pub bad_interval : m.count < held → check_rule m W C ≡ 0 → e.end ≤ e.start → insert_number m W C e ≡ 5
  unfolding insert_number open_insert_number room_then_check full_number
  bad_interval h c i = rw (lt-ltb m.count held h, c, le-ltb e.start e.end i)

  pub accepted : m.count < held → check_rule m W C ≡ 0 → e.start < e.end → insert_number m W C e ≡ 0
  unfolding insert_number open_insert_number room_then_check full_number
  accepted h c i = rw (lt-ltb m.count held h, c, lt-ltb e.start e.end i)

  pub has_room : full_number m W C ≡ 0 → m.count < held
  unfolding full_number
  has_room z = go (ltb m.count held) refl z
    where
      go : (a : Bool) → ltb m.count held ≡ a → ◌≡◌ {A = ℕ} (cond a 0 1) 0 → m.count < held
      go true p y = ltb-true m.count held p
      go false p y = absurd (omega arith)

  pub open_accepts : open_insert_number m W C e ≡ 0 → (m.count < held) × (e.start < e.end)
  unfolding open_insert_number
  open_accepts z =
      let y : (full_number m W C ≡ 0) × (◌≡◌ {A = ℕ} (cond (ltb e.start e.end) 0 5) 0) =
      both_zero (full_number m W C) (cond (ltb e.start e.end) 0 5) z in
      (has_room y.0, go (ltb e.start e.end) refl y.1)
    where
      go : (b : Bool) → ltb e.start e.end ≡ b → ◌≡◌ {A = ℕ} (cond b 0 5) 0 → e.start < e.end
      go true p y = ltb-true e.start e.end p
      go false p y = absurd (omega arith)

  pub accepts : insert_number m W C e ≡ 0 → (m.count < held) × (check_rule m W C ≡ 0) × (e.start < e.end)
  unfolding insert_number room_then_check
  accepts z =
      let y : (first (full_number m W C) (check_rule m W C) ≡ 0) × (open_insert_number m W C e ≡ 0) =
      both_zero (first (full_number m W C) (check_rule m W C)) (open_insert_number m W C e) z in
      ((open_accepts y.1).0, (both_zero (full_number m W C) (check_rule m W C) y.0).1, (open_accepts y.1).1)

  -- the tree of the store that an accepted insertion was made in
  pub tree_before : insert_number m W C e ≡ 0 → Passes W C m.count m.root
  tree_before z = (check_zero m W C (accepts z).1).1

  -- what the rule gives; `inserts` of Demands says it of the call
  pub by_rule_law : (z : insert_number m W C e ≡ 0) → InsertionGuarantee W C m.count m.root e (tree_before z) (insert_rule W C m.count m.root e)
  by_rule_law z =
      let h : m.count < held = (accepts z).0 in
      inserted W C m.count m.root e (omega arith) (omega arith) (omega arith) (accepts z).2 (tree_before z)
