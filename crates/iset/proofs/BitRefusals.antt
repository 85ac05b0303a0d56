-- Demand 1 of the bit calls and the stack calls: each is refused with 10 exactly as its row says,
-- both ways; and a refused call answers the vector or the stack as given, with no bit, and leaves
-- the bytes.
use Rattle.std.proofs.Common.{◌≡◌, ℕ, ◌*◌, ◌<◌, ◌≤◌, Bool, true, false, cond, not, ◌&&◌, ltb, leb, ◌⊎◌, List, length, sym, refl, inl, inr, ⊎_elim, true≢false, arith, ltb-false, ltb-true, leb-false, leb-true}
use Rattle.bitvec.specs.Calls.{Bits, allowed, get_rule, set_rule, set_bytes, roomy, push_rule, push_bytes, pop_rule, swap_remove_rule, swap_remove_bytes, from_elem_rule, from_elem_bytes}
use Rattle.stack.specs.Calls.{Told, some, test_rule, mark_rule, is_empty_rule}
use Rattle.stack.specs.Calls as stack
use Rattle.stack.specs.declared.ActionStack.{ActionStack}
use Rattle.iset.specs.Refusals.{accept, refuse, Exactly, TooLong, PastLength, NoByteLeft, NoNextLength, Nothing, Full, TooDeep, bit_rows, push_rows, pop_rows, from_elem_rows, stack_push_rows, top_rows, is_empty_rows}

-- a test fails exactly if P
abbrev pub Fails : Bool → Type 0 → Type 0
Fails t P = (t ≡ true → P → ⊥) × (t ≡ false → P)

lt_fails : (a b : ℕ) → Fails (ltb a b) (b ≤ a)
lt_fails a b = (λ t p. omega (arith, ltb-true a b t), ltb-false a b)

pub le_fails : (a b : ℕ) → Fails (leb a b) (b < a)
le_fails a b = (λ t p. omega (arith, leb-true a b t), leb-false a b)

pub and_fails : (a b : Bool) (P Q : Type 0) → Fails a P → Fails b Q → Fails (a && b) (P ⊎ Q)
and_fails true b P Q f g = (λ t. ⊎_elim (f.0 refl) (g.0 t), λ t. inr (g.1 t))
and_fails false b P Q f g = (λ t. absurd (true≢false (sym t)), λ t. inl (f.1 refl))

-- and so exactly if Q, which says the same
so : (t : Bool) (P Q : Type 0) → Fails t P → (P → Q) → (Q → P) → Fails t Q
so t P Q f g h = (λ e q. f.0 e (h q), λ e. g (f.1 e))

-- a call that answers x where a test is passed, and else y, which is BadBit
by_test : {A : Type 0} (f : A → ℕ) (P : Type 0) (t : Bool) (x y : A) → f x ≡ 0 → f y ≡ 10 → Fails t P → Exactly (refuse 10 P accept) (f (cond t x y))
by_test f P true x y a b p = ((λ i. absurd (omega arith), λ h. absurd (p.0 refl h)), λ n. a)
by_test f P false x y a b p = ((λ i. p.1 refl, λ h. b), λ n. absurd (n (p.1 refl)))

-- where it is refused it answers y, and leaves what it leaves then
refused_is : {A B : Type 0} (f : A → ℕ) (t : Bool) (x y : A) (X Y : B) → f x ≡ 0 → (f (cond t x y) ≡ 0 → ⊥) → (cond t x y ≡ y) × (cond t X Y ≡ Y)
refused_is f true x y X Y a d = absurd (d a)
refused_is f false x y X Y a d = (refl, refl)

-- the bit calls
abbrev bits_no : Bits → ℕ
bits_no x = x.no

module _ (s : List ℕ) (len : ℕ) where
  module _ (i : ℕ) where
    allowed_fails : Fails (allowed (length s) len i) (TooLong s len ⊎ PastLength len i)
    unfolding allowed
    allowed_fails = and_fails (leb len (length s * 8)) (ltb i len) (TooLong s len) (PastLength len i) (le_fails len (length s * 8)) (lt_fails i len)

    pub get_refusals : Exactly (bit_rows s len i) (get_rule s len i).no
    unfolding get_rule
    get_refusals = by_test bits_no _ (allowed (length s) len i) _ _ refl refl allowed_fails

    pub get_leaves : ((get_rule s len i).no ≡ 0 → ⊥) → get_rule s len i ≡ record { no = 10; bit = false; len = len }
    unfolding get_rule
    get_leaves d = (refused_is bits_no (allowed (length s) len i) _ _ s s refl d).0

    pub set_refusals : Exactly (bit_rows s len i) (set_rule s len i).no
    unfolding set_rule
    set_refusals = by_test bits_no _ (allowed (length s) len i) _ _ refl refl allowed_fails

    pub set_leaves : (v : Bool) → ((set_rule s len i).no ≡ 0 → ⊥)
        → (set_rule s len i ≡ record { no = 10; bit = false; len = len }) × (set_bytes s len i v ≡ s)
    unfolding set_rule set_bytes
    set_leaves v d = refused_is bits_no (allowed (length s) len i) _ _ _ s refl d

    pub swap_remove_refusals : Exactly (bit_rows s len i) (swap_remove_rule s len i).no
    unfolding swap_remove_rule
    swap_remove_refusals = by_test bits_no _ (allowed (length s) len i) _ _ refl refl allowed_fails

    pub swap_remove_leaves : ((swap_remove_rule s len i).no ≡ 0 → ⊥)
        → (swap_remove_rule s len i ≡ record { no = 10; bit = false; len = len }) × (swap_remove_bytes s len i ≡ s)
    unfolding swap_remove_rule swap_remove_bytes
    swap_remove_leaves d = refused_is bits_no (allowed (length s) len i) _ _ _ s refl d

  roomy_fails : Fails (roomy (length s) len) (TooLong s len ⊎ (NoByteLeft s len ⊎ NoNextLength len))
  unfolding roomy
  roomy_fails =
      so (ltb len (length s * 8) && ltb len 18446744073709551615) (NoByteLeft s len ⊎ NoNextLength len) _
      (and_fails (ltb len (length s * 8)) (ltb len 18446744073709551615) (NoByteLeft s len) (NoNextLength len) (lt_fails len (length s * 8))
      (lt_fails len 18446744073709551615))
      inr (⊎_elim (λ h. inl (omega arith)) (λ h. h))

  pub push_refusals : Exactly (push_rows s len) (push_rule s len).no
  unfolding push_rule
  push_refusals = by_test bits_no _ (roomy (length s) len) _ _ refl refl roomy_fails

  pub push_leaves : (v : Bool) → ((push_rule s len).no ≡ 0 → ⊥)
      → (push_rule s len ≡ record { no = 10; bit = false; len = len }) × (push_bytes s len v ≡ s)
  unfolding push_rule push_bytes
  push_leaves v d = refused_is bits_no (roomy (length s) len) _ _ _ s refl d

  pub pop_refusals : Exactly (pop_rows s len) (pop_rule s len).no
  unfolding pop_rule
  pop_refusals =
      by_test bits_no _ (allowed (length s) len 0) _ _ refl refl
      (so (allowed (length s) len 0) (TooLong s len ⊎ PastLength len 0) (TooLong s len ⊎ Nothing len) (allowed_fails 0)
      (⊎_elim inl (λ h. inr (omega arith))) (⊎_elim inl (λ h. inr (omega arith))))

  pub pop_leaves : ((pop_rule s len).no ≡ 0 → ⊥) → pop_rule s len ≡ record { no = 10; bit = false; len = len }
  unfolding pop_rule
  pop_leaves d = (refused_is bits_no (allowed (length s) len 0) _ _ s s refl d).0

  pub from_elem_refusals : Exactly (from_elem_rows s len) (from_elem_rule s len).no
  unfolding from_elem_rule
  from_elem_refusals = by_test bits_no _ (leb len (length s * 8)) _ _ refl refl (le_fails len (length s * 8))

  -- no vector was given: its length is 0
  pub from_elem_leaves : (v : Bool) → ((from_elem_rule s len).no ≡ 0 → ⊥)
      → (from_elem_rule s len ≡ record { no = 10; bit = false; len = 0 }) × (from_elem_bytes s len v ≡ s)
  unfolding from_elem_rule from_elem_bytes
  from_elem_leaves v d = refused_is bits_no (leb len (length s * 8)) _ _ _ s refl d

-- the stack calls
abbrev told_no : Told → ℕ
told_no x = x.no

module _ (s : ActionStack) where
  some_fails : Fails (some s) (Nothing s.levels ⊎ TooDeep s)
  unfolding some
  some_fails =
      so (leb 1 s.levels && leb s.levels 32) ((s.levels < 1) ⊎ TooDeep s) _
      (and_fails (leb 1 s.levels) (leb s.levels 32) (s.levels < 1) (TooDeep s) (le_fails 1 s.levels) (le_fails s.levels 32))
      (⊎_elim (λ h. inl (omega arith)) inr) (⊎_elim (λ h. inl (omega arith)) inr)

  -- `can_go_left`, `can_match` and `can_go_right`, by the states that they accept
  pub test_refusals : (accepts : ℕ → Bool) → Exactly (top_rows s) (test_rule accepts s).no
  unfolding test_rule
  test_refusals accepts = by_test told_no _ (some s) _ _ refl refl some_fails

  pub test_leaves : (accepts : ℕ → Bool) → ((test_rule accepts s).no ≡ 0 → ⊥) → test_rule accepts s ≡ record { no = 10; yes = false; stack = s }
  unfolding test_rule
  test_leaves accepts d = (refused_is told_no (some s) _ _ s s refl d).0

  -- `go_left`, `make_match` and `go_right`, by the state that they give
  pub mark_refusals : (gives : ℕ → ℕ) → Exactly (top_rows s) (mark_rule gives s).no
  unfolding mark_rule
  mark_refusals gives = by_test told_no _ (some s) _ _ refl refl some_fails

  pub mark_leaves : (gives : ℕ → ℕ) → ((mark_rule gives s).no ≡ 0 → ⊥) → mark_rule gives s ≡ record { no = 10; yes = false; stack = s }
  unfolding mark_rule
  mark_leaves gives d = (refused_is told_no (some s) _ _ s s refl d).0

  pub stack_pop_refusals : Exactly (top_rows s) (stack.pop_rule s).no
  unfolding stack.pop_rule
  stack_pop_refusals = by_test told_no _ (some s) _ _ refl refl some_fails

  pub stack_pop_leaves : ((stack.pop_rule s).no ≡ 0 → ⊥) → stack.pop_rule s ≡ record { no = 10; yes = false; stack = s }
  unfolding stack.pop_rule
  stack_pop_leaves d = (refused_is told_no (some s) _ _ s s refl d).0

  pub is_empty_refusals : Exactly (is_empty_rows s) (is_empty_rule s).no
  unfolding is_empty_rule
  is_empty_refusals = by_test told_no _ (leb s.levels 32) _ _ refl refl (le_fails s.levels 32)

  pub is_empty_leaves : ((is_empty_rule s).no ≡ 0 → ⊥) → is_empty_rule s ≡ record { no = 10; yes = false; stack = s }
  unfolding is_empty_rule
  is_empty_leaves d = (refused_is told_no (leb s.levels 32) _ _ s s refl d).0

  -- a push is refused where its test is passed
  turned : {A : Type 0} (t : Bool) (x y : A) → cond t x y ≡ cond (not t) y x
  turned true x y = refl
  turned false x y = refl

  full_fails : (t : Bool) → leb 32 s.levels ≡ t → Fails (not t) (Full s ⊎ TooDeep s)
  full_fails true e = (λ i. absurd (true≢false (sym i)), λ i. go (leb s.levels 32) refl (leb-true 32 s.levels e))
    where
      go : (b : Bool) → leb s.levels 32 ≡ b → 32 ≤ s.levels → Full s ⊎ TooDeep s
      go true f h = inl (omega (arith, leb-true s.levels 32 f))
      go false f h = inr (leb-false s.levels 32 f)
  full_fails false e =
      let h : s.levels < 32 = leb-false 32 s.levels e in
      (λ i. ⊎_elim (λ p. omega arith) (λ p. omega arith), λ i. absurd (true≢false i))

  pub stack_push_refusals : Exactly (stack_push_rows s) (stack.push_rule s).no
  unfolding stack.push_rule
  stack_push_refusals =
      rw (turned (leb 32 s.levels) (stack.bad_bit s) _) (by_test told_no _ (not (leb 32 s.levels)) _ _ refl refl (full_fails (leb 32 s.levels) refl))

  pub stack_push_leaves : ((stack.push_rule s).no ≡ 0 → ⊥) → stack.push_rule s ≡ record { no = 10; yes = false; stack = s }
  unfolding stack.push_rule
  stack_push_leaves d =
      rw (turned (leb 32 s.levels) (stack.bad_bit s) _)
      (refused_is told_no (not (leb 32 s.levels)) _ _ s s refl (rw (turned (leb 32 s.levels) (stack.bad_bit s) _) at d)).0
