-- The check's numbers say exactly what document 01's table says.
use Rattle.std.proofs.Common.{◌≡◌, ℕ, zero, suc, ◌<◌, ◌≤◌, Bool, true, false, cond, eqb, ltb, leb, List, length, sym, refl, ◌∙◌, true≢false, arith, ltb-false, ltb-true, le-ltb, lt-ltb, ne_eqb, leb-true}
use Rattle.words.specs.Nodes.{capacity}
use Rattle.tree.specs.Passes.{Passes}
use Rattle.audit.specs.Survey.{whole_of}
use Rattle.audit.proofs.Decides.{audit_sound, audit_complete}
use Rattle.iset.specs.Check.{count_number, check_rule}
use Rattle.iset.specs.declared.Map.{Map}

-- a refusal k that comes before x: none of the two was given
pub both_zero : (k x : ℕ) → cond (eqb k 0) x k ≡ 0 → (k ≡ 0) × (x ≡ 0)
both_zero zero x e = (refl, e)
both_zero (suc k) x e =
    let d : suc k ≡ 0 → ⊥ = λ i. omega arith in
    let y : suc k ≡ 0 = rw (ne_eqb (suc k) 0 d) at e in
    absurd (d y)

-- an output with a place for every entry
pub places_held : (n places : ℕ) → ◌≡◌ {A = ℕ} (cond (leb n places) 0 9) 0 → n ≤ places
places_held n places e = go (leb n places) refl e
  where
    go : (b : Bool) → leb n places ≡ b → ◌≡◌ {A = ℕ} (cond b 0 9) 0 → n ≤ places
    go true f y = leb-true n places f
    go false f y = absurd (omega arith)

module _ (m : Map) (W C : List ℕ) where
  abbrev held : ℕ
  held = capacity (length W) (length C)

  -- what the rule's two tests were, from its number
  pub cases : {X : Type 0} (k : ℕ) → check_rule m W C ≡ k → (held < m.count → 1 ≡ k → X) → (m.count ≤ held → Passes W C m.count m.root → 0 ≡ k → X)
      → (m.count ≤ held → (Passes W C m.count m.root → ⊥) → 2 ≡ k → X) → X
  unfolding check_rule
  cases {X = X} k e over sound broken = go (ltb held m.count) (whole_of W C m.count m.root) refl refl e
    where
      go : (a b : Bool) → ltb held m.count ≡ a → whole_of W C m.count m.root ≡ b → cond a 1 (cond b 0 2) ≡ k → X
      go true b p q f = over (ltb-true held m.count p) f
      go false true p q f =
          let h : m.count ≤ held = ltb-false held m.count p in
          sound h (audit_sound W C m.count m.root (omega arith) q) f
      go false false p q f =
          let h : m.count ≤ held = ltb-false held m.count p in
          broken h (λ s. true≢false (sym (audit_complete W C m.count m.root (omega arith) s) ∙ q)) f

  -- 1 exactly if the count is above capacity
  pub check_one : check_rule m W C ≡ 1 → held < m.count
  check_one e = cases 1 e (λ h z. h) (λ h s z. absurd (omega arith)) (λ h s z. absurd (omega arith))

  pub one_check : held < m.count → check_rule m W C ≡ 1
  unfolding check_rule
  one_check h = rw (lt-ltb held m.count h)

  -- 2 exactly if it is not, and the store does not pass
  pub check_two : check_rule m W C ≡ 2 → (m.count ≤ held) × (Passes W C m.count m.root → ⊥)
  check_two e = cases 2 e (λ h z. absurd (omega arith)) (λ h s z. absurd (omega arith)) (λ h s z. (h, s))

  pub two_check : m.count ≤ held → (Passes W C m.count m.root → ⊥) → check_rule m W C ≡ 2
  two_check h n = cases (check_rule m W C) refl (λ o z. absurd (omega arith)) (λ o s z. absurd (n s)) (λ o s z. sym z)

  -- 0 exactly if the count is within capacity and the store passes
  pub check_zero : check_rule m W C ≡ 0 → (m.count ≤ held) × Passes W C m.count m.root
  check_zero e = cases 0 e (λ h z. absurd (omega arith)) (λ h s z. (h, s)) (λ h s z. absurd (omega arith))

  pub zero_check : m.count ≤ held → Passes W C m.count m.root → check_rule m W C ≡ 0
  zero_check h s = cases (check_rule m W C) refl (λ o z. absurd (omega arith)) (λ o p z. sym z) (λ o n z. absurd (n s))

  -- what is left of it for an opened store
  pub count_zero : count_number m W C ≡ 0 → m.count ≤ held
  unfolding count_number
  count_zero e = go (ltb held m.count) refl e
    where
      go : (a : Bool) → ltb held m.count ≡ a → ◌≡◌ {A = ℕ} (cond a 1 0) 0 → m.count ≤ held
      go true p f = absurd (omega arith)
      go false p f = ltb-false held m.count p

  pub zero_count : m.count ≤ held → count_number m W C ≡ 0
  unfolding count_number
  zero_count h = rw (le-ltb held m.count h)

  pub checked_count : check_rule m W C ≡ 0 → count_number m W C ≡ 0
  checked_count e = zero_count (check_zero e).0
