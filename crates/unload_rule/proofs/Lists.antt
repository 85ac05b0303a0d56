-- Lists of entries of which some go.
use mathlib.Core.Path.{◌≡◌, refl, sym, ap, ◌∙◌}
use mathlib.Core.Logic.{◌≢◌}
use mathlib.Core.Bool.{Bool, true, false, cond, ◌||◌, true≢false}
use mathlib.Core.List.{List, [], ◌∷◌, ◌++◌, map}
use Prim.Native.Nat.{ℕ, ◌+◌, ◌<◌, ◌≤◌}
use native.Mathlib.Omega.{arith}
use lib.ListN.{length}
use lib.Dec.{eqb}
use borrow.Author.Tests.{eq-eqb, ne_eqb}
use Rattle.words.specs.Ix.{U}
use Rattle.words.specs.Lists.{filter}
use Rattle.words.specs.declared.node.Entry.{Entry}
use Rattle.tree.specs.Tree.{times, without}
use Rattle.tree.proofs.Slots.{hit_same, hit_cases, hit_zero}
use Rattle.tree_rm_rule.proofs.Rows.{without_at}
use Rattle.iter.specs.Lists.{first_or}
use Rattle.unload_rule.specs.Swept.{stay, going}

-- of all entries, filter that stay and filter that go
pub stay_going : (g : Entry → Bool) (l : List Entry) → length (stay g l) + going g l ≡ length l
stay_going g [] = refl
stay_going g (e ∷ l) = go (g e) (stay_going g l)
  where
    go : (t : Bool) → length (stay g l) + going g l ≡ length l
        → length (cond t (stay g l) (e ∷ stay g l)) + cond t (going g l + 1) (going g l) ≡ length (e ∷ l)
    go true h = omega arith
    go false h = omega arith

-- one test after the other
pub stay_stay : (g h : Entry → Bool) (l : List Entry) → stay h (stay g l) ≡ stay (λ e. g e || h e) l
stay_stay g h [] = refl
stay_stay g h (e ∷ l) = go (g e) (stay_stay g h l)
  where
    go : (t : Bool) → stay h (stay g l) ≡ stay (λ e. g e || h e) l
        → stay h (cond t (stay g l) (e ∷ stay g l)) ≡ cond (t || h e) (stay (λ e. g e || h e) l) (e ∷ stay (λ e. g e || h e) l)
    go true q = q
    go false q = rw q

pub stay_same : (g h : Entry → Bool) (l : List Entry) → ((e : Entry) → g e ≡ h e) → stay g l ≡ stay h l
stay_same g h [] f = refl
stay_same g h (e ∷ l) f = rw (f e, stay_same g h l f)

pub or_swap : (a b : Bool) → (a || b) ≡ (b || a)
or_swap true true = refl
or_swap true false = refl
or_swap false true = refl
or_swap false false = refl

module _ (E : ℕ → Entry) (g : Entry → Bool) where
  abbrev p : ℕ → Bool
  p s = g (E s)

  -- what does not go is not the first that goes
  missed : (a : ℕ) (l : List ℕ) → a ≡ first_or U (filter p l) → g (E a) ≡ false → a < U → ⊥
  missed a [] e q h = omega arith
  missed a (b ∷ l) e q h = skip (g (E b)) refl e (λ f. missed a l f q h)
    where
      skip : (t : Bool) → g (E b) ≡ t → a ≡ first_or U (cond t (b ∷ filter p l) (filter p l)) → (a ≡ first_or U (filter p l) → ⊥) → ⊥
      skip true i f rec = true≢false (sym i ∙ ap (λ (c : ℕ). g (E c)) (sym f) ∙ q)
      skip false i f rec = rec f

  -- the first of filter that go is left out
  pub first_out : (l : List ℕ) (s : ℕ) → s ≡ first_or U (filter p l) → 0 < times s l → ((a : ℕ) → 0 < times a l → a < U) → ((a : ℕ) → times a l ≤ 1)
      → (stay g (map E (without s l)) ≡ stay g (map E l)) × (going g (map E (without s l)) + 1 ≡ going g (map E l))
  first_out [] s e o live one = absurd (omega arith)
  first_out (a ∷ l) s e o live one = go (g (E a)) refl (first_out l s)
    where
      go : (t : Bool) → g (E a) ≡ t
          → (s ≡ first_or U (filter p l) → 0 < times s l → ((b : ℕ) → 0 < times b l → b < U) → ((b : ℕ) → times b l ≤ 1)
          → (stay g (map E (without s l)) ≡ stay g (map E l)) × (going g (map E (without s l)) + 1 ≡ going g (map E l)))
          → (stay g (map E (cond (eqb a s) (without s l) (a ∷ without s l))) ≡ cond t (stay g (map E l)) (E a ∷ stay g (map E l)))
          × (going g (map E (cond (eqb a s) (without s l) (a ∷ without s l))) + 1 ≡ cond t (going g (map E l) + 1) (going g (map E l)))
      go true q rec =
          let f : s ≡ a = rw q at e in
          let z : times a l ≡ 0 = omega (arith, one a, hit_same a) in
          let w : without a (a ∷ l) ≡ l = without_at a [] l refl z in
          let v : without a l ≡ l = rw (eq-eqb a a refl) at w in
          rw (f, eq-eqb a a refl, v) (refl, refl)
      go false q rec =
          let f : s ≡ first_or U (filter p l) = rw q at e in
          hit_cases s a
          (λ i. absurd (missed a l (rw i at f) q (live a (omega (arith, hit_same a)))))
          (λ z. let d : s ≢ a = hit_zero s a z in
          let x = rec f (omega arith) (λ b j. live b (omega arith)) (λ b. omega (arith, one b)) in
          rw (ne_eqb a s (λ i. d (sym i)), q) (ap (λ (k : List Entry). E a ∷ k) x.0, x.1))

  -- none goes
  pub none_out : (l : List ℕ) → filter p l ≡ [] → (stay g (map E l) ≡ map E l) × (going g (map E l) ≡ 0)
  none_out [] e = (refl, refl)
  none_out (a ∷ l) e = go (g (E a)) e (none_out l)
    where
      go : (t : Bool) → cond t (a ∷ filter p l) (filter p l) ≡ [] → (filter p l ≡ [] → (stay g (map E l) ≡ map E l) × (going g (map E l) ≡ 0))
          → (cond t (stay g (map E l)) (E a ∷ stay g (map E l)) ≡ E a ∷ map E l) × (cond t (going g (map E l) + 1) (going g (map E l)) ≡ 0)
      go true q rec = let z : ◌≡◌ {A = ℕ} 1 0 = cc in absurd (omega arith)
      go false q rec = (ap (λ (k : List Entry). E a ∷ k) (rec q).0, (rec q).1)

-- a first one that is not live is none
pub no_first : (p : ℕ → Bool) (n : ℕ) (l : List ℕ) → ((a : ℕ) → 0 < times a l → a < n) → n ≤ first_or U (filter p l) → filter p l ≡ []
no_first p n [] live h = refl
no_first p n (a ∷ l) live h = go (p a) h (no_first p n l (λ b o. live b (omega arith)))
  where
    go : (t : Bool) → n ≤ first_or U (cond t (a ∷ filter p l) (filter p l)) → (n ≤ first_or U (filter p l) → filter p l ≡ []) → cond t (a ∷ filter p l) (filter p l) ≡ []
    go true q rec = absurd (omega (arith, live a (omega (arith, hit_same a))))
    go false q rec = rec q
