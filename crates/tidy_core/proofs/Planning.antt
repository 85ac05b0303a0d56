-- The planner and the test of a plan against their rules, in the form that `search` takes.
use mathlib.Core.Path.{◌≡◌, refl, sym, ◌∙◌}
use mathlib.Core.Bool.{Bool, true, false, cond, not, ◌&&◌}
use mathlib.Core.List.{List, [], ◌∷◌}
use Prim.Native.Nat.{ℕ, zero, suc, ◌+◌, ◌-◌, ◌*◌, ◌<◌, ◌≤◌}
use native.Mathlib.Omega.{arith}
use native.Mathlib.Numerals.{add-one}
use native.Mathlib.Nat.{sub-zero}
use lib.Dec.{ltb}
use lib.ListN.{length, get_or, set, drop, replicate, drop_of_length-le}
use lib.Seq.{drop-cons}
use borrow.Author.Tests.{lt-ltb, le-ltb}
use Rattle.words.specs.Ix.{link_of}
use Rattle.std.specs.declared.option.Option.{Option}
use Rattle.std.specs.declared.option.Option.TheVariants.{Some, None}
use Rattle.words.proofs.Laws.{slot_live}
use Rattle.bitvec.specs.Bits.{bit_at, set_bit}
use Rattle.tree_links.proofs.LinkLaws.{read_linked, read_unlinked, slot_is}
use Rattle.plain_rule.specs.Tour.{next_of, first_of, tour, entries}
use Rattle.tidy_rule.specs.Plan.{fits, all_new, numbered, proposed}
use Rattle.tidy_rule.proofs.Marks.{new_fits}

-- a slot is a place of what has so many
module _ (n k s : ℕ) (l : Option ℕ) (e : l ≡ link_of n k) (q : l ≡ Some s) where
  pub slot_bytes : n ≤ 65535 → s * 8 < 18446744073709551616
  slot_bytes h = omega (arith, slot_live n k s l e q)

  pub slot_place : (len old : ℕ) → n ≤ old → len ≡ old → s < len
  slot_place len old h i = omega (arith, slot_live n k s l e q)

-- the planner after m slots: N is what it comes to
module _ (n : ℕ) (W : List ℕ) where
  pub number_begin : (r k : ℕ) (O : List ℕ) → k ≡ first_of n W r → proposed n W r O ≡ numbered 0 (tour n (n - 0) W k) O
  unfolding proposed entries
  number_begin r k O e = rw (sub-zero, ← e)

  module _ (N : List ℕ) (m k : ℕ) (O : List ℕ) (e : N ≡ numbered m (tour n (n - m) W k) O) where
    none : (l : Option ℕ) → l ≡ link_of n k → l ≡ None → tour n (n - m) W k ≡ []
    unfolding tour
    none l p q = go (n - m)
      where
        go : (f : ℕ) → tour n f W k ≡ []
        go zero = refl
        go (suc f) = sym (read_unlinked [] n k k l (λ (s : ℕ). k ∷ tour n f W (next_of n W k)) [] refl p q refl)

    some : (l : Option ℕ) (s : ℕ) → l ≡ link_of n k → l ≡ Some s → m < n → tour n (n - m) W k ≡ s ∷ tour n (n - (m + 1)) W (next_of n W s)
    unfolding tour
    some l s p q h = go (n - m) (omega arith)
      where
        go : (f : ℕ) → f ≡ suc (n - (m + 1)) → tour n f W k ≡ s ∷ tour n (n - (m + 1)) W (next_of n W s)
        go f i =
            let j : s ≡ k = slot_is n k s l p q in
            rw (i, j)
            (sym (read_linked (k ∷ tour n (n - (m + 1)) W (next_of n W k)) n k k l (λ (t : ℕ). k ∷ tour n (n - (m + 1)) W (next_of n W k)) [] refl p s q refl))

    pub number_none : (l : Option ℕ) → l ≡ link_of n k → l ≡ None → O ≡ N
    unfolding numbered
    number_none l p q = sym (rw (none l p q) at e)

    pub number_full : n ≤ m → O ≡ N
    unfolding numbered tour
    number_full h = let z : n - m ≡ 0 = omega arith in sym (rw z at e)

    pub number_on : (l : Option ℕ) (s u : ℕ) → l ≡ link_of n k → l ≡ Some s → m < n → u ≡ next_of n W s → N ≡ numbered (m + 1) (tour n (n - (m + 1)) W u) (set O s m)
    unfolding numbered
    number_on l s u p q h x = rw x (rw (some l s p q h) at e)

-- a mark
module _ (n v : ℕ) (M X : List ℕ) (b r : Bool) (e : b ≡ bit_at M v) where
  pub new_taken : v < n → b ≡ true → false ≡ ltb v n && not (bit_at M v)
  new_taken h t = rw (lt-ltb v n h, ← e, t) refl

  pub new_free : v < n → b ≡ false → true ≡ ltb v n && not (bit_at M v)
  new_free h t = rw (lt-ltb v n h, ← e, t) refl

pub new_out : (n v : ℕ) (t : Bool) → n ≤ v → false ≡ ltb v n && t
new_out n v t h = rw (le-ltb v n h) refl

-- the test after s numbers
module _ (n : ℕ) (P : List ℕ) (small : n ≤ 65535) (long : length P ≡ n) where
  pub test_begin : (M : List ℕ) → M ≡ replicate 8192 0 → fits n P ≡ all_new n M (drop 0 P)
  test_begin M e = rw e (sym (new_fits n P small long))

  module _ (M : List ℕ) (s : ℕ) (e : fits n P ≡ all_new n M (drop s P)) where
    step : s < length P → all_new n M (drop s P) ≡ (ltb (get_or P s 0) n && not (bit_at M (get_or P s 0))) && all_new n (set_bit M (get_or P s 0) true) (drop (s + 1) P)
    unfolding all_new
    step h = rw (drop-cons {A = ℕ} P s 0 h, add-one s) refl

    module _ (b : Bool) (X : List ℕ) (h : s < length P) (t : b ≡ ltb (get_or P s 0) n && not (bit_at M (get_or P s 0))) where
      pub test_on : b ≡ true → X ≡ cond b (set_bit M (get_or P s 0) true) M → fits n P ≡ all_new n X (drop (s + 1) P)
      test_on y x = e ∙ step h ∙ rw (x, ← t, y) refl

      pub test_stops : b ≡ false → false ≡ fits n P
      test_stops y = sym (e ∙ step h ∙ rw (← t, y) refl)

    pub test_ends : length P ≤ s → true ≡ fits n P
    unfolding all_new
    test_ends h = sym (e ∙ rw (drop_of_length-le P h) refl)
