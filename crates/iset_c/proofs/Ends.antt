-- A step's slot alone says whether it is a hit: it is U exactly at the end. So the answer needs no
-- number for that.
use mathlib.Core.Path.{◌≡◌, refl}
use mathlib.Core.Bool.{Bool, true, false, cond, not}
use mathlib.Core.List.{List}
use Prim.Native.Nat.{ℕ, zero, suc, ◌+◌, ◌≤◌}
use native.Mathlib.Omega.{arith}
use lib.Dec.{eqb, ltb}
use borrow.Author.Tests.{eqb-true, ltb-true, ltb-false, eq-eqb, ne_eqb}
use Rattle.words.specs.Ix.{U}
use Rattle.iter.specs.Walk.{Rules, Answer, move, hits, hitting, ending, counts, fuel, seek, step}
use Rattle.iter.specs.Queries.{rules}
use Rattle.iter.specs.declared.Cursor.{Cursor}
use Rattle.iter.specs.declared.rules.Query.{Query}
use Rattle.iter.proofs.Steps.{hits_live}
use Rattle.iset.specs.Lookup.{step_number, step_call, step_done, refused_step}
use Rattle.iset.specs.declared.Map.{Map}
use Rattle.iset.proofs.Checks.{check_zero}
use Rattle.iset.proofs.Lookups.{start_accepts, step_accepts}

-- a walk ends at a slot that is live, or at U
module _ (W : List ℕ) (n : ℕ) (Q : Rules) where
  seek_slot : (f e : ℕ) (c : Cursor) → n ≤ (seek W n Q f e c).slot → (seek W n Q f e c).slot ≡ U
  unfolding seek
  seek_slot zero e c h = refl
  seek_slot (suc f) e c h =
      let d : Cursor = move W Q c in
      let r : Answer = seek W n Q f (e + counts n d) d in
      let i : n ≤ r.slot → r.slot ≡ U = seek_slot f (e + counts n d) d in
      go (ltb c.slot n) (hits n Q d) d r refl i h
    where
      go : (a b : Bool) (d : Cursor) (r : Answer) → hits n Q d ≡ b → (n ≤ r.slot → r.slot ≡ U)
          → n ≤ (cond a (cond b (hitting d e) r) (ending e)).slot → (cond a (cond b (hitting d e) r) (ending e)).slot ≡ U
      go false b d r q i k = refl
      go true false d r q i k = i k
      go true true d r q i k = absurd (omega (arith, hits_live W n Q d q))

told : (n s : ℕ) → n ≤ 65535 → (n ≤ s → s ≡ U) → eqb s U ≡ not (ltb s n)
told n s few h = go (ltb s n) refl
  where
    go : (b : Bool) → ltb s n ≡ b → eqb s U ≡ not b
    go true p = ne_eqb s U (λ e. omega (arith, ltb-true s n p))
    go false p = eq-eqb s U (h (ltb-false s n p))

module _ (m : Map) (W C : List ℕ) (q : Query) (c : Cursor) where
  few : step_number m W C q c ≡ 0 → m.count ≤ 65535
  few e = omega (arith, (check_zero m W C (start_accepts m W C q (step_accepts m W C q c e).0).0).0)

  accepted : (step_call m W C q c).no ≡ 0 → step_number m W C q c ≡ 0
  unfolding step_call
  accepted e = go (eqb (step_number m W C q c) 0) refl e
    where
      go : (b : Bool) → eqb (step_number m W C q c) 0 ≡ b
          → (cond b (step_done (ltb (step W m.count (rules W m.count q) c).slot m.count) (step W m.count (rules W m.count q) c))
          (refused_step c (step_number m W C q c))).no ≡ 0 → step_number m W C q c ≡ 0
      go true p z = eqb-true (step_number m W C q c) 0 p
      go false p z = z

  pub end_slot : (step_call m W C q c).no ≡ 0 → eqb (step_call m W C q c).slot U ≡ not (step_call m W C q c).hit
  unfolding step_call step
  end_slot e =
      let z : step_number m W C q c ≡ 0 = accepted e in
      rw (eq-eqb (step_number m W C q c) 0 z)
      (told m.count (step W m.count (rules W m.count q) c).slot (few z)
      (seek_slot W m.count (rules W m.count q) (fuel m.count) (counts m.count c) c))
