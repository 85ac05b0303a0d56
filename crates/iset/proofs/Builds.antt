-- What a build guarantees: it accepts exactly what document 01 lets be built, and what it leaves
-- passes the check.
use Rattle.std.proofs.Common.{◌≡◌, ℕ, ◌/◌, ◌%◌, ◌≤◌, Bool, true, false, cond, eqb, ltb, List, length, refl, arith, ltb-false, le-ltb, eq-eqb, eqb-true}
use Rattle.words.specs.Nodes.{capacity}
use Rattle.builder.specs.Input.{all_proper_lem, sorted}
use Rattle.builder_laws.specs.Input.{Input}
use Rattle.builder_laws.specs.Built.{Built}
use Rattle.builder_laws.proofs.Tests.{tests_sound, tests_complete}
use Rattle.builder_laws.proofs.Builds.{build_passes}
use Rattle.iset.specs.Build.{build_number, build_call}
use Rattle.iset.specs.declared.Map.{Map}

-- whole triples, that the slices hold, proper and never falling
pub record Accepted (words bytes : ℕ) (S : List ℕ) : Type 0 where
  pub triples : length S % 3 ≡ 0
  pub room_for_lem : length S / 3 ≤ capacity words bytes
  pub input : Input S (length S / 3)

module _ (words bytes : ℕ) (S : List ℕ) where
  pub accepted : build_number words bytes S ≡ 0 → Accepted words bytes S
  unfolding build_number
  accepted e = go (eqb (length S % 3) 0) (ltb (capacity words bytes) (length S / 3)) (all_proper_lem S) (sorted S) refl refl refl refl e
    where
      go : (a b p q : Bool) → eqb (length S % 3) 0 ≡ a → ltb (capacity words bytes) (length S / 3) ≡ b → all_proper_lem S ≡ p → sorted S ≡ q
          → ◌≡◌ {A = ℕ} (cond a (cond b 1 (cond p (cond q 0 6) 5)) 8) 0 → Accepted words bytes S
      go true false true true f g h i z =
          record { triples = eqb-true (length S % 3) 0 f; room_for_lem = ltb-false (capacity words bytes) (length S / 3) g; input = tests_sound S h i }
      go true false true false f g h i z = absurd (omega arith)
      go true false false q f g h i z = absurd (omega arith)
      go true true p q f g h i z = absurd (omega arith)
      go false b p q f g h i z = absurd (omega arith)

  pub accepts : Accepted words bytes S → build_number words bytes S ≡ 0
  unfolding build_number
  accepts a =
      let t : (all_proper_lem S ≡ true) × (sorted S ≡ true) = tests_complete S a.input in
      rw (eq-eqb (length S % 3) 0 a.triples, le-ltb (capacity words bytes) (length S / 3) a.room_for_lem, t.0, t.1)

-- "The store after every build .. passes the check": the tree is the input in its order, entry k in
-- slot k, and the rest is kept
pub builds : (m : Map) (W C S : List ℕ) → build_number (length W) (length C) S ≡ 0
    → Built S W C (length S / 3) (build_call m W C S).words (build_call m W C S).colours (build_call m W C S).answer.map.root
unfolding build_call
builds m W C S e =
    let a : Accepted (length W) (length C) S = accepted (length W) (length C) S e in
    rw (eq-eqb (build_number (length W) (length C) S) 0 e)
    (build_passes S W C (length S / 3) (omega (arith, a.room_for_lem)) (omega (arith, a.room_for_lem)) (omega (arith, a.room_for_lem)) a.input)
