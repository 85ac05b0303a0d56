-- What the code of the calls asks for, and what of it the check does not find alone.
use mathlib.Core.Path.{◌≡◌, refl, sym, ap, ◌∙◌}
use mathlib.Core.Bool.{Bool, true, false, cond}
use mathlib.Core.List.{List}
use Prim.Native.Nat.{ℕ}
use native.Mathlib.Omega.{arith}
use lib.ListN.{length}
use lib.Dec.{ltb}
use borrow.Author.Tests.{ne_eqb}
use Rattle.words.specs.Ix.{U}
use Rattle.words.specs.Nodes.{capacity}
use Rattle.words.specs.Layouts.{as_eight, HoldsIn}
use Rattle.words.specs.Refusals.{refusal_number}
use Rattle.words.specs.declared.node.Entry.{Entry}
use Rattle.words.specs.declared.refusal.Refusal.{Refusal}
use Rattle.iset.specs.Effects.{effect}
use Rattle.iset.specs.Check.{first, check_rule}
use Rattle.iset.specs.Insert.{full_number, open_insert_number, refused_insertion, insert_by, open_insert_call}
use Rattle.iset.specs.declared.Map.{Map}
use Rattle.iset.proofs.Checks.{check_zero}
use Rattle.iset.proofs.Layouts.{held_in}
use Rattle.disjoint.specs.Place.{met, trial_number, open_place_number, TrialAnswer, trial_by, unnamed, refused_placement, place_by, open_place_call}
use Rattle.disjoint.specs.declared.insert.Blocked.{Blocked}

-- what the check of crate iset leaves: words that hold the entries
pub checked_words : (m : Map) (narrow : Bool) (N C : List ℕ) → 0 ≡ check_rule m (as_eight narrow N) C → HoldsIn narrow N m.count
checked_words m narrow N C e = held_in narrow N (length C) m.count (check_zero m (as_eight narrow N) C (sym e)).0

-- an insertion of crate iset that is refused, as one of this crate: it names no slot
module _ (m : Map) (W C : List ℕ) (e : Entry) where
  -- it is not refused by 13
  no_thirteen : open_insert_number m W C e ≡ 13 → ⊥
  unfolding open_insert_number full_number
  no_thirteen z = go (ltb m.count (capacity (length W) (length C))) (ltb e.start e.end) z
    where
      go : (a b : Bool) → first (cond a 0 1) (cond b 0 5) ≡ 13 → ⊥
      go true true y = omega arith
      go true false y = omega arith
      go false b y = omega arith

  same_call : (k : ℕ) → (k ≡ 13 → ⊥) → insert_by m W C e k ≡ place_by m W C e k
  same_call k d = rw (ne_eqb k 13 d) refl

  pub placed_back : record { no = 0; slot = U } ≡ trial_by (trial_number m W C e.start e.end) (met W m.count m.root e.start e.end)
      → (z : Refusal) (X K : List ℕ) → effect (refused_insertion m (refusal_number z)) X K ≡ open_insert_call m W C e
      → (b : Blocked) → b ≡ unnamed z → effect (refused_placement m (refusal_number b.why) b.slot) X K ≡ open_place_call m W C e
  unfolding open_insert_call open_place_call open_place_number
  placed_back f z X K y b i =
      let k : 0 ≡ trial_number m W C e.start e.end = ap (λ (a : TrialAnswer). a.no) f in
      rw (i, ← k) (y ∙ same_call (open_insert_number m W C e) no_thirteen)
