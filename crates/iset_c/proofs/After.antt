-- A slot that a host kept over a removal, by the numbers that the removal wrote: the entry of that
-- slot stands where `iset_slot_after` says.
use mathlib.Core.Path.{◌≡◌, refl, sym, ◌∙◌}
use mathlib.Core.Bool.{Bool, true, false, cond}
use mathlib.Core.List.{List}
use Prim.Native.Nat.{ℕ, ◌<◌}
use native.Mathlib.Omega.{arith}
use lib.ListN.{length}
use lib.Dec.{ltb}
use borrow.Author.Tests.{eq-eqb}
use Rattle.words.specs.Nodes.{entry}
use Rattle.iter.specs.Drains.{filled}
use Rattle.iset.specs.Remove.{remove_call, slot_after_lem}
use Rattle.iset.specs.declared.Map.{Map}
use Rattle.iset.proofs.After.{kept_slot}
use Rattle.iset.proofs.Refusals.{remove_no}
use Rattle.iset_c.specs.Replies.{Reply, number, handed, pairs_of, remove_reply, remove_exit}

-- an export that returns 0 has the answer of a call that was not refused
pub not_refused : (A : List ℕ) (R : Reply) → number true A R ≡ 0 → R.no ≡ 0
unfolding number
not_refused A R z = go (ltb (length A) (length R.numbers)) z
  where
    go : (b : Bool) → ◌≡◌ {A = ℕ} (cond b 101 R.no) 0 → R.no ≡ 0
    go true y = absurd (omega arith)
    go false y = y

module _ (A : List ℕ) (m : Map) (W C : List ℕ) (s : ℕ) (z : (remove_exit A m W C s).number ≡ 0) where
  pairs_handed : pairs_of (remove_exit A m W C s).answer ≡ (remove_call m W C s).answer.pairs
  unfolding handed filled
  pairs_handed = rw (eq-eqb (remove_exit A m W C s).number 0 z) refl

  pub kept_slot_handed : (a : ℕ) → a < m.count → (a ≡ s → ⊥)
      → (slot_after_lem (pairs_of (remove_exit A m W C s).answer) s a < (remove_call m W C s).answer.map.count)
      × (entry (remove_call m W C s).words (slot_after_lem (pairs_of (remove_exit A m W C s).answer) s a) ≡ entry W a)
  kept_slot_handed a h d =
      rw pairs_handed (kept_slot m W C s (sym (remove_no m W C s) ∙ not_refused A (remove_reply (remove_call m W C s).answer) z) a h d)
