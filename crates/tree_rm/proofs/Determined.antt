-- What a removal promises determines its answer and every word that it was lent, in either
-- layout: stated of the generated postcondition.
use mathlib.Core.Path.{◌≡◌, sym, ap, ◌∙◌}
use mathlib.Core.Bool.{Bool}
use mathlib.Core.List.{List}
use Prim.Native.Nat.{ℕ}
use contract.Lifetimes.{Lfts}
use borrow.Fn.Kinds as K
use denote.Triple.Clauses.{AtExit}
use Rattle.words.specs.Layouts.{as_eight}
use Rattle.words.proofs.Layouts.{eight_injective}
use Rattle.tree_rm_rule.specs.Remove as rule
use Rattle.tree_rm.specs.Answers.{removal}
use Rattle.tree_rm.specs.declared.remove.Removed.{Removed}
use Rattle.tree_rm.proofs.remove.remove_at.Reads as reads
use Rattle.tree_rm.proofs.remove.remove_at.Kinds as kinds

pub removal_told : (a b : Removed) (W X C D : List ℕ) → removal a W C ≡ removal b X D → a.reach ≡ b.reach → (a ≡ b) × (W ≡ X) × (C ≡ D)
removal_told a b W X C D e f = (
  λ t. record { value = (e t).value; root = (e t).store.root; pairs = (e t).pairs; reach = f t },
  ap (λ (R : rule.Removed). R.store.words) e,
  ap (λ (R : rule.Removed). R.store.colours) e,
)

pub remove_at_determined : (κs : Lfts 2) (a : K.Dens κs kinds.ps) (r r' : (K.res_t kinds.r κs).Denot) (s s' : AtExit (K.ended_of 2 kinds.ps kinds.r) κs)
    → reads.Post κs a r s → reads.Post κs a r' s' → (r ≡ r') × (s.0.now ≡ s'.0.now) × (s.1.1.0.now ≡ s'.1.1.0.now)
remove_at_determined κs a r r' s s' p q =
    let narrow : Bool = a.1.0 in
    let N : List ℕ = s.0.now in
    let M : List ℕ = s'.0.now in
    let (e, w, c) = removal_told r r' (as_eight narrow N) (as_eight narrow M) s.1.1.0.now s'.1.1.0.now (p.0 ∙ sym q.0) (p.1 ∙ sym q.1) in
    (e, eight_injective narrow N M w, c)
