-- What an unloading promises determines its answer and every word that it was lent, in either
-- layout: stated of the generated postcondition.
use mathlib.Core.Path.{◌≡◌, sym, ap, ◌∙◌}
use mathlib.Core.Bool.{Bool}
use mathlib.Core.List.{List}
use Prim.Native.Nat.{ℕ}
use contract.Lifetimes.{Lfts}
use borrow.Fn.Kinds as K
use denote.Triple.Clauses.{AtExit}
use Rattle.words.specs.Layouts.{as_eight}
use Rattle.words.proofs.Layouts.{eight_injective}
use Rattle.tree_edit.specs.Store.{Store, store}
use Rattle.unload_core.proofs.unload_from.Reads as reads
use Rattle.unload_core.proofs.unload_from.Kinds as kinds

pub unload_from_determined : (κs : Lfts 2) (a : K.Dens κs kinds.ps) (r r' : (K.res_t kinds.r κs).Denot) (s s' : AtExit (K.ended_of 2 kinds.ps kinds.r) κs)
    → reads.Post κs a r s → reads.Post κs a r' s' → (r ≡ r') × (s.0.now ≡ s'.0.now) × (s.1.1.0.now ≡ s'.1.1.0.now)
unload_from_determined κs a r r' s s' p q =
    let narrow : Bool = a.1.0 in
    let N : List ℕ = s.0.now in
    let M : List ℕ = s'.0.now in
    let e : store (as_eight narrow N) s.1.1.0.now r.root ≡ store (as_eight narrow M) s'.1.1.0.now r'.root = p.0 ∙ sym q.0 in
    let f : r.count ≡ r'.count = p.1 ∙ sym q.1 in
    (λ t. record { count = f t; root = (e t).root }, eight_injective narrow N M (ap (λ (S : Store). S.words) e), ap (λ (S : Store). S.colours) e)
