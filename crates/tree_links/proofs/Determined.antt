-- A promise of a store and a sum determines the root, the sum and every word that a repair was
-- lent.
use mathlib.Core.Path.{◌≡◌, sym, ◌∙◌}
use mathlib.Core.Bool.{Bool}
use mathlib.Core.List.{List}
use Prim.Native.Nat.{ℕ}
use contract.Lifetimes.{Lfts}
use borrow.Fn.Kinds as K
use denote.Param.Laws.{Laws}
use denote.RattleType.{RattleType}
use denote.Triple.Clauses.{AtExit}
use mir.Syntax.{Dict}
use Rattle.words.specs.Layouts.{as_eight}
use Rattle.words.proofs.Layouts.{eight_injective}
use Rattle.tree_edit.specs.Store.{Store, store}
use Rattle.tree_edit.proofs.Told.{store_told}
use Rattle.tree_links.specs.declared.Repaired.{Repaired}
use Rattle.tree_links.specs.declared.Rounds.{Ghosts}
use Rattle.tree_links.proofs.repair.Reads as reads
use Rattle.tree_links.proofs.repair.Kinds as kinds

-- the root and the sum of a repair, and the words in either layout
pub repaired_told : (narrow : Bool) (S : Store) (k : ℕ) (N M C D : List ℕ) (a b : Repaired) → store (as_eight narrow N) C a.root ≡ S
    → store (as_eight narrow M) D b.root ≡ S → a.reach ≡ k → b.reach ≡ k → (a ≡ b) × (N ≡ M) × (C ≡ D)
repaired_told narrow S k N M C D a b e f g h =
    let (r, w, c) = store_told S (as_eight narrow N) (as_eight narrow M) C D a.root b.root e f in
    (λ t. record { root = r t; reach = (g ∙ sym h) t }, eight_injective narrow N M w, c)

-- what the repair over a round promises, for any type with a round: its answer and every word that
-- it was lent
pub repair_determined : (T : RattleType) (L : Laws T) (G : Ghosts T.Denot) (D : Dict) (κs : Lfts 3) (a : K.Dens κs (kinds.ps T L))
    (r r' : (K.res_t (kinds.r T L) κs).Denot) (s s' : AtExit (K.ended_of 3 (kinds.ps T L) (kinds.r T L)) κs) → reads.Post T L G D κs a r s → reads.Post T L G D κs a r' s'
    → (r ≡ r') × (s.0.now ≡ s'.0.now) × (s.1.1.0.now ≡ s'.1.1.0.now)
repair_determined T L G D κs a r r' s s' p q = repaired_told a.1.0 _ _ _ _ _ _ r r' p.0 q.0 p.1 q.1
