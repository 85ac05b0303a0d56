-- What the repair of a removal promises determines its answer and every word that it was lent,
-- in either layout.
use mathlib.Core.Path.{◌≡◌}
use contract.Lifetimes.{Lfts}
use borrow.Fn.Kinds as K
use denote.Triple.Clauses.{AtExit}
use Rattle.tree_rm_repair.proofs.restructure_rm.Reads as reads
use Rattle.tree_rm_repair.proofs.restructure_rm.Kinds as kinds
use Rattle.tree_links.proofs.Determined.{repaired_told}

pub restructure_rm_determined : (κs : Lfts 2) (a : K.Dens κs kinds.ps) (r r' : (K.res_t kinds.r κs).Denot) (s s' : AtExit (K.ended_of 2 kinds.ps kinds.r) κs)
    → reads.Post κs a r s → reads.Post κs a r' s' → (r ≡ r') × (s.0.now ≡ s'.0.now) × (s.1.1.0.now ≡ s'.1.1.0.now)
restructure_rm_determined κs a r r' s s' p q = repaired_told a.1.0 _ _ _ _ _ _ r r' p.0 q.0 p.1 q.1
