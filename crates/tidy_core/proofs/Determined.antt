-- What a renumbering promises determines the root that it returns and every word that it was lent,
-- in either layout: stated of the generated postcondition.
use mathlib.Core.Path.{◌≡◌, sym, ◌∙◌}
use contract.Lifetimes.{Lfts}
use borrow.Fn.Kinds as K
use denote.Triple.Clauses.{AtExit}
use Rattle.words.proofs.Layouts.{eight_injective}
use Rattle.tidy_core.proofs.moves.renumber_in.Reads as reads
use Rattle.tidy_core.proofs.moves.renumber_in.Kinds as kinds

pub renumber_in_determined : (κs : Lfts 3) (a : K.Dens κs kinds.ps) (r r' : (K.res_t kinds.r κs).Denot) (s s' : AtExit (K.ended_of 3 kinds.ps kinds.r) κs)
    → reads.Post κs a r s → reads.Post κs a r' s' → (r ≡ r') × (s.0.now ≡ s'.0.now) × (s.1.1.0.now ≡ s'.1.1.0.now)
renumber_in_determined κs a r r' s s' p q =
    (p.0 ∙ sym q.0, eight_injective a.1.0 s.0.now s'.0.now (p.1 ∙ sym q.1), p.2 ∙ sym q.2)
