-- Any two numbers that a call's promise allows are equal.
use mathlib.Core.Path.{◌≡◌, sym, ◌∙◌}
use contract.Lifetimes.{Lfts}
use borrow.Fn.Kinds as K
use denote.Triple.Clauses.{AtExit}
use Rattle.image_host.proofs.image_count.Reads as count-reads
use Rattle.image_host.proofs.image_count.Kinds as count-kinds
use Rattle.image_host.proofs.image_value.Reads as value-reads
use Rattle.image_host.proofs.image_value.Kinds as value-kinds
use Rattle.image_host.proofs.image_refusal.Reads as refusal-reads
use Rattle.image_host.proofs.image_refusal.Kinds as refusal-kinds

pub image-count-determined :
    (κs : Lfts 1) (a : K.Dens κs count-kinds.ps) (r r' : (K.res_t count-kinds.r κs).Denot) (s s' : AtExit (K.ended_of 1 count-kinds.ps count-kinds.r) κs)
    → count-reads.Post κs a r s → count-reads.Post κs a r' s' → r ≡ r'
image-count-determined κs a r r' s s' p q = p ∙ sym q

pub image-value-determined :
    (κs : Lfts 1) (a : K.Dens κs value-kinds.ps) (r r' : (K.res_t value-kinds.r κs).Denot) (s s' : AtExit (K.ended_of 1 value-kinds.ps value-kinds.r) κs)
    → value-reads.Post κs a r s → value-reads.Post κs a r' s' → r ≡ r'
image-value-determined κs a r r' s s' p q = p ∙ sym q

pub image-refusal-determined :
    (κs : Lfts 1) (a : K.Dens κs refusal-kinds.ps) (r r' : (K.res_t refusal-kinds.r κs).Denot)
    (s s' : AtExit (K.ended_of 1 refusal-kinds.ps refusal-kinds.r) κs)
    → refusal-reads.Post κs a r s → refusal-reads.Post κs a r' s' → r ≡ r'
image-refusal-determined κs a r r' s s' p q = p ∙ sym q
