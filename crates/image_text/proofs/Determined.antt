-- Any two answers, and any two contents of each lent slice at exit, that a promise allows are
-- equal.
use mathlib.Core.Path.{◌≡◌, sym, ap, ◌∙◌}
use mathlib.Core.List.{List}
use Prim.Native.Nat.{ℕ}
use contract.Lifetimes.{Lfts}
use borrow.Fn.Kinds as K
use denote.Triple.Clauses.{AtExit}
use Rattle.lines.specs.Output.{Page, page}
use Rattle.image_text.specs.Reading.{Stage, stage}
use Rattle.image_text.specs.declared.reading.State.{State}
use Rattle.image_text.proofs.judging.check.Reads as check-reads
use Rattle.image_text.proofs.judging.check.Kinds as check-kinds
use Rattle.image_text.proofs.judging.number_of.Reads as number-of-reads
use Rattle.image_text.proofs.judging.number_of.Kinds as number-of-kinds
use Rattle.image_text.proofs.memory.image_bytes.Reads as image-bytes-reads
use Rattle.image_text.proofs.memory.image_bytes.Kinds as image-bytes-kinds
use Rattle.image_text.proofs.memory.input_bytes.Reads as input-bytes-reads
use Rattle.image_text.proofs.memory.input_bytes.Kinds as input-bytes-kinds
use Rattle.image_text.proofs.writing.put_refusal.Reads as put-refusal-reads
use Rattle.image_text.proofs.writing.put_refusal.Kinds as put-refusal-kinds
use Rattle.image_text.proofs.writing.put_image.Reads as put-image-reads
use Rattle.image_text.proofs.writing.put_image.Kinds as put-image-kinds
use Rattle.image_text.proofs.reading.State.new.Reads as new-reads
use Rattle.image_text.proofs.reading.State.new.Kinds as new-kinds
use Rattle.image_text.proofs.reading.State.feed.Reads as feed-reads
use Rattle.image_text.proofs.reading.State.feed.Kinds as feed-kinds
use Rattle.image_text.proofs.reading.State.finish.Reads as finish-reads
use Rattle.image_text.proofs.reading.State.finish.Kinds as finish-kinds

-- a page is its place and its bytes, a stage its state and its image
same_page : (p : Page) (r r' : ℕ) (o o' : List ℕ) → page r o ≡ p → page r' o' ≡ p → (r ≡ r') × (o ≡ o')
same_page p r r' o o' e f = (ap (λ (x : Page). x.at) (e ∙ sym f), ap (λ (x : Page). x.out) (e ∙ sym f))

same_stage : (t : Stage) (r r' : State) (I I' : List ℕ) → stage r I ≡ t → stage r' I' ≡ t → (r ≡ r') × (I ≡ I')
same_stage t r r' I I' e f = (ap (λ (x : Stage). x.state) (e ∙ sym f), ap (λ (x : Stage). x.image) (e ∙ sym f))

pub check-determined :
    (κs : Lfts 1) (a : K.Dens κs check-kinds.ps) (r r' : (K.res_t check-kinds.r κs).Denot) (s s' : AtExit (K.ended_of 1 check-kinds.ps check-kinds.r) κs)
    → check-reads.Post κs a r s → check-reads.Post κs a r' s' → r ≡ r'
check-determined κs a r r' s s' p q = p ∙ sym q

pub number-of-determined :
    (κs : Lfts 1) (a : K.Dens κs number-of-kinds.ps) (r r' : (K.res_t number-of-kinds.r κs).Denot) (s s' : AtExit (K.ended_of 1 number-of-kinds.ps number-of-kinds.r) κs)
    → number-of-reads.Post κs a r s → number-of-reads.Post κs a r' s' → r ≡ r'
number-of-determined κs a r r' s s' p q = p ∙ sym q

pub image-bytes-determined :
    (κs : Lfts 0) (a : K.Dens κs image-bytes-kinds.ps) (r r' : (K.res_t image-bytes-kinds.r κs).Denot) (s s' : AtExit (K.ended_of 0 image-bytes-kinds.ps image-bytes-kinds.r) κs)
    → image-bytes-reads.Post κs a r s → image-bytes-reads.Post κs a r' s' → r ≡ r'
image-bytes-determined κs a r r' s s' p q = p.0 ∙ sym q.0

pub input-bytes-determined :
    (κs : Lfts 0) (a : K.Dens κs input-bytes-kinds.ps) (r r' : (K.res_t input-bytes-kinds.r κs).Denot) (s s' : AtExit (K.ended_of 0 input-bytes-kinds.ps input-bytes-kinds.r) κs)
    → input-bytes-reads.Post κs a r s → input-bytes-reads.Post κs a r' s' → r ≡ r'
input-bytes-determined κs a r r' s s' p q = p.0 ∙ sym q.0

pub put-refusal-determined :
    (κs : Lfts 2) (a : K.Dens κs put-refusal-kinds.ps) (r r' : (K.res_t put-refusal-kinds.r κs).Denot) (s s' : AtExit (K.ended_of 2 put-refusal-kinds.ps put-refusal-kinds.r) κs)
    → put-refusal-reads.Post κs a r s → put-refusal-reads.Post κs a r' s' → (r ≡ r') × (s.1.0.now ≡ s'.1.0.now)
put-refusal-determined κs a r r' s s' p q = same_page _ r r' _ _ p q

pub put-image-determined :
    (κs : Lfts 3) (a : K.Dens κs put-image-kinds.ps) (r r' : (K.res_t put-image-kinds.r κs).Denot) (s s' : AtExit (K.ended_of 3 put-image-kinds.ps put-image-kinds.r) κs)
    → put-image-reads.Post κs a r s → put-image-reads.Post κs a r' s' → (r ≡ r') × (s.1.0.now ≡ s'.1.0.now)
put-image-determined κs a r r' s s' p q = same_page _ r r' _ _ p q

pub new-determined :
    (κs : Lfts 0) (a : K.Dens κs new-kinds.ps) (r r' : (K.res_t new-kinds.r κs).Denot) (s s' : AtExit (K.ended_of 0 new-kinds.ps new-kinds.r) κs)
    → new-reads.Post κs a r s → new-reads.Post κs a r' s' → r ≡ r'
new-determined κs a r r' s s' p q = p ∙ sym q

pub feed-determined :
    (κs : Lfts 2) (a : K.Dens κs feed-kinds.ps) (r r' : (K.res_t feed-kinds.r κs).Denot) (s s' : AtExit (K.ended_of 2 feed-kinds.ps feed-kinds.r) κs)
    → feed-reads.Post κs a r s → feed-reads.Post κs a r' s' → (r ≡ r') × (s.1.1.0.now ≡ s'.1.1.0.now)
feed-determined κs a r r' s s' p q = same_stage _ r r' _ _ p q

pub finish-determined :
    (κs : Lfts 1) (a : K.Dens κs finish-kinds.ps) (r r' : (K.res_t finish-kinds.r κs).Denot) (s s' : AtExit (K.ended_of 1 finish-kinds.ps finish-kinds.r) κs)
    → finish-reads.Post κs a r s → finish-reads.Post κs a r' s' → (r ≡ r') × (s.1.0.now ≡ s'.1.0.now)
finish-determined κs a r r' s s' p q = (p.0 ∙ sym q.0, p.1 ∙ sym q.1)
