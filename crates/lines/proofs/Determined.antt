-- Any two answers, and any two contents of each lent slice at exit, that a promise allows are
-- equal.
use mathlib.Core.Path.{◌≡◌, sym, ap, ◌∙◌}
use mathlib.Core.List.{List}
use Prim.Native.Nat.{ℕ}
use contract.Lifetimes.{Lfts}
use borrow.Fn.Kinds as K
use denote.Triple.Clauses.{AtExit}
use Rattle.lines.specs.Output.{Page, page}
use Rattle.lines.proofs.input.Line.new.Reads as new-reads
use Rattle.lines.proofs.input.Line.new.Kinds as new-kinds
use Rattle.lines.proofs.input.digit_of.Reads as digit-of-reads
use Rattle.lines.proofs.input.digit_of.Kinds as digit-of-kinds
use Rattle.lines.proofs.input.append_digit.Reads as append-digit-reads
use Rattle.lines.proofs.input.append_digit.Kinds as append-digit-kinds
use Rattle.lines.proofs.input.Line.byte.Reads as byte-Reads
use Rattle.lines.proofs.input.Line.byte.Kinds as byte-kinds
use Rattle.lines.proofs.input.Line.end.Reads as end_reads
use Rattle.lines.proofs.input.Line.end.Kinds as end-kinds
use Rattle.lines.proofs.input.Line.is_wrong.Reads as is-wrong-reads
use Rattle.lines.proofs.input.Line.is_wrong.Kinds as is-wrong-kinds
use Rattle.lines.proofs.output.flush.Reads as flush-reads
use Rattle.lines.proofs.output.flush.Kinds as flush-kinds
use Rattle.lines.proofs.output.put_byte.Reads as put-byte-reads
use Rattle.lines.proofs.output.put_byte.Kinds as put-byte-kinds
use Rattle.lines.proofs.output.put_text.Reads as put-text-reads
use Rattle.lines.proofs.output.put_text.Kinds as put-text-kinds
use Rattle.lines.proofs.output.put_number.Reads as put-number-reads
use Rattle.lines.proofs.output.put_number.Kinds as put-number-kinds
use Rattle.lines.proofs.output.put_next.Reads as put-next-reads
use Rattle.lines.proofs.output.put_next.Kinds as put-next-kinds

-- a page is its place and its bytes
same_page : (p : Page) (r r' : ℕ) (o o' : List ℕ) → page r o ≡ p → page r' o' ≡ p → (r ≡ r') × (o ≡ o')
same_page p r r' o o' e f = (ap (λ (x : Page). x.at) (e ∙ sym f), ap (λ (x : Page). x.out) (e ∙ sym f))

pub new-determined :
    (κs : Lfts 0) (a : K.Dens κs new-kinds.ps) (r r' : (K.res_t new-kinds.r κs).Denot) (s s' : AtExit (K.ended_of 0 new-kinds.ps new-kinds.r) κs)
    → new-reads.Post κs a r s → new-reads.Post κs a r' s' → r ≡ r'
new-determined κs a r r' s s' p q = p ∙ sym q

pub digit-of-determined :
    (κs : Lfts 0) (a : K.Dens κs digit-of-kinds.ps) (r r' : (K.res_t digit-of-kinds.r κs).Denot) (s s' : AtExit (K.ended_of 0 digit-of-kinds.ps digit-of-kinds.r) κs)
    → digit-of-reads.Post κs a r s → digit-of-reads.Post κs a r' s' → r ≡ r'
digit-of-determined κs a r r' s s' p q = p ∙ sym q

pub append-digit-determined :
    (κs : Lfts 0) (a : K.Dens κs append-digit-kinds.ps) (r r' : (K.res_t append-digit-kinds.r κs).Denot) (s s' : AtExit (K.ended_of 0 append-digit-kinds.ps append-digit-kinds.r) κs)
    → append-digit-reads.Post κs a r s → append-digit-reads.Post κs a r' s' → r ≡ r'
append-digit-determined κs a r r' s s' p q = p ∙ sym q

pub byte-determined :
    (κs : Lfts 2) (a : K.Dens κs byte-kinds.ps) (r r' : (K.res_t byte-kinds.r κs).Denot) (s s' : AtExit (K.ended_of 2 byte-kinds.ps byte-kinds.r) κs)
    → byte-Reads.Post κs a r s → byte-Reads.Post κs a r' s' → (r ≡ r') × (s.1.1.0.now ≡ s'.1.1.0.now) × (s.1.1.1.0.now ≡ s'.1.1.1.0.now)
byte-determined κs a r r' s s' p q = (p.0 ∙ sym q.0, p.1 ∙ sym q.1, p.2 ∙ sym q.2)

pub end-determined :
    (κs : Lfts 1) (a : K.Dens κs end-kinds.ps) (r r' : (K.res_t end-kinds.r κs).Denot) (s s' : AtExit (K.ended_of 1 end-kinds.ps end-kinds.r) κs)
    → end_reads.Post κs a r s → end_reads.Post κs a r' s' → (r ≡ r') × (s.1.0.now ≡ s'.1.0.now)
end-determined κs a r r' s s' p q = (p.0 ∙ sym q.0, p.1 ∙ sym q.1)

pub is-wrong-determined :
    (κs : Lfts 0) (a : K.Dens κs is-wrong-kinds.ps) (r r' : (K.res_t is-wrong-kinds.r κs).Denot) (s s' : AtExit (K.ended_of 0 is-wrong-kinds.ps is-wrong-kinds.r) κs)
    → is-wrong-reads.Post κs a r s → is-wrong-reads.Post κs a r' s' → r ≡ r'
is-wrong-determined κs a r r' s s' p q = p ∙ sym q

pub flush-determined :
    (κs : Lfts 2) (a : K.Dens κs flush-kinds.ps) (r r' : (K.res_t flush-kinds.r κs).Denot) (s s' : AtExit (K.ended_of 2 flush-kinds.ps flush-kinds.r) κs)
    → flush-reads.Post κs a r s → flush-reads.Post κs a r' s' → r ≡ r'
flush-determined κs a r r' s s' p q = p ∙ sym q

pub put-byte-determined :
    (κs : Lfts 2) (a : K.Dens κs put-byte-kinds.ps) (r r' : (K.res_t put-byte-kinds.r κs).Denot) (s s' : AtExit (K.ended_of 2 put-byte-kinds.ps put-byte-kinds.r) κs)
    → put-byte-reads.Post κs a r s → put-byte-reads.Post κs a r' s' → (r ≡ r') × (s.1.0.now ≡ s'.1.0.now)
put-byte-determined κs a r r' s s' p q = same_page _ r r' _ _ p q

pub put-text-determined :
    (κs : Lfts 3) (a : K.Dens κs put-text-kinds.ps) (r r' : (K.res_t put-text-kinds.r κs).Denot) (s s' : AtExit (K.ended_of 3 put-text-kinds.ps put-text-kinds.r) κs)
    → put-text-reads.Post κs a r s → put-text-reads.Post κs a r' s' → (r ≡ r') × (s.1.0.now ≡ s'.1.0.now)
put-text-determined κs a r r' s s' p q = same_page _ r r' _ _ p q

pub put-number-determined :
    (κs : Lfts 2) (a : K.Dens κs put-number-kinds.ps) (r r' : (K.res_t put-number-kinds.r κs).Denot) (s s' : AtExit (K.ended_of 2 put-number-kinds.ps put-number-kinds.r) κs)
    → put-number-reads.Post κs a r s → put-number-reads.Post κs a r' s' → (r ≡ r') × (s.1.0.now ≡ s'.1.0.now)
put-number-determined κs a r r' s s' p q = same_page _ r r' _ _ p q

pub put-next-determined :
    (κs : Lfts 2) (a : K.Dens κs put-next-kinds.ps) (r r' : (K.res_t put-next-kinds.r κs).Denot) (s s' : AtExit (K.ended_of 2 put-next-kinds.ps put-next-kinds.r) κs)
    → put-next-reads.Post κs a r s → put-next-reads.Post κs a r' s' → (r ≡ r') × (s.1.0.now ≡ s'.1.0.now)
put-next-determined κs a r r' s s' p q = same_page _ r r' _ _ p q
