-- Any two answers, and any two contents of each lent slice at exit, that a promise allows are
-- equal.
use Rattle.std.specs.Prelude.{Result, is_ok}
use mathlib.Core.Path.{◌≡◌, sym, ap, ◌∙◌}
use mathlib.Core.Bool.{Bool}
use mathlib.Core.List.{List}
use Prim.Native.Nat.{ℕ}
use contract.Lifetimes.{Lfts}
use borrow.Fn.Kinds as K
use denote.Triple.Clauses.{AtExit}
use Rattle.lines.specs.Output.{Page, page}
use Rattle.plan_text.specs.Reading.{Shelf, shelf, Stage, stage}
use Rattle.plan_text.specs.declared.reading.Flaw.{Flaw}
use Rattle.plan_text.specs.declared.reading.State.{State}
use Rattle.plan_text.proofs.memory.image_bytes.Reads as image-bytes-reads
use Rattle.plan_text.proofs.memory.image_bytes.Kinds as image-bytes-kinds
use Rattle.plan_text.proofs.memory.node_words.Reads as node-words-reads
use Rattle.plan_text.proofs.memory.node_words.Kinds as node-words-kinds
use Rattle.plan_text.proofs.memory.colour_bytes.Reads as colour-bytes-reads
use Rattle.plan_text.proofs.memory.colour_bytes.Kinds as colour-bytes-kinds
use Rattle.plan_text.proofs.memory.plan_numbers.Reads as plan-numbers-reads
use Rattle.plan_text.proofs.memory.plan_numbers.Kinds as plan-numbers-kinds
use Rattle.plan_text.proofs.memory.line_numbers.Reads as line-numbers-reads
use Rattle.plan_text.proofs.memory.line_numbers.Kinds as line-numbers-kinds
use Rattle.plan_text.proofs.writing.put_plan.Reads as put-plan-reads
use Rattle.plan_text.proofs.writing.put_plan.Kinds as put-plan-kinds
use Rattle.plan_text.proofs.writing.put_flaw.Reads as put-flaw-reads
use Rattle.plan_text.proofs.writing.put_flaw.Kinds as put-flaw-kinds
use Rattle.plan_text.proofs.reading.State.new.Reads as new-reads
use Rattle.plan_text.proofs.reading.State.new.Kinds as new-kinds
use Rattle.plan_text.proofs.reading.State.feed.Reads as feed-reads
use Rattle.plan_text.proofs.reading.State.feed.Kinds as feed-kinds
use Rattle.plan_text.proofs.reading.State.finish.Reads as finish-reads
use Rattle.plan_text.proofs.reading.State.finish.Kinds as finish-kinds

-- a page is its place and its bytes; a shelf its check, plan and lines; a stage has a state's parts
same_page : (p : Page) (r r' : ℕ) (o o' : List ℕ) → page r o ≡ p → page r' o' ≡ p → (r ≡ r') × (o ≡ o')
same_page p r r' o o' e f = (ap (λ (x : Page). x.at) (e ∙ sym f), ap (λ (x : Page). x.out) (e ∙ sym f))

same_shelf : (h : Shelf) (r r' : Result Unit Flaw) (P P' L L' : List ℕ) → shelf r P L ≡ h → shelf r' P' L' ≡ h → (r ≡ r') × (P ≡ P') × (L ≡ L')
same_shelf h r r' P P' L L' e f =
    (ap (λ (x : Shelf). x.checked) (e ∙ sym f), ap (λ (x : Shelf). x.plan) (e ∙ sym f), ap (λ (x : Shelf). x.lines) (e ∙ sym f))

abbrev state_of_lem : Stage → State
state_of_lem t = record { line = t.line; number = t.number; checked = t.shelf.checked }

same_stage : (t : Stage) (r r' : State) (P P' L L' : List ℕ) → stage r P L ≡ t → stage r' P' L' ≡ t → (r ≡ r') × (P ≡ P') × (L ≡ L')
same_stage t r r' P P' L L' e f =
    (ap state_of_lem (e ∙ sym f), ap (λ (x : Stage). x.shelf.plan) (e ∙ sym f), ap (λ (x : Stage). x.shelf.lines) (e ∙ sym f))

pub image-bytes-determined :
    (κs : Lfts 0) (a : K.Dens κs image-bytes-kinds.ps) (r r' : (K.res_t image-bytes-kinds.r κs).Denot) (s s' : AtExit (K.ended_of 0 image-bytes-kinds.ps image-bytes-kinds.r) κs)
    → image-bytes-reads.Post κs a r s → image-bytes-reads.Post κs a r' s' → r ≡ r'
image-bytes-determined κs a r r' s s' p q = p.0 ∙ sym q.0

pub node-words-determined :
    (κs : Lfts 0) (a : K.Dens κs node-words-kinds.ps) (r r' : (K.res_t node-words-kinds.r κs).Denot) (s s' : AtExit (K.ended_of 0 node-words-kinds.ps node-words-kinds.r) κs)
    → node-words-reads.Post κs a r s → node-words-reads.Post κs a r' s' → r ≡ r'
node-words-determined κs a r r' s s' p q = p.0 ∙ sym q.0

pub colour-bytes-determined :
    (κs : Lfts 0) (a : K.Dens κs colour-bytes-kinds.ps) (r r' : (K.res_t colour-bytes-kinds.r κs).Denot) (s s' : AtExit (K.ended_of 0 colour-bytes-kinds.ps colour-bytes-kinds.r) κs)
    → colour-bytes-reads.Post κs a r s → colour-bytes-reads.Post κs a r' s' → r ≡ r'
colour-bytes-determined κs a r r' s s' p q = p.0 ∙ sym q.0

pub plan-numbers-determined :
    (κs : Lfts 0) (a : K.Dens κs plan-numbers-kinds.ps) (r r' : (K.res_t plan-numbers-kinds.r κs).Denot) (s s' : AtExit (K.ended_of 0 plan-numbers-kinds.ps plan-numbers-kinds.r) κs)
    → plan-numbers-reads.Post κs a r s → plan-numbers-reads.Post κs a r' s' → r ≡ r'
plan-numbers-determined κs a r r' s s' p q = p.0 ∙ sym q.0

pub line-numbers-determined :
    (κs : Lfts 0) (a : K.Dens κs line-numbers-kinds.ps) (r r' : (K.res_t line-numbers-kinds.r κs).Denot) (s s' : AtExit (K.ended_of 0 line-numbers-kinds.ps line-numbers-kinds.r) κs)
    → line-numbers-reads.Post κs a r s → line-numbers-reads.Post κs a r' s' → r ≡ r'
line-numbers-determined κs a r r' s s' p q = p.0 ∙ sym q.0

pub put-plan-determined :
    (κs : Lfts 3) (a : K.Dens κs put-plan-kinds.ps) (r r' : (K.res_t put-plan-kinds.r κs).Denot) (s s' : AtExit (K.ended_of 3 put-plan-kinds.ps put-plan-kinds.r) κs)
    → put-plan-reads.Post κs a r s → put-plan-reads.Post κs a r' s' → (r ≡ r') × (s.1.0.now ≡ s'.1.0.now)
put-plan-determined κs a r r' s s' p q = same_page _ r r' _ _ p q

pub put-flaw-determined :
    (κs : Lfts 2) (a : K.Dens κs put-flaw-kinds.ps) (r r' : (K.res_t put-flaw-kinds.r κs).Denot) (s s' : AtExit (K.ended_of 2 put-flaw-kinds.ps put-flaw-kinds.r) κs)
    → put-flaw-reads.Post κs a r s → put-flaw-reads.Post κs a r' s' → (r ≡ r') × (s.1.0.now ≡ s'.1.0.now)
put-flaw-determined κs a r r' s s' p q = same_page _ r r' _ _ p q

pub new-determined :
    (κs : Lfts 0) (a : K.Dens κs new-kinds.ps) (r r' : (K.res_t new-kinds.r κs).Denot) (s s' : AtExit (K.ended_of 0 new-kinds.ps new-kinds.r) κs)
    → new-reads.Post κs a r s → new-reads.Post κs a r' s' → r ≡ r'
new-determined κs a r r' s s' p q = p ∙ sym q

pub feed-determined :
    (κs : Lfts 3) (a : K.Dens κs feed-kinds.ps) (r r' : (K.res_t feed-kinds.r κs).Denot) (s s' : AtExit (K.ended_of 3 feed-kinds.ps feed-kinds.r) κs)
    → feed-reads.Post κs a r s → feed-reads.Post κs a r' s' → (r ≡ r') × (s.1.1.0.now ≡ s'.1.1.0.now) × (s.1.1.1.0.now ≡ s'.1.1.1.0.now)
feed-determined κs a r r' s s' p q = same_stage _ r r' _ _ _ _ p q

pub finish-determined :
    (κs : Lfts 2) (a : K.Dens κs finish-kinds.ps) (r r' : (K.res_t finish-kinds.r κs).Denot) (s s' : AtExit (K.ended_of 2 finish-kinds.ps finish-kinds.r) κs)
    → finish-reads.Post κs a r s → finish-reads.Post κs a r' s' → (r ≡ r') × (s.1.0.now ≡ s'.1.0.now) × (s.1.1.0.now ≡ s'.1.1.0.now)
finish-determined κs a r r' s s' p q = same_shelf _ r r' _ _ _ _ p q

-- whether nothing is wrong with a plan, which std's `is_ok` tells of what `finish` returns
pub is-nothing-determined : (checked : Result Unit Flaw) (r r' : Bool) → r ≡ is_ok checked → r' ≡ is_ok checked → r ≡ r'
is-nothing-determined c r r' p q = p ∙ sym q
