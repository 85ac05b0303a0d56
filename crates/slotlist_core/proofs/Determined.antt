-- Any two answers, and any two contents of each lent slice at exit, that a promise allows are
-- equal.
use Rattle.std.specs.Prelude.{Result, Ok, Err}
use mathlib.Core.Path.{◌≡◌, refl, sym, ap, ◌∙◌}
use mathlib.Core.List.{[]}
use contract.Lifetimes.{Lfts}
use borrow.Fn.Kinds as K
use denote.Triple.Clauses.{AtExit}
use Rattle.slotlist_core.specs.Feeding.{Stage, stage, End}
use Rattle.words.specs.declared.refusal.Refusal.{Refusal}
use Rattle.words.proofs.Refusals.{refusal_at, at_number}
use Rattle.slotlist_core.specs.Working.{Job, Listing, Mapped, Refused, job}
use Rattle.slotlist_core.specs.declared.State.{State}
use Rattle.slotlist_core.specs.declared.working.Work.{Work}
use Rattle.slotlist_core.specs.declared.working.Work.TheVariants as work
use Rattle.slotlist_core.proofs.State.new.Reads as new-reads
use Rattle.slotlist_core.proofs.State.new.Kinds as new-kinds
use Rattle.slotlist_core.proofs.State.feed.Reads as feed-reads
use Rattle.slotlist_core.proofs.State.feed.Kinds as feed-kinds
use Rattle.slotlist_core.proofs.State.finish.Reads as finish-reads
use Rattle.slotlist_core.proofs.State.finish.Kinds as finish-kinds
use Rattle.slotlist_core.proofs.memory.node_words.Reads as node-words-reads
use Rattle.slotlist_core.proofs.memory.node_words.Kinds as node-words-kinds
use Rattle.slotlist_core.proofs.memory.colour_bytes.Reads as colour-bytes-reads
use Rattle.slotlist_core.proofs.memory.colour_bytes.Kinds as colour-bytes-kinds
use Rattle.slotlist_core.proofs.memory.entry_numbers.Reads as entry-numbers-reads
use Rattle.slotlist_core.proofs.memory.entry_numbers.Kinds as entry-numbers-kinds
use Rattle.slotlist_core.proofs.memory.text_bytes.Reads as text-bytes-reads
use Rattle.slotlist_core.proofs.memory.text_bytes.Kinds as text-bytes-kinds

pub new-determined :
    (κs : Lfts 0) (a : K.Dens κs new-kinds.ps) (r r' : (K.res_t new-kinds.r κs).Denot) (s s' : AtExit (K.ended_of 0 new-kinds.ps new-kinds.r) κs)
    → new-reads.Post κs a r s → new-reads.Post κs a r' s' → r ≡ r'
new-determined κs a r r' s s' p q = p ∙ sym q

-- the work that a job is read off, and the state in a turn
abbrev work_of : Job → Result Work Refusal
work_of (Listing n) = Ok (work.Listing n)
work_of (Mapped m) = Ok (work.Mapped m)
work_of (Refused k) = Err (refusal_at k)

of_job : (w : Result Work Refusal) → work_of (job w) ≡ w
of_job (Ok (work.Listing n)) = refl
of_job (Ok (work.Mapped m)) = refl
of_job (Err y) = ap (λ (z : Refusal). Err z) (at_number y)

abbrev state_of : Stage → State
state_of t = record { line = t.line; work = work_of t.desk.work }

of_stage : (s : State) → state_of (stage s [] [] []) ≡ s
of_stage s = λ i. record { line = s.line; work = of_job s.work i }

pub feed-determined :
    (κs : Lfts 4) (a : K.Dens κs feed-kinds.ps) (r r' : (K.res_t feed-kinds.r κs).Denot) (s s' : AtExit (K.ended_of 4 feed-kinds.ps feed-kinds.r) κs)
    → feed-reads.Post κs a r s → feed-reads.Post κs a r' s'
    → (r ≡ r') × (s.1.1.0.now ≡ s'.1.1.0.now) × (s.1.1.1.0.now ≡ s'.1.1.1.0.now)
    × (s.1.1.1.1.0.now ≡ s'.1.1.1.1.0.now)
feed-determined κs a r r' s s' p q =
    let e = p ∙ sym q in
    (sym (of_stage r) ∙ ap state_of e ∙ of_stage r', ap (λ (t : Stage). t.desk.nodes) e, ap (λ (t : Stage). t.desk.colours) e, ap (λ (t : Stage). t.desk.entries) e)

pub finish-determined :
    (κs : Lfts 4) (a : K.Dens κs finish-kinds.ps) (r r' : (K.res_t finish-kinds.r κs).Denot)
    (s s' : AtExit (K.ended_of 4 finish-kinds.ps finish-kinds.r) κs)
    → finish-reads.Post κs a r s → finish-reads.Post κs a r' s'
    → (r ≡ r') × (s.1.0.now ≡ s'.1.0.now) × (s.1.1.0.now ≡ s'.1.1.0.now) × (s.1.1.1.0.now ≡ s'.1.1.1.0.now)
    × (s.1.1.1.1.0.now ≡ s'.1.1.1.1.0.now)
finish-determined κs a r r' s s' p q =
    let e = p ∙ sym q in (
      ap (λ (t : End). t.page.at) e,
      ap (λ (t : End). t.nodes) e,
      ap (λ (t : End). t.colours) e,
      ap (λ (t : End). t.entries) e,
      ap (λ (t : End). t.page.out) e,
    )

pub node-words-determined :
    (κs : Lfts 0) (a : K.Dens κs node-words-kinds.ps) (r r' : (K.res_t node-words-kinds.r κs).Denot) (s s' : AtExit (K.ended_of 0 node-words-kinds.ps node-words-kinds.r) κs)
    → node-words-reads.Post κs a r s → node-words-reads.Post κs a r' s' → r ≡ r'
node-words-determined κs a r r' s s' p q = p.0 ∙ sym q.0

pub colour-bytes-determined :
    (κs : Lfts 0) (a : K.Dens κs colour-bytes-kinds.ps) (r r' : (K.res_t colour-bytes-kinds.r κs).Denot) (s s' : AtExit (K.ended_of 0 colour-bytes-kinds.ps colour-bytes-kinds.r) κs)
    → colour-bytes-reads.Post κs a r s → colour-bytes-reads.Post κs a r' s' → r ≡ r'
colour-bytes-determined κs a r r' s s' p q = p.0 ∙ sym q.0

pub entry-numbers-determined :
    (κs : Lfts 0) (a : K.Dens κs entry-numbers-kinds.ps) (r r' : (K.res_t entry-numbers-kinds.r κs).Denot) (s s' : AtExit (K.ended_of 0 entry-numbers-kinds.ps entry-numbers-kinds.r) κs)
    → entry-numbers-reads.Post κs a r s → entry-numbers-reads.Post κs a r' s' → r ≡ r'
entry-numbers-determined κs a r r' s s' p q = p.0 ∙ sym q.0

pub text-bytes-determined :
    (κs : Lfts 0) (a : K.Dens κs text-bytes-kinds.ps) (r r' : (K.res_t text-bytes-kinds.r κs).Denot) (s s' : AtExit (K.ended_of 0 text-bytes-kinds.ps text-bytes-kinds.r) κs)
    → text-bytes-reads.Post κs a r s → text-bytes-reads.Post κs a r' s' → r ≡ r'
text-bytes-determined κs a r r' s s' p q = p.0 ∙ sym q.0
