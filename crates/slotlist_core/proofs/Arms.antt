-- What the code's cases say of a rule, in the form that `search` takes.
use Rattle.std.specs.Prelude.{Result, Ok, Err}
use mathlib.Core.Path.{◌≡◌, refl, sym, ap, ◌∙◌}
use mathlib.Core.Bool.{Bool, true, false, cond}
use mathlib.Core.List.{List}
use Prim.Native.Nat.{ℕ, ◌+◌, ◌*◌, ◌/◌, ◌≤◌, min}
use native.Mathlib.Omega.{arith}
use lib.ListN.{length, take}
use lib.Dec.{ltb, leb}
use borrow.Author.Tests.{leb-true, ne_eqb}
use Rattle.words.specs.Refusals.{refusal_number}
use Rattle.words.specs.declared.refusal.Refusal.{Refusal}
use Rattle.words.proofs.Refusals.{number_pos}
use Rattle.iset.specs.Effects.{effect}
use Rattle.iset.specs.Build.{build_answer, build_call}
use Rattle.iset.specs.Remove.{remove_answer, remove_call}
use Rattle.iset.specs.Maps.{empty_map}
use Rattle.iset.specs.declared.Map.{Map}
use Rattle.iset.specs.declared.remove.Removed.{Removed}
use Rattle.slotlist_core.specs.Reading.{byte_rule, end_rule, new_rule}
use Rattle.slotlist_core.specs.Working.{Job, Mapped, Refused, job, Desk, desk, room_for, entered_work, entered_list, listed_in, work_left, build_left, remove_left}
use Rattle.slotlist_core.specs.Working.{built_in, removal_in, settled_in, removed_in, wrong_in, on_desk, line_in}
use Rattle.slotlist_core.specs.Feeding.{Stage, stage, stepped, lined, last_line_lem}
use Rattle.slotlist_core.specs.declared.State.{State}
use Rattle.slotlist_core.specs.declared.reading.Line.TheVariants.{Start}
use Rattle.slotlist_core.specs.declared.reading.Said.{Said}
use Rattle.slotlist_core.specs.declared.reading.Said.TheVariants.{Entry, Remove, Other}
use Rattle.slotlist_core.specs.declared.working.Work.{Work}
use Rattle.slotlist_core.specs.declared.working.Work.TheVariants as work

-- room for one more entry
module _ (n len : ℕ) (t : Bool) (e : t ≡ room_for n len) (q : t ≡ true) where
  pub room_fits : n * 3 + 3 ≤ len
  unfolding room_for
  room_fits = go (ltb n 256) (leb (n * 3 + 3) len) refl (sym e ∙ q)
    where
      go : (a b : Bool) → leb (n * 3 + 3) len ≡ b → cond a b false ≡ true → n * 3 + 3 ≤ len
      go true true g z = leb-true (n * 3 + 3) len g
      go true false g z = let y : ◌≡◌ {A = ℕ} 0 1 = cc in absurd (omega arith)
      go false b g z = let y : ◌≡◌ {A = ℕ} 0 1 = cc in absurd (omega arith)

-- what a call leads to where it is done, and where it is refused
work_refused : (y : Refusal) (m : Map) → work_left (refusal_number y) m ≡ Refused (refusal_number y)
work_refused y m = rw (ne_eqb (refusal_number y) 0 (λ f. omega (arith, number_pos y)))

module _ (b : Result Map Refusal) (n m : ℕ) (W C E X K : List ℕ) (f : m ≡ min n (length E / 3)) (z : Map) (p : z ≡ empty_map)
    (e : effect (build_answer z b) X K ≡ build_call z W C (take (m * 3) E)) where
  build_left_lem : (r : Job) → r ≡ work_left (build_answer z b).no (build_answer z b).map → effect r X K ≡ built_in W C (listed_in n E)
  unfolding built_in listed_in
  build_left_lem r h =
      rw (← f) (ap (λ (w : Job). effect w X K) h ∙ ap build_left (e ∙ ap (λ (y : Map). build_call y W C (take (m * 3) E)) p))

  pub build_done : (r : Job) (o : Map) → b ≡ Ok o → r ≡ Mapped o → effect r X K ≡ built_in W C (listed_in n E)
  build_done r o d h = build_left_lem r (rw d h)

  pub build_refused : (r : Job) (y : Refusal) → b ≡ Err y → r ≡ Refused (refusal_number y) → effect r X K ≡ built_in W C (listed_in n E)
  build_refused r y d h = build_left_lem r (rw d (h ∙ sym (work_refused y _)))

module _ (b : Result Removed Refusal) (m : Map) (k : ℕ) (W C X K : List ℕ) (e : effect (remove_answer m b) X K ≡ remove_call m W C k) where
  remove_left_lem : (r : Job) → r ≡ work_left (remove_answer m b).no (remove_answer m b).map → effect r X K ≡ removal_in m W C k
  unfolding removal_in
  remove_left_lem r h = ap (λ (w : Job). effect w X K) h ∙ ap remove_left e

  pub remove_done_lem : (r : Job) (g : Removed) → b ≡ Ok g → r ≡ Mapped g.map → effect r X K ≡ removal_in m W C k
  remove_done_lem r g d h = remove_left_lem r (rw d h)

  pub remove_refused : (r : Job) (y : Refusal) → b ≡ Err y → r ≡ Refused (refusal_number y) → effect r X K ≡ removal_in m W C k
  remove_refused r y d h = remove_left_lem r (rw d (h ∙ sym (work_refused y _)))

-- one line
other_line : (w : Work) → wrong_in (job (Ok w)) ≡ Refused 8
other_line (work.Listing n) = refl
other_line (work.Mapped m) = refl

module _ (said : Said) (w : Work) (r : Job) (W C E : List ℕ) where
  pub line_entry : (a b c : ℕ) (F : List ℕ) → said ≡ Entry a b c → r ≡ entered_work (job (Ok w)) (length E) → F ≡ entered_list (job (Ok w)) a b c E
      → desk r W C F ≡ line_in said (desk (job (Ok w)) W C E)
  unfolding line_in
  line_entry a b c F e p q = rw e (λ i. desk (p i) W C (q i))

  pub line_remove : (k : ℕ) (X K : List ℕ) → said ≡ Remove k → effect r X K ≡ removed_in k (settled_in E (effect (job (Ok w)) W C))
      → desk r X K E ≡ line_in said (desk (job (Ok w)) W C E)
  unfolding line_in
  line_remove k X K e p = rw e (λ i. on_desk (p i) E)

  pub line_other : said ≡ Other → r ≡ Refused 8 → desk r W C E ≡ line_in said (desk (job (Ok w)) W C E)
  unfolding line_in
  line_other e p = let q : r ≡ wrong_in (job (Ok w)) = p ∙ sym (other_line w) in rw e (λ i. desk (q i) W C E)

-- after a refusal nothing changes
line_none : (said : Said) (k : ℕ) (W C E : List ℕ) → desk (Refused k) W C E ≡ line_in said (desk (Refused k) W C E)
unfolding line_in
line_none (Entry a b c) k W C E = refl
line_none (Remove j) k W C E = refl
line_none Other k W C E = refl

module _ (said : Said) (w : Result Work Refusal) (W C E : List ℕ) where
  pub taken_none : (y : Refusal) → w ≡ Err y → desk (job (Err y)) W C E ≡ line_in said (desk (job w) W C E)
  taken_none y e = rw e (line_none said (refusal_number y) W C E)

-- one byte
module _ (s r : State) (W C E : List ℕ) where
  pub byte_end : (o : Said) (w : Result Work Refusal) (X K F : List ℕ) → o ≡ end_rule s.line → desk (job w) X K F ≡ line_in o (desk (job s.work) W C E)
      → r.line ≡ Start → r.work ≡ w → stage r X K F ≡ stepped (stage s W C E) 10
  unfolding stepped
  byte_end o w X K F e p l q =
      let d : desk (job r.work) X K F ≡ lined (stage s W C E) = rw (q, ← e) p in
      λ i. record { line = l i; desk = d i }

  pub byte_more : (b : ℕ) → (b ≡ 10 → ⊥) → r.line ≡ byte_rule s.line b → r.work ≡ s.work → stage r W C E ≡ stepped (stage s W C E) b
  unfolding stepped
  byte_more b n l q = rw (ne_eqb b 10 n) (λ i. record { line = l i; desk = desk (job (q i)) W C E })

-- the end of the input
module _ (s : State) (r : Result Work Refusal) (W C E : List ℕ) where
  pub last_new : (b : Bool) → b ≡ new_rule s.line → b ≡ true → r ≡ s.work → desk (job r) W C E ≡ last_line_lem (stage s W C E)
  unfolding last_line_lem
  last_new b e t q = rw (sym e ∙ t) (λ i. desk (job (q i)) W C E)

  pub last_line : (b : Bool) (o : Said) (X K F : List ℕ) → b ≡ new_rule s.line → b ≡ false → o ≡ end_rule s.line
      → desk (job r) X K F ≡ line_in o (desk (job s.work) W C E) → desk (job r) X K F ≡ last_line_lem (stage s W C E)
  unfolding last_line_lem
  last_line b o X K F e t q p = rw (sym e ∙ t, ← q) p
