-- Cutting the input anywhere changes nothing, and the whole input prints what document 01 says of
-- its lines.
use mathlib.Core.Path.{◌≡◌, refl, sym, ap, subst, ◌∙◌}
use mathlib.Core.Bool.{Bool, true, false, cond}
use mathlib.Core.List.{List, [], ◌∷◌, ◌++◌, foldl, foldl-append, flatten}
use Prim.Native.Nat.{ℕ, ◌*◌, ◌/◌, ◌≤◌, min}
use native.Mathlib.Omega.{arith}
use lib.ListN.{length, take, replicate}
use lib.Dec.{eqb}
use borrow.Author.Tests.{le-ltb}
use Rattle.slotlist_core.specs.Printed.{Stand, listed, onto, lines, settled, after, after_all, text, printed_in, printed}
use Rattle.slotlist_core.specs.Reading.{byte_rule, end_rule, new_rule}
use Rattle.slotlist_core.specs.Working.{Desk, desk, listed_in}
use Rattle.slotlist_core.specs.Writing.{checked_text, work_text}
use Rattle.slotlist_core.specs.Feeding.{Stage, stage, begun, lined, stepped, fed, last_line_lem, ended, finish}
use Rattle.slotlist_core.specs.declared.reading.Line.{Line}
use Rattle.slotlist_core.specs.declared.reading.Line.TheVariants.{Start}
use Rattle.slotlist_core.specs.declared.reading.Said.{Said}
use Rattle.slotlist_core.specs.Working.{Job, Listing, Mapped, Refused}
use Rattle.slotlist_core.proofs.Meaning.{meaning, meaning_end, meaning_byte, not_new}
use Rattle.slotlist_core.proofs.Stands.{Stands, Kept, stand_of, stands_settled, stands_line}
use Rattle.slotlist_core.proofs.Lengths.{map_length, refusal_length, puts_all}

-- a piece in two parts, one after the other; so any cuts of an input lead to the same end
pub cut : (t : Stage) (xs ys : List ℕ) → fed t (xs ++ ys) ≡ fed (fed t xs) ys
unfolding fed
cut t xs ys = foldl-append stepped t xs ys

pub pieces : (t : Stage) (ps : List (List ℕ)) → foldl fed t ps ≡ fed t (flatten ps)
unfolding fed flatten
pieces t [] = refl
pieces t (p ∷ ps) = pieces (fed t p) ps ∙ sym (cut t p (flatten ps))

module _ (W C : List ℕ) where
  -- the lines l of an input whose first line has begun with L
  abbrev from : Line → List (List ℕ) → Stand → Stand
  from L [] t = cond (new_rule L) t (after W C (end_rule L) t)
  from L (l ∷ ls) t = after_all W C ls (after W C (meaning L l) t)

  from_start : (ls : List (List ℕ)) (t : Stand) → from Start ls t ≡ after_all W C ls t
  from_start [] t = refl
  from_start (l ∷ ls) t = refl

  from_end : (L : Line) (ls : List (List ℕ)) (t : Stand) → from Start ls (after W C (end_rule L) t) ≡ from L ([] ∷ ls) t
  from_end L ls t = from_start ls (after W C (end_rule L) t) ∙ rw (meaning_end L)

  from_byte : (L : Line) (b : ℕ) (ls : List (List ℕ)) (t : Stand) → from (byte_rule L b) ls t ≡ from L (onto b ls) t
  from_byte L b [] t =
      ap (λ (n : Bool). cond n t (after W C (end_rule (byte_rule L b)) t)) (not_new L b)
      ∙ ap (λ (o : Said). after W C o t) (sym (meaning_end (byte_rule L b)) ∙ meaning_byte L b [])
  from_byte L b (l ∷ ls) t = ap (λ (o : Said). after_all W C ls (after W C o t)) (meaning_byte L b l)

  -- the work after all bytes is the rule's after all lines
  runs : (s : List ℕ) (L : Line) (d : Desk) (t : Stand) → Stands W C d t
      → Stands W C (last_line_lem (foldl stepped (record { line = L; desk = d }) s)) (from L (lines s) t)
  unfolding last_line_lem stepped lines
  runs [] L d t h = go (new_rule L)
    where
      go : (n : Bool) → Stands W C (cond n d (lined (record { line = L; desk = d }))) (cond n t (after W C (end_rule L) t))
      go true = h
      go false = stands_line W C (end_rule L) d t h
  runs (b ∷ s) L d t h =
      let ended = runs s Start (lined (record { line = L; desk = d })) (after W C (end_rule L) t) (stands_line W C (end_rule L) d t h) in
      let more = runs s (byte_rule L b) d t h in
      go (eqb b 10) ended more
    where
      go : (e : Bool) → Stands W C (last_line_lem (foldl stepped (record { line = Start; desk = lined (record { line = L; desk = d }) }) s))
          (from Start (lines s) (after W C (end_rule L) t))
          → Stands W C (last_line_lem (foldl stepped (record { line = byte_rule L b; desk = d }) s)) (from (byte_rule L b) (lines s) t)
          → Stands W C
          (last_line_lem
          (foldl stepped
          (cond e (record { line = Start; desk = lined (record { line = L; desk = d }) }) (record { line = byte_rule L b; desk = d })) s))
          (from L (cond e ([] ∷ lines s) (onto b (lines s))) t)
      go true p q = rw (← from_end L (lines s) t) p
      go false p q = rw (← from_byte L b (lines s) t) q

  -- what is printed of work in lent memory is the rule's text, and fits
  text_of : (w : Job) (X K E : List ℕ) → Kept W C w X K → work_text w X ≡ text (stand_of w X K E)
  unfolding checked_text
  text_of (Listing n) X K E p = refl
  text_of (Mapped m) X K E p = rw (le-ltb (min (length X / 8) 65535) m.count (omega arith))
  text_of (Refused why) X K E p = refl

  text_fits : (w : Job) (X K E : List ℕ) → Kept W C w X K → length (text (stand_of w X K E)) ≤ 21557
  text_fits (Listing n) X K E p = omega arith
  text_fits (Mapped m) X K E p = map_length m.count m.root X p.0
  text_fits (Refused why) X K E p = refusal_length why

  text_stands : (d : Desk) (t : Stand) → Stands W C d t → (work_text d.work d.nodes ≡ text t) × (length (text t) ≤ 21557)
  text_stands d t s =
      subst (λ (u : Stand). (work_text d.work d.nodes ≡ text u) × (length (text u) ≤ 21557)) s.same
      (text_of d.work d.nodes d.colours d.entries s.kept, text_fits d.work d.nodes d.colours d.entries s.kept)

  begins : (E : List ℕ) → 768 ≤ length E → Stands W C (desk (Listing 0) W C E) (listed [])
  unfolding listed_in
  begins E long =
      let z : min 0 (length E / 3) * 3 ≡ 0 = omega arith in
      record { same = rw z; kept = (omega arith, refl, refl); long = long }

  -- with room for 256 entries in the list and for their lines in the output, whatever it holds
  pub prints : (E out input : List ℕ) → 768 ≤ length E → 21557 ≤ length out
      → take (finish (fed (stage begun W C E) input) out).page.at (finish (fed (stage begun W C E) input) out).page.out ≡ printed_in W C input
  unfolding fed printed_in
  prints E out input long space =
      let last : Desk = last_line_lem (foldl stepped (stage begun W C E) input) in
      let all : Stand = after_all W C (lines input) (listed []) in
      let r : Stands W C last all =
      subst (λ (t : Stand). Stands W C last t) (from_start (lines input) (listed []))
      (runs input Start (desk (Listing 0) W C E) (listed []) (begins E long)) in
      let x = text_stands (ended (foldl stepped (stage begun W C E) input)) (settled W C all) (stands_settled W C last all r) in
      rw x.0 (puts_all (text (settled W C all)) out (omega (arith, x.1)))

-- in the programs' memory
pub whole : (E out input : List ℕ) → 768 ≤ length E → 21557 ≤ length out
    → take (finish (fed (stage begun (replicate 2048 0) (replicate 32 0) E) input) out).page.at
    (finish (fed (stage begun (replicate 2048 0) (replicate 32 0) E) input) out).page.out ≡ printed input
whole E out input long space = prints (replicate 2048 0) (replicate 32 0) E out input long space
