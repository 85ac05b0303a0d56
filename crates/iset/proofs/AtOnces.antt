-- A lookup that finds all hits at once: what the code's answer stands for, and what it has in
-- common with steps and drains.
use Rattle.std.proofs.Common.{◌≡◌, ℕ, ◌<◌, ◌≤◌, Bool, List, [], ◌∷◌, length, take, drop, sym, ◌∙◌, append-nil, add-zero, le-ltb}
use lib.Seq.{take-append_seam}
use Rattle.words.specs.Lists.{filter}
use Rattle.tree.specs.Tree.{Tree, slots}
use Rattle.iter.specs.Cursors.{ended}
use Rattle.iter.specs.Drains.{limit_of_lem, filled}
use Rattle.iter.specs.declared.Cursor.{Cursor}
use Rattle.iter.specs.declared.rules.Query.{Query}
use Rattle.iset.specs.Effects.{Output, output}
use Rattle.iset.specs.Lookup.{drain_call}
use Rattle.iset.specs.Tallies.{TallyAnswer}
use Rattle.iset.specs.AtOnce.{handed_out, drain_slots, AtOnce}
use Rattle.iset.specs.Runs.{Ask, drain, run, total, Lookup, OnceEach}
use Rattle.iset.specs.declared.Map.{Map}

-- the hits l and the nodes entered b, which are k and y, and the output that `written` makes of
-- hits
pub counted : (written : List ℕ → List ℕ) {l k : List ℕ} {b y : ℕ} → l ≡ k → b ≡ y
    → ◌≡◌ {A = Output TallyAnswer} (output (record { no = 0; hits = length l; entered = b }) (written l))
    (output (record { no = 0; hits = length k; entered = y }) (written k))
counted written e f = λ i. output (record { no = 0; hits = length (e i); entered = f i }) (written (e i))

-- the hits in the first places of an output
pub first_places : (l out : List ℕ) → take (length l) (filled l out) ≡ l
unfolding filled
first_places l out = take-append_seam l (drop (length l) out)

-- a drain into enough places may hand out its limit
pub total_one : (limit : ℕ) (places : List ℕ) → limit_of_lem limit (length places) ≤ length places → total (drain limit places ∷ []) ≡ limit_of_lem limit (length places)
total_one limit places h = rw (le-ltb (length places) (limit_of_lem limit (length places)) h, add-zero)

-- A lookup r that hands out the slots that are looked for, beside L, a lookup of the same by steps
-- and drains.
module _ (m : Map) (W C : List ℕ) (q : Query) (c : Cursor) (p : ℕ → Bool) (t : Tree) (named : List Ask → List ℕ)
    (L : (l : List Ask) → Lookup m W C q c (filter p (slots t)) (named l) l) (r : Output TallyAnswer) (e : handed_out r ≡ filter p (slots t)) where
  run_same : (l : List Ask) → (run m W C q c l).next ≡ ended → handed_out r ≡ (run m W C q c l).slots
  run_same l i = e ∙ sym ((L l).slots_all i)

  drain_same : (limit : ℕ) (places : List ℕ) → length (filter p (slots t)) < limit_of_lem limit (length places) → limit_of_lem limit (length places) ≤ length places
      → ((drain_call m W C q c limit places).answer.next ≡ ended) × (handed_out r ≡ drain_slots m W C q c limit places)
  drain_same limit places k f =
      let l : List Ask = drain limit places ∷ [] in
      let i : (run m W C q c l).next ≡ ended = (L l).ends (rw (total_one limit places f) k) in
      (i, run_same l i ∙ append-nil _)

  pub found_at_once : OnceEach m.count p (filter p (slots t)) → AtOnce m W C q c p t r
  found_at_once o = record { exactly = e; once_each = o; drain_agrees = drain_same; run_agrees = run_same }
