-- What an accepted text comes to: a plan that names each slot below the count once, and that has
-- what each line says.
use Rattle.std.specs.Prelude.{Option, None, Some, Result, Ok, Err, is_ok}
use mathlib.Core.Path.{◌≡◌, refl, sym, ap, ◌∙◌}
use mathlib.Core.Bool.{Bool, true, false, cond}
use mathlib.Core.List.{List, [], ◌∷◌, ◌++◌, foldl, foldl-append}
use Prim.Native.Nat.{ℕ, zero, suc, ◌+◌, ◌<◌, ◌≤◌}
use native.Mathlib.Omega.{arith}
use lib.Dec.{eqb, ltb, leb}
use lib.ListN.{length, get_or, set, replicate, length-set, length-replicate, get_or-replicate}
use lib.Seq.{get_or-set_same, get_or-set_other}
use borrow.Author.Tests.{eqb-true, eqb-false, ltb-false, leb-false}
use Rattle.words.specs.Ix.{U}
use Rattle.tree.specs.Tree.{hit, times}
use Rattle.tree.proofs.Slots.{hit_same, hit_cases, hit_zero, hit_ne}
use Rattle.tidy_rule.specs.Plan.{fits}
use Rattle.tidy_rule.proofs.Plans.{fits_one, is_fits}
use Rattle.plan_text.specs.Line.{goes_to, end_rule, new_rule}
use Rattle.plan_text.specs.Reading.{Shelf, shelf, flaw_of, written, placed, said, next_line_lem, Stage, stage, begun, lined, longer_line, stepped, fed, last_of, first_free_lem, closed, finished}
use Rattle.plan_text.specs.declared.line.Move.{Move}
use Rattle.plan_text.specs.declared.reading.Flaw.{Flaw}
use Rattle.plan_text.specs.declared.reading.Flaw.TheVariants.{High, OldAgain, NewAgain, Missing}

-- a piece, and then another, come to what both together come to
pub pieces : (t : Stage) (a b : List ℕ) → fed t (a ++ b) ≡ fed (fed t a) b
unfolding fed
pieces t a b = foldl-append stepped t a b

-- a number written over another
times_set : (v : ℕ) (P : List ℕ) (s x : ℕ) → s < length P → times v (set P s x) + hit v (get_or P s 0) ≡ times v P + hit v x
times_set v [] s x h = absurd (omega arith)
times_set v (a ∷ P) zero x h = omega arith
times_set v (a ∷ P) (suc s) x h = omega (arith, times_set v P s x (omega arith))

-- Before any line, and after each line that is taken: no new slot is given away twice, and a new
-- slot that no line has given away is nowhere in the plan.
record Good (n : ℕ) (P L : List ℕ) : Type 0 where
  long : length P ≡ n
  wide : length L ≡ n
  low : (s : ℕ) → s < n → (get_or P s 0 ≡ U → ⊥) → get_or P s 0 < n
  once : (v : ℕ) → v < n → times v P ≤ 1
  free : (v : ℕ) → v < n → get_or L v 0 ≡ 0 → times v P ≡ 0

none_times : (n v : ℕ) → v < U → times v (replicate n U) ≡ 0
none_times zero v h = refl
none_times (suc n) v h = omega (arith, hit_ne v U (λ e. omega arith), none_times n v h)

module _ (n : ℕ) (few : n ≤ 65535) where
  good_first : Good n (replicate n U) (replicate n 0)
  good_first =
      record {
        long = length-replicate {A = ℕ} n U;
        wide = length-replicate {A = ℕ} n 0;
        low = λ s h f. absurd (f (get_or-replicate {A = ℕ} n s U 0 h));
        once = λ v h. omega (arith, none_times n v (omega arith));
        free = λ v h e. none_times n v (omega arith);
      }

  module _ (P L : List ℕ) (g : Good n P L) where
    module _ (k s v : ℕ) (pos : 0 < k) (hs : s < n) (hv : v < n) (u : get_or P s 0 ≡ U) (z : get_or L v 0 ≡ 0) where
      after : (w : ℕ) → w < n → times w (set P s v) ≡ times w P + hit w v
      after w h =
          let e : times w (set P s v) + hit w U ≡ times w P + hit w v = rw (← u) (times_set w P s v (omega (arith, g.long))) in
          omega (arith, hit_ne w U (λ q. omega arith))

      good_next : Good n (set P s v) (set L v k)
      good_next =
          record {
            long = length-set P s v ∙ g.long;
            wide = length-set L v k ∙ g.wide;
            low = λ w h f. hit_cases w s
                (λ e. rw (e, get_or-set_same P s v 0 (omega (arith, g.long))) hv)
                (λ q. let o : get_or (set P s v) w 0 ≡ get_or P w 0 = get_or-set_other P s w v 0 (hit_zero w s q) in
                rw o (g.low w h (λ y. f (o ∙ y))));
            once = λ w h. hit_cases w v
                (λ e. let y : times w P ≡ 0 = rw e (g.free v hv z) in omega (arith, after w h, hit_same v, ap (λ (x : ℕ). hit x v) e))
                (λ q. omega (arith, after w h, g.once w h));
            free = λ w h e. hit_cases w v
                (λ q. let y : get_or (set L v k) v 0 ≡ 0 = rw q at e in
                absurd (omega (arith, get_or-set_same L v k 0 (omega (arith, g.wide)))))
                (λ q. let y : get_or L w 0 ≡ 0 = sym (get_or-set_other L v w k 0 (hit_zero w v q)) ∙ e in
                omega (arith, after w h, g.free w h y));
          }

-- a line that has no flaw
pub record Taken (s v : ℕ) (P L : List ℕ) : Type 0 where
  pub old : s < length P
  pub new : v < length P
  pub unnamed : get_or P s 0 ≡ U
  pub ungiven : get_or L v 0 ≡ 0

taken : (k s v : ℕ) (P L : List ℕ) → is_ok (flaw_of k s v P L) ≡ true → Taken s v P L
unfolding flaw_of
taken k s v P L = go (leb (length P) s) (leb (length P) v) (eqb (get_or P s 0) U) (eqb (get_or L v 0) 0) refl refl refl refl
  where
    go : (a b c d : Bool) → leb (length P) s ≡ a → leb (length P) v ≡ b → eqb (get_or P s 0) U ≡ c → eqb (get_or L v 0) 0 ≡ d
        → is_ok (cond a (Err (High k s (length P))) (cond b (Err (High k v (length P))) (cond c (cond d (Ok (tt {0})) (Err (NewAgain k v (get_or L v 0)))) (Err (OldAgain k s (get_or L (get_or P s 0) 0)))))) ≡ true
        → Taken s v P L
    go true b c d e f g h z = let y : ◌≡◌ {A = ℕ} 0 1 = cc in absurd (omega arith)
    go false true c d e f g h z = let y : ◌≡◌ {A = ℕ} 0 1 = cc in absurd (omega arith)
    go false false false d e f g h z = let y : ◌≡◌ {A = ℕ} 0 1 = cc in absurd (omega arith)
    go false false true false e f g h z = let y : ◌≡◌ {A = ℕ} 0 1 = cc in absurd (omega arith)
    go false false true true e f g h z =
        record {
          old = leb-false (length P) s e;
          new = leb-false (length P) v f;
          unnamed = eqb-true (get_or P s 0) U g;
          ungiven = eqb-true (get_or L v 0) 0 h;
        }

-- What one step does to the plan and to the lines: nothing, or it takes a line. So what a line that
-- is taken keeps, every step keeps.
module _ (Keeps : List ℕ → List ℕ → Type 0)
    (takes : (k s v : ℕ) (P L : List ℕ) → 0 < k → Taken s v P L → Keeps P L → Keeps (set P s v) (set L v k)) where
  abbrev pub Holds : Shelf → Type 0
  Holds h = Keeps h.plan h.lines

  placed_keeps : (k s v : ℕ) (P L : List ℕ) → 0 < k → Keeps P L → Holds (placed k s v P L)
  unfolding placed
  placed_keeps k s v P L pos y = go (is_ok (flaw_of k s v P L)) refl
    where
      go : (b : Bool) → is_ok (flaw_of k s v P L) ≡ b
          → Holds (cond b (written k s v P L) (shelf (flaw_of k s v P L) P L))
      go true e = takes k s v P L pos (taken k s v P L e) y
      go false e = y

  said_keeps : (o : Option Move) (k : ℕ) (P L : List ℕ) → 0 < k → Keeps P L → Holds (said o k P L)
  unfolding said
  said_keeps (Some m) k P L pos y = placed_keeps k m.old m.new P L pos y
  said_keeps None k P L pos y = y

  next_pos : (k : ℕ) → 0 < next_line_lem k
  unfolding next_line_lem
  next_pos k = go (ltb k U) refl
    where
      go : (b : Bool) → ltb k U ≡ b → 0 < cond b (k + 1) k
      go true e = omega arith
      go false e = omega (arith, ltb-false k U e)

  stepped_keeps : (t : Stage) (b : ℕ) → Holds t.shelf → Holds (stepped t b).shelf
  unfolding stepped
  stepped_keeps t b y = go (is_ok t.shelf.checked) (eqb b 10)
    where
      go : (p q : Bool) → Holds (cond p (cond q (lined t) (longer_line t b)) t).shelf
      go true true = said_keeps (end_rule t.line) (next_line_lem t.number) t.shelf.plan t.shelf.lines (next_pos t.number) y
      go true false = y
      go false q = y

  pub fed_keeps : (c : List ℕ) (t : Stage) → Holds t.shelf → Holds (fed t c).shelf
  unfolding fed
  fed_keeps [] t y = y
  fed_keeps (b ∷ c) t y = fed_keeps c (stepped t b) (stepped_keeps t b y)

  pub last_keeps : (t : Stage) → Holds t.shelf → Holds (last_of t).shelf
  unfolding last_of
  last_keeps t y = go (new_rule t.line)
    where
      go : (b : Bool) → Holds (cond b t (stepped t 10)).shelf
      go true = y
      go false = stepped_keeps t 10 y

-- the end of the text: no slot is left
none_free : (i : ℕ) (P : List ℕ) → first_free_lem i P ≡ Ok tt → (s : ℕ) → s < length P → get_or P s 0 ≡ U → ⊥
unfolding first_free_lem
none_free i [] e s h u = absurd (omega arith)
none_free i (v ∷ P) e s h u = go (eqb v U) refl e s h u (λ q. none_free (i + 1) P q)
  where
    go : (b : Bool) → eqb v U ≡ b → cond b (Err (Missing i)) (first_free_lem (i + 1) P) ≡ Ok tt → (s : ℕ) → s < suc (length P) → get_or (v ∷ P) s 0 ≡ U
        → (first_free_lem (i + 1) P ≡ Ok tt → (s : ℕ) → s < length P → get_or P s 0 ≡ U → ⊥) → ⊥
    go true q z s h u f = let y : ◌≡◌ {A = ℕ} 0 1 = cc in absurd (omega arith)
    go false q z zero h u f = eqb-false v U q u
    go false q z (suc s) h u f = f z s (omega arith) u

-- a text that has no flaw
record Whole (h : Shelf) : Type 0 where
  right : h.checked ≡ Ok tt
  plan : (closed h).plan ≡ h.plan
  none : (s : ℕ) → s < length h.plan → get_or h.plan s 0 ≡ U → ⊥

ok_is : (f : Result Unit Flaw) → is_ok f ≡ true → f ≡ Ok tt
ok_is (Ok x) e = refl
ok_is (Err f) e = let y : ◌≡◌ {A = ℕ} 0 1 = cc in absurd (omega arith)

whole : (h : Shelf) → (closed h).checked ≡ Ok tt → Whole h
whole h = go (is_ok h.checked) refl
  where
    go : (b : Bool) → is_ok h.checked ≡ b → (cond b (shelf (first_free_lem 0 h.plan) h.plan h.lines) h).checked ≡ Ok tt → Whole h
    go true e z = record { right = ok_is h.checked e; plan = rw e refl; none = none_free 0 h.plan z }
    go false e z = let y : is_ok h.checked ≡ true = rw z refl in let x : ◌≡◌ {A = ℕ} 0 1 = cc in absurd (omega arith)

-- the first flaw stays
flaw_stays : (c : List ℕ) (t : Stage) → is_ok t.shelf.checked ≡ false → fed t c ≡ t
unfolding fed stepped
flaw_stays [] t e = refl
flaw_stays (b ∷ c) t e = ap (λ (u : Stage). foldl stepped u c) (step_stays t b e) ∙ flaw_stays c t e
  where
    step_stays : (t : Stage) (b : ℕ) → is_ok t.shelf.checked ≡ false → stepped t b ≡ t
    step_stays t b e = rw e refl

flaw_last : (t : Stage) (d : List ℕ) → is_ok t.shelf.checked ≡ false → (last_of (fed t d)).shelf.checked ≡ t.shelf.checked
unfolding last_of stepped
flaw_last t d e = rw (flaw_stays d t e) (go (new_rule t.line))
  where
    go : (b : Bool) → (cond b t (stepped t 10)).shelf.checked ≡ t.shelf.checked
    go true = refl
    go false = rw e refl

-- a line that is taken stands in the plan, and stays there
placed_at : (k s v : ℕ) (P L : List ℕ) → is_ok (placed k s v P L).checked ≡ true → (v < length P) × (get_or (placed k s v P L).plan s 0 ≡ v)
unfolding placed
placed_at k s v P L = go (is_ok (flaw_of k s v P L)) refl
  where
    go : (b : Bool) → is_ok (flaw_of k s v P L) ≡ b → is_ok (cond b (written k s v P L) (shelf (flaw_of k s v P L) P L)).checked ≡ true
        → (v < length P) × (get_or (cond b (written k s v P L) (shelf (flaw_of k s v P L) P L)).plan s 0 ≡ v)
    go true e z = let t : Taken s v P L = taken k s v P L e in (t.new, get_or-set_same P s v 0 t.old)
    go false e z = let y : ◌≡◌ {A = ℕ} 0 1 = cc in absurd (omega arith)

lined_at : (t : Stage) (s v : ℕ) → end_rule t.line ≡ Some (goes_to s v) → is_ok t.shelf.checked ≡ true → is_ok (stepped t 10).shelf.checked ≡ true
    → (v < length t.shelf.plan) × (get_or (stepped t 10).shelf.plan s 0 ≡ v)
unfolding stepped said
lined_at t s v q e z =
    let y : is_ok (placed (next_line_lem t.number) s v t.shelf.plan t.shelf.lines).checked ≡ true = rw (e, q) at z in
    rw (e, q) (placed_at (next_line_lem t.number) s v t.shelf.plan t.shelf.lines y)

stays : (s v : ℕ) → (v ≡ U → ⊥) → (k x y : ℕ) (P L : List ℕ) → 0 < k → Taken x y P L → get_or P s 0 ≡ v → get_or (set P x y) s 0 ≡ v
stays s v h k x y P L pos t e =
    hit_cases s x
    (λ q. let z : get_or P s 0 ≡ U = rw q t.unnamed in absurd (h (sym e ∙ z)))
    (λ q. get_or-set_other P x s y 0 (hit_zero s x q) ∙ e)

-- what an operator's text comes to, read into a plan of n slots that no line has named
abbrev pub read_plan_lem : ℕ → List ℕ → Shelf
read_plan_lem n c = finished (fed (stage begun (replicate n U) (replicate n 0)) c)

module _ (n : ℕ) (few : n ≤ 65535) (c : List ℕ) (e : (read_plan_lem n c).checked ≡ Ok tt) where
  abbrev last : Shelf
  last = (last_of (fed (stage begun (replicate n U) (replicate n 0)) c)).shelf

  takes_good : (k s v : ℕ) (P L : List ℕ) → 0 < k → Taken s v P L → Good n P L → Good n (set P s v) (set L v k)
  takes_good k s v P L pos t y =
      good_next n few P L y k s v pos (omega (arith, t.old, y.long)) (omega (arith, t.new, y.long)) t.unnamed t.ungiven

  good_fed : (d : List ℕ) → Good n (fed (stage begun (replicate n U) (replicate n 0)) d).shelf.plan (fed (stage begun (replicate n U) (replicate n 0)) d).shelf.lines
  good_fed d = fed_keeps (Good n) takes_good d (stage begun (replicate n U) (replicate n 0)) (good_first n few)

  -- an accepted plan is one that a renumbering accepts
  pub accepted_fits : fits n (read_plan_lem n c).plan ≡ true
  accepted_fits =
      let w : Whole last = whole last e in
      let g : Good n last.plan last.lines = last_keeps (Good n) takes_good (fed (stage begun (replicate n U) (replicate n 0)) c) (good_fed c) in
      rw w.plan (is_fits n last.plan (fits_one n last.plan g.long (λ s h. g.low s h (w.none s (omega (arith, g.long)))) g.once))

  flawless : (t : Stage) (d : List ℕ) → fed (stage begun (replicate n U) (replicate n 0)) c ≡ fed t d → is_ok t.shelf.checked ≡ true
  flawless t d q = go (is_ok t.shelf.checked) refl
    where
      go : (b : Bool) → is_ok t.shelf.checked ≡ b → is_ok t.shelf.checked ≡ true
      go true f = f
      go false f =
          let x : last.checked ≡ t.shelf.checked = ap (λ (u : Stage). (last_of u).shelf.checked) q ∙ flaw_last t d f in
          let y : is_ok t.shelf.checked ≡ true = rw (← x, (whole last e).right) refl in
          y

  -- and what a line of the text says stands in the plan
  pub accepted_says : (a b : List ℕ) (s v : ℕ) → c ≡ a ++ (10 ∷ b) → end_rule (fed (stage begun (replicate n U) (replicate n 0)) a).line ≡ Some (goes_to s v)
      → get_or (read_plan_lem n c).plan s 0 ≡ v
  unfolding fed
  accepted_says a b s v q m =
      let t : Stage = fed (stage begun (replicate n U) (replicate n 0)) a in
      let f : fed (stage begun (replicate n U) (replicate n 0)) c ≡ fed t (10 ∷ b) = rw q (pieces (stage begun (replicate n U) (replicate n 0)) a (10 ∷ b)) in
      let g : Good n t.shelf.plan t.shelf.lines = good_fed a in
      let y : (v < length t.shelf.plan) × (get_or (stepped t 10).shelf.plan s 0 ≡ v) =
      lined_at t s v m (flawless t (10 ∷ b) f) (flawless (stepped t 10) b f) in
      let z : (v ≡ U → ⊥) = λ x. omega (arith, y.0, g.long) in
      let k : get_or (fed (stepped t 10) b).shelf.plan s 0 ≡ v = fed_keeps (λ P L. get_or P s 0 ≡ v) (stays s v z) b (stepped t 10) y.1 in
      let l : get_or (last_of (fed (stepped t 10) b)).shelf.plan s 0 ≡ v = last_keeps (λ P L. get_or P s 0 ≡ v) (stays s v z) (fed (stepped t 10) b) k in
      ap (λ (P : List ℕ). get_or P s 0) (whole last e).plan ∙ ap (λ (u : Stage). get_or (last_of u).shelf.plan s 0) f ∙ l
