-- The way down, one node after the other, in the form that `search` takes.
use mathlib.Core.Path.{◌≡◌, refl, sym, ap, ◌∙◌}
use mathlib.Core.Bool.{Bool, true, false, cond}
use mathlib.Core.List.{List, [], ◌∷◌, ◌++◌}
use Prim.Native.Nat.{ℕ, zero, suc, ◌+◌, ◌-◌, ◌^◌, ◌<◌, ◌≤◌}
use native.Mathlib.Omega.{arith}
use native.Mathlib.Numerals.{sub-one}
use native.Mathlib.Nat.{two-pow-succ}
use lib.ListN.{length, length-append}
use lib.Seq.{sets, length-sets}
use Rattle.words.specs.Nodes.{kid}
use Rattle.words.specs.Lists.{filter}
use Rattle.iter.specs.Lists.{when}
use Rattle.iter.specs.Walk.{Rules}
use Rattle.words.proofs.Lists.{filter_append}
use Rattle.fast_rule.specs.Fast.{entering}
use Rattle.fast.specs.Answers.{beyond, Room, Gone}
use Rattle.plain.specs.declared.Tally.{Tally}
use Rattle.fast.proofs.Writes.{sets_append}

-- a child that was read
pub child_live : (child k n : ℕ) → child ≡ k → k < n → child < n
child_live child k n e h = omega arith

filter_few : (m : ℕ → Bool) (l : List ℕ) → length (filter m l) ≤ length l
filter_few m [] = omega arith
filter_few m (a ∷ l) = go (m a) (filter_few m l)
  where
    go : (b : Bool) → length (filter m l) ≤ length l → length (cond b (a ∷ filter m l) (filter m l)) ≤ suc (length l)
    go true h = omega arith
    go false h = omega arith

power : (h : ℕ) → 0 < h → 2 ^ h ≡ 2 ^ (h - 1) + 2 ^ (h - 1)
power zero z = absurd (omega arith)
power (suc h) z = rw (sub-one (suc h)) (two-pow-succ h)

power_some : (h : ℕ) → 0 < 2 ^ h
power_some zero = omega arith
power_some (suc h) = rw (two-pow-succ h) (omega (arith, power_some h))

module _ (W : List ℕ) (Q : Rules) where
  -- a node with what is left and right of it
  pub step : (h s : ℕ) → 0 < h → entering W Q h s ≡ beyond W Q (h - 1) true s ++ (s ∷ beyond W Q (h - 1) false s)
  unfolding entering beyond
  step zero s z = absurd (omega arith)
  step (suc h) s z = rw (sub-one (suc h))

  -- at most 2 ^ height - 1 nodes
  few : (h s : ℕ) → length (entering W Q h s) < 2 ^ h
  unfolding entering
  few zero s = omega arith
  few (suc h) s =
      rw (length-append (when (Q.go true s) (entering W Q h (kid W true s))) (s ∷ when (Q.go false s) (entering W Q h (kid W false s))), two-pow-succ h)
      (omega (
        arith,
        some (Q.go true s) (entering W Q h (kid W true s)) (few h (kid W true s)),
        some (Q.go false s) (entering W Q h (kid W false s)) (few h (kid W false s)),
      ))
    where
      some : (b : Bool) (l : List ℕ) → length l < 2 ^ h → length (when b l) < 2 ^ h
      some true l q = q
      some false l q = omega arith

  few_beyond : (h : ℕ) (b : Bool) (s : ℕ) → length (beyond W Q h b s) < 2 ^ h
  unfolding beyond
  few_beyond h b s = go (Q.go b s) (few h (kid W b s))
    where
      go : (g : Bool) → length (entering W Q h (kid W b s)) < 2 ^ h → length (when g (entering W Q h (kid W b s))) < 2 ^ h
      go true q = q
      go false q = omega arith

-- What is left to do: the nodes l, with the numbers and the output so far, come to what the nodes L
-- came to with those at the beginning.
pub record Due (Q : Rules) (hits entered : ℕ) (L old : List ℕ) (found seen : ℕ) (l out : List ℕ) : Type 0 where
  pub same_hits : hits + length (filter Q.match L) ≡ found + length (filter Q.match l)
  pub same_seen : entered + length L ≡ seen + length l
  pub same_out : sets old hits (filter Q.match L) ≡ sets out found (filter Q.match l)

pub begin : (Q : Rules) (hits entered : ℕ) (L old : List ℕ) → Due Q hits entered L old hits entered L old
begin Q hits entered L old = record { same_hits = refl; same_seen = refl; same_out = refl }

-- what holds at each turn of the loop, at a slot `at` with the height `left`
abbrev pub Going : List ℕ → Rules → ℕ → ℕ → ℕ → List ℕ → ℕ → ℕ → List ℕ → ℕ → ℕ → ℕ → ℕ → Type 0
Going W Q count slot height old hits entered out at left found seen = Due Q hits entered (entering W Q height slot) old found seen (entering W Q left at) out
    × (at < count) × (left ≤ height) × Room found seen left × (length out ≡ length old)

-- one node more fits, and leaves room for those on its left
pub left_room : (found seen left : ℕ) → 0 < left → Room found seen left → Room found (seen + 1) (left - 1)
left_room found seen left more room = (omega arith, omega (arith, power left more, power_some (left - 1)))

pub kept_length : (old mid new out : List ℕ) (i j : ℕ) (xs ys : List ℕ) → mid ≡ sets out i xs → new ≡ sets mid j ys → length out ≡ length old → length new ≡ length old
kept_length old mid new out i j xs ys e f h = rw (f, length-sets, e, length-sets) h

-- the left side of a node is done, then the node itself
module _ (W : List ℕ) (Q : Rules) (at left found seen : ℕ) (out : List ℕ) (more : 0 < left) (part : Tally) (mid : List ℕ)
    (G : Gone Q found (seen + 1) (beyond W Q (left - 1) true at) part out mid) where
  abbrev A : List ℕ
  A = beyond W Q (left - 1) true at

  abbrev B : List ℕ
  B = beyond W Q (left - 1) false at

  module _ (room : Room found seen left) where
    pub note_room : part.hits < 18446744073709551615
    note_room =
        let e : part.hits ≡ found + length (filter Q.match A) = G.found in
        omega (arith, filter_few Q.match A, few_beyond W Q (left - 1) true at, power left more)

    pub next_room : (b : Bool) (now : ℕ) → now ≡ part.hits + length (when b (at ∷ [])) → Room now part.entered (left - 1)
    next_room b now e =
        let i : part.hits ≡ found + length (filter Q.match A) = G.found in
        let j : part.entered ≡ seen + 1 + length A = G.seen in
        (omega (arith, one b, filter_few Q.match A), omega (arith, few_beyond W Q (left - 1) true at, power left more))
      where
        one : (b : Bool) → length (when b (at ∷ [])) ≤ 1
        one true = omega arith
        one false = omega arith

  module _ (b : Bool) (now : ℕ) (new : List ℕ) (m : b ≡ Q.match at) (e : now ≡ part.hits + length (when b (at ∷ [])))
      (f : new ≡ sets mid part.hits (when b (at ∷ []))) (hits entered : ℕ) (L old : List ℕ)
      (D : Due Q hits entered L old found seen (entering W Q left at) out) where
    -- the hits among them
    abbrev T : List ℕ
    T = filter Q.match A ++ (when b (at ∷ []) ++ filter Q.match B)

    own : (d : Bool) (l : List ℕ) → cond d (at ∷ l) l ≡ when d (at ∷ []) ++ l
    own true l = refl
    own false l = refl

    parts : filter Q.match (entering W Q left at) ≡ T
    parts =
        rw (step W Q left at more, filter_append Q.match A (at ∷ B), m)
        (ap (λ (l : List ℕ). filter Q.match A ++ l) (own (Q.match at) (filter Q.match B)))

    turned : Due Q hits entered L old now part.entered B new
    turned =
        let x : length T ≡ length (filter Q.match A) + (length (when b (at ∷ [])) + length (filter Q.match B)) =
        rw (length-append (filter Q.match A) (when b (at ∷ []) ++ filter Q.match B), length-append (when b (at ∷ [])) (filter Q.match B)) in
        let y : length (entering W Q left at) ≡ length A + suc (length B) = rw (step W Q left at more) (length-append A (at ∷ B)) in
        let z : length (filter Q.match (entering W Q left at)) ≡ length T = rw parts in
        record {
          same_hits = D.same_hits ∙ omega (arith, G.found);
          same_seen = D.same_seen ∙ omega (arith, G.seen);
          same_out =
              D.same_out
              ∙ rw (
                parts,
                sets_append (filter Q.match A) (when b (at ∷ []) ++ filter Q.match B) out found,
                ← G.written,
                ← G.found,
                sets_append (when b (at ∷ [])) (filter Q.match B) mid part.hits,
                ← f,
                ← e,
              );
        }

    module _ (g : Bool) (h : g ≡ Q.go false at) where
      -- then the right child is the next node
      pub again : (next : ℕ) → g ≡ true → next ≡ kid W false at → Due Q hits entered L old now part.entered (entering W Q (left - 1) next) new
      unfolding beyond
      again next t k = rw k (rw (sym h ∙ t) at turned)

      -- or it is not entered
      pub stops : g ≡ false → Gone Q hits entered L (record { hits = now; entered = part.entered }) old new
      unfolding beyond
      stops t =
          let d : Due Q hits entered L old now part.entered [] new = rw (sym h ∙ t) at turned in
          record { found = omega (arith, d.same_hits); seen = omega (arith, d.same_seen); written = sym d.same_out }

-- the left child, if it is entered
module _ (W : List ℕ) (Q : Rules) (slot height hits entered : ℕ) (old new : List ℕ) (g : Bool) (e : g ≡ Q.go true slot) where
  pub left_there : (child : ℕ) (r : Tally) → g ≡ true → child ≡ kid W true slot → Gone Q hits entered (entering W Q height child) r old new
      → Gone Q hits entered (beyond W Q height true slot) r old new
  unfolding beyond
  left_there child r t k G = rw (sym e ∙ t, ← k) G

  pub left_none : g ≡ false → Gone Q hits entered (beyond W Q height true slot) (record { hits = hits; entered = entered }) old old
  unfolding beyond
  left_none t = rw (sym e ∙ t) (record { found = omega arith; seen = omega arith; written = refl })

-- no height is left
pub ends : (W : List ℕ) (Q : Rules) (at left found seen : ℕ) (out : List ℕ) (hits entered : ℕ) (L old : List ℕ)
    → Due Q hits entered L old found seen (entering W Q left at) out → left ≤ 0 → Gone Q hits entered L (record { hits = found; entered = seen }) old out
unfolding entering
ends W Q at zero found seen out hits entered L old d h =
    record { found = omega (arith, d.same_hits); seen = omega (arith, d.same_seen); written = sym d.same_out }
ends W Q at (suc left) found seen out hits entered L old d h = absurd (omega arith)
