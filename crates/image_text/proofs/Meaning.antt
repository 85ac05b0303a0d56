-- What the rules come to: pieces of a text, and a text that is accepted.
use Rattle.std.specs.Prelude.{Result, Ok, Err}
use Rattle.words.specs.declared.refusal.Refusal.{Refusal}
use Rattle.words.specs.declared.refusal.Refusal.TheVariants.{BadList}
use mathlib.Core.Path.{◌≡◌, refl, sym, ap, ◌∙◌}
use mathlib.Core.Bool.{Bool, true, false, cond}
use mathlib.Core.List.{List, ◌++◌, foldl-append}
use Prim.Native.Nat.{ℕ}
use native.Mathlib.Omega.{arith}
use lib.ListN.{length, take}
use Rattle.image_rule.specs.Layout.{image_length_lem}
use Rattle.image_text.specs.Judging.{image_checked}
use Rattle.image_text.specs.Reading.{Stage, stepped, fed, is_complete, and_then, judged_as, outcome_of}
use Rattle.image_text.proofs.Arms.{complete_taken}
use Rattle.image_text.proofs.Judged.{Accepted, accepted}

-- a piece, and then another, come to what both together come to
pub pieces : (t : Stage) (s o : List ℕ) → fed t (s ++ o) ≡ fed (fed t s) o
unfolding fed
pieces t s o = foldl-append stepped t s o

judged_accepted : (I : List ℕ) (n : ℕ) → judged_as I ≡ Ok n → (n ≡ length I) × (image_checked I ≡ Ok tt)
unfolding judged_as
judged_accepted I n = go (image_checked I) refl
  where
    go : (c : Result Unit Refusal) → image_checked I ≡ c → and_then c (Ok (length I)) ≡ Ok n → (n ≡ length I) × (image_checked I ≡ Ok tt)
    go (Ok x) e z = (cc, e)
    go (Err y) e z = let y : ◌≡◌ {A = ℕ} 0 1 = cc in absurd (omega arith)

-- A text that comes to Ok n has an image of n bytes, as many as the image of its count has. It is
-- at the front of the slice, and it is accepted.
pub record Written (t : Stage) (n : ℕ) : Type 0 where
  pub length : n ≡ image_length_lem t.state.count
  pub image : Accepted (take n t.image)

pub done_accepted : (t : Stage) (n : ℕ) → outcome_of t ≡ Ok n → Written t n
unfolding outcome_of
done_accepted t n = go t.state.checked (is_complete t.state (length t.image)) refl
  where
    front : List ℕ
    front = take (image_length_lem t.state.count) t.image

    go : (c : Result Unit Refusal) (b : Bool) → is_complete t.state (length t.image) ≡ b
        → and_then c (cond b (judged_as front) (Err BadList)) ≡ Ok n → Written t n
    go (Ok x) true e z =
        let j : (n ≡ length front) × (image_checked front ≡ Ok tt) = judged_accepted front n z in
        let k : image_length_lem t.state.count ≡ length front = complete_taken t.state t.image true (image_length_lem t.state.count) (sym e) refl refl in
        let l : n ≡ image_length_lem t.state.count = j.0 ∙ sym k in
        record { length = l; image = accepted (take n t.image) (ap (λ (m : ℕ). image_checked (take m t.image)) l ∙ j.1) }
    go (Ok x) false e z = let y : ◌≡◌ {A = ℕ} 0 1 = cc in absurd (omega arith)
    go (Err w) b e z = let y : ◌≡◌ {A = ℕ} 0 1 = cc in absurd (omega arith)
