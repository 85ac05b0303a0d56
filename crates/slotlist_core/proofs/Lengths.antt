-- What is printed fits: at most 21,557 bytes for 256 entries. And what fits is written as it
-- stands.
use mathlib.Core.Path.{◌≡◌, refl, ap, ◌∙◌}
use mathlib.Core.Bool.{Bool, true, false, cond}
use mathlib.Core.List.{List, [], ◌∷◌, ◌++◌}
use Prim.Native.Nat.{ℕ, zero, suc, ◌+◌, ◌*◌, ◌/◌, ◌%◌, ◌≤◌}
use native.Mathlib.Omega.{arith}
use lib.ListN.{length, take, drop, set, length-append, length-set}
use lib.Seq.{sets, sets-eq, take_at}
use lib.Dec.{eqb, ltb}
use borrow.Author.Tests.{lt-ltb}
use Rattle.words.specs.Ix.{U}
use Rattle.words.specs.Nodes.{start, stop, value}
use Rattle.lines.specs.Output.{page, decimal, number}
use Rattle.slotlist_core.specs.Text.{root_text, head, row, rows, map_text, refusal_text}
use Rattle.slotlist_core.specs.Writing.{put_byte_lem, puts}

decimal_length : (f n : ℕ) → length (decimal f n) ≤ f
unfolding decimal
decimal_length zero n = omega arith
decimal_length (suc f) n = let h = decimal_length f (n / 10) in go (ltb n 10) h
  where
    go : (t : Bool) → length (decimal f (n / 10)) ≤ f
        → length (cond t ((48 + n) ∷ []) (decimal f (n / 10) ++ ((48 + n % 10) ∷ []))) ≤ suc f
    go true h = omega arith
    go false h = simp length-append (omega arith)

root_length : (r : ℕ) → length (root_text r) ≤ 20
unfolding root_text
root_length r = go (eqb r U)
  where
    go : (t : Bool) → length (cond t (45 ∷ []) (number r)) ≤ 20
    go true = omega arith
    go false = decimal_length 20 r

head_length : (n r : ℕ) → length (head n r) ≤ 53
unfolding head
head_length n r = simp length-append (omega (arith, decimal_length 20 n, root_length r))

row_length : (W : List ℕ) (s : ℕ) → length (row W s) ≤ 84
unfolding row
row_length W s =
    simp length-append
    (omega (arith, decimal_length 20 s, decimal_length 20 (start W s), decimal_length 20 (stop W s), decimal_length 20 (value W s)))

rows_length : (W : List ℕ) (s n : ℕ) → length (rows W s n) ≤ n * 84
unfolding rows
rows_length W s zero = omega arith
rows_length W s (suc n) = simp length-append (omega (arith, row_length W s, rows_length W (suc s) n))

pub map_length : (n r : ℕ) (W : List ℕ) → n ≤ 256 → length (map_text n r W) ≤ 21557
unfolding map_text
map_length n r W h = simp length-append (omega (arith, head_length n r, rows_length W 0 n))

pub refusal_length : (why : ℕ) → length (refusal_text why) ≤ 21557
unfolding refusal_text
refusal_length why = simp length-append (omega (arith, decimal_length 20 why))

-- a text for which there is room
puts_sets : (s out : List ℕ) (at : ℕ) → at + length s ≤ length out → puts (page at out) s ≡ page (at + length s) (sets out at s)
unfolding puts put_byte_lem
puts_sets [] out at h = let e : at + 0 ≡ at = omega arith in rw e
puts_sets (b ∷ s) out at h =
    let t : ltb at (length out) ≡ true = lt-ltb at (length out) (omega arith) in
    let e : at + 1 ≡ suc at = omega arith in
    let f : suc at + length s ≡ at + suc (length s) = omega arith in
    rw (t, e) (puts_sets s (set out at b) (suc at) (rw length-set (omega arith)) ∙ ap (λ (k : ℕ). page k (sets (set out at b) (suc at) s)) f)

pub puts_all : (s out : List ℕ) → length s ≤ length out → take (puts (page 0 out) s).at (puts (page 0 out) s).out ≡ s
puts_all s out h =
    let z : 0 + length s ≡ length s = omega arith in
    let e : puts (page 0 out) s ≡ page (length s) (sets out 0 s) = puts_sets s out 0 (omega arith) ∙ ap (λ (k : ℕ). page k (sets out 0 s)) z in
    rw (e, sets-eq s out 0 (omega arith)) (take_at s (drop (0 + length s) out) (length s) refl)
