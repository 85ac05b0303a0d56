-- What the buffer holds, without a fold.
use mathlib.Core.Path.{◌≡◌, sym}
use mathlib.Core.List.{List, [], ◌∷◌}
use Prim.Native.Nat.{ℕ, suc, ◌+◌, ◌<◌, ◌≤◌}
use native.Mathlib.Omega.{arith}
use lib.ListN.{length, set, length-set}
use lib.Seq.{sets}
use Rattle.lines.specs.Output.{page, out_byte, out_text}
use Rattle.lines.proofs.Laws.{byte_fits, byte_full, front_byte}

-- a text that fits stands in the buffer from its place on, and all else is as it was
pub text_fits : (s out : List ℕ) (at : ℕ) → at + length s ≤ length out → out_text (page at out) s ≡ page (at + length s) (sets out at s)
unfolding out_text
text_fits [] out at h = let e : at + 0 ≡ at = omega arith in rw e
text_fits (b ∷ s) out at h =
    let e : at + 1 ≡ suc at = omega arith in
    let f : at + suc (length s) ≡ suc at + length s = omega arith in
    let r : out_text (page (suc at) (set out at b)) s ≡ page (suc at + length s) (sets (set out at b) (suc at) s) =
    text_fits s (set out at b) (suc at) (simp length-set (omega arith)) in
    rw (← byte_fits out at b (omega arith), e, f) r

-- a full buffer goes out and begins again
pub goes_out : (out : List ℕ) (at b : ℕ) → 0 < length out → length out ≤ at → out_byte (page at out) b ≡ page 1 (set out 0 b)
goes_out out at b h k = sym (byte_full out at b (page 1 (set out 0 b)) k (front_byte out b (λ e. omega arith)))
