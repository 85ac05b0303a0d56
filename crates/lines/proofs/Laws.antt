-- What the code's tests say of a rule, in the form that `search` takes.
use mathlib.Core.Path.{◌≡◌, sym}
use mathlib.Core.List.{List, ◌∷◌}
use Prim.Native.Nat.{ℕ, ◌+◌, ◌*◌, ◌<◌, ◌≤◌, min}
use native.Mathlib.Omega.{arith}
use Rattle.std.specs.Prelude.{Option, Some, None, SomeIff}
use borrow.Author.Tests.{lt-ltb, le-ltb}
use lib.ListN.{length, set}
use lib.Seq.{set_out}
use Rattle.lines.specs.Input.{appended, on_some}
use Rattle.lines.specs.Output.{Page, page, front, out_byte, out_text}

-- a number with one digit more: its first part is too great, and the rest
pub too_great : (r : Option ℕ) (v d : ℕ) → (v * 10 < 18446744073709551616 → ⊥) → r ≡ None → r ≡ appended v d
unfolding appended
too_great r v d h e = rw (le-ltb (v * 10 + d) 18446744073709551616 (omega arith)) e

pub one_more : (r : Option ℕ) (m v d : ℕ) → m ≡ v * 10 → SomeIff r (m + d < 18446744073709551616) (m + d) → r ≡ appended v d
unfolding appended
one_more None m v d e h = rw (le-ltb (v * 10 + d) 18446744073709551616 (omega arith))
one_more (Some x) m v d e (h, k) = rw (lt-ltb (v * 10 + d) 18446744073709551616 (omega arith), k, e)

-- a number that may be missing, taken apart
module _ {A : Type 0} (r : A) (x t : Option ℕ) (f : ℕ → A) (z : A) (e : x ≡ t) where
  pub number_found : (v : ℕ) → x ≡ Some v → r ≡ f v → r ≡ on_some t f z
  unfolding on_some
  number_found v q h = rw (← e, q) h

  pub number_missing : x ≡ None → r ≡ z → r ≡ on_some t f z
  unfolding on_some
  number_missing q h = rw (← e, q) h

-- a place past the end is not written
pub past_end : (s : List ℕ) (i v : ℕ) → length s ≤ i → s ≡ set s i v
past_end s i v h = sym (set_out s i v h)

-- a byte where the buffer has room, and where it has none; a byte and then a text
module _ (out : List ℕ) (at b : ℕ) where
  pub byte_fits : at < length out → page (at + 1) (set out at b) ≡ out_byte (page at out) b
  unfolding out_byte
  byte_fits h = rw (lt-ltb at (length out) h)

  pub byte_full : (p : Page) → length out ≤ at → p ≡ front out b → p ≡ out_byte (page at out) b
  unfolding out_byte
  byte_full p h e = rw (le-ltb at (length out) h) e

pub front_byte : (out : List ℕ) (b : ℕ) → (length out ≡ 0 → ⊥) → page 1 (set out 0 b) ≡ front out b
front_byte out b h = let e : min 1 (length out) ≡ 1 = omega arith in rw e

pub then_text : (p q r : Page) (b : ℕ) (s : List ℕ) → q ≡ out_byte p b → r ≡ out_text q s → r ≡ out_text p (b ∷ s)
unfolding out_text
then_text p q r b s e h = rw e at h
