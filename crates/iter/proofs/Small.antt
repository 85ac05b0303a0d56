-- The words of a store have 64 bits, and so has each word of its eight-word form.
use mathlib.Core.Path.{refl}
use mathlib.Core.Bool.{Bool, true, false, cond}
use mathlib.Core.List.{List, [], ◌∷◌}
use Prim.Native.Nat.{ℕ, zero, suc, ◌+◌, ◌*◌, ◌/◌, ◌%◌, ◌<◌}
use native.Mathlib.Omega.{arith}
use lib.Dec.{ltb}
use lib.ListN.{get_or}
use Rattle.words.specs.Nodes.{place, word}
use Rattle.words.specs.Layouts.{widened, field_in, unpack, as_eight}
use Rattle.words.specs.declared.node.Field.{Field}
use Rattle.words.specs.declared.node.Field.TheVariants.{Child, Parent}
use Rattle.words.proofs.Layouts.{viewed, plain_read}

abbrev pub Small : List ℕ → Type 0
Small W = (f : Field) (s : ℕ) → word W f s < 18446744073709551616

-- the words as they stand
abbrev Each : List ℕ → Type 0
Each N = (i : ℕ) → get_or N i 0 < 18446744073709551616

wide_small : (k : ℕ) → k < 4294967296 → widened k < 18446744073709551616
unfolding widened
wide_small k h = go (ltb k 65535)
  where
    go : (t : Bool) → cond t k (k + 4294901760) < 18446744073709551616
    go true = omega arith
    go false = omega arith

module _ (w : ℕ) (h : w < 18446744073709551616) where
  left_small : field_in (Child true) w < 18446744073709551616
  unfolding field_in
  left_small = wide_small (w % 65536) (omega arith)

  right_small : field_in (Child false) w < 18446744073709551616
  unfolding field_in
  right_small = wide_small (w / 65536 % 65536) (omega arith)

  up_small : field_in Parent w < 18446744073709551616
  unfolding field_in
  up_small = wide_small (w / 4294967296) (omega arith)

unpack_small : (N : List ℕ) → Each N → Each (unpack N)
unfolding unpack
unpack_small [] h i = h i
unpack_small (a ∷ []) h i = h i
unpack_small (a ∷ b ∷ []) h i = h i
unpack_small (a ∷ b ∷ c ∷ []) h i = h i
unpack_small (a ∷ b ∷ c ∷ d ∷ []) h i = h i
unpack_small (a ∷ b ∷ c ∷ d ∷ e ∷ []) h i = h i
unpack_small (a ∷ b ∷ c ∷ d ∷ e ∷ w ∷ N) h zero = h 0
unpack_small (a ∷ b ∷ c ∷ d ∷ e ∷ w ∷ N) h (suc zero) = h 1
unpack_small (a ∷ b ∷ c ∷ d ∷ e ∷ w ∷ N) h (suc (suc zero)) = h 2
unpack_small (a ∷ b ∷ c ∷ d ∷ e ∷ w ∷ N) h (suc (suc (suc zero))) = h 3
unpack_small (a ∷ b ∷ c ∷ d ∷ e ∷ w ∷ N) h (suc (suc (suc (suc zero)))) = h 4
unpack_small (a ∷ b ∷ c ∷ d ∷ e ∷ w ∷ N) h (suc (suc (suc (suc (suc zero))))) = left_small w (h 5)
unpack_small (a ∷ b ∷ c ∷ d ∷ e ∷ w ∷ N) h (suc (suc (suc (suc (suc (suc zero)))))) = right_small w (h 5)
unpack_small (a ∷ b ∷ c ∷ d ∷ e ∷ w ∷ N) h (suc (suc (suc (suc (suc (suc (suc zero))))))) = up_small w (h 5)
unpack_small (a ∷ b ∷ c ∷ d ∷ e ∷ w ∷ N) h (suc (suc (suc (suc (suc (suc (suc (suc i)))))))) =
    unpack_small N (λ j. h (suc (suc (suc (suc (suc (suc j))))))) i

word_small : (N : List ℕ) → Each N → Small (unpack N)
unfolding word
word_small N h f s = unpack_small N h (s * 8 + place f)

pub eight_small : (narrow : Bool) (N : List ℕ) → Each N → Small (as_eight narrow N)
eight_small true N h f s = rw (← viewed true refl N f s (word (unpack N) f s) refl) (word_small N h f s)
eight_small false N h f s = rw (← plain_read false refl N f s (place f) (get_or N (s * 8 + place f) 0) refl refl) (h (s * 8 + place f))
