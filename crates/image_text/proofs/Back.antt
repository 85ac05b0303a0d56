-- A number and a link that are printed read back as they were.
use Rattle.std.specs.Prelude.{Some}
use mathlib.Core.Path.{◌≡◌, refl, sym, ap, ◌∙◌}
use mathlib.Core.Bool.{Bool, true, false, cond}
use mathlib.Core.List.{List, [], ◌∷◌, ◌++◌, foldl, foldl-append}
use Prim.Native.Nat.{ℕ, zero, suc, ◌+◌, ◌-◌, ◌*◌, ◌/◌, ◌%◌, ◌^◌, ◌<◌}
use native.Mathlib.Omega.{arith}
use native.Mathlib.Nat.{pow-suc}
use lib.ListN.{drop}
use lib.Dec.{eqb, ltb}
use borrow.Author.Tests.{lt-ltb, le-ltb, eqb-true, eqb-false, ltb-true}
use Rattle.words.specs.Ix.{U}
use Rattle.lines.specs.Input.{digit_of_lem, on_some, appended}
use Rattle.lines.specs.Output.{decimal, number}
use Rattle.image_text.specs.Words.{word_byte, word_digit, small_in, link_said}
use Rattle.image_text.specs.Text.{link_text}
use Rattle.image_text.specs.declared.word.Word.{Word}
use Rattle.image_text.specs.declared.word.Word.TheVariants.{Empty, Number}

-- a word with the bytes of a text after it
abbrev pub spelled : Word → List ℕ → Word
spelled w s = foldl word_byte w s

-- one more digit
byte_digit : (w : Word) (d : ℕ) → d < 10 → word_byte w (48 + d) ≡ word_digit w d
unfolding word_byte digit_of_lem on_some
byte_digit w d h =
    let e : 48 + d - 48 ≡ d = omega arith in
    rw (le-ltb (48 + d) 48 (omega arith), le-ltb 57 (48 + d) (omega arith), e) refl

digit_after : (v d : ℕ) → v * 10 + d < 18446744073709551616 → word_digit (Number v) d ≡ Number (v * 10 + d)
unfolding appended on_some
digit_after v d h = rw (lt-ltb (v * 10 + d) 18446744073709551616 h) refl

decimal_back : (f n : ℕ) → n < 10 ^ suc f → n < 18446744073709551616 → spelled Empty (decimal (suc f) n) ≡ Number n
unfolding decimal
decimal_back zero n h k = let d : n < 10 = omega arith in rw (lt-ltb n 10 d) (byte_digit Empty n d)
decimal_back (suc f) n h k =
    let e : 10 ^ suc (suc f) ≡ 10 ^ suc f * 10 = pow-suc 10 (suc f) in
    go (ltb n 10) refl (decimal_back f (n / 10) (omega (arith, e)) (omega arith))
  where
    go : (t : Bool) → ltb n 10 ≡ t → spelled Empty (decimal (suc f) (n / 10)) ≡ Number (n / 10)
        → spelled Empty (cond t ((48 + n) ∷ []) (decimal (suc f) (n / 10) ++ ((48 + n % 10) ∷ []))) ≡ Number n
    go true e q = byte_digit Empty n (ltb-true n 10 e)
    go false e q =
        let s : n / 10 * 10 + n % 10 ≡ n = omega arith in
        foldl-append word_byte Empty (decimal (suc f) (n / 10)) ((48 + n % 10) ∷ [])
        ∙ ap (λ (w : Word). word_byte w (48 + n % 10)) q
        ∙ byte_digit (Number (n / 10)) (n % 10) (omega arith)
        ∙ digit_after (n / 10) (n % 10) (omega (arith, s, k))
        ∙ ap (λ (v : ℕ). Number v) s

pub number_back : (n : ℕ) → n < 18446744073709551616 → spelled Empty (number n) ≡ Number n
number_back n h = decimal_back 19 n (omega arith) h

-- a link, after its space
pub link_back : (k : ℕ) → k < 4294967296 → link_said (spelled Empty (drop 1 (link_text k))) ≡ Some k
unfolding link_text link_said small_in word_byte digit_of_lem on_some
link_back k h = go (eqb k U) refl
  where
    go : (t : Bool) → eqb k U ≡ t → link_said (spelled Empty (drop 1 (cond t (32 ∷ 45 ∷ []) (32 ∷ number k)))) ≡ Some k
    go true e = ap (λ (v : ℕ). Some v) (sym (eqb-true k U e))
    go false e =
        ap link_said (number_back k (omega arith))
        ∙ rw (lt-ltb k U (let n : (k ≡ U → ⊥) = eqb-false k U e in omega (arith, n))) refl
