-- Texts one after the other.
use mathlib.Core.Path.{◌≡◌, sym, ap, subst, ◌∙◌}
use mathlib.Core.Bool.{false}
use mathlib.Core.List.{List, [], ◌∷◌, ◌++◌, foldl-append}
use Prim.Native.Nat.{ℕ, suc, ◌+◌, ◌-◌, ◌/◌, ◌^◌, ◌<◌, ◌≤◌, min}
use native.Mathlib.Omega.{arith}
use lib.ListN.{length, take, set}
use borrow.Author.Tests.{lt-ltb, le-ltb, eq-eqb, ne_eqb}
use Rattle.iset.specs.declared.Map.{Map}
use Rattle.words.specs.Ix.{U}
use Rattle.words.specs.Layouts.{as_eight}
use Rattle.words.specs.Nodes.{entry}
use Rattle.words.specs.declared.node.Entry.{Entry}
use Rattle.lines.specs.Output.{Page, page, number, next}
use Rattle.slotlist_core.specs.Text.{root_text, refused_word, head, row, rows, map_text, refusal_text}
use Rattle.slotlist_core.specs.Writing.{put_byte_lem, puts, checked_text, work_text}
use Rattle.std.specs.Prelude.{Ok}
use Rattle.io.specs.Digits.{last_digits, IsDigitCount}
use Rattle.lines.proofs.Numbers.{spelled}
use Rattle.slotlist_core.specs.Working.{job}
use Rattle.slotlist_core.specs.declared.working.Work.{Work}

-- a byte where there is room, and where there is none
module _ (out : List ℕ) (at b : ℕ) where
  pub byte_fits : at < length out → page (at + 1) (set out at b) ≡ put_byte_lem (page at out) b
  unfolding put_byte_lem
  byte_fits h = rw (lt-ltb at (length out) h)

  pub byte_full : length out ≤ at → page at out ≡ put_byte_lem (page at out) b
  unfolding put_byte_lem
  byte_full h = rw (le-ltb at (length out) h)

pub puts_append : (p : Page) (s t : List ℕ) → puts p (s ++ t) ≡ puts (puts p s) t
unfolding puts
puts_append p s t = foldl-append put_byte_lem p s t

pub puts_byte : (p q : Page) (b : ℕ) → q ≡ put_byte_lem p b → q ≡ puts p (b ∷ [])
unfolding puts
puts_byte p q b e = e

-- a text, then another
pub then : (p q r : Page) (s t : List ℕ) → q ≡ puts p s → r ≡ puts q t → r ≡ puts p (s ++ t)
then p q r s t e f = f ∙ rw e (sym (puts_append p s t))

pub then_byte : (p q r : Page) (b : ℕ) (t : List ℕ) → q ≡ put_byte_lem p b → r ≡ puts q t → r ≡ puts p (b ∷ t)
then_byte p q r b t e f = then p q r (b ∷ []) t (puts_byte p q b e) f

pub then_end : (p q r : Page) (s : List ℕ) (b : ℕ) → q ≡ puts p s → r ≡ put_byte_lem q b → r ≡ puts p (s ++ (b ∷ []))
then_end p q r s b e f = then p q r s (b ∷ []) e (puts_byte q r b f)

-- three and five parts, the last of one byte
pub in_three : (p q r o : Page) (s t : List ℕ) (b : ℕ) → q ≡ puts p s → r ≡ puts q t → o ≡ put_byte_lem r b → o ≡ puts p (s ++ (t ++ (b ∷ [])))
in_three p q r o s t b e f g = then p q o s (t ++ (b ∷ [])) e (then_end q r o t b f g)

pub in_five : (p q r m n o : Page) (s t u v : List ℕ) (b : ℕ) → q ≡ puts p s → r ≡ puts q t → m ≡ puts r u → n ≡ puts m v → o ≡ put_byte_lem n b
    → o ≡ puts p (s ++ (t ++ (u ++ (v ++ (b ∷ [])))))
in_five p q r m n o s t u v b e f g h i =
    then p q o s (t ++ (u ++ (v ++ (b ∷ [])))) e (then q r o t (u ++ (v ++ (b ∷ []))) f (in_three r m n o u v b g h i))

-- the digits of a number
pub number_put : (p r : Page) (s : List ℕ) (k n : ℕ) → n < 10 ^ 20 → IsDigitCount 10 1 n k → take k s ≡ last_digits 10 k n → r ≡ puts p (take k s)
    → r ≡ puts p (number n)
number_put p r s k n h d e q = q ∙ ap (puts p) (e ∙ spelled 20 k n (omega arith) h d)

-- the root's slot, or none
module _ (p q : Page) (k : ℕ) where
  pub root_none : k ≡ U → q ≡ put_byte_lem p 45 → q ≡ puts p (root_text k)
  unfolding root_text
  root_none e h = rw (eq-eqb k U e) (puts_byte p q 45 h)

  pub root_some : (k ≡ U → ⊥) → q ≡ puts p (number k) → q ≡ puts p (root_text k)
  unfolding root_text
  root_some e h = rw (ne_eqb k U e) h

-- a refusal, by its number
pub refusal_is : (why m : ℕ) (p q r o : Page) → m ≡ why → q ≡ puts p refused_word → r ≡ puts q (number m) → o ≡ put_byte_lem r 10
    → o ≡ puts p (refusal_text why)
unfolding refusal_text
refusal_is why m p q r o d e f g = in_three p q r o refused_word (number why) 10 e (f ∙ ap (λ (k : ℕ). puts q (number k)) d) g

-- the line of a slot, and the lines of all
pub row_is : (W : List ℕ) (k : ℕ) (e : Entry) (p q r m n o : Page) → e ≡ entry (as_eight false W) k → q ≡ puts p (number k) → r ≡ puts q (next e.start)
    → m ≡ puts r (next e.end) → n ≡ puts m (next e.value) → o ≡ put_byte_lem n 10 → o ≡ puts p (row W k)
unfolding row as_eight
row_is W k e p q r m n o d a b c f g =
    subst (λ (x : Entry). o ≡ puts p (number k ++ (next x.start ++ (next x.end ++ (next x.value ++ (10 ∷ [])))))) d
    (in_five p q r m n o (number k) (next e.start) (next e.end) (next e.value) 10 a b c f g)

pub rows_start : (W : List ℕ) (n : ℕ) (p : Page) → puts p (rows W 0 n) ≡ puts p (rows W 0 (n - 0))
rows_start W n p = let d : n - 0 ≡ n = omega arith in rw d

module _ (W : List ℕ) (n k : ℕ) (P p : Page) (e : P ≡ puts p (rows W k (n - k))) where
  pub rows_on : (q : Page) → k < n → q ≡ puts p (row W k) → P ≡ puts q (rows W (k + 1) (n - (k + 1)))
  unfolding rows
  rows_on q h f =
      let d : n - k ≡ suc (n - (k + 1)) = omega arith in
      let y : suc k ≡ k + 1 = omega arith in
      let g : P ≡ puts (puts p (row W k)) (rows W (k + 1) (n - (k + 1))) = rw (d, y, puts_append) at e in
      rw f g

  pub rows_end : n ≤ k → p ≡ P
  unfolding rows puts
  rows_end h = let d : n - k ≡ 0 = omega arith in sym (rw d at e)

-- a map that the words hold, and one that they do not
module _ (m : Map) (W : List ℕ) (p r : Page) (k t : ℕ) (i : k ≡ length W / 8) (j : t ≡ min k 65535) where
  pub map_short : t < m.count → r ≡ puts p (refusal_text 1) → r ≡ puts p (checked_text m W)
  unfolding checked_text
  map_short h e = rw (← i, ← j, lt-ltb t m.count h) e

  pub map_text_lem : m.count ≤ t → (q : Page) → q ≡ puts p (head m.count m.root) → r ≡ puts q (rows W 0 m.count)
      → r ≡ puts p (checked_text m W)
  unfolding checked_text map_text
  map_text_lem h q e f = rw (← i, ← j, le-ltb t m.count h) (then p q r (head m.count m.root) (rows W 0 m.count) e f)

-- what is printed of work that was taken apart
pub text_of : (w z : Work) (W : List ℕ) (p q : Page) → w ≡ z → q ≡ puts p (work_text (job (Ok z)) W) → q ≡ puts p (work_text (job (Ok w)) W)
text_of w z W p q e h = rw e h
