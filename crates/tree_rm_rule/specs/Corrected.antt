-- The removal as document 01 had it before document 02's item 2, and what that item changes.
-- Letters: W words, C colours, n count, r root, X words after the exchange, k link word, b side
--   (true: left), s slot asked for, x vacated slot, y child of x, v emptied slot, z last slot,
--   g above v, t store, f field, a slot
use Rattle.std.specs.Prelude.{◌≡◌, cond, List, ◌≢◌, ℕ, ◌-◌, eqb, length}
use Rattle.words.specs.Ix.{U}
use Rattle.words.specs.Nodes.{word, value}
use Rattle.words.specs.declared.node.Field.{Field}
use Rattle.words.specs.declared.node.Field.TheVariants.{Start, End, Value, HullStart, HullEnd, Child, Parent}
use Rattle.bitvec.specs.Colours.{red, paint}
use Rattle.tree_rm_rule.specs.Pairs.{moved_to, emptied, moved}
use Rattle.tree_rm_rule.specs.Remove.{vacated, exchanged, child, restructure, handed, above, cut_words, cut_root, relinked, blank, Removed}
use Rattle.tree_edit.specs.Store.{Store, store}

-- "The old last slot's eight words become 0."
unfoldable pub swap_remove_01 : (count : ℕ) (words colours : List ℕ) (root last emptied : ℕ) → Store
swap_remove_01 n W C r z v =
    cond (eqb v z) (store (blank 0 W z) C r) (store (blank 0 (relinked n W z v) z) (paint C v (red C z)) (moved_to z v r))

unfoldable pub finish_01 : (store : Store) (count slot vacated child : ℕ) → Removed
finish_01 t n s x y =
    let v : ℕ = emptied n x y in
    let g : ℕ = above n t.words x y in
    let W : List ℕ = cut_words n (handed n t.words x y) g v in
    record { store = swap_remove_01 n W t.colours (cut_root n t.root g) (n - 1) v; value = value W v; pairs = moved n (n - 1) s x y }

unfoldable pub remove_from_01 : (words colours : List ℕ) (count root slot vacated : ℕ) → Removed
remove_from_01 W C n r s x =
    let X : List ℕ = exchanged W s x in
    finish_01 (restructure n X C r x (child X x)) n s x (child X x)

unfoldable pub remove_rule_01 : (words colours : List ℕ) (count root slot : ℕ) → Removed
remove_rule_01 W C n r s = remove_from_01 W C n r s (vacated n W s)

-- a word of a slot without an entry, whose links are k
abbrev pub blank_word : (link : ℕ) (field : Field) → ℕ
blank_word k Start = 0
blank_word k End = 0
blank_word k Value = 0
blank_word k HullStart = 0
blank_word k HullEnd = 0
blank_word k (Child b) = k
blank_word k Parent = k

-- Two removals from n entries that differ in the three links of the old last slot, 0 before and U
-- now, and in nothing else.
pub record Corrected (n : ℕ) (was is : Removed) : Type 0 where
  pub value_same : is.value ≡ was.value
  pub pairs_same : is.pairs ≡ was.pairs
  pub root_same : is.store.root ≡ was.store.root
  pub colours_same : is.store.colours ≡ was.store.colours
  pub length_same : length is.store.words ≡ length was.store.words
  pub words_same : (f : Field) (a : ℕ) → a ≢ n - 1 → word is.store.words f a ≡ word was.store.words f a
  pub last_was : (f : Field) → word was.store.words f (n - 1) ≡ blank_word 0 f
  pub last_is : (f : Field) → word is.store.words f (n - 1) ≡ blank_word U f
