-- What is read of a node after a write: once over the word and the slot.
use mathlib.Core.Path.{◌≡◌, refl, sym, ap, ◌∙◌}
use mathlib.Core.Logic.{◌≢◌}
use mathlib.Core.Bool.{Bool, true, false, not, cond, true≢false}
use mathlib.Core.List.{List}
use Prim.Native.Nat.{ℕ, zero, suc, ◌+◌, ◌*◌, ◌<◌}
use native.Mathlib.Omega.{arith}
use lib.Dec.{eqb}
use lib.ListN.{length, length-set}
use lib.Seq.{get_or-set_same, get_or-set_other}
use borrow.Author.Tests.{eqb-true, eqb-false}
use Rattle.words.specs.Nodes.{place, word, put, kid, par, hull, entry, put_kid, put_par, put_entry_lem, put_hull_lem, put_node_lem, swap, hull_of, fix, Has}
use Rattle.words.specs.declared.interval.Interval.{Interval}
use Rattle.words.specs.declared.node.Entry.{Entry}
use Rattle.words.specs.declared.node.Field.{Field}
use Rattle.words.specs.declared.node.Field.TheVariants.{Start, End, Value, HullStart, HullEnd, Child, Parent}

place_low : (f : Field) → place f < 8
place_low Start = omega arith
place_low End = omega arith
place_low Value = omega arith
place_low HullStart = omega arith
place_low HullEnd = omega arith
place_low (Child true) = omega arith
place_low (Child false) = omega arith
place_low Parent = omega arith

-- the word at a place: each word has a place of its own
abbrev word_at : ℕ → Field
word_at zero = Start
word_at (suc zero) = End
word_at (suc (suc zero)) = Value
word_at (suc (suc (suc zero))) = HullStart
word_at (suc (suc (suc (suc zero)))) = HullEnd
word_at (suc (suc (suc (suc (suc zero))))) = Child true
word_at (suc (suc (suc (suc (suc (suc zero)))))) = Child false
word_at (suc (suc (suc (suc (suc (suc (suc n))))))) = Parent

at_place : (f : Field) → word_at (place f) ≡ f
at_place Start = refl
at_place End = refl
at_place Value = refl
at_place HullStart = refl
at_place HullEnd = refl
at_place (Child true) = refl
at_place (Child false) = refl
at_place Parent = refl

-- two words that some test tells apart have different places
apart : (P : Field → Bool) (f g : Field) → P f ≡ true → P g ≡ false → place g ≢ place f
apart P f g p q e = true≢false (sym p ∙ ap P (sym (at_place f) ∙ ap word_at (sym e) ∙ at_place g) ∙ q)

module _ (W : List ℕ) (f : Field) (s v : ℕ) where
  pub length_put : length (put W f s v) ≡ length W
  unfolding put
  length_put = length-set W (s * 8 + place f) v

  pub word_put : Has W s → word (put W f s v) f s ≡ v
  unfolding word put
  word_put h = get_or-set_same W (s * 8 + place f) v 0 (omega (arith, place_low f))

  -- another slot
  pub word_put_slot : (g : Field) (a : ℕ) → a ≢ s → word (put W f s v) g a ≡ word W g a
  unfolding word put
  word_put_slot g a d = get_or-set_other W (s * 8 + place f) (a * 8 + place g) v 0 (omega (arith, place_low f, place_low g))

  -- another word
  pub word_put_field : (P : Field → Bool) (g : Field) (a : ℕ) → P f ≡ true → P g ≡ false → word (put W f s v) g a ≡ word W g a
  unfolding word put
  word_put_field P g a p q =
      let d : place g ≢ place f = apart P f g p q in
      get_or-set_other W (s * 8 + place f) (a * 8 + place g) v 0 (omega (arith, place_low f, place_low g))

-- the word at one place, and the words that a writer writes
abbrev is_at : ℕ → Field → Bool
is_at k f = eqb (place f) k

abbrev pub in_entry : Field → Bool
in_entry Start = true
in_entry End = true
in_entry Value = true
in_entry HullStart = false
in_entry HullEnd = false
in_entry (Child b) = false
in_entry Parent = false

abbrev pub in_hull : Field → Bool
in_hull Start = false
in_hull End = false
in_hull Value = false
in_hull HullStart = true
in_hull HullEnd = true
in_hull (Child b) = false
in_hull Parent = false

abbrev pub in_links : Field → Bool
in_links Start = false
in_links End = false
in_links Value = false
in_links HullStart = false
in_links HullEnd = false
in_links (Child b) = true
in_links Parent = true

abbrev pub in_parent : Field → Bool
in_parent Start = false
in_parent End = false
in_parent Value = false
in_parent HullStart = false
in_parent HullEnd = false
in_parent (Child b) = false
in_parent Parent = true

entry_no_hull : (f : Field) → in_entry f ≡ true → in_hull f ≡ false
entry_no_hull Start q = refl
entry_no_hull End q = refl
entry_no_hull Value q = refl
entry_no_hull HullStart q = absurd (true≢false (sym q))
entry_no_hull HullEnd q = absurd (true≢false (sym q))
entry_no_hull (Child b) q = refl
entry_no_hull Parent q = refl

entry_no_link : (f : Field) → in_entry f ≡ true → in_links f ≡ false
entry_no_link Start q = refl
entry_no_link End q = refl
entry_no_link Value q = refl
entry_no_link HullStart q = refl
entry_no_link HullEnd q = refl
entry_no_link (Child b) q = absurd (true≢false (sym q))
entry_no_link Parent q = absurd (true≢false (sym q))

-- links
pub kid_put_par : (W : List ℕ) (s v : ℕ) (b : Bool) (a : ℕ) → kid (put_par W s v) b a ≡ kid W b a
kid_put_par W s v b a = word_put_field W Parent s v in_parent (Child b) a refl refl

pub par_put_kid : (W : List ℕ) (b : Bool) (s v a : ℕ) → par (put_kid W b s v) a ≡ par W a
par_put_kid W b s v a = word_put_field W (Child b) s v (λ f. not (in_parent f)) Parent a refl refl

pub kid_put_kid_not : (W : List ℕ) (s v : ℕ) (d : Bool) (a : ℕ) → kid (put_kid W (not d) s v) d a ≡ kid W d a
kid_put_kid_not W s v true a = word_put_field W (Child false) s v (is_at 6) (Child true) a refl refl
kid_put_kid_not W s v false a = word_put_field W (Child true) s v (is_at 5) (Child false) a refl refl

-- the entry is written
module _ (W : List ℕ) (s : ℕ) (e : Entry) where
  pub length_put_entry : length (put_entry_lem W s e) ≡ length W
  unfolding put_entry_lem
  length_put_entry = simp length_put

  pub word_put_entry : (g : Field) (a : ℕ) → in_entry g ≡ false → word (put_entry_lem W s e) g a ≡ word W g a
  unfolding put_entry_lem
  word_put_entry g a q =
      word_put_field _ Value s _ in_entry g a refl q ∙ word_put_field _ End s _ in_entry g a refl q ∙ word_put_field W Start s _ in_entry g a refl q

  pub word_put_entry_slot : (g : Field) (a : ℕ) → a ≢ s → word (put_entry_lem W s e) g a ≡ word W g a
  unfolding put_entry_lem
  word_put_entry_slot g a d = simp word_put_slot

  pub entry_put_entry : Has W s → entry (put_entry_lem W s e) s ≡ e
  unfolding put_entry_lem
  entry_put_entry h =
      let A : List ℕ = put W Start s e.start in
      let B : List ℕ = put A End s e.end in
      let p : word (put B Value s e.value) Start s ≡ e.start =
      word_put_field B Value s e.value (is_at 2) Start s refl refl ∙ word_put_field A End s e.end (is_at 1) Start s refl refl ∙ word_put W Start s e.start h in
      let q : word (put B Value s e.value) End s ≡ e.end =
      word_put_field B Value s e.value (is_at 2) End s refl refl ∙ word_put A End s e.end (rw length_put h) in
      let r : word (put B Value s e.value) Value s ≡ e.value = word_put B Value s e.value (simp length_put h) in
      λ t. record { start = p t; end = q t; value = r t }

-- a slot whose words of the entry are the same holds the same entry
pub same_entry : (W X : List ℕ) (a : ℕ) → ((g : Field) → in_entry g ≡ true → word X g a ≡ word W g a) → entry X a ≡ entry W a
same_entry W X a p = λ t. record { start = p Start refl t; end = p End refl t; value = p Value refl t }

-- the hull is written
module _ (W : List ℕ) (s : ℕ) (h : Interval) where
  pub length_put_hull : length (put_hull_lem W s h) ≡ length W
  unfolding put_hull_lem
  length_put_hull = simp length_put

  pub word_put_hull : (g : Field) (a : ℕ) → in_hull g ≡ false → word (put_hull_lem W s h) g a ≡ word W g a
  unfolding put_hull_lem
  word_put_hull g a q = word_put_field _ HullEnd s _ in_hull g a refl q ∙ word_put_field W HullStart s _ in_hull g a refl q

  pub word_put_hull_slot : (g : Field) (a : ℕ) → a ≢ s → word (put_hull_lem W s h) g a ≡ word W g a
  unfolding put_hull_lem
  word_put_hull_slot g a d = simp word_put_slot

  pub hull_put_hull : Has W s → hull (put_hull_lem W s h) s ≡ h
  unfolding put_hull_lem
  hull_put_hull m =
      let A : List ℕ = put W HullStart s h.start in
      let p : word (put A HullEnd s h.end) HullStart s ≡ h.start =
      word_put_field A HullEnd s h.end (is_at 4) HullStart s refl refl ∙ word_put W HullStart s h.start m in
      let q : word (put A HullEnd s h.end) HullEnd s ≡ h.end = word_put A HullEnd s h.end (rw length_put m) in
      λ t. record { start = p t; end = q t }

-- `update_subtree_interval` writes the hull of its slot and nothing else
module _ (n : ℕ) (W : List ℕ) (s : ℕ) where
  pub length_fix : length (fix n W s) ≡ length W
  unfolding fix
  length_fix = length_put_hull W s (hull_of n W s)

  pub word_fix : (g : Field) (a : ℕ) → in_hull g ≡ false → word (fix n W s) g a ≡ word W g a
  unfolding fix
  word_fix g a q = word_put_hull W s (hull_of n W s) g a q

  pub word_fix_slot : (g : Field) (a : ℕ) → a ≢ s → word (fix n W s) g a ≡ word W g a
  unfolding fix
  word_fix_slot g a d = word_put_hull_slot W s (hull_of n W s) g a d

  pub hull_fix : Has W s → hull (fix n W s) s ≡ hull_of n W s
  unfolding fix
  hull_fix m = hull_put_hull W s (hull_of n W s) m

-- two slots exchange their entries, and nothing else
module _ (W : List ℕ) (i j : ℕ) where
  pub length_swap : length (swap W i j) ≡ length W
  unfolding swap
  length_swap = simp length_put_entry

  pub word_swap : (g : Field) (a : ℕ) → in_entry g ≡ false → word (swap W i j) g a ≡ word W g a
  unfolding swap
  word_swap g a q = word_put_entry _ j (entry W i) g a q ∙ word_put_entry W i (entry W j) g a q

  pub word_swap_slot : (g : Field) (a : ℕ) → a ≢ i → a ≢ j → word (swap W i j) g a ≡ word W g a
  unfolding swap
  word_swap_slot g a d e = word_put_entry_slot _ j (entry W i) g a e ∙ word_put_entry_slot W i (entry W j) g a d

  pub entry_swap_second : Has W j → entry (swap W i j) j ≡ entry W i
  unfolding swap
  entry_swap_second m = entry_put_entry _ j (entry W i) (rw length_put_entry m)

  pub entry_swap_first : Has W i → entry (swap W i j) i ≡ entry W j
  unfolding swap
  entry_swap_first m = go (eqb i j) refl
    where
      go : (t : Bool) → eqb i j ≡ t → entry (swap W i j) i ≡ entry W j
      go true e = let p : i ≡ j = eqb-true i j e in rw p (entry_put_entry _ j (entry W j) (rw length_put_entry (rw p at m)))
      go false e =
          let d : i ≢ j = eqb-false i j e in
          same_entry _ _ i (λ g q. word_put_entry_slot (put_entry_lem W i (entry W j)) j (entry W i) g i d) ∙ entry_put_entry W i (entry W j) m

-- the three links are written, as the last words of a node
module _ (X : List ℕ) (s left right up : ℕ) where
  abbrev links : List ℕ
  links = put_par (put_kid (put_kid X true s left) false s right) s up

  word_links : (g : Field) → in_links g ≡ false → word links g s ≡ word X g s
  word_links g q =
      word_put_field _ Parent s up in_links g s refl q ∙ word_put_field _ (Child false) s right in_links g s refl q
      ∙ word_put_field X (Child true) s left in_links g s refl q

  kid_links : (b : Bool) → Has X s → kid links b s ≡ cond b left right
  kid_links true m =
      kid_put_par _ s up true s ∙ kid_put_kid_not (put_kid X true s left) s right true s ∙ word_put X (Child true) s left m
  kid_links false m = kid_put_par _ s up false s ∙ word_put (put_kid X true s left) (Child false) s right (rw length_put m)

  par_links : Has X s → par links s ≡ up
  par_links m = word_put (put_kid (put_kid X true s left) false s right) Parent s up (simp length_put m)

-- all eight words are written
module _ (W : List ℕ) (s : ℕ) (e : Entry) (h : Interval) (left right up : ℕ) where
  pub length_put_node : length (put_node_lem W s e h left right up) ≡ length W
  unfolding put_node_lem
  length_put_node = simp (length_put, length_put_hull, length_put_entry)

  pub word_put_node_slot : (g : Field) (a : ℕ) → a ≢ s → word (put_node_lem W s e h left right up) g a ≡ word W g a
  unfolding put_node_lem
  word_put_node_slot g a d = simp (word_put_slot, word_put_hull_slot, word_put_entry_slot)

  pub entry_put_node : Has W s → entry (put_node_lem W s e h left right up) s ≡ e
  unfolding put_node_lem
  entry_put_node m =
      let X : List ℕ = put_entry_lem W s e in
      let Y : List ℕ = put_hull_lem X s h in
      same_entry Y (links Y s left right up) s (λ g q. word_links Y s left right up g (entry_no_link g q))
      ∙ same_entry X Y s (λ g q. word_put_hull X s h g s (entry_no_hull g q)) ∙ entry_put_entry W s e m

  pub hull_put_node : Has W s → hull (put_node_lem W s e h left right up) s ≡ h
  unfolding put_node_lem
  hull_put_node m =
      let X : List ℕ = put_entry_lem W s e in
      let Y : List ℕ = put_hull_lem X s h in
      let p : hull (links Y s left right up) s ≡ hull Y s =
      λ t. record { start = word_links Y s left right up HullStart refl t; end = word_links Y s left right up HullEnd refl t } in
      p ∙ hull_put_hull X s h (rw length_put_entry m)

  pub kid_put_node : (b : Bool) → Has W s → kid (put_node_lem W s e h left right up) b s ≡ cond b left right
  unfolding put_node_lem
  kid_put_node b m = kid_links (put_hull_lem (put_entry_lem W s e) s h) s left right up b (simp (length_put_hull, length_put_entry) m)

  pub par_put_node : Has W s → par (put_node_lem W s e h left right up) s ≡ up
  unfolding put_node_lem
  par_put_node m = par_links (put_hull_lem (put_entry_lem W s e) s h) s left right up (simp (length_put_hull, length_put_entry) m)
