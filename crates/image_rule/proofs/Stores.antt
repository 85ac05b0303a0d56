-- What is in the target after reading; and the judge of an image, said of that.
use mathlib.Core.Path.{◌≡◌, refl, sym, ap, ◌∙◌}
use mathlib.Core.Logic.{◌≢◌}
use mathlib.Core.Bool.{Bool, true, false, cond}
use mathlib.Core.List.{List}
use Prim.Native.Nat.{ℕ, zero, suc, ◌<◌, ◌≤◌}
use native.Mathlib.Omega.{arith}
use lib.ListN.{length}
use lib.Dec.{eqb}
use borrow.Author.Tests.{eqb-true, eqb-false}
use Rattle.words.specs.Ix.{U}
use Rattle.words.specs.Nodes.{word, kid, par, entry, put_node_lem, Has, Holds, HoldsBits}
use Rattle.words.proofs.Nodes.{in_hull, length_put_node, word_put_node_slot, entry_put_node, kid_put_node, par_put_node}
use Rattle.words.specs.declared.node.Entry.{Entry}
use Rattle.words.specs.declared.node.Field.{Field}
use Rattle.words.specs.declared.node.Field.TheVariants.{Start, End, Value, Child, Parent}
use Rattle.bitvec.specs.Bits.{bit_at}
use Rattle.bitvec.specs.Colours.{paint}
use Rattle.bitvec.proofs.Bytes.{length_set_bit, bit_at_same, bit_at_other}
use Rattle.audit.specs.Survey.{node_at_lem, is_whole, whole_of}
use Rattle.image_rule.specs.Judge.{bare, whole_at, worked}
use Rattle.image_rule.specs.Stored.{interval_in_lem, entry_in_lem, link_in, child_in_lem, red_in_lem, node_in_lem, unpacked, painted, loaded_words, loaded_colours}
use Rattle.image_rule.proofs.Worked.{length_worked, word_worked, worked_rest}
use Rattle.image_rule.proofs.Glances.{glance_bare}
use Rattle.image_rule.proofs.Judged.{judged}

-- slot s of the words X has the image's entry and links
pub record FromImage (I : List ℕ) (n : ℕ) (X : List ℕ) (s : ℕ) : Type 0 where
  pub entry_is : entry X s ≡ entry_in_lem I s
  pub kid_is : (b : Bool) → kid X b s ≡ child_in_lem I n b s
  pub par_is : par X s ≡ link_in I n s 2

-- so has slot s of other words, if the two agree in all but its hull
pub from_same : (I : List ℕ) (n : ℕ) (X Y : List ℕ) (s : ℕ) → ((g : Field) → in_hull g ≡ false → word Y g s ≡ word X g s)
    → FromImage I n X s → FromImage I n Y s
from_same I n X Y s e x = record {
  entry_is = (λ t. record { start = e Start refl t; end = e End refl t; value = e Value refl t }) ∙ x.entry_is;
  kid_is = λ b. e (Child b) refl ∙ x.kid_is b;
  par_is = e Parent refl ∙ x.par_is;
}

module _ (I : List ℕ) (n : ℕ) where
  pub length_unpacked : (m : ℕ) (W : List ℕ) → length (unpacked I n m W) ≡ length W
  unfolding unpacked
  length_unpacked zero W = refl
  length_unpacked (suc m) W = rw length_put_node (length_unpacked m W)

  -- slots from m up stay
  pub unpacked_rest : (m : ℕ) (W : List ℕ) (g : Field) (a : ℕ) → m ≤ a → word (unpacked I n m W) g a ≡ word W g a
  unfolding unpacked
  unpacked_rest zero W g a h = refl
  unpacked_rest (suc m) W g a h =
      let d : a ≢ m = λ e. omega arith in
      word_put_node_slot (unpacked I n m W) m (entry_in_lem I m) (interval_in_lem I m) (link_in I n m 0) (link_in I n m 1) (link_in I n m 2) g a d
      ∙ unpacked_rest m W g a (omega arith)

  kid_side : (b : Bool) (s : ℕ) → cond b (link_in I n s 0) (link_in I n s 1) ≡ child_in_lem I n b s
  kid_side true s = refl
  kid_side false s = refl

  -- slots below m are the image's
  pub unpacked_holds : (m : ℕ) (W : List ℕ) (s : ℕ) → Holds W m → s < m → FromImage I n (unpacked I n m W) s
  unfolding unpacked
  unpacked_holds zero W s room h = absurd (omega arith)
  unpacked_holds (suc m) W s room h = go (eqb s m) refl (λ q. unpacked_holds m W s (omega arith) q)
    where
      X : List ℕ
      X = unpacked I n m W

      fit : Has X m
      fit = rw (length_unpacked m W) (omega arith)

      go : (t : Bool) → eqb s m ≡ t → (s < m → FromImage I n X s)
          → FromImage I n (put_node_lem X m (entry_in_lem I m) (interval_in_lem I m) (link_in I n m 0) (link_in I n m 1) (link_in I n m 2)) s
      go true e i =
          rw (eqb-true s m e)
          (record {
            entry_is = entry_put_node X m (entry_in_lem I m) (interval_in_lem I m) (link_in I n m 0) (link_in I n m 1) (link_in I n m 2) fit;
            kid_is = λ b.
                kid_put_node X m (entry_in_lem I m) (interval_in_lem I m) (link_in I n m 0) (link_in I n m 1) (link_in I n m 2) b fit ∙ kid_side b m;
            par_is = par_put_node X m (entry_in_lem I m) (interval_in_lem I m) (link_in I n m 0) (link_in I n m 1) (link_in I n m 2) fit;
          })
      go false e i =
          let d : s ≢ m = eqb-false s m e in
          from_same I n X _ s
          (λ g u. word_put_node_slot X m (entry_in_lem I m) (interval_in_lem I m) (link_in I n m 0) (link_in I n m 1) (link_in I n m 2) g s d) (i (omega arith))

  pub length_painted : (m : ℕ) (C : List ℕ) → length (painted I n m C) ≡ length C
  unfolding painted
  length_painted zero C = refl
  length_painted (suc m) C = length_set_bit _ m _ ∙ length_painted m C

  -- bits from m up stay
  pub painted_rest : (m : ℕ) (C : List ℕ) (i : ℕ) → m ≤ i → bit_at (painted I n m C) i ≡ bit_at C i
  unfolding painted
  painted_rest zero C i h = refl
  painted_rest (suc m) C i h =
      bit_at_other _ m _ i (λ e. omega arith) ∙ painted_rest m C i (omega arith)

  -- bits below m are the image's
  pub painted_bits : (m : ℕ) (C : List ℕ) (i : ℕ) → HoldsBits C m → i < m → bit_at (painted I n m C) i ≡ red_in_lem I n i
  unfolding painted
  painted_bits zero C i room h = absurd (omega arith)
  painted_bits (suc m) C i room h = go (eqb i m) refl (λ q. painted_bits m C i (omega arith) q)
    where
      go : (t : Bool) → eqb i m ≡ t → (i < m → bit_at (painted I n m C) i ≡ red_in_lem I n i)
          → bit_at (paint (painted I n m C) m (red_in_lem I n m)) i ≡ red_in_lem I n i
      go true e f = rw (eqb-true i m e) (bit_at_same (painted I n m C) m (red_in_lem I n m) (rw (length_painted m C) (omega arith)))
      go false e f = bit_at_other (painted I n m C) m (red_in_lem I n m) i (eqb-false i m e) ∙ f (omega (arith, eqb-false i m e))

-- what reading keeps and what it leaves
module _ (I : List ℕ) (n r : ℕ) (W : List ℕ) where
  pub length_loaded_words : length (loaded_words I n r W) ≡ length W
  unfolding loaded_words
  length_loaded_words = length_worked n 33 (unpacked I n n W) r ∙ length_unpacked I n n W

  -- words of slots from the count up stay
  pub loaded_rest : (g : Field) (a : ℕ) → n ≤ a → word (loaded_words I n r W) g a ≡ word W g a
  unfolding loaded_words
  loaded_rest g a u = worked_rest n 33 (unpacked I n n W) r g a u ∙ unpacked_rest I n n W g a u

  -- those of slots below it are the image's, but for the hulls
  pub loaded_holds : (s : ℕ) → Holds W n → s < n → FromImage I n (loaded_words I n r W) s
  unfolding loaded_words
  loaded_holds s room q =
      from_same I n (unpacked I n n W) (worked n 33 (unpacked I n n W) r) s (λ g u. word_worked n 33 (unpacked I n n W) r g s u)
      (unpacked_holds I n n W s room q)

module _ (I : List ℕ) (n : ℕ) (C : List ℕ) where
  pub length_loaded_colours : length (loaded_colours I n C) ≡ length C
  unfolding loaded_colours
  length_loaded_colours = length_painted I n n C

  -- bits from the count up stay, and those below it are the image's
  pub colours_rest : (i : ℕ) → n ≤ i → bit_at (loaded_colours I n C) i ≡ bit_at C i
  unfolding loaded_colours
  colours_rest i u = painted_rest I n n C i u

  pub colours_read : (i : ℕ) → HoldsBits C n → i < n → bit_at (loaded_colours I n C) i ≡ red_in_lem I n i
  unfolding loaded_colours
  colours_read i room q = painted_bits I n n C i room q

-- the judge of the bytes says yes exactly if what reading would leave in any memory with room
-- passes the check
module _ (I W C : List ℕ) (n r : ℕ) (small : n ≤ 65535) (room : Holds W n) (bits : HoldsBits C n) where
  abbrev X : List ℕ
  X = unpacked I n n W

  abbrev K : List ℕ
  K = painted I n n C

  nodes_in : (k : ℕ) → k < n → bare (node_in_lem I n k) ≡ bare (node_at_lem X K k)
  nodes_in k q =
      let h : FromImage I n X k = unpacked_holds I n n W k room q in
      let s = ap (λ (e : Entry). e.start) h.entry_is in
      let e = ap (λ (e : Entry). e.end) h.entry_is in
      λ t. record {
        interval = record { start = sym s t; end = sym e t };
        hull = record { start = sym s t; end = sym e t };
        left = sym (h.kid_is true) t;
        right = sym (h.kid_is false) t;
        parent = sym h.par_is t;
        red = sym (painted_bits I n n C k bits q) t;
      }

  pub good_words : whole_at (node_in_lem I n) n r ≡ whole_at (node_at_lem X K) n r
  unfolding whole_at
  good_words = ap (is_whole n) (glance_bare (node_in_lem I n) (node_at_lem X K) n nodes_in 33 U (record { start = 0; end = 0 }) r)

  pub good_whole : whole_at (node_in_lem I n) n r ≡ whole_of (loaded_words I n r W) (loaded_colours I n C) n r
  unfolding loaded_words loaded_colours
  good_whole = good_words ∙ judged X K n r small (rw (length_unpacked I n n W) room)
