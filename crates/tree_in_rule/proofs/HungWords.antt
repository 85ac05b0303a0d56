-- What is read after the new node is hung.
use mathlib.Core.Path.{◌≡◌, refl, ◌∙◌}
use mathlib.Core.Logic.{◌≢◌}
use mathlib.Core.Bool.{Bool, true, false, cond, not}
use mathlib.Core.List.{List}
use Prim.Native.Nat.{ℕ, ◌<◌}
use native.Mathlib.Omega.{arith}
use lib.ListN.{length}
use Rattle.words.specs.Ix.{U}
use Rattle.words.specs.Nodes.{word, kid, par, entry, put_kid, Has}
use Rattle.words.proofs.Nodes.{length_put, word_put, word_put_slot, word_put_field, in_links, par_put_kid, kid_put_kid_not, length_put_node, word_put_node_slot, entry_put_node, kid_put_node, par_put_node}
use Rattle.words.specs.declared.node.Entry.{Entry}
use Rattle.words.specs.declared.node.Field.{Field}
use Rattle.words.specs.declared.node.Field.TheVariants.{Child, Parent}
use Rattle.tree.proofs.Frames.{Same}
use Rattle.tree_edit.proofs.Carried.{Kept, kept_entry}
use Rattle.tree_edit.proofs.Links.{by_link, on_slot}
use Rattle.tree_in_rule.specs.Descent.{goes_left_lem}
use Rattle.tree_in_rule.specs.Insert.{own, hung_node, hung_words}

-- in slot n, below p
module _ (W : List ℕ) (n : ℕ) (e : Entry) (p : ℕ) where
  abbrev X : List ℕ
  X = hung_words W n e p

  -- the node alone, not yet linked
  abbrev Z : List ℕ
  Z = hung_node W n e p

  abbrev g : Bool
  g = goes_left_lem W (own e) p

  length_Z : length Z ≡ length W
  unfolding hung_node
  length_Z = length_put_node W n e (own e) U U p

  word_Z : (f : Field) (a : ℕ) → a ≢ n → word Z f a ≡ word W f a
  unfolding hung_node
  word_Z f a d = word_put_node_slot W n e (own e) U U p f a d

  pub by_hung : (P : List ℕ → Type 0) → (p < n → P (put_kid Z g p n)) → P Z → P X
  unfolding hung_words
  by_hung P f z = by_link n p P (λ s. put_kid Z (goes_left_lem W (own e) s) s n) Z f (λ h. z)

  pub length_hung : length X ≡ length W
  length_hung = by_hung (λ Y. length Y ≡ length W) (λ h. length_put Z (Child g) p n ∙ length_Z) length_Z

  -- every other slot keeps its entry and hull, and, but for p, its links
  pub kept_hung : (a : ℕ) → a ≢ n → Kept W X a
  kept_hung a d f q =
      by_hung (λ Y. word Y f a ≡ word W f a) (λ h. word_put_field Z (Child g) p n in_links f a refl q ∙ word_Z f a d) (word_Z f a d)

  word_hung : (f : Field) (a : ℕ) → a ≢ n → a ≢ p → word X f a ≡ word W f a
  word_hung f a d i = by_hung (λ Y. word Y f a ≡ word W f a) (λ h. word_put_slot Z (Child g) p n f a i ∙ word_Z f a d) (word_Z f a d)

  pub same_hung : (a : ℕ) → a ≢ n → a ≢ p → Same W X a
  same_hung a d i = (λ b. word_hung (Child b) a d i, word_hung Parent a d i)

  module _ (fit : Has W n) where
    pub entry_hung : entry X n ≡ e
    unfolding hung_node
    entry_hung =
        let z : entry Z n ≡ e = entry_put_node W n e (own e) U U p fit in
        by_hung (λ Y. entry Y n ≡ e) (λ h. kept_entry Z (put_kid Z g p n) n (λ f q. word_put_field Z (Child g) p n in_links f n refl q) ∙ z) z

    pub par_hung : par X n ≡ p
    unfolding hung_node
    par_hung =
        let z : par Z n ≡ p = par_put_node W n e (own e) U U p fit in
        by_hung (λ Y. par Y n ≡ p) (λ h. par_put_kid Z g p n n ∙ z) z

    pub kid_hung : (b : Bool) → kid X b n ≡ U
    unfolding hung_node
    kid_hung b =
        let z : kid Z b n ≡ U = kid_put_node W n e (own e) U U p b fit ∙ both b in
        by_hung (λ Y. kid Y b n ≡ U) (λ h. word_put_slot Z (Child g) p n (Child b) n (omega arith) ∙ z) z
      where
        both : (b : Bool) → cond b U U ≡ U
        both true = refl
        both false = refl

  -- the slot p itself
  module _ (h : p < n) (fit : Has W n) where
    hung_is : X ≡ put_kid Z g p n
    unfolding hung_words
    hung_is = on_slot n p h _ _

    pub kid_at : kid X g p ≡ n
    kid_at = rw hung_is (word_put Z (Child g) p n (rw length_Z (omega arith)))

    pub kid_not_at : (d : Bool) → g ≡ not d → kid X d p ≡ kid W d p
    kid_not_at d q = rw (hung_is, q) (kid_put_kid_not Z p n d p ∙ word_Z (Child d) p (omega arith))

    pub par_at : par X p ≡ par W p
    par_at = rw hung_is (par_put_kid Z g p n p ∙ word_Z Parent p (omega arith))
