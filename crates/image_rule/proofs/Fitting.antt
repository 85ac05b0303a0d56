-- A store that passes fits an image: its links are U or slots, and its words have 64 bits. And an
-- image that is accepted fits nodes of either layout.
use mathlib.Core.Path.{◌≡◌, refl, sym, ◌∙◌}
use mathlib.Core.Bool.{Bool, true, false}
use mathlib.Core.List.{List}
use Prim.Native.Nat.{ℕ, ◌*◌, ◌<◌, ◌≤◌}
use native.Mathlib.Omega.{arith}
use lib.ListN.{length, replicate, length-replicate}
use Rattle.words.specs.Ix.{U}
use Rattle.words.specs.Layouts.{kid_fits, up_fits_lem}
use Rattle.words.specs.Nodes.{word, kid, par}
use Rattle.words.specs.declared.node.Field.{Field}
use Rattle.words.specs.declared.node.Field.TheVariants.{Start, End, Value}
use Rattle.words.proofs.Layouts.{slot_fits, none_fits, kid_up}
use Rattle.tree.specs.Tree.{Tree, leaf, node, occ, Shape}
use Rattle.tree.specs.Passes.{Passes}
use Rattle.tree.proofs.Slots.{occ_cases}
use Rattle.audit.proofs.Decides.{audit_sound}
use Rattle.image_rule.specs.Judge.{whole_at}
use Rattle.image_rule.specs.Stored.{node_in_lem, LinksFit, loaded_words, loaded_colours}
use Rattle.image_rule.specs.Written.{Words}
use Rattle.image_rule.proofs.Reread.{Fit}
use Rattle.image_rule.proofs.Stores.{FromImage, loaded_holds, good_whole}

-- what holds for U and for each slot holds for every link of a tree
module _ (W : List ℕ) (n : ℕ) (P : ℕ → Type 0) (none : P U) (slot : (s : ℕ) → s < n → P s) where
  link_is : (p k : ℕ) (t : Tree) → Shape W n p k t → P k
  link_is p k leaf h = rw h none
  link_is p k (node l s r) h = rw h.here (slot s h.live)

  links_are : (p k : ℕ) (t : Tree) → Shape W n p k t → P p → (s : ℕ) → 0 < occ s t → ((b : Bool) → P (kid W b s)) × P (par W s)
  links_are p k leaf h u s o = absurd (omega arith)
  links_are p k (node l a r) h u s o =
      occ_cases s a l r o
      (links_are a (kid W true a) l h.left (slot a h.live) s)
      (λ q. rw q (sides, rw h.up u))
      (links_are a (kid W false a) r h.right (slot a h.live) s)
    where
      sides : (b : Bool) → P (kid W b a)
      sides true = link_is a (kid W true a) l h.left
      sides false = link_is a (kid W false a) r h.right

module _ (W C : List ℕ) (n r : ℕ) (P : Passes W C n r) (Q : ℕ → Type 0) (none : Q U) (slot : (s : ℕ) → s < n → Q s) where
  root_is : Q r
  root_is = link_is W n Q none slot U r P.tree P.shape

  pub passing_links : (s : ℕ) → s < n → ((b : Bool) → Q (kid W b s)) × Q (par W s)
  passing_links s q = links_are W n Q none slot U r P.tree P.shape none s (omega (arith, P.once s q))

module _ (W C : List ℕ) (n r : ℕ) (small : n ≤ 65535) (wide : Words W) (P : Passes W C n r) where
  word_low : (f : Field) (s : ℕ) → word W f s < 18446744073709551616
  unfolding word
  word_low f s = wide _

  pub fits : Fit W n r
  fits =
      let low : (s : ℕ) → s < n → ((b : Bool) → kid W b s < 4294967296) × (par W s < 4294967296) =
      passing_links W C n r P (λ k. k < 4294967296) (omega arith) (λ s h. omega arith) in
      record {
        few = small;
        root = root_is W C n r P (λ k. k < 4294967296) (omega arith) (λ s h. omega arith);
        starts = λ s q. word_low Start s;
        stops = λ s q. word_low End s;
        values = λ s q. word_low Value s;
        kids = λ b s q. (low s q).0 b;
        pars = λ s q. (low s q).1;
      }

-- An image that is accepted. What is read from it passes, in memory that is taken for it.
module _ (narrow : Bool) (I : List ℕ) (n r : ℕ) (small : n ≤ 65535) (good : whole_at (node_in_lem I n) n r ≡ true) where
  abbrev blank : List ℕ
  blank = replicate (n * 8) 0

  abbrev dark : List ℕ
  dark = replicate n 0

  roomy : n * 8 ≤ length blank
  roomy = omega (arith, length-replicate {A = ℕ} (n * 8) 0)

  bits : n ≤ length dark * 8
  bits = omega (arith, length-replicate {A = ℕ} n 0)

  passing : Passes (loaded_words I n r blank) (loaded_colours I n dark) n r
  passing = audit_sound _ _ n r small (sym (good_whole I blank dark n r small roomy bits) ∙ good)

  read : (s : ℕ) → s < n → FromImage I n (loaded_words I n r blank) s
  read s q = loaded_holds I n r blank s roomy q

  links : (s : ℕ) → s < n → ((b : Bool) → kid_fits narrow (kid (loaded_words I n r blank) b s) ≡ true) × (kid_fits narrow (par (loaded_words I n r blank) s) ≡ true)
  links = passing_links _ _ n r passing (λ k. kid_fits narrow k ≡ true) (none_fits narrow) (λ s h. slot_fits narrow s (omega arith))

  pub links_fit : LinksFit narrow I n
  links_fit =
      record {
        left = λ s q. rw (← (read s q).kid_is true) ((links s q).0 true);
        right = λ s q. rw (← (read s q).kid_is false) ((links s q).0 false);
        up = λ s q. rw (← (read s q).par_is) (kid_up narrow _ (links s q).1);
      }

-- eight words hold the links of any image
pub wide_fit : (I : List ℕ) (n : ℕ) → LinksFit false I n
unfolding kid_fits up_fits_lem
wide_fit I n = record { left = λ s q. refl; right = λ s q. refl; up = λ s q. refl }
