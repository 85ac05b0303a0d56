-- What a repair leaves, whatever the words hold.
use mathlib.Core.Path.{◌≡◌, refl, ◌∙◌}
use mathlib.Core.List.{List}
use Prim.Native.Nat.{ℕ}
use Rattle.words.specs.Nodes.{entry}
use Rattle.tree_edit.specs.Store.{Store, store}
use Rattle.tree_edit.proofs.Low.{Low, low_refl, low_trans, LowColours, low_colours_refl}

module _ (n : ℕ) where
  -- what the repair leaves: writes below n, and every entry where it was
  pub record InPlace (W C : List ℕ) (S : Store) : Type 0 where
    pub words_in : Low n W S.words
    pub colours_in : LowColours n C S.colours
    pub entries : (a : ℕ) → entry S.words a ≡ entry W a

  pub in_place_refl : (W C : List ℕ) (r : ℕ) → InPlace W C (store W C r)
  in_place_refl W C r = record { words_in = low_refl n W; colours_in = low_colours_refl n C; entries = λ a. refl }

  -- one after the other
  pub in_place_trans : (W C : List ℕ) (S T : Store) → InPlace W C S → InPlace S.words S.colours T → InPlace W C T
  in_place_trans W C S T f g =
      record {
        words_in = low_trans n W S.words T.words f.words_in g.words_in;
        colours_in = (g.colours_in.0 ∙ f.colours_in.0, λ a u. g.colours_in.1 a u ∙ f.colours_in.1 a u);
        entries = λ a. g.entries a ∙ f.entries a;
      }
