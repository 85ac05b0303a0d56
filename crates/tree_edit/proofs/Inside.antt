-- Changes one after the other, and what they leave alone.
use mathlib.Core.Path.{◌∙◌}
use mathlib.Core.List.{List}
use Prim.Native.Nat.{ℕ, ◌≤◌}
use native.Mathlib.Omega.{arith}
use Rattle.tree_edit.specs.Store.{Store}
use Rattle.tree_edit.specs.Inside.{Inside}

-- what is written below a lower count is written below a higher one
pub inside_trans : (n m : ℕ) (S T R : Store) → m ≤ n → Inside n S.words S.colours T → Inside m T.words T.colours R
    → Inside n S.words S.colours R
inside_trans n m S T R q f g =
    record {
      words_length = g.words_length ∙ f.words_length;
      colours_length = g.colours_length ∙ f.colours_length;
      words_kept = λ k a u. g.words_kept k a (omega arith) ∙ f.words_kept k a u;
      colours_kept = λ a u. g.colours_kept a (omega arith) ∙ f.colours_kept a u;
    }

pub inside_more : (n m : ℕ) (W C : List ℕ) (S : Store) → n ≤ m → Inside n W C S → Inside m W C S
inside_more n m W C S q f =
    record {
      words_length = f.words_length;
      colours_length = f.colours_length;
      words_kept = λ k a u. f.words_kept k a (omega arith);
      colours_kept = λ a u. f.colours_kept a (omega arith);
    }
