-- Laws of `filter`.
use mathlib.Core.Path.{◌≡◌, refl}
use mathlib.Core.Bool.{Bool, true, false, cond}
use mathlib.Core.List.{List, [], ◌∷◌, ◌++◌}
use Prim.Native.Nat.{ℕ}
use Rattle.words.specs.Lists.{filter}

pub filter_append : (p : ℕ → Bool) (A B : List ℕ) → filter p (A ++ B) ≡ filter p A ++ filter p B
filter_append p [] B = refl
filter_append p (a ∷ A) B = go (p a) (filter_append p A B)
  where
    go : (t : Bool) → filter p (A ++ B) ≡ filter p A ++ filter p B
        → cond t (a ∷ filter p (A ++ B)) (filter p (A ++ B)) ≡ cond t (a ∷ filter p A) (filter p A) ++ filter p B
    go true e = rw e
    go false e = e
