-- Entries and order: slots and entries in a row.
use mathlib.Core.Path.{◌≡◌, refl}
use mathlib.Core.Bool.{Bool, true, false}
use mathlib.Core.List.{List, [], ◌∷◌, append_assoc, map}
use Prim.Native.Nat.{ℕ, ◌<◌}
use native.Mathlib.Omega.{arith}
use Rattle.tree.specs.Tree.{Tree, slots, times}
use Rattle.tree.specs.Zipper.{bin, Frame, plug, frame}
use Rattle.tree.proofs.Slots.{hit_same}

pub map_same : {A : Type 0} (f g : ℕ → A) (l : List ℕ) → ((a : ℕ) → 0 < times a l → g a ≡ f a) → map g l ≡ map f l
map_same f g [] h = refl
map_same f g (a ∷ l) h = rw (h a (omega (arith, hit_same a)), map_same f g l (λ c o. h c (omega arith)))

-- a rotation keeps the slots in tree order
slots_plug : (c : List Frame) (t u : Tree) → slots t ≡ slots u → slots (plug c t) ≡ slots (plug c u)
slots_plug [] t u e = e
slots_plug (frame b s far ∷ c) t u e = slots_plug c (bin b t s far) (bin b u s far) (go b)
  where
    go : (b : Bool) → slots (bin b t s far) ≡ slots (bin b u s far)
    go true = rw e
    go false = rw e

pub rotated_slots : (b : Bool) (P S : ℕ) (c : List Frame) (N C D : Tree)
    → slots (plug (frame b P C ∷ frame b S D ∷ c) N) ≡ slots (plug (frame b P (bin b C S D) ∷ c) N)
rotated_slots b P S c N C D = slots_plug c (bin b (bin b N P C) S D) (bin b N P (bin b C S D)) (go b)
  where
    go : (b : Bool) → slots (bin b (bin b N P C) S D) ≡ slots (bin b N P (bin b C S D))
    go true = simp append_assoc
    go false = simp append_assoc

pub slots_four : (b : Bool) (c : List Frame) (t : Tree) (P : ℕ) (X : Tree) (Q : ℕ) (Y : Tree) (S : ℕ) (D : Tree)
    → slots (plug (frame b P (bin b X Q (bin b Y S D)) ∷ c) t) ≡ slots (plug (frame b P (bin b (bin b X Q Y) S D) ∷ c) t)
slots_four b c t P X Q Y S D = slots_plug c (bin b t P (bin b X Q (bin b Y S D))) (bin b t P (bin b (bin b X Q Y) S D)) (go b)
  where
    go : (b : Bool) → slots (bin b t P (bin b X Q (bin b Y S D))) ≡ slots (bin b t P (bin b (bin b X Q Y) S D))
    go true = simp append_assoc
    go false = simp append_assoc
