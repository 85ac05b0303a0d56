-- What a slot holds besides its links, carried over from one store to another.
use mathlib.Core.Path.{◌≡◌, refl, sym, ap}
use mathlib.Core.Bool.{Bool, false, false≢true}
use mathlib.Core.List.{List}
use Prim.Native.Nat.{ℕ}
use Rattle.words.specs.Nodes.{word, hull, entry}
use Rattle.words.proofs.Nodes.{in_links}
use Rattle.words.specs.declared.interval.Interval.{Interval}
use Rattle.words.specs.declared.node.Entry.{Entry}
use Rattle.words.specs.declared.node.Field.{Field}
use Rattle.words.specs.declared.node.Field.TheVariants.{Start, End, Value, HullStart, HullEnd, Child, Parent}
use Rattle.tree.specs.View.{datum}

-- slot b of X has the entry and the hull of slot a of W; and a slot keeps its own
abbrev pub Carried : List ℕ → List ℕ → ℕ → ℕ → Type 0
Carried W X a b = (g : Field) → in_links g ≡ false → word X g b ≡ word W g a

abbrev pub Kept : List ℕ → List ℕ → ℕ → Type 0
Kept W X a = Carried W X a a

pub kept_entry : (W X : List ℕ) (a : ℕ) → Kept W X a → entry X a ≡ entry W a
kept_entry W X a f = λ t. record { start = f Start refl t; end = f End refl t; value = f Value refl t }

pub datum_carried : (W X : List ℕ) (K L : ℕ → Bool) (a b : ℕ) → Carried W X a b → L b ≡ K a → datum X L b ≡ datum W K a
unfolding datum
datum_carried W X K L a b f e =
    λ t. record {
      interval = record { start = f Start refl t; end = f End refl t };
      value = f Value refl t;
      hull = record { start = f HullStart refl t; end = f HullEnd refl t };
      red? = e t;
    }

-- from an entry and a hull
pub carry : (W X : List ℕ) (a b : ℕ) → entry X b ≡ entry W a → hull X b ≡ hull W a → Carried W X a b
carry W X a b e h Start q = ap (λ (i : Entry). i.start) e
carry W X a b e h End q = ap (λ (i : Entry). i.end) e
carry W X a b e h Value q = ap (λ (i : Entry). i.value) e
carry W X a b e h HullStart q = ap (λ (i : Interval). i.start) h
carry W X a b e h HullEnd q = ap (λ (i : Interval). i.end) h
carry W X a b e h (Child d) q = absurd (false≢true (sym q))
carry W X a b e h Parent q = absurd (false≢true (sym q))
