-- What is known of a walk under the rules Q through the tree t, which begins at the link k below
-- the slot p.
use mathlib.Core.Path.{◌≡◌, refl, sym, ◌∙◌}
use mathlib.Core.Bool.{Bool, true, false, cond, false≢true}
use mathlib.Core.List.{List, [], ◌∷◌}
use Prim.Native.Nat.{ℕ, ◌<◌, ◌≤◌}
use native.Mathlib.Omega.{arith}
use lib.Dec.{leb}
use borrow.Author.Tests.{leb-false, le-leb, lt-leb}
use Rattle.words.specs.Ix.{U, on_link}
use Rattle.words.specs.Nodes.{kid}
use Rattle.tree.specs.Tree.{Tree, leaf, node, size, height, Shape}
use Rattle.tree.specs.Zipper.{Frame, frame, plug, bin}
use Rattle.tree.proofs.Frames.{open_bin}
use Rattle.iter.specs.Walk.{Rules}
use Rattle.iter_laws.specs.Entered.{goes, entered, entered_later}
use Rattle.iter_laws.proofs.Script.{Linked, Fairs, visits, later_visits}

pub record Walk (W : List ℕ) (n : ℕ) (Q : Rules) (E : Bool → ℕ → ℕ → Bool) (p k : ℕ) (t : Tree) : Type 0 where
  pub small : n ≤ 65535
  pub linked : Linked W n Q
  pub shape : Shape W n p k t
  pub few : size t ≤ n
  pub low : height t ≤ 32
  -- where the walk does not go there is nothing to find
  pub fair : Fairs Q t
  -- it goes where the entered rule E says
  pub rule : (b : Bool) (s : ℕ) (u : Tree) → Shape W n s (kid W b s) u → Q.go b s ≡ goes E b s u

-- rules that go to a child where its link leads to a slot and E says so
module _ (W : List ℕ) (n : ℕ) (Q : Rules) (E : Bool → ℕ → ℕ → Bool)
    (by_link : (b : Bool) (s : ℕ) → Q.go b s ≡ on_link n (kid W b s) (E b s) false) where
  pub links : Linked W n Q
  unfolding on_link
  links b s e = go (leb n (kid W b s)) refl (sym (by_link b s) ∙ e)
    where
      go : (t : Bool) → leb n (kid W b s) ≡ t → cond t false (E b s (kid W b s)) ≡ true → kid W b s < n
      go true i e = absurd (false≢true e)
      go false i e = leb-false n (kid W b s) i

  pub follows : n ≤ 65535 → (b : Bool) (s : ℕ) (u : Tree) → Shape W n s (kid W b s) u → Q.go b s ≡ goes E b s u
  unfolding on_link
  follows small b s leaf h = rw (by_link b s, h, le-leb n U (omega arith))
  follows small b s (node l a r) h = rw (by_link b s, h.here, lt-leb n a h.live)

-- the slot above a place is q, if the place is not the root
abbrev pub Parent : List Frame → ℕ → Type 0
Parent [] q = Unit {0}
Parent (frame b a far ∷ c) q = q ≡ a

-- the tree at a place
pub focus : {X : Type 0} (W : List ℕ) (n p k : ℕ) (way : List Frame) (u : Tree) → Shape W n p k (plug way u)
    → ((q j : ℕ) → Shape W n q j u → Parent way q → X) → X
focus W n p k [] u h x = x p k h tt
focus W n p k (frame b a far ∷ c) u h x = focus W n p k c (bin b u a far) h (λ q j g e. x a (kid W b a) (open_bin W n q j b u a far g).left refl)

-- the nodes entered are those of the entered rule
module _ (W : List ℕ) (n : ℕ) (Q : Rules) (E : Bool → ℕ → ℕ → Bool)
    (rule : (b : Bool) (s : ℕ) (u : Tree) → Shape W n s (kid W b s) u → Q.go b s ≡ goes E b s u) where
  pub visits_are : (p k : ℕ) (t : Tree) → Shape W n p k t → visits Q t ≡ entered E t
  visits_are p k leaf h = refl
  visits_are p k (node l s r) h =
      rw (
        rule true s l h.left,
        rule false s r h.right,
        visits_are s (kid W true s) l h.left,
        visits_are s (kid W false s) r h.right,
      )

  pub later_are : (p k : ℕ) (way : List Frame) (u : Tree) → Shape W n p k (plug way u) → later_visits Q way ≡ entered_later E way
  later_are p k [] u h = refl
  later_are p k (frame true a far ∷ c) u h =
      focus W n p k c (node u a far) h (λ i j d e.
      rw (rule false a far d.right, visits_are a (kid W false a) far d.right, later_are p k c (node u a far) h))
  later_are p k (frame false a far ∷ c) u h = later_are p k c (node far a u) h
