-- How many rounds of the repair's loop are left at the most: the first case goes up, any other ends
-- within three.
use mathlib.Core.Path.{◌≡◌, refl}
use mathlib.Core.Bool.{Bool, true, false, not}
use mathlib.Core.List.{List, [], ◌∷◌}
use Prim.Native.Nat.{ℕ, ◌+◌, ◌≤◌}
use native.Mathlib.Omega.{arith}
use lib.ListN.{length}
use Rattle.tree.specs.Tree.{Tree, leaf, node}
use Rattle.tree.specs.Zipper.{bin, Frame, frame}
use Rattle.tree.specs.RedBlack.{root_red}
use Rattle.tree_rm_rule.specs.Repair.{Case, choose, one, two, three, four, five}
use Rattle.tree_edit.proofs.Fits.{root_bin}

abbrev pub weigh : Case → ℕ → ℕ
weigh one d = 4 + d
weigh two d = 3
weigh three d = 1
weigh four d = 2
weigh five d = 1

-- the subtree of a node on a side
abbrev near : Bool → Tree → Tree
near b leaf = leaf
near true (node l s r) = l
near false (node l s r) = r

near_bin : (b : Bool) (x : Tree) (s : ℕ) (y : Tree) → near (not b) (bin b x s y) ≡ y
near_bin true x s y = refl
near_bin false x s y = refl

-- at a place, by the case that comes next
abbrev pub weight : (ℕ → Bool) → List Frame → ℕ
weight K [] = 0
weight K (frame b P far ∷ c) = weigh (choose (K P) (root_red K far) (root_red K (near b far)) (root_red K (near (not b) far))) (length c)

weigh_le : (k : Case) (d : ℕ) → weigh k d ≤ 4 + d
weigh_le one d = omega arith
weigh_le two d = omega arith
weigh_le three d = omega arith
weigh_le four d = omega arith
weigh_le five d = omega arith

pub weight_le : (K : ℕ → Bool) (c : List Frame) → weight K c ≤ 3 + length c
weight_le K [] = omega arith
weight_le K (frame b P far ∷ c) =
    omega (arith, weigh_le (choose (K P) (root_red K far) (root_red K (near b far)) (root_red K (near (not b) far))) (length c))

-- below a red parent
weigh_red : (s c d : Bool) (k : ℕ) → weigh (choose true s c d) k ≤ 2
unfolding choose
weigh_red false false false k = omega arith
weigh_red false false true k = omega arith
weigh_red false true false k = omega arith
weigh_red false true true k = omega arith
weigh_red true c d k = omega arith

pub weight_red : (K : ℕ → Bool) (b : Bool) (P : ℕ) (far : Tree) (c : List Frame) → K P ≡ true → weight K (frame b P far ∷ c) ≤ 2
weight_red K b P far c e = rw e (weigh_red (root_red K far) (root_red K (near b far)) (root_red K (near (not b) far)) (length c))

-- with a red distant nephew
weigh_distant : (p c : Bool) (k : ℕ) → weigh (choose p false c true) k ≤ 1
unfolding choose
weigh_distant false false k = omega arith
weigh_distant false true k = omega arith
weigh_distant true false k = omega arith
weigh_distant true true k = omega arith

pub weight_distant : (K : ℕ → Bool) (b : Bool) (P : ℕ) (X : Tree) (Q : ℕ) (Z : Tree) (c : List Frame) → K Q ≡ false → root_red K Z ≡ true
    → weight K (frame b P (bin b X Q Z) ∷ c) ≤ 1
weight_distant K b P X Q Z c e f =
    rw (root_bin, e, near_bin, f) (weigh_distant (K P) (root_red K (near b (bin b X Q Z))) (length c))

-- what a place weighs by its sibling and nephews
pub weight_is : (K : ℕ → Bool) (b : Bool) (P : ℕ) (C : Tree) (S : ℕ) (D : Tree) (c : List Frame)
    → weight K (frame b P (bin b C S D) ∷ c) ≡ weigh (choose (K P) (K S) (root_red K C) (root_red K D)) (length c)
weight_is K true P C S D c = refl
weight_is K false P C S D c = refl
