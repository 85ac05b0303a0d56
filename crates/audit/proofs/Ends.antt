-- The first and the last interval of a tree; a node's entries rise exactly if those of its subtrees
-- do, and the node's own lies between.
use mathlib.Core.Path.{◌≡◌, refl, sym, ◌∙◌}
use mathlib.Core.List.{List, [], ◌∷◌, ◌++◌, map, map-append}
use Prim.Native.Nat.{ℕ}
use Rattle.words.specs.Nodes.{interval}
use Rattle.words.specs.declared.interval.Interval.{Interval}
use Rattle.tree.specs.Tree.{Tree, leaf, node, slots}
use Rattle.tree.specs.Order.{NotAfter, Next, Rising, RisingAt}
use Rattle.tree.proofs.Orders.{after_self}

-- the first and the last of a list; d where there is none
abbrev head : Interval → List Interval → Interval
head d [] = d
head d (a ∷ l) = a

abbrev end : Interval → List Interval → Interval
end d [] = d
end d (a ∷ l) = end a l

head_append : (d : Interval) (xs : List Interval) (a : Interval) (ys : List Interval) → head d (xs ++ (a ∷ ys)) ≡ head a xs
head_append d [] a ys = refl
head_append d (x ∷ xs) a ys = refl

end_append : (d : Interval) (xs : List Interval) (a : Interval) (ys : List Interval) → end d (xs ++ (a ∷ ys)) ≡ end a ys
end_append d [] a ys = refl
end_append d (x ∷ xs) a ys = end_append x xs a ys

-- a list about its middle
rising_join : (xs : List Interval) (a : Interval) (ys : List Interval)
    → Rising xs → NotAfter (end a xs) a → Rising (a ∷ ys) → Rising (xs ++ (a ∷ ys))
rising_join [] a ys h q g = g
rising_join (x ∷ []) a ys h q g = (q, g)
rising_join (x ∷ y ∷ xs) a ys h q g = (h.0, rising_join (y ∷ xs) a ys h.1 q g)

rising_last : (xs : List Interval) (a : Interval) (ys : List Interval) → Rising (xs ++ (a ∷ ys)) → NotAfter (end a xs) a
rising_last [] a ys h = after_self a
rising_last (x ∷ []) a ys h = h.0
rising_last (x ∷ y ∷ xs) a ys h = rising_last (y ∷ xs) a ys h.1

next_head : (a : Interval) (ys : List Interval) → NotAfter a (head a ys) → Next a ys
next_head a [] h = tt
next_head a (y ∷ ys) h = h

head_next : (a : Interval) (ys : List Interval) → Next a ys → NotAfter a (head a ys)
head_next a [] h = after_self a
head_next a (y ∷ ys) h = h

-- the same of a tree's entries
module _ (W : List ℕ) where
  abbrev pub first_of : Interval → Tree → Interval
  first_of d leaf = d
  first_of d (node l s r) = first_of (interval W s) l

  abbrev pub last_of : Interval → Tree → Interval
  last_of d leaf = d
  last_of d (node l s r) = last_of (interval W s) r

  abbrev intervals : Tree → List Interval
  intervals t = map (interval W) (slots t)

  first_is : (d : Interval) (t : Tree) → first_of d t ≡ head d (intervals t)
  first_is d leaf = refl
  first_is d (node l s r) =
      rw map-append (first_is (interval W s) l ∙ sym (head_append d (intervals l) (interval W s) (intervals r)))

  last_is : (d : Interval) (t : Tree) → last_of d t ≡ end d (intervals t)
  last_is d leaf = refl
  last_is d (node l s r) =
      rw map-append (last_is (interval W s) r ∙ sym (end_append d (intervals l) (interval W s) (intervals r)))

  module _ (l : Tree) (s : ℕ) (r : Tree) where
    pub rising_node : RisingAt W (slots l) → RisingAt W (slots r)
        → NotAfter (last_of (interval W s) l) (interval W s) → NotAfter (interval W s) (first_of (interval W s) r)
        → RisingAt W (slots (node l s r))
    rising_node x y b a =
        rw map-append (rising_join (intervals l) (interval W s) (intervals r) x (rw last_is at b)
        (next_head (interval W s) (intervals r) (rw first_is at a), y))

    pub before_node : RisingAt W (slots (node l s r)) → NotAfter (last_of (interval W s) l) (interval W s)
    before_node h = rw last_is (rising_last (intervals l) (interval W s) (intervals r) (rw map-append at h))

    pub after_node : RisingAt W (s ∷ slots r) → NotAfter (interval W s) (first_of (interval W s) r)
    after_node h = rw first_is (head_next (interval W s) (intervals r) h.0)
