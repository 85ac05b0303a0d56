-- A chain of intervals: each ends at or before the start of the next. On a store that passes the
-- check no two entries intersect exactly if they are a chain in tree order.
use mathlib.Core.Path.{◌≡◌, refl, sym, ◌∙◌, subst}
use mathlib.Core.Logic.{◌≢◌}
use mathlib.Core.Bool.{Bool, true, false, ◌&&◌, true≢false}
use mathlib.Core.List.{List, [], ◌∷◌, ◌++◌, map, map-append}
use Prim.Native.Nat.{ℕ, ◌<◌, ◌≤◌}
use native.Mathlib.Omega.{arith}
use lib.Dec.{ltb}
use borrow.Author.Tests.{lt-ltb, le-ltb, ltb-false}
use Rattle.words.specs.Nodes.{start, stop, interval}
use Rattle.words.specs.declared.interval.Interval.{Interval}
use Rattle.tree.specs.Tree.{Tree, node, slots, occ, times}
use Rattle.tree.specs.Order.{Rising}
use Rattle.tree.specs.Passes.{Passes}
use Rattle.tree.proofs.Cases.{compare}
use Rattle.tree.proofs.Slots.{hit_same, hit_ne, hit_cases, times_append, times_slots}
use Rattle.tree.proofs.Checked.{slot_live, slot_once}
use Rattle.tree_rm_rule.proofs.Rows.{split}
use Rattle.iter.proofs.Bools.{and_false}
use Rattle.disjoint_rule.specs.Disjoint.{Disjoint, Chain, ChainAt}

-- the first part of a chain, and the second
chain_front : (xs ys : List Interval) → Chain (xs ++ ys) → Chain xs
chain_front [] ys h = tt
chain_front (a ∷ []) ys h = (tt, tt)
chain_front (a ∷ b ∷ xs) ys h = (h.0, chain_front (b ∷ xs) ys h.1)

chain_back : (xs ys : List Interval) → Chain (xs ++ ys) → Chain ys
chain_back [] ys h = h
chain_back (a ∷ xs) ys h = chain_back xs ys h.1

-- a proper one left out
pub chain_drop : (A : List Interval) (i : Interval) (B : List Interval) → i.start < i.end → Chain (A ++ (i ∷ B)) → Chain (A ++ B)
chain_drop [] i B p h = h.1
chain_drop (a ∷ []) i [] p h = (tt, tt)
chain_drop (a ∷ []) i (b ∷ B) p h = (omega (arith, h.0, h.1.0), h.1.1)
chain_drop (a ∷ c ∷ A) i B p h = (h.0, chain_drop (c ∷ A) i B p h.1)

-- of the intervals of slots
module _ (W : List ℕ) where
  pub chain_left : (xs ys : List ℕ) → ChainAt W (xs ++ ys) → ChainAt W xs
  chain_left xs ys h = chain_front (map (interval W) xs) (map (interval W) ys) (rw map-append at h)

  pub chain_right : (xs ys : List ℕ) → ChainAt W (xs ++ ys) → ChainAt W ys
  chain_right xs ys h = chain_back (map (interval W) xs) (map (interval W) ys) (rw map-append at h)

  -- put together around an interval
  pub chain_join : (A : List ℕ) (x : Interval) (B : List ℕ) → ChainAt W A → ChainAt W B → ((a : ℕ) → 0 < times a A → stop W a ≤ x.start)
      → ((b : ℕ) → 0 < times b B → x.end ≤ start W b) → Chain (map (interval W) A ++ (x ∷ map (interval W) B))
  chain_join [] x [] h i f g = (tt, tt)
  chain_join [] x (b ∷ B) h i f g = (g b (omega (arith, hit_same b)), i)
  chain_join (a ∷ []) x B h i f g = (f a (omega (arith, hit_same a)), chain_join [] x B tt i (λ c o. absurd (omega arith)) g)
  chain_join (a ∷ c ∷ A) x B h i f g = (h.0, chain_join (c ∷ A) x B h.1 i (λ d o. f d (omega arith)) g)

  -- all of a list are proper
  abbrev pub Proper : List ℕ → Type 0
  Proper l = (a : ℕ) → 0 < times a l → start W a < stop W a

  -- what comes after the first starts at or past its end
  ahead : (c : ℕ) (l : List ℕ) → ChainAt W (c ∷ l) → Proper l → (b : ℕ) → 0 < times b l → stop W c ≤ start W b
  ahead c [] h f b o = absurd (omega arith)
  ahead c (d ∷ l) h f b o =
      hit_cases b d
      (λ e. rw e h.0)
      (λ z. let i : stop W d ≤ start W b = ahead d l h.1 (λ a j. f a (omega arith)) b (omega arith) in
      omega (arith, h.0, f d (omega (arith, hit_same d))))

  -- a slot of the first part ends at or before the start of one of the second
  chain_at : (a b : ℕ) (xs ys : List ℕ) → ChainAt W (xs ++ ys) → Proper (xs ++ ys) → 0 < times a xs → 0 < times b ys → stop W a ≤ start W b
  chain_at a b [] ys h f o p = absurd (omega arith)
  chain_at a b (c ∷ xs) ys h f o p =
      hit_cases a c
      (λ e. rw e (ahead c (xs ++ ys) h (λ d i. f d (omega arith)) b (omega (arith, times_append b xs ys))))
      (λ z. chain_at a b xs ys h.1 (λ d i. f d (omega arith)) (omega arith) p)

  -- a tree's node that is in a chain with its two subtrees
  pub record AtNode (l : Tree) (s : ℕ) (r : Tree) : Type 0 where
    pub proper_left : Proper (slots l)
    pub proper_right : Proper (slots r)
    pub own : start W s < stop W s
    pub chain_left : ChainAt W (slots l)
    pub chain_right : ChainAt W (slots r)
    -- what is left of it ends at or before its start, and what is right of it starts at or past its
    -- end
    pub before : (a : ℕ) → 0 < occ a l → stop W a ≤ start W s
    pub behind : (a : ℕ) → 0 < occ a r → stop W s ≤ start W a

  pub chain_node : (l : Tree) (s : ℕ) (r : Tree) → ChainAt W (slots (node l s r)) → Proper (slots (node l s r)) → AtNode l s r
  chain_node l s r c f =
      let g : ChainAt W (s ∷ slots r) = chain_right (slots l) (s ∷ slots r) c in
      let i : Proper (s ∷ slots r) = λ a o. f a (omega (arith, times_append a (slots l) (s ∷ slots r))) in
      record {
        proper_left = λ a o. f a (omega (arith, times_append a (slots l) (s ∷ slots r)));
        proper_right = λ a o. i a (omega arith);
        own = i s (omega (arith, hit_same s));
        chain_left = chain_left (slots l) (s ∷ slots r) c;
        chain_right = g.1;
        before = λ a o. chain_at a s (slots l) (s ∷ slots r) c f (rw times_slots o) (omega (arith, hit_same s));
        behind = λ a o. ahead s (slots r) g (λ b j. i b (omega arith)) a (rw times_slots o);
      }

  -- two slots whose intervals follow each other do not intersect, whichever comes first
  apart_before : (a b : ℕ) → stop W a ≤ start W b → (ltb (start W b) (stop W a) && ltb (start W a) (stop W b)) ≡ false
  apart_before a b h = rw (le-ltb (start W b) (stop W a) h) refl

  apart_after : (a b : ℕ) → stop W b ≤ start W a → (ltb (start W b) (stop W a) && ltb (start W a) (stop W b)) ≡ false
  apart_after a b h = rw (le-ltb (start W a) (stop W b) h, and_false (ltb (start W b) (stop W a))) refl

  -- A slot that does not intersect the interval x ends at or before its start if it starts before
  -- the end of x, and starts at or past its end if it ends past the start of x.
  pub before_apart : (x : Interval) (a : ℕ) → start W a < x.end → (ltb x.start (stop W a) && ltb (start W a) x.end) ≡ false → stop W a ≤ x.start
  before_apart x a i e = go (ltb x.start (stop W a)) refl (rw (lt-ltb (start W a) x.end i) at e)
    where
      go : (t : Bool) → ltb x.start (stop W a) ≡ t → t && true ≡ false → stop W a ≤ x.start
      go true q z = absurd (true≢false z)
      go false q z = ltb-false x.start (stop W a) q

  pub after_apart : (x : Interval) (a : ℕ) → x.start < stop W a → (ltb x.start (stop W a) && ltb (start W a) x.end) ≡ false → x.end ≤ start W a
  after_apart x a i e = ltb-false (start W a) x.end (rw (lt-ltb x.start (stop W a) i) at e)

-- of a store that passes the check
module _ (W C : List ℕ) (n r : ℕ) (P : Passes W C n r) where
  pub all_proper_law : Proper W (slots P.tree)
  all_proper_law a o = P.proper a (slot_live W C n r P a (rw times_slots at o))

  pub chain_disjoint : ChainAt W (slots P.tree) → Disjoint W n
  chain_disjoint h a b i j d =
      split a (slots P.tree) (omega (arith, times_slots a P.tree, P.once a i)) (λ A B e.
      let g : ChainAt W (A ++ (a ∷ B)) = rw e at h in
      let f : Proper W (A ++ (a ∷ B)) = rw e at all_proper_law in
      let m : times b (A ++ (a ∷ B)) ≡ 1 = rw (← e) (times_slots b P.tree ∙ P.once b j) in
      compare (times b A) 0
      (λ q. apart_before W a b (ahead W a B (chain_right W A (a ∷ B) g) (λ c o. f c (omega (arith, times_append c A (a ∷ B)))) b
      (omega (arith, times_append b A (a ∷ B), hit_ne b a (λ q. d (sym q))))))
      (λ q. apart_after W a b (chain_at W b a A (a ∷ B) g f q (omega (arith, hit_same a)))))

  disjoint_row : (l : List ℕ) → Rising (map (interval W) l) → Disjoint W n → ((a : ℕ) → 0 < times a l → a < n) → ((a : ℕ) → times a l ≤ 1) → ChainAt W l
  disjoint_row [] h d live one = tt
  disjoint_row (a ∷ []) h d live one = (tt, tt)
  disjoint_row (a ∷ b ∷ l) h d live one =
      let la : a < n = live a (omega (arith, hit_same a)) in
      let lb : b < n = live b (omega (arith, hit_same b)) in
      let ne : a ≢ b = λ e. let q : times b (b ∷ b ∷ l) ≤ 1 = subst (λ (x : ℕ). times x (x ∷ b ∷ l) ≤ 1) e (one a) in omega (arith, hit_same b) in (
        before_apart W (interval W b) a (omega (arith, h.0.starts, P.proper b lb)) (d a b la lb ne),
        disjoint_row (b ∷ l) h.1 d (λ c o. live c (omega arith)) (λ c. omega (arith, one c)),
      )

  pub disjoint_chain : Disjoint W n → ChainAt W (slots P.tree)
  disjoint_chain d =
      disjoint_row (slots P.tree) P.rising d (λ a o. slot_live W C n r P a (rw times_slots at o))
      (λ a. omega (arith, times_slots a P.tree, slot_once W C n r P a))
