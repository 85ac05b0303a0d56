-- The search over a tree is a fold over its slots; what the fold finds.
use mathlib.Core.Path.{◌≡◌, refl, sym, ◌∙◌}
use mathlib.Core.Bool.{Bool, true, false, cond}
use mathlib.Core.List.{List, [], ◌∷◌, ◌++◌}
use Prim.Native.Nat.{ℕ, zero, suc, ◌+◌, ◌-◌, ◌<◌, ◌≤◌}
use native.Mathlib.Omega.{arith}
use lib.ListN.{length, get_or}
use lib.Dec.{eqb}
use borrow.Author.Tests.{ne_eqb, eqb-true, eqb-false}
use Rattle.words.specs.Ix.{on_link}
use Rattle.words.specs.Lists.{filter}
use Rattle.words.specs.Nodes.{kid, entry}
use Rattle.words.specs.declared.node.Entry.{Entry}
use Rattle.tree.specs.Tree.{Tree, leaf, node, slots, height, Shape}
use Rattle.tree_edit.proofs.Links.{by_link, on_slot, on_none}
use Rattle.image_rule.specs.declared.Seen.{Seen}
use Rattle.image_rule.specs.Sought.{holds, noted, sought, noted_all}

-- readers that agree below n
module _ (E F : ℕ → Entry) (L M : Bool → ℕ → ℕ) (n a k : ℕ) (f : (s : ℕ) → s < n → E s ≡ F s) (g : (b : Bool) (s : ℕ) → s < n → L b s ≡ M b s) where
  pub sought_same : (h link : ℕ) (x : Seen) → sought E L n a k h link x ≡ sought F M n a k h link x
  unfolding sought
  sought_same zero link x = refl
  sought_same (suc h) link x =
      by_link n link
      (λ (y : Seen). y ≡ on_link n link (λ s. sought F M n a k h (M false s) (noted a k (sought F M n a k h (M true s) x) (F s))) x) _ x
      (λ q. rw (
        f link q,
        g true link q,
        g false link q,
        sought_same h (M true link) x,
        sought_same h (M false link) (noted a k (sought F M n a k h (M true link) x) (F link)),
      ) (sym (on_slot n link q (λ s. sought F M n a k h (M false s) (noted a k (sought F M n a k h (M true s) x) (F s))) x)))
      (λ q. sym (on_none n link q (λ s. sought F M n a k h (M false s) (noted a k (sought F M n a k h (M true s) x) (F s))) x))

module _ (E : ℕ → Entry) (a k : ℕ) where
  noted_append : (l m : List ℕ) (x : Seen) → noted_all E a k (l ++ m) x ≡ noted_all E a k m (noted_all E a k l x)
  unfolding noted_all
  noted_append [] m x = refl
  noted_append (s ∷ l) m x = noted_append l m (noted a k x (E s))

  -- as many hits as there are entries that hold the address
  pub noted_hits : (l : List ℕ) (x : Seen) → (noted_all E a k l x).hits ≡ x.hits + length (filter (λ s. holds a (E s)) l)
  unfolding noted_all
  noted_hits [] x = omega arith
  noted_hits (s ∷ l) x = go (holds a (E s)) (noted_hits l)
    where
      go : (t : Bool) → ((y : Seen) → (noted_all E a k l y).hits ≡ y.hits + length (filter (λ s. holds a (E s)) l))
          → (noted_all E a k l (cond t (record { hits = x.hits + 1; value = cond (eqb x.hits k) (E s).value x.value }) x)).hits
          ≡ x.hits + length (cond t (s ∷ filter (λ s. holds a (E s)) l) (filter (λ s. holds a (E s)) l))
      go true i = i (record { hits = x.hits + 1; value = cond (eqb x.hits k) (E s).value x.value }) ∙ omega arith
      go false i = i x

  -- the value stays once hit k has been passed
  noted_past : (l : List ℕ) (x : Seen) → k < x.hits → (noted_all E a k l x).value ≡ x.value
  unfolding noted_all
  noted_past [] x h = refl
  noted_past (s ∷ l) x h = go (holds a (E s)) (noted_past l)
    where
      go : (t : Bool) → ((y : Seen) → k < y.hits → (noted_all E a k l y).value ≡ y.value)
          → (noted_all E a k l (cond t (record { hits = x.hits + 1; value = cond (eqb x.hits k) (E s).value x.value }) x)).value ≡ x.value
      go true i =
          i (record { hits = x.hits + 1; value = cond (eqb x.hits k) (E s).value x.value }) (omega arith)
          ∙ rw (ne_eqb x.hits k (λ e. omega arith)) refl
      go false i = i x h

  -- hit k's value
  pub noted_value : (l : List ℕ) (x : Seen) → x.hits ≤ k → k < x.hits + length (filter (λ s. holds a (E s)) l)
      → (noted_all E a k l x).value ≡ (E (get_or (filter (λ s. holds a (E s)) l) (k - x.hits) 0)).value
  unfolding noted_all
  noted_value [] x h q = absurd (omega arith)
  noted_value (s ∷ l) x h q = go (holds a (E s)) (eqb x.hits k) refl (noted_value l) q
    where
      go : (t u : Bool) → eqb x.hits k ≡ u
          → ((y : Seen) → y.hits ≤ k → k < y.hits + length (filter (λ s. holds a (E s)) l)
          → (noted_all E a k l y).value ≡ (E (get_or (filter (λ s. holds a (E s)) l) (k - y.hits) 0)).value)
          → k < x.hits + length (cond t (s ∷ filter (λ s. holds a (E s)) l) (filter (λ s. holds a (E s)) l))
          → (noted_all E a k l (cond t (record { hits = x.hits + 1; value = cond (eqb x.hits k) (E s).value x.value }) x)).value
          ≡ (E (get_or (cond t (s ∷ filter (λ s. holds a (E s)) l) (filter (λ s. holds a (E s)) l)) (k - x.hits) 0)).value
      go true true e i q =
          let z : k - x.hits ≡ 0 = omega (arith, eqb-true x.hits k e) in
          rw z
          (noted_past l (record { hits = x.hits + 1; value = cond (eqb x.hits k) (E s).value x.value }) (omega (arith, eqb-true x.hits k e))
          ∙ rw e refl)
      go true false e i q =
          let d : x.hits ≡ k → ⊥ = eqb-false x.hits k e in
          let z : k - x.hits ≡ suc (k - (x.hits + 1)) = omega arith in
          rw z (i (record { hits = x.hits + 1; value = cond (eqb x.hits k) (E s).value x.value }) (omega arith) (omega arith))
      go false u e i q = i x h q

-- in a tree the search goes over its slots in their order
module _ (W : List ℕ) (n a k : ℕ) (small : n ≤ 65535) where
  pub sought_tree : (h p link : ℕ) (t : Tree) (x : Seen) → Shape W n p link t → height t ≤ h
      → sought (entry W) (kid W) n a k h link x ≡ noted_all (entry W) a k (slots t) x
  unfolding sought noted_all
  sought_tree zero p link leaf x sh q = refl
  sought_tree (suc h) p link leaf x sh q = on_none n link (omega (arith, sh)) _ x
  sought_tree zero p link (node l s r) x sh q = absurd (omega arith)
  sought_tree (suc h) p link (node l s r) x sh q =
      let e = on_slot n s sh.live (λ s. sought (entry W) (kid W) n a k h (kid W false s) (noted a k (sought (entry W) (kid W) n a k h (kid W true s) x) (entry W s))) x in
      rw sh.here
      (e ∙ rw (sought_tree h s (kid W true s) l x sh.left (omega arith))
      (sought_tree h s (kid W false s) r (noted a k (noted_all (entry W) a k (slots l) x) (entry W s)) sh.right (omega arith)
      ∙ sym (noted_append (entry W) a k (slots l) (s ∷ slots r) x)))
