-- The point lookup agrees with the general one, and enters at most as many nodes as the tree is
-- high.
use mathlib.Core.Path.{◌≡◌, refl, ap, ◌∙◌}
use mathlib.Core.Bool.{Bool, true, false, cond, not, ◌&&◌}
use mathlib.Core.List.{List, [], ◌∷◌, ◌++◌, append-nil}
use Prim.Native.Nat.{ℕ, zero, suc, ◌<◌, ◌≤◌}
use native.Mathlib.Omega.{arith}
use lib.Dec.{ltb}
use lib.ListN.{length}
use borrow.Author.Tests.{lt-ltb, le-ltb, ltb-true, ltb-false, le-leb, lt-leb}
use Rattle.words.specs.Ix.{U}
use Rattle.words.specs.Lists.{filter}
use Rattle.words.specs.Nodes.{start, stop, kid}
use Rattle.words.proofs.Lists.{filter_append}
use Rattle.tree.specs.Tree.{Tree, leaf, node, slots, height, Shape}
use Rattle.tree.specs.Passes.{Passes}
use Rattle.tree.proofs.Checked.{tree_low}
use Rattle.iter.specs.Cursors.{fresh, ended}
use Rattle.iter.specs.Drains.{drain}
use Rattle.iter.specs.Lists.{when, first_or}
use Rattle.iter.specs.Overlap.{meets, overlap}
use Rattle.iter.specs.Walk.{Rules, step}
use Rattle.iter.proofs.Bools.{and_false}
use Rattle.iter_laws.proofs.Trees.{no_hits}
use Rattle.iter_laws.proofs.OverlapRuns.{overlap_step, overlap_run}
use Rattle.first_rule.specs.Way.{way_end}
use Rattle.first_rule.proofs.Ways.{way_low, end_first}
use Rattle.disjoint_rule.specs.Disjoint.{Disjoint, ChainAt}
use Rattle.disjoint_rule.specs.Point.{only, point_way, point, point_nodes, found}
use Rattle.disjoint_rule.proofs.Chains.{Proper, AtNode, chain_node, all_proper_law, disjoint_chain}

module _ (W : List ℕ) (n : ℕ) (small : n ≤ 65535) (a : ℕ) where
  abbrev Q : Rules
  Q = overlap W n (only a)

  -- the entries that hold the address, of a list of slots
  abbrev holding : List ℕ → List ℕ
  holding l = filter (meets W (only a)) l

  low : (b : ℕ) → stop W b ≤ a → meets W (only a) b ≡ false
  unfolding meets
  low b h = rw (le-ltb a (stop W b) h) refl

  high : (b : ℕ) → a < start W b → meets W (only a) b ≡ false
  unfolding meets
  high b h = rw (lt-leb (start W b) a h, and_false (ltb a (stop W b))) refl

  inside : (b : ℕ) → start W b ≤ a → a < stop W b → meets W (only a) b ≡ true
  unfolding meets
  inside b h i = rw (le-leb (start W b) a h, lt-ltb a (stop W b) i) refl

  finds : (f q k : ℕ) (t : Tree) → Shape W n q k t → Proper W (slots t) → ChainAt W (slots t) → height t ≤ f
      → holding (slots t) ≡ found n (way_end (point_way W a) W n f k)
  unfolding way_end
  finds zero q k leaf h p c m = rw (le-ltb U n (omega arith)) refl
  finds zero q k (node l s r) h p c m = absurd (omega arith)
  finds (suc f) q k leaf h p c m = let z : ltb U n ≡ false = le-ltb U n (omega arith) in rw (h, z, z) refl
  finds (suc f) q k (node l s r) h p c m =
      let N = chain_node W l s r c p in
      rw (h.here, lt-ltb s n h.live, filter_append (meets W (only a)) (slots l) (s ∷ slots r))
      (go N (ltb a (start W s)) (ltb a (stop W s)) refl refl
      (finds f s (kid W true s) l h.left N.proper_left N.chain_left (omega arith))
      (finds f s (kid W false s) r h.right N.proper_right N.chain_right (omega arith)))
    where
      none_left : AtNode W l s r → start W s ≤ a → holding (slots l) ≡ []
      none_left N i = no_hits Q l (λ b o. low b (omega (arith, N.before b o)))

      none_right : AtNode W l s r → a < stop W s → holding (slots r) ≡ []
      none_right N i = no_hits Q r (λ b o. high b (omega (arith, N.behind b o)))

      go : AtNode W l s r → (i j : Bool) → ltb a (start W s) ≡ i → ltb a (stop W s) ≡ j
          → holding (slots l) ≡ found n (way_end (point_way W a) W n f (kid W true s))
          → holding (slots r) ≡ found n (way_end (point_way W a) W n f (kid W false s))
          → holding (slots l) ++ cond (meets W (only a) s) (s ∷ holding (slots r)) (holding (slots r))
          ≡ found n (cond (not i && j) s (way_end (point_way W a) W n f (kid W i s)))
      go N true j e g x y =
          let i : a < start W s = ltb-true a (start W s) e in
          rw (high s i, none_right N (omega (arith, N.own)), x) (append-nil (found n (way_end (point_way W a) W n f (kid W true s))))
      go N false true e g x y =
          let i : start W s ≤ a = ltb-false a (start W s) e in
          let j : a < stop W s = ltb-true a (stop W s) g in
          rw (inside s i j, none_left N i, none_right N j, lt-ltb s n h.live) refl
      go N false false e g x y =
          let i : stop W s ≤ a = ltb-false a (stop W s) g in
          rw (low s i, none_left N (omega (arith, N.own))) y

-- "enters at most h nodes", whether or not entries intersect
pub point_low : (W C : List ℕ) (n r a : ℕ) → n ≤ 65535 → (P : Passes W C n r) → length (point_nodes W n r a) ≤ height P.tree
unfolding point_nodes
point_low W C n r a small P = way_low (point_way W a) W n small 32 U r P.tree P.shape

-- "agrees with the general lookup from Included a to Included a"
module _ (W C : List ℕ) (n r a : ℕ) (small : n ≤ 65535) (P : Passes W C n r) (d : Disjoint W n) where
  -- the entries that hold the address are the one that the point lookup names, or none
  pub point_hits : filter (meets W (only a)) (slots P.tree) ≡ found n (point W n r a)
  unfolding point
  point_hits = finds W n small a 32 U r P.tree P.shape (all_proper_law W C n r P) (disjoint_chain W C n r P d) (tree_low W C n r P small)

  -- the general lookup's first step has the same slot, and a drain of it writes that slot alone, or
  -- nothing
  pub point_step : (step W n (overlap W n (only a)) (fresh r)).slot ≡ point W n r a
  unfolding point
  point_step = overlap_step W C n r 1 (only a) small P ∙ ap (first_or U) point_hits ∙ end_first (point_way W a) W n 32 r

  pub point_drains : (limit : ℕ) → 1 < limit
      → ((drain W n (overlap W n (only a)) limit (fresh r)).slots ≡ found n (point W n r a))
      × ((drain W n (overlap W n (only a)) limit (fresh r)).next ≡ ended)
  point_drains limit h =
      rw (overlap_run W C n r 1 (only a) small P limit (rw point_hits (few (ltb (point W n r a) n)))) (point_hits, refl)
    where
      few : (b : Bool) → length (when b (point W n r a ∷ [])) < limit
      few true = omega arith
      few false = omega arith
