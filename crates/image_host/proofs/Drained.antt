-- What is seen of an address in an image is what a drain hands out in the map that was read from
-- it.
use mathlib.Core.Path.{◌≡◌, refl, sym, ap, ◌∙◌}
use mathlib.Core.Bool.{Bool, true, false, cond}
use mathlib.Core.List.{List, [], ◌∷◌}
use Prim.Native.Nat.{ℕ, zero, suc, ◌+◌, ◌-◌, ◌*◌, ◌<◌, ◌≤◌}
use native.Mathlib.Omega.{arith}
use lib.ListN.{length, get_or, get_or-append}
use lib.Seq.{take_all}
use borrow.Author.Tests.{le-ltb}
use Rattle.words.specs.Ix.{U, on_link}
use Rattle.words.specs.Lists.{filter}
use Rattle.words.specs.Nodes.{value, kid, entry, capacity}
use Rattle.tree.specs.Tree.{Tree, leaf, node, slots, size, height, Shape}
use Rattle.tree.specs.Passes.{Passes}
use Rattle.tree.proofs.Checked.{tree_size, tree_low}
use Rattle.tree_edit.proofs.Links.{by_link, on_slot, on_none}
use Rattle.iter.specs.Cursors.{fresh}
use Rattle.iter.specs.Drains.{limit_of_lem, filled}
use Rattle.iter.specs.Overlap.{meets}
use Rattle.iter.specs.Queries.{rules}
use Rattle.iter.specs.declared.rules.Query.TheVariants.{Overlap}
use Rattle.iter_laws.proofs.OverlapRuns.{overlap_first}
use Rattle.plain_rule.proofs.Tours.{entries_are, entered_all}
use Rattle.image_rule.specs.declared.Seen.{Seen}
use Rattle.image_rule.specs.Layout.{count_in_lem, root_in_lem}
use Rattle.image_rule.specs.Stored.{entry_in_lem, child_in_lem, loaded_words, loaded_colours}
use Rattle.image_rule.specs.Sought.{noted_all}
use Rattle.image_rule.proofs.Seeks.{sought_same, noted_hits, noted_value, sought_tree}
use Rattle.image_rule.proofs.Stores.{FromImage, length_loaded_words, length_loaded_colours, loaded_holds}
use Rattle.iset.specs.Effects.{Output}
use Rattle.iset.specs.Check.{check_rule}
use Rattle.iset.specs.Maps.{next_map}
use Rattle.iset.specs.Image.{read_image_number, read_store}
use Rattle.iset.specs.Lookup.{start_number, drain_number, DrainAnswer, drain_call}
use Rattle.iset.specs.declared.Map.{Map}
use Rattle.iset.proofs.Checks.{zero_check}
use Rattle.iset.proofs.Found.{fresh_accepted}
use Rattle.iset.proofs.Images.{accepts, read_sound}
use Rattle.iset.proofs.Orders.{drain_order}
use Rattle.iset.proofs.Runs.{range_started}
use Rattle.image_host.specs.Host.{seen_in_lem, seek_calls}
use Rattle.image_host.specs.Requested.{only, drained_after}

filter_few : (p : ℕ → Bool) (l : List ℕ) → length (filter p l) ≤ length l
filter_few p [] = omega arith
filter_few p (a ∷ l) = go (p a) (filter_few p l)
  where
    go : (b : Bool) → length (filter p l) ≤ length l → length (cond b (a ∷ filter p l) (filter p l)) ≤ suc (length l)
    go true h = omega arith
    go false h = omega arith

-- the links that a search follows, by another reader of children that agrees below n
module _ (L M : Bool → ℕ → ℕ) (n : ℕ) (f : (b : Bool) (s : ℕ) → s < n → L b s ≡ M b s) where
  calls_same : (h link : ℕ) → seek_calls L n h link ≡ seek_calls M n h link
  unfolding seek_calls
  calls_same zero link = refl
  calls_same (suc h) link =
      by_link n link (λ (i : ℕ). i ≡ on_link n link (λ s. suc (seek_calls M n h (M true s) + seek_calls M n h (M false s))) 1) _ 1
      (λ q. rw (f true link q, f false link q, calls_same h (M true link), calls_same h (M false link))
      (sym (on_slot n link q (λ s. suc (seek_calls M n h (M true s) + seek_calls M n h (M false s))) 1)))
      (λ q. sym (on_none n link q (λ s. suc (seek_calls M n h (M true s) + seek_calls M n h (M false s))) 1))

-- in a tree at most two for each slot, and one
module _ (W : List ℕ) (n : ℕ) (small : n ≤ 65535) where
  calls_tree : (h p link : ℕ) (t : Tree) → height t ≤ h → Shape W n p link t → seek_calls (kid W) n h link ≤ 2 * size t + 1
  unfolding seek_calls
  calls_tree zero p link t low sh = omega arith
  calls_tree (suc h) p link leaf low sh = rw (on_none n link (omega (arith, sh))) (omega arith)
  calls_tree (suc h) p link (node l s r) low sh =
      rw (sh.here, on_slot n s sh.live)
      (omega (arith, calls_tree h s (kid W true s) l (omega arith) sh.left, calls_tree h s (kid W false s) r (omega arith) sh.right))

-- An image that the reader accepts, in the place of the map m, in the words W and the colours C.
module _ (I : List ℕ) (m : Map) (W C : List ℕ) (e : read_image_number (length W) (length C) I ≡ 0) where
  abbrev n : ℕ
  n = count_in_lem I

  abbrev r : ℕ
  r = root_in_lem I

  abbrev X : List ℕ
  X = loaded_words I n r W

  abbrev D : List ℕ
  D = loaded_colours I n C

  abbrev M : Map
  M = next_map m n r

  roomy : n ≤ capacity (length W) (length C)
  roomy = (accepts W C I e).1

  few : n ≤ 65535
  few = omega (arith, roomy)

  pub P : Passes X D n r
  P = read_sound W C I e

  from : (s : ℕ) → s < n → FromImage I n X s
  from s q = loaded_holds I n r W s (omega (arith, roomy)) q

  pub seek_calls_lem : seek_calls (child_in_lem I n) n 33 r ≤ 2 * n + 1
  seek_calls_lem =
      rw (calls_same (child_in_lem I n) (kid X) n (λ b s q. sym ((from s q).kid_is b)) 33 r)
      (omega (arith, calls_tree X n few 33 U r P.tree (omega (arith, tree_low X D n r P few)) P.shape, tree_size X D n r P))

  module _ (a : ℕ) where
    -- the slots of the entries that hold the address, in tree order
    abbrev pub all : List ℕ
    all = filter (meets X (only a)) (slots P.tree)

    all_few : length all ≤ n
    all_few =
        omega (
          arith,
          filter_few (meets X (only a)) (slots P.tree),
          ap length (entries_are X D n r few P),
          entered_all X D n r few P,
        )

    module _ (k : ℕ) where
      abbrev none : Seen
      none = record { hits = 0; value = 0 }

      seen_noted : seen_in_lem I a k ≡ noted_all (entry X) a k (slots P.tree) none
      unfolding seen_in_lem
      seen_noted =
          sought_same (entry_in_lem I) (entry X) (child_in_lem I n) (kid X) n a k (λ s q. sym (from s q).entry_is) (λ b s q. sym ((from s q).kid_is b)) 33 r none
          ∙ sought_tree X n a k few 33 U r P.tree none P.shape (omega (arith, tree_low X D n r P few))

      pub hits_all : (seen_in_lem I a k).hits ≡ length all
      unfolding meets
      hits_all = ap (λ (x : Seen). x.hits) seen_noted ∙ noted_hits (entry X) a k (slots P.tree) none ∙ omega arith

      pub value_all : k < length all → (seen_in_lem I a k).value ≡ value X (get_or all k 0)
      unfolding meets
      value_all h =
          let z : k - 0 ≡ k = omega arith in
          ap (λ (x : Seen). x.value) seen_noted ∙ noted_value (entry X) a k (slots P.tree) none (omega arith) (omega arith)
          ∙ ap (λ (i : ℕ). value X (get_or all i 0)) z

    -- a drain with room for all of them
    module _ (limit : ℕ) (out : List ℕ) (enough : n ≤ limit_of_lem limit (length out)) (fits : limit_of_lem limit (length out) ≤ length out) where
      sound : check_rule M X D ≡ 0
      sound = zero_check M X D (rw (length_loaded_words I n r W, length_loaded_colours I n C) roomy) P

      started : start_number M X D (Overlap (only a)) ≡ 0
      started = range_started M X D sound (only a) (λ q. omega (arith, q))

      zero_drain : drain_number M X D (Overlap (only a)) (fresh r) limit (length out) ≡ 0
      zero_drain =
          drain_order M X D (Overlap (only a)) (fresh r) limit (length out)
          ∙ rw (fresh_accepted M X D (Overlap (only a)) started, le-ltb (length out) (limit_of_lem limit (length out)) fits) refl

      abbrev d : Output DrainAnswer
      d = drained_after (read_store m W C I) a limit out

      pub record Handed : Type 0 where
        pub no_is : d.answer.no ≡ 0
        pub hits_is : d.answer.hits ≡ length all
        pub output_is : d.output ≡ filled all out

      pub handed : Handed
      unfolding drain_call rules
      handed =
          let f = overlap_first X D n r 1 (only a) few P (limit_of_lem limit (length out)) ∙ take_all (limit_of_lem limit (length out)) all (omega (arith, all_few)) in
          record { no_is = rw zero_drain refl; hits_is = rw zero_drain (ap length f); output_is = rw (zero_drain, f) refl }

      pub output_slot : (k : ℕ) → k < length all → get_or d.output k 0 ≡ get_or all k 0
      unfolding filled
      output_slot k h = rw handed.output_is (get_or-append all _ 0 k h)
