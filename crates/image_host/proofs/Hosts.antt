-- Document 02, item 7: all that is claimed of the calls on an image.
use mathlib.Core.Path.{◌≡◌, refl, sym, ap, ◌∙◌}
use mathlib.Core.Bool.{Bool, true, false, cond, true≢false}
use mathlib.Core.List.{List}
use Prim.Native.Nat.{ℕ, zero, suc, ◌+◌, ◌*◌, ◌<◌, ◌≤◌}
use native.Mathlib.Omega.{arith}
use lib.ListN.{length, get_or, replicate, length-replicate}
use lib.Dec.{eqb, ltb, leb}
use borrow.Author.Tests.{ne_eqb, lt-ltb, le-ltb, ltb-true, ltb-false}
use Rattle.words.specs.Ix.{on_link}
use Rattle.words.specs.Nodes.{value, capacity}
use Rattle.words.specs.declared.node.Entry.{Entry}
use Rattle.audit.proofs.Linear.{linear}
use Rattle.iter.specs.Drains.{limit_of_lem}
use Rattle.image_rule.specs.declared.Seen.{Seen}
use Rattle.image_rule.specs.Layout.{count_in_lem, root_in_lem, laid_out_lem}
use Rattle.image_rule.specs.Stored.{child_in_lem, node_in_lem, is_good}
use Rattle.image_rule.specs.Sought.{holds, noted, sought}
use Rattle.iset.specs.Image.{read_image_number, read_store}
use Rattle.iset.specs.Maps.{empty_map}
use Rattle.iset.specs.Refusals.{Rows, accept, refuse, Exactly}
use Rattle.iset.specs.declared.Map.{Map}
use Rattle.iset.proofs.Refusals.{first_then, passed_row, failed_row}
use Rattle.iset.proofs.ImageRefusals.{read_image_no}
use Rattle.iset.proofs.Images.{accepts, read_call_lem}
use Rattle.image_host.specs.Host.{host_image, seen_in_lem, host_count, host_number, host_value, seek_calls}
use Rattle.image_host.specs.Requested.{host_rows, drained_after, AsDrained, Request7}
use Rattle.image_host.proofs.Drained.{all, hits_all, value_all, handed, output_slot, seek_calls_lem}

-- the number of hits does not depend on the hit that is asked for
noted_both : (a k j : ℕ) (x y : Seen) (e : Entry) → x.hits ≡ y.hits → (noted a k x e).hits ≡ (noted a j y e).hits
noted_both a k j x y e q = go (holds a e)
  where
    go : (t : Bool) → (cond t (record { hits = x.hits + 1; value = cond (eqb x.hits k) e.value x.value }) x).hits
        ≡ (cond t (record { hits = y.hits + 1; value = cond (eqb y.hits j) e.value y.value }) y).hits
    go true = ap (λ (i : ℕ). i + 1) q
    go false = q

on_both : (n link : ℕ) (f g : ℕ → Seen) (x y : Seen) → x.hits ≡ y.hits → (f link).hits ≡ (g link).hits
    → (on_link n link f x).hits ≡ (on_link n link g y).hits
unfolding on_link
on_both n link f g x y p q = go (leb n link)
  where
    go : (t : Bool) → (cond t x (f link)).hits ≡ (cond t y (g link)).hits
    go true = p
    go false = q

module _ (E : ℕ → Entry) (L : Bool → ℕ → ℕ) (n a k j : ℕ) where
  sought_both : (h link : ℕ) (x y : Seen) → x.hits ≡ y.hits → (sought E L n a k h link x).hits ≡ (sought E L n a j h link y).hits
  unfolding sought
  sought_both zero link x y q = q
  sought_both (suc h) link x y q =
      on_both n link _ _ x y q
      (sought_both h (L false link) _ _
      (noted_both a k j (sought E L n a k h (L true link) x) (sought E L n a j h (L true link) y) (E link) (sought_both h (L true link) x y q)))

module _ (I : List ℕ) where
  abbrev n : ℕ
  n = count_in_lem I

  pub seen_both : (a k j : ℕ) → (seen_in_lem I a k).hits ≡ (seen_in_lem I a j).hits
  unfolding seen_in_lem
  seen_both a k j = sought_both _ _ n a k j 33 (root_in_lem I) _ _ refl

  -- the refusals of the reader with room enough
  module _ (words bytes : ℕ) (h : n * 8 ≤ words) (i : n ≤ bytes * 8) where
    room_same : ltb (capacity words bytes) n ≡ ltb 65535 n
    room_same = go (ltb 65535 n) refl
      where
        go : (b : Bool) → ltb 65535 n ≡ b → ltb (capacity words bytes) n ≡ b
        go true e = lt-ltb (capacity words bytes) n (omega (arith, ltb-true 65535 n e))
        go false e = le-ltb (capacity words bytes) n (omega (arith, ltb-false 65535 n e))

    pub host_image_lem : read_image_number words bytes I ≡ host_image I
    unfolding read_image_number host_image
    host_image_lem = rw room_same refl

  -- the tables from each row on
  abbrev from_2 : Rows
  from_2 = refuse 2 (is_good I ≡ true → ⊥) accept

  abbrev from_1 : Rows
  from_1 = refuse 1 (65535 < n) from_2

  image_rows : Exactly (refuse 12 (laid_out_lem I ≡ true → ⊥) from_1) (host_image I)
  unfolding host_image
  image_rows =
      passed_row 12 (laid_out_lem I ≡ true → ⊥) from_1 (cond (ltb 65535 n) 1 (cond (is_good I) 0 2)) (laid_out_lem I) (omega arith)
      (λ t p. p t) (λ t i. true≢false (sym i ∙ t))
      (λ t. failed_row 1 (65535 < n) from_2 (cond (is_good I) 0 2) (ltb 65535 n) (omega arith)
      (λ u. ltb-true 65535 n u) (λ u p. omega (arith, ltb-false 65535 n u))
      (λ u. passed_row 2 (is_good I ≡ true → ⊥) accept 0 (is_good I) (omega arith) (λ v p. p v) (λ v i. true≢false (sym i ∙ v)) (λ v. refl)))

  module _ (a : ℕ) where
    count_is : host_image I ≡ 0 → host_count I a ≡ (seen_in_lem I a 0).hits
    unfolding host_count
    count_is e = rw e refl

    pub host_number_lem : (k : ℕ) → Exactly (host_rows I a k) (host_number I a k)
    unfolding host_number
    host_number_lem k =
        first_then (refuse 12 (laid_out_lem I ≡ true → ⊥) from_1) (refuse 3 (host_count I a ≤ k) accept) (host_image I)
        (cond (ltb k (seen_in_lem I a k).hits) 0 3) (omega arith) image_rows
        (λ e. passed_row 3 (host_count I a ≤ k) accept 0 (ltb k (seen_in_lem I a k).hits) (omega arith)
        (λ t p. omega (arith, ltb-true k (seen_in_lem I a k).hits t, count_is e, seen_both a 0 k))
        (λ t. omega (arith, ltb-false k (seen_in_lem I a k).hits t, count_is e, seen_both a 0 k))
        (λ t. refl))

    -- "where a call is refused its answer is 0"
    pub host_zero : ((host_image I ≡ 0 → ⊥) → host_count I a ≡ 0) × ((k : ℕ) → (host_number I a k ≡ 0 → ⊥) → host_value I a k ≡ 0)
    unfolding host_count host_value
    host_zero = (λ d. rw (ne_eqb (host_image I) 0 d) refl, λ k d. rw (ne_eqb (host_number I a k) 0 d) refl)

    module _ (e : host_image I ≡ 0) where
      number_zero : (k : ℕ) → k < host_count I a → host_number I a k ≡ 0
      unfolding host_number
      number_zero k h = rw (e, lt-ltb k (seen_in_lem I a k).hits (omega (arith, count_is e, seen_both a 0 k))) refl

      value_is : (k : ℕ) → k < host_count I a → host_value I a k ≡ (seen_in_lem I a k).value
      unfolding host_value
      value_is k h = rw (number_zero k h) refl

  -- the drain in the map that was read
  module _ (m : Map) (W C : List ℕ) (e : read_image_number (length W) (length C) I ≡ 0) where
    zero_image : host_image I ≡ 0
    zero_image =
        sym (host_image_lem (length W) (length C) (omega (arith, (accepts W C I e).1)) (omega (arith, (accepts W C I e).1))) ∙ e

    module _ (a limit : ℕ) (out : List ℕ) (enough : n ≤ limit_of_lem limit (length out)) (fits : limit_of_lem limit (length out) ≤ length out) where
      pub host_count_lem : host_count I a ≡ (drained_after (read_store m W C I) a limit out).answer.hits
      host_count_lem = count_is a zero_image ∙ hits_all I m W C e a 0 ∙ sym (handed I m W C e a limit out enough fits).hits_is

      pub host_value_lem : (k : ℕ) → k < host_count I a
          → host_value I a k ≡ value (read_store m W C I).words (get_or (drained_after (read_store m W C I) a limit out).output k 0)
      host_value_lem k h =
          let q : k < length (all I m W C e a) = omega (arith, count_is a zero_image, hits_all I m W C e a 0) in
          value_is a zero_image k h ∙ value_all I m W C e a k q
          ∙ ap (λ (s : ℕ). value (read_store m W C I).words s) (sym (output_slot I m W C e a limit out enough fits k q))

      as_drained : AsDrained I a (read_store m W C I).words (drained_after (read_store m W C I) a limit out)
      as_drained = record { accepted = (handed I m W C e a limit out enough fits).no_is; count = host_count_lem; values = host_value_lem }

  -- the links that a search follows, in an image that is not refused: in memory that is taken for
  -- it
  pub seek_linear : host_image I ≡ 0 → seek_calls (child_in_lem I n) n 33 (root_in_lem I) ≤ 2 * n + 1
  seek_linear e =
      let W : List ℕ = replicate (n * 8) 0 in
      let C : List ℕ = replicate n 0 in
      let w : length W ≡ n * 8 = length-replicate {A = ℕ} (n * 8) 0 in
      let c : length C ≡ n = length-replicate {A = ℕ} n 0 in
      seek_calls_lem I empty_map W C (host_image_lem (length W) (length C) (omega (arith, w)) (omega (arith, c)) ∙ e)

pub request_7 : (I : List ℕ) (a : ℕ) → Request7 I a
request_7 I a =
    record {
      refusals = host_number_lem I a;
      count_refused = (host_zero I a).0;
      value_refused = (host_zero I a).1;
      as_reader = λ m W C h i. read_image_no m W C I ∙ host_image_lem I (length W) (length C) h i;
      as_drained = λ m W C e limit out enough fits.
          let z : read_image_number (length W) (length C) I ≡ 0 = sym (read_image_no m W C I) ∙ e in
          rw (read_call_lem W C I z m) (as_drained I m W C z a limit out enough fits);
      judge_linear = linear (node_in_lem I (count_in_lem I)) (count_in_lem I) 33 (root_in_lem I);
      seek_linear = seek_linear I;
    }
