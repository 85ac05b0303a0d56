-- "Slots from count up are not read", of an insertion on any words with room for it: on two stores
-- that agree below the count it leaves stores, one root among them, that agree up to the new slot,
-- and as many hulls change.
use mathlib.Core.Path.{◌≡◌, refl, sym, ap, ◌∙◌}
use mathlib.Core.Bool.{Bool, true, false, cond, not}
use mathlib.Core.List.{List, []}
use Prim.Native.Nat.{ℕ, zero, suc, ◌+◌, ◌<◌}
use native.Mathlib.Omega.{arith}
use lib.Dec.{eqb}
use Rattle.words.specs.Ix.{U}
use Rattle.words.specs.Nodes.{word, kid, par, put_kid, put_node_lem, Has, Holds, HoldsBits}
use Rattle.words.specs.declared.interval.Interval.{Interval}
use Rattle.words.specs.declared.node.Entry.{Entry}
use Rattle.words.specs.declared.node.Field.{Field}
use Rattle.words.specs.declared.node.Field.TheVariants.{Start, End, Value, HullStart, HullEnd, Child, Parent}
use Rattle.words.proofs.Nodes.{entry_put_node, hull_put_node, kid_put_node, par_put_node}
use Rattle.bitvec.specs.Colours.{red, red_at, paint}
use Rattle.bitvec.proofs.Bytes.{length_set_bit, bit_at_same, bit_at_other}
use Rattle.tree.proofs.Cases.{compare}
use Rattle.tree_edit.specs.Rotations.{rotate}
use Rattle.tree_edit.specs.Rounds.{Next, done, ending}
use Rattle.tree_edit.specs.Reach.{Work, changes, up_hulls}
use Rattle.tree.specs.Below.{Agree, SameColours}
use Rattle.tree_edit.specs.Below.{Alike}
use Rattle.tree_edit.proofs.Colours.{red_slot}
use Rattle.tree_edit.proofs.Below.{link_same, same_red_at, agree_put, agree_put_node, agree_fix, agree_fix_up, agree_rotate, same_root_after, Both, both_paint, SameNext, AlikeIn, same_ending, Sums, sums_append, sums_both, sums_up}
use Rattle.tree_in_rule.specs.Descent.{goes_left_lem, descend, under}
use Rattle.tree_in_rule.specs.InsertRepair.{rotated, outer, inner, recoloured, insert_round_at, insert_round_below, insert_round, insert_repair_lem}
use Rattle.tree_in_rule.specs.Insert.{own, hung_node, hung_words, hung_root, hung, insert_at_lem, insert_rule}
use Rattle.tree_in_rule.specs.Reach.{rotated_hulls, outer_hulls, inner_hulls, insert_round_at_hulls, insert_round_below_hulls, insert_round_hulls, insert_repair_hulls, insert_at_hulls, insert_hulls}
use Rattle.tree_edit.proofs.Rounds.{same_loop, sums_loop}

-- the repair of n entries
module _ (n : ℕ) where
  module _ (W X : List ℕ) (A : Agree n W X) where
    agree_rotated : (b : Bool) (P S : ℕ) → P < n → S < n → Agree n (rotated n W b P S) (rotated n X b P S)
    unfolding rotated
    agree_rotated b P S lp ls = agree_fix n _ _ S ls (agree_fix n _ _ P lp (agree_rotate n W X b P S lp ls A))

  module _ (W X C D : List ℕ) (A : Agree n W X) (B : Both n C D) where
    same_outer : (r : ℕ) (b : Bool) (P G : ℕ) → P < n → G < n → SameNext n (outer n W C r b P G) (outer n X D r b P G)
    unfolding outer
    same_outer r b P G lp lg = (
      agree_rotated W X A (not b) G P lg lp,
      both_paint n (paint C P false) (paint D P false) G true lg (both_paint n C D P false lp B),
      same_root_after n W X r G P lg A,
    )

    same_recoloured : (r P u G : ℕ) → P < n → u < n → G < n → SameNext n (recoloured W C r P u G) (recoloured X D r P u G)
    unfolding recoloured
    same_recoloured r P u G lp lu lg = (
      A,
      both_paint n _ _ G true lg (both_paint n (paint C P false) (paint D P false) u false lu (both_paint n C D P false lp B)),
      refl,
      refl,
      lg,
    )

  same_inner : (W X C D : List ℕ) → Agree n W X → Both n C D → (r x : ℕ) (b : Bool) (P G : ℕ) → x < n → P < n → G < n
      → SameNext n (inner n W C r x b P G) (inner n X D r x b P G)
  unfolding inner
  same_inner W X C D A B r x b P G lx lp lg =
      same_outer (rotated n W b P x) (rotated n X b P x) C D (agree_rotated W X A b P x lp lx) B r b x G lx lg

  module _ (W X C D : List ℕ) (A : Agree n W X) (B : Both n C D) (r x : ℕ) (lx : x < n) where
    same_insert_round_at : (P G : ℕ) (b : Bool) → P < n → G < n → SameNext n (insert_round_at n W C r x P G b) (insert_round_at n X D r x P G b)
    unfolding insert_round_at
    same_insert_round_at P G b lp lg =
        rw (A.1 (Child (not b)) G lg, A.1 (Child (not b)) P lp, same_red_at n C D (kid X (not b) G) B.1)
        (go (red_at n D (kid X (not b) G)) (eqb (kid X (not b) P) x) refl)
      where
        go : (t u : Bool) → red_at n D (kid X (not b) G) ≡ t
            → SameNext n (cond t (recoloured W C r P (kid X (not b) G) G) (cond u (inner n W C r x b P G) (outer n W C r b P G)))
            (cond t (recoloured X D r P (kid X (not b) G) G) (cond u (inner n X D r x b P G) (outer n X D r b P G)))
        go true u e = same_recoloured W X C D A B r P (kid X (not b) G) G lp (red_slot n D (kid X (not b) G) e) lg
        go false true e = same_inner W X C D A B r x b P G lx lp lg
        go false false e = same_outer W X C D A B r b P G lp lg

    same_insert_round_below : (P : ℕ) → P < n → SameNext n (insert_round_below n W C r x P) (insert_round_below n X D r x P)
    unfolding insert_round_below
    same_insert_round_below P lp =
        rw (A.1 Parent P lp)
        (link_same n {A = Next} (SameNext n) (par X P) (λ G. insert_round_at n W C r x P G (eqb (kid W true G) P)) (λ G. insert_round_at n X D r x P G (eqb (kid X true G) P)) (done W C r) (done X D r)
        (λ lg. rw (A.1 (Child true) (par X P) lg) (same_insert_round_at P (par X P) (eqb (kid X true (par X P)) P) lp lg)) (A, B, refl))

    same_insert_round : SameNext n (insert_round n W C r x) (insert_round n X D r x)
    unfolding insert_round
    same_insert_round =
        rw (A.1 Parent x lx)
        (link_same n {A = Next} (SameNext n) (par X x) (λ P. cond (red C P) (insert_round_below n W C r x P) (done W C r)) (λ P. cond (red D P) (insert_round_below n X D r x P) (done X D r))
        (done W (paint C x false) r) (done X (paint D x false) r)
        (λ lp. rw (B.1.1 (par X x) lp) (go (par X x) lp (red D (par X x)))) (A, both_paint n C D x false lx B, refl))
      where
        go : (P : ℕ) → P < n → (t : Bool) → SameNext n (cond t (insert_round_below n W C r x P) (done W C r)) (cond t (insert_round_below n X D r x P) (done X D r))
        go P lp true = same_insert_round_below P lp
        go P lp false = (A, B, refl)

  same_insert_repair : (rounds : ℕ) (W X C D : List ℕ) (r x : ℕ) → Agree n W X → Both n C D → x < n → SameNext n (insert_repair_lem n rounds W C r x) (insert_repair_lem n rounds X D r x)
  same_insert_repair = same_loop (insert_round n) n (λ W X C D r x A B l. same_insert_round W X C D A B r x l)

  -- the hulls that are worked out: as many of them change
  sums_rotated : (W X : List ℕ) (b : Bool) (P S : ℕ) → P < n → S < n → Agree n W X → Sums n (rotated_hulls n W b P S) (rotated_hulls n X b P S)
  unfolding rotated_hulls
  sums_rotated W X b P S lp ls A = sums_both n (rotate n W b P S) (rotate n X b P S) P S lp ls (agree_rotate n W X b P S lp ls A)

  sums_inner : (W X : List ℕ) (x : ℕ) (b : Bool) (P G : ℕ) → x < n → P < n → G < n → Agree n W X
      → Sums n (inner_hulls n W x b P G) (inner_hulls n X x b P G)
  unfolding inner_hulls outer_hulls
  sums_inner W X x b P G lx lp lg A =
      sums_append n (rotated_hulls n W b P x) _ (rotated_hulls n X b P x) _ (sums_rotated W X b P x lp lx A)
      (sums_rotated (rotated n W b P x) (rotated n X b P x) (not b) G x lg lx (agree_rotated W X A b P x lp lx))

  module _ (W X C D : List ℕ) (A : Agree n W X) (B : Both n C D) (x : ℕ) (lx : x < n) where
    sums_insert_round_at : (P G : ℕ) (b : Bool) → P < n → G < n → Sums n (insert_round_at_hulls n W C x P G b) (insert_round_at_hulls n X D x P G b)
    unfolding insert_round_at_hulls outer_hulls
    sums_insert_round_at P G b lp lg =
        rw (A.1 (Child (not b)) G lg, A.1 (Child (not b)) P lp, same_red_at n C D (kid X (not b) G) B.1)
        (go (red_at n D (kid X (not b) G)) (eqb (kid X (not b) P) x))
      where
        go : (t u : Bool) → Sums n (cond t [] (cond u (inner_hulls n W x b P G) (outer_hulls n W b P G)))
            (cond t [] (cond u (inner_hulls n X x b P G) (outer_hulls n X b P G)))
        go true u = refl
        go false true = sums_inner W X x b P G lx lp lg A
        go false false = sums_rotated W X (not b) G P lg lp A

    sums_insert_round_below : (P : ℕ) → P < n → Sums n (insert_round_below_hulls n W C x P) (insert_round_below_hulls n X D x P)
    unfolding insert_round_below_hulls
    sums_insert_round_below P lp =
        rw (A.1 Parent P lp)
        (link_same n {A = List Work} (Sums n) (par X P) (λ G. insert_round_at_hulls n W C x P G (eqb (kid W true G) P)) (λ G. insert_round_at_hulls n X D x P G (eqb (kid X true G) P)) [] []
        (λ lg. rw (A.1 (Child true) (par X P) lg) (sums_insert_round_at P (par X P) (eqb (kid X true (par X P)) P) lp lg)) refl)

    sums_insert_round : Sums n (insert_round_hulls n W C x) (insert_round_hulls n X D x)
    unfolding insert_round_hulls
    sums_insert_round =
        rw (A.1 Parent x lx)
        (link_same n {A = List Work} (Sums n) (par X x) (λ P. cond (red C P) (insert_round_below_hulls n W C x P) []) (λ P. cond (red D P) (insert_round_below_hulls n X D x P) []) [] []
        (λ lp. rw (B.1.1 (par X x) lp) (go (par X x) lp (red D (par X x)))) refl)
      where
        go : (P : ℕ) → P < n → (t : Bool) → Sums n (cond t (insert_round_below_hulls n W C x P) []) (cond t (insert_round_below_hulls n X D x P) [])
        go P lp true = sums_insert_round_below P lp
        go P lp false = refl

  sums_insert_repair : (rounds : ℕ) (W X C D : List ℕ) (r x : ℕ) → Agree n W X → Both n C D → x < n → Sums n (insert_repair_hulls n rounds W C r x) (insert_repair_hulls n rounds X D r x)
  sums_insert_repair =
      sums_loop (insert_round n) n (λ W X C D r x A B l. same_insert_round W X C D A B r x l) (insert_round_hulls n) (λ W X C D x A B l. sums_insert_round W X C D A B x l)

  -- the way down
  module _ (W X : List ℕ) (A : Agree n W X) (x : Interval) where
    same_goes_left : (k : ℕ) → k < n → goes_left_lem W x k ≡ goes_left_lem X x k
    unfolding goes_left_lem
    same_goes_left k l = rw (A.1 Start k l, A.1 End k l)

    same_descend : (height k : ℕ) → k < n → descend n height W x k ≡ descend n height X x k
    unfolding descend
    same_descend zero k l = refl
    same_descend (suc height) k l =
        rw (same_goes_left k l, A.1 (Child (goes_left_lem X x k)) k l)
        (link_same n {A = ℕ} (λ i j. i ≡ j) (kid X (goes_left_lem X x k) k) (λ s. descend n height W x s) (λ s. descend n height X x s) k k
        (λ h. same_descend height (kid X (goes_left_lem X x k) k) h) refl)

    same_under : (r : ℕ) → under n W r x ≡ under n X r x
    unfolding under
    same_under r =
        link_same n {A = ℕ} (λ i j. i ≡ j) r (λ s. descend n 32 W x s) (λ s. descend n 32 X x s) U U (λ h. same_descend 32 r h) refl

-- the eight words of one slot are written in both
same_node : (W X : List ℕ) (s : ℕ) (e : Entry) (h : Interval) (left right up : ℕ) → Has W s → Has X s
    → (f : Field) → word (put_node_lem W s e h left right up) f s ≡ word (put_node_lem X s e h left right up) f s
same_node W X s e h left right up m k Start =
    ap (λ (e : Entry). e.start) (entry_put_node W s e h left right up m ∙ sym (entry_put_node X s e h left right up k))
same_node W X s e h left right up m k End =
    ap (λ (e : Entry). e.end) (entry_put_node W s e h left right up m ∙ sym (entry_put_node X s e h left right up k))
same_node W X s e h left right up m k Value =
    ap (λ (e : Entry). e.value) (entry_put_node W s e h left right up m ∙ sym (entry_put_node X s e h left right up k))
same_node W X s e h left right up m k HullStart =
    ap (λ (i : Interval). i.start) (hull_put_node W s e h left right up m ∙ sym (hull_put_node X s e h left right up k))
same_node W X s e h left right up m k HullEnd =
    ap (λ (i : Interval). i.end) (hull_put_node W s e h left right up m ∙ sym (hull_put_node X s e h left right up k))
same_node W X s e h left right up m k (Child b) = kid_put_node W s e h left right up b m ∙ sym (kid_put_node X s e h left right up b k)
same_node W X s e h left right up m k Parent = par_put_node W s e h left right up m ∙ sym (par_put_node X s e h left right up k)

module _ (W X C D : List ℕ) (n r : ℕ) (e : Entry) (room : Holds W (n + 1)) (bits : HoldsBits C (n + 1)) (A : Agree n W X) (H : SameColours n C D) where
  -- one slot more, where that is written too
  agree_hung_node : (p : ℕ) → Agree (n + 1) (hung_node W n e p) (hung_node X n e p)
  unfolding hung_node
  agree_hung_node p =
      let N = agree_put_node n W X n e (own e) U U p A in (
        N.0,
        λ f a l. compare n a (λ q. let i : a ≡ n = omega arith in
            rw i (same_node W X n e (own e) U U p (omega arith) (omega (arith, A.0)) f)) (λ q. N.1 f a q),
      )

  agree_hung_words : (p : ℕ) → Agree (n + 1) (hung_words W n e p) (hung_words X n e p)
  unfolding hung_words
  agree_hung_words p =
      link_same n {A = List ℕ} (Agree (n + 1)) p (λ s. put_kid (hung_node W n e p) (goes_left_lem W (own e) s) s n)
      (λ s. put_kid (hung_node X n e p) (goes_left_lem X (own e) s) s n) (hung_node W n e p) (hung_node X n e p)
      (λ h. rw (same_goes_left n W X A (own e) p h)
      (agree_put (n + 1) (hung_node W n e p) (hung_node X n e p) (agree_hung_node p) (Child (goes_left_lem X (own e) p)) p n))
      (agree_hung_node p)

  both_hung : Both (n + 1) (paint C n true) (paint D n true)
  both_hung = (
    rw length_set_bit bits,
    (
      length_set_bit C n true ∙ H.0 ∙ sym (length_set_bit D n true),
      λ a l. compare n a
          (λ q. let i : a ≡ n = omega arith in rw i (bit_at_same C n true (omega arith) ∙ sym (bit_at_same D n true (omega (arith, H.0)))))
          (λ q. bit_at_other C n true a (omega arith) ∙ H.1 a q ∙ sym (bit_at_other D n true a (omega arith))),
    ),
  )

  -- after the repair
  same_repaired : (p : ℕ)
      → AlikeIn (n + 1) (ending (insert_repair_lem (n + 1) 32 (hung_words W n e p) (paint C n true) (hung_root n r p) n))
      (ending (insert_repair_lem (n + 1) 32 (hung_words X n e p) (paint D n true) (hung_root n r p) n))
  same_repaired p =
      same_ending (n + 1) (insert_repair_lem (n + 1) 32 (hung_words W n e p) (paint C n true) (hung_root n r p) n)
      (insert_repair_lem (n + 1) 32 (hung_words X n e p) (paint D n true) (hung_root n r p) n)
      (same_insert_repair (n + 1) 32 (hung_words W n e p) (hung_words X n e p) (paint C n true) (paint D n true) (hung_root n r p) n (agree_hung_words p) both_hung (omega arith))

  same_insert_at : (p : ℕ) → Alike (n + 1) (insert_at_lem W C n r e p) (insert_at_lem X D n r e p)
  unfolding insert_at_lem hung
  same_insert_at p = let m = same_repaired p in (agree_fix_up (n + 1) 32 _ _ n m.0, m.1.1, m.2)

  sums_insert_at : (p : ℕ) → Sums (n + 1) (insert_at_hulls W C n r e p) (insert_at_hulls X D n r e p)
  unfolding insert_at_hulls hung
  sums_insert_at p =
      let Y : List ℕ = hung_words W n e p in
      let Z : List ℕ = hung_words X n e p in
      let q : ℕ = hung_root n r p in
      sums_append (n + 1) (insert_repair_hulls (n + 1) 32 Y (paint C n true) q n) (up_hulls (n + 1) 32 (ending (insert_repair_lem (n + 1) 32 Y (paint C n true) q n)).words n)
      (insert_repair_hulls (n + 1) 32 Z (paint D n true) q n) (up_hulls (n + 1) 32 (ending (insert_repair_lem (n + 1) 32 Z (paint D n true) q n)).words n)
      (sums_insert_repair (n + 1) 32 (hung_words W n e p) (hung_words X n e p) (paint C n true) (paint D n true) (hung_root n r p) n (agree_hung_words p) both_hung (omega arith))
      (sums_up (n + 1) 32 _ _ n (same_repaired p).0)

  pub inserted_below : Alike (n + 1) (insert_rule W C n r e) (insert_rule X D n r e)
  unfolding insert_rule
  inserted_below = rw (same_under n W X A (own e) r) (same_insert_at (under n X r (own e)))

  pub reach_below : changes (n + 1) (insert_hulls W C n r e) ≡ changes (n + 1) (insert_hulls X D n r e)
  unfolding insert_hulls
  reach_below = rw (same_under n W X A (own e) r) (sums_insert_at (under n X r (own e)))
