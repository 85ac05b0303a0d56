-- "Slots from count up are not read", of a removal on any words: on two stores that agree below the
-- count it answers the same value, pairs, root and sum of changed hulls, and leaves stores that
-- agree below the count.
use mathlib.Core.Path.{◌≡◌, refl}
use mathlib.Core.Bool.{Bool, true, false, cond, not}
use mathlib.Core.List.{List, []}
use Prim.Native.Nat.{ℕ, zero, suc, ◌-◌, ◌<◌}
use native.Mathlib.Omega.{arith}
use lib.Dec.{eqb, leb}
use borrow.Author.Tests.{leb-false}
use Rattle.words.specs.Ix.{U}
use Rattle.words.specs.Nodes.{kid, par, hull, entry, put_entry_lem, swap, HoldsBits}
use Rattle.words.specs.declared.node.Field.TheVariants.{Start, End, Value, HullStart, HullEnd, Child, Parent}
use Rattle.bitvec.specs.Colours.{red, red_at, paint, paint_at}
use Rattle.tree_edit.specs.Links.{redirected, remove_child_lem, fix_up, leftmost}
use Rattle.tree_edit.specs.Rotations.{rotate_4}
use Rattle.tree_rm_rule.specs.Repair.{Case, one, two, three, four, five, choose, act, round_of, round_at_lem, round, repair}
use Rattle.tree_edit.specs.Rounds.{Next, done, ending}
use Rattle.tree_rm_rule.specs.Pairs.{moved_to, emptied}
use Rattle.tree_rm_rule.specs.Remove.{vacated, exchanged, child, restructure, handed, above, cut_words, cut_root, copied, relinked, cleared, swap_remove_lem, Removed, finish, remove_rule, cut_words_with, finish_with, remove_from_with, remove_with, restructure_with, vacated_with}
use Rattle.tree_edit.specs.Store.{Store, store}
use Rattle.tree_edit.specs.Reach.{Work, changes, up_hulls}
use Rattle.tree_rm_rule.specs.Reach.{act_hulls, round_of_hulls, round_at_hulls, round_hulls, repair_hulls, restructure_hulls, cut_hulls, vacate_hulls, remove_hulls_from, remove_hulls}
use Rattle.tree.specs.Below.{Agree, SameColours}
use Rattle.tree_edit.specs.Below.{Alike}
use Rattle.tree_rm_rule.proofs.Steps.{emptied_live}
use Rattle.tree_edit.proofs.Colours.{red_slot}
use Rattle.tree_rm_rule.proofs.RepairInPlace.{four_close}
use Rattle.tree_rm_rule.proofs.Inside.{vacated_live}
use Rattle.tree_edit.proofs.Below.{link_same, same_red_at, agree_put_entry, same_entry, agree_put_node, agree_fix, agree_fix_up, agree_adopt, agree_redirected, agree_redirect, same_root_after, agree_rotate, agree_rotate_2, agree_rotate_4, Both, both_paint, SameNext, AlikeIn, same_ending, Sums, sums_append, sums_both, sums_up}
use Rattle.tree_edit.proofs.Rounds.{same_loop, sums_loop}

module _ (n : ℕ) where
  agree_swap : (W X : List ℕ) (i j : ℕ) → i < n → j < n → Agree n W X → Agree n (swap W i j) (swap X i j)
  unfolding swap
  agree_swap W X i j li lj A =
      rw (same_entry n W X A i li, same_entry n W X A j lj)
      (agree_put_entry n (put_entry_lem W i (entry X j)) (put_entry_lem X i (entry X j)) j (entry X i) (agree_put_entry n W X i (entry X j) A))

  module _ (W X C D : List ℕ) (A : Agree n W X) (B : Both n C D) where
    same_act : (k : Case) (r ix : ℕ) (b : Bool) (P S c d : ℕ) → ix < n → P < n → S < n → (k ≡ four → c < n)
        → SameNext n (act n k W C r ix b P S c d) (act n k X D r ix b P S c d)
    unfolding paint_at
    same_act one r ix b P S c d li lp ls lc = (A, both_paint n C D S true ls B, refl, refl, lp)
    same_act two r ix b P S c d li lp ls lc = (
      agree_rotate_2 n W X b P S lp ls A,
      both_paint n (paint C P true) (paint D P true) S false ls (both_paint n C D P true lp B),
      same_root_after n W X r P S lp A,
      refl,
      li,
    )
    same_act three r ix b P S c d li lp ls lc = (A, both_paint n (paint C P false) (paint D P false) S true ls (both_paint n C D P false lp B), refl)
    same_act four r ix b P S c d li lp ls lc =
        let l : c < n = lc refl in (
          agree_fix n _ _ c l (agree_fix n (rotate_4 n W b P S c) (rotate_4 n X b P S c) S ls (agree_rotate_4 n W X b P S lp ls A c l)),
          both_paint n (paint C c false) (paint D c false) S true ls (both_paint n C D c false l B),
          refl,
          refl,
          li,
        )
    same_act five r ix b P S c d li lp ls lc =
        let E : List ℕ = paint (paint C S (red D P)) P false in
        let F : List ℕ = paint (paint D S (red D P)) P false in
        let o : Both n E F = both_paint n (paint C S (red D P)) (paint D S (red D P)) P false lp (both_paint n C D S (red D P) ls B) in (
          agree_rotate n W X b P S lp ls A,
          rw (B.1.1 P lp) (link_same n {A = List ℕ} (Both n) d (λ s. paint E s false) (λ s. paint F s false) E F (λ h. both_paint n E F d false h o) o),
          same_root_after n W X r P S lp A,
        )

    same_round_of : (r ix P : ℕ) (b : Bool) (S : ℕ) → ix < n → P < n → S < n → SameNext n (round_of n W C r ix P b S) (round_of n X D r ix P b S)
    unfolding round_of
    same_round_of r ix P b S li lp ls =
        let k : Case = choose (red D P) (red D S) (red_at n D (kid X b S)) (red_at n D (kid X (not b) S)) in
        rw (
          A.1 (Child b) S ls,
          A.1 (Child (not b)) S ls,
          B.1.1 P lp,
          B.1.1 S ls,
          same_red_at n C D (kid X b S) B.1,
          same_red_at n C D (kid X (not b) S) B.1,
        )
        (same_act k r ix b P S (kid X b S) (kid X (not b) S) li lp ls
        (λ e. red_slot n D (kid X b S) (four_close (red D P) (red D S) (red_at n D (kid X b S)) (red_at n D (kid X (not b) S)) e)))

    same_round_at : (r ix P : ℕ) (b : Bool) → ix < n → P < n → SameNext n (round_at_lem n W C r ix P b) (round_at_lem n X D r ix P b)
    unfolding round_at_lem
    same_round_at r ix P b li lp =
        rw (A.1 (Child (not b)) P lp)
        (link_same n {A = Next} (SameNext n) (kid X (not b) P) (λ S. round_of n W C r ix P b S) (λ S. round_of n X D r ix P b S) (done W C r) (done X D r)
        (λ ls. same_round_of r ix P b (kid X (not b) P) li lp ls) (A, B, refl))

    same_round : (r ix : ℕ) → ix < n → SameNext n (round n W C r ix) (round n X D r ix)
    unfolding round
    same_round r ix li =
        rw (A.1 Parent ix li)
        (link_same n {A = Next} (SameNext n) (par X ix) (λ P. round_at_lem n W C r ix P (eqb (kid W true P) ix)) (λ P. round_at_lem n X D r ix P (eqb (kid X true P) ix)) (done W C r) (done X D r)
        (λ lp. rw (A.1 (Child true) (par X ix) lp) (same_round_at r ix (par X ix) (eqb (kid X true (par X ix)) ix) li lp)) (A, B, refl))

  same_repair : (rounds : ℕ) (W X C D : List ℕ) (r ix : ℕ) → Agree n W X → Both n C D → ix < n → SameNext n (repair n rounds W C r ix) (repair n rounds X D r ix)
  same_repair = same_loop (round n) n (λ W X C D r x A B l. same_round W X C D A B r x l)

  same_restructure : (W X C D : List ℕ) (r x y : ℕ) → Agree n W X → Both n C D → x < n → AlikeIn n (restructure n W C r x y) (restructure n X D r x y)
  unfolding restructure_with
  same_restructure W X C D r x y A B l =
      rw (B.1.1 x l, same_red_at n C D y B.1) (go (red D x) (red_at n D y) refl)
    where
      go : (t u : Bool) → red_at n D y ≡ u
          → AlikeIn n (cond t (store W C r) (cond u (store W (paint C y true) r) (ending (repair n 36 W C r x))))
          (cond t (store X D r) (cond u (store X (paint D y true) r) (ending (repair n 36 X D r x))))
      go true u e = (A, B, refl)
      go false true e = (A, both_paint n C D y true (red_slot n D y e) B, refl)
      go false false e = same_ending n (repair n 36 W C r x) (repair n 36 X D r x) (same_repair 36 W X C D r x A B l)

  pub same_leftmost : (height : ℕ) (W X : List ℕ) (k : ℕ) → Agree n W X → k < n → leftmost n height W k ≡ leftmost n height X k
  unfolding leftmost
  same_leftmost zero W X k A l = refl
  same_leftmost (suc height) W X k A l =
      rw (A.1 (Child true) k l)
      (link_same n {A = ℕ} (λ x y. x ≡ y) (kid X true k) (λ s. leftmost n height W s) (λ s. leftmost n height X s) k k (λ h. same_leftmost height W X (kid X true k) A h) refl)

  module _ (W X : List ℕ) (A : Agree n W X) where
    same_vacated : (s : ℕ) → s < n → vacated n W s ≡ vacated n X s
    unfolding vacated_with
    same_vacated s l = rw (A.1 (Child false) s l) (go (leb n (kid X false s)) refl)
      where
        go : (t : Bool) → leb n (kid X false s) ≡ t → cond t s (leftmost n 32 W (kid X false s)) ≡ cond t s (leftmost n 32 X (kid X false s))
        go true e = refl
        go false e = same_leftmost 32 W X (kid X false s) A (leb-false n (kid X false s) e)

    agree_exchanged : (s x : ℕ) → s < n → x < n → Agree n (exchanged W s x) (exchanged X s x)
    unfolding exchanged
    agree_exchanged s x ls lx = go (eqb x s)
      where
        go : (t : Bool) → Agree n (cond t W (swap W s x)) (cond t X (swap X s x))
        go true = A
        go false = agree_swap W X s x ls lx A

    same_child : (x : ℕ) → x < n → child W x ≡ child X x
    unfolding child
    same_child x l = rw (A.1 (Child true) x l, A.1 (Child false) x l)

    agree_handed : (x y : ℕ) → x < n → Agree n (handed n W x y) (handed n X x y)
    unfolding handed
    agree_handed x y l = link_same n {A = List ℕ} (Agree n) y (λ s. swap W x s) (λ s. swap X x s) W X (λ h. agree_swap W X x y l h A) A

    same_above : (x y : ℕ) → x < n → above n W x y ≡ above n X x y
    unfolding above
    same_above x y l = rw (A.1 Parent x l)

    agree_cut_words : (g v : ℕ) → Agree n (cut_words n W g v) (cut_words n X g v)
    unfolding cut_words_with remove_child_lem
    agree_cut_words g v =
        link_same n {A = List ℕ} (Agree n) g (λ s. fix_up n 32 (redirected W s v U) s) (λ s. fix_up n 32 (redirected X s v U) s) W X
        (λ h. agree_fix_up n 32 (redirected W g v U) (redirected X g v U) g (agree_redirected n W X g v U h A)) A

    agree_relinked : (z v : ℕ) → z < n → Agree n (relinked n W z v) (relinked n X z v)
    unfolding relinked copied
    agree_relinked z v l =
        rw (A.1 Start z l, A.1 End z l, A.1 Value z l, A.1 HullStart z l, A.1 HullEnd z l, A.1 (Child true) z l, A.1 (Child false) z l, A.1 Parent z l)
        (let N = agree_put_node n W X v (entry X z) (hull X z) (kid X true z) (kid X false z) (par X z) A in
        let O = agree_adopt n _ _ N (kid X true z) v in
        agree_redirect n _ _ (par X z) z v (agree_adopt n _ _ O (kid X false z) v))

  agree_cleared : (W X : List ℕ) (z : ℕ) → Agree n W X → Agree n (cleared W z) (cleared X z)
  unfolding cleared
  agree_cleared W X z A = agree_put_node n W X z (record { start = 0; end = 0; value = 0 }) (record { start = 0; end = 0 }) U U U A

  same_swap_remove : (W X C D : List ℕ) (r z v : ℕ) → Agree n W X → Both n C D → z < n → v < n → Alike n (swap_remove_lem n W C r z v) (swap_remove_lem n X D r z v)
  unfolding swap_remove_lem
  same_swap_remove W X C D r z v A B lz lv = rw (B.1.1 z lz) (go (eqb v z))
    where
      go : (t : Bool) → Alike n (cond t (store (cleared W z) C r) (store (cleared (relinked n W z v) z) (paint C v (red D z)) (moved_to z v r)))
          (cond t (store (cleared X z) D r) (store (cleared (relinked n X z v) z) (paint D v (red D z)) (moved_to z v r)))
      go true = (agree_cleared W X z A, B.1, refl)
      go false = (
        agree_cleared (relinked n W z v) (relinked n X z v) z (agree_relinked W X A z v lz),
        (both_paint n C D v (red D z) lv B).1,
        refl,
      )

  module _ (W X C D : List ℕ) (A : Agree n W X) (B : Both n C D) where
    sums_act : (k : Case) (b : Bool) (P S c : ℕ) → P < n → S < n → (k ≡ four → c < n) → Sums n (act_hulls n k W b P S c) (act_hulls n k X b P S c)
    sums_act one b P S c lp ls lc = refl
    sums_act two b P S c lp ls lc = refl
    sums_act three b P S c lp ls lc = refl
    sums_act four b P S c lp ls lc =
        sums_both n (rotate_4 n W b P S c) (rotate_4 n X b P S c) S c ls (lc refl) (agree_rotate_4 n W X b P S lp ls A c (lc refl))
    sums_act five b P S c lp ls lc = refl

    sums_round_of : (P : ℕ) (b : Bool) (S : ℕ) → P < n → S < n → Sums n (round_of_hulls n W C P b S) (round_of_hulls n X D P b S)
    unfolding round_of_hulls
    sums_round_of P b S lp ls =
        let k : Case = choose (red D P) (red D S) (red_at n D (kid X b S)) (red_at n D (kid X (not b) S)) in
        rw (
          A.1 (Child b) S ls,
          A.1 (Child (not b)) S ls,
          B.1.1 P lp,
          B.1.1 S ls,
          same_red_at n C D (kid X b S) B.1,
          same_red_at n C D (kid X (not b) S) B.1,
        )
        (sums_act k b P S (kid X b S) lp ls
        (λ e. red_slot n D (kid X b S) (four_close (red D P) (red D S) (red_at n D (kid X b S)) (red_at n D (kid X (not b) S)) e)))

    sums_round_at : (P : ℕ) (b : Bool) → P < n → Sums n (round_at_hulls n W C P b) (round_at_hulls n X D P b)
    unfolding round_at_hulls
    sums_round_at P b lp =
        rw (A.1 (Child (not b)) P lp)
        (link_same n {A = List Work} (Sums n) (kid X (not b) P) (λ S. round_of_hulls n W C P b S) (λ S. round_of_hulls n X D P b S) [] []
        (λ ls. sums_round_of P b (kid X (not b) P) lp ls) refl)

    sums_round : (ix : ℕ) → ix < n → Sums n (round_hulls n W C ix) (round_hulls n X D ix)
    unfolding round_hulls
    sums_round ix li =
        rw (A.1 Parent ix li)
        (link_same n {A = List Work} (Sums n) (par X ix) (λ P. round_at_hulls n W C P (eqb (kid W true P) ix)) (λ P. round_at_hulls n X D P (eqb (kid X true P) ix)) [] []
        (λ lp. rw (A.1 (Child true) (par X ix) lp) (sums_round_at (par X ix) (eqb (kid X true (par X ix)) ix) lp)) refl)

    sums_cut : (g v : ℕ) → Sums n (cut_hulls n W g v) (cut_hulls n X g v)
    unfolding cut_hulls remove_child_lem
    sums_cut g v =
        link_same n {A = List Work} (Sums n) g (λ s. up_hulls n 32 (redirected W s v U) s) (λ s. up_hulls n 32 (redirected X s v U) s) [] []
        (λ h. sums_up n 32 (redirected W g v U) (redirected X g v U) g (agree_redirected n W X g v U h A)) refl

  sums_repair : (rounds : ℕ) (W X C D : List ℕ) (r ix : ℕ) → Agree n W X → Both n C D → ix < n → Sums n (repair_hulls n rounds W C r ix) (repair_hulls n rounds X D r ix)
  sums_repair =
      sums_loop (round n) n (λ W X C D r x A B l. same_round W X C D A B r x l) (round_hulls n) (λ W X C D x A B l. sums_round W X C D A B x l)

  sums_restructure : (W X C D : List ℕ) (r x y : ℕ) → Agree n W X → Both n C D → x < n → Sums n (restructure_hulls n W C r x y) (restructure_hulls n X D r x y)
  unfolding restructure_hulls
  sums_restructure W X C D r x y A B l = rw (B.1.1 x l, same_red_at n C D y B.1) (go (red D x) (red_at n D y))
    where
      go : (t u : Bool) → Sums n (cond t [] (cond u [] (repair_hulls n 36 W C r x))) (cond t [] (cond u [] (repair_hulls n 36 X D r x)))
      go true u = refl
      go false true = refl
      go false false = sums_repair 36 W X C D r x A B l

  sums_vacate : (W X C D : List ℕ) (r x y : ℕ) → Agree n W X → Both n C D → x < n → Sums n (vacate_hulls n W C r x y) (vacate_hulls n X D r x y)
  unfolding vacate_hulls
  sums_vacate W X C D r x y A B l =
      let S : Store = restructure n W C r x y in
      let T : Store = restructure n X D r x y in
      let h : AlikeIn n S T = same_restructure W X C D r x y A B l in
      let v : ℕ = emptied n x y in
      let g : ℕ = above n T.words x y in
      let eg : above n S.words x y ≡ g = same_above S.words T.words h.0 x y l in
      sums_append n (restructure_hulls n W C r x y) _ (restructure_hulls n X D r x y) _ (sums_restructure W X C D r x y A B l)
      (rw eg
      (sums_cut (handed n S.words x y) (handed n T.words x y) C D (agree_handed S.words T.words h.0 x y l) B g v))

-- a removal's answer and what it leaves
pub record SameRemoved (n : ℕ) (R Q : Removed) : Type 0 where
  pub stores : Alike n R.store Q.store
  pub values : R.value ≡ Q.value
  pub pairs : R.pairs ≡ Q.pairs

module _ (W X C D : List ℕ) (n r s : ℕ) (bits : HoldsBits C n) (ls : s < n) (A : Agree n W X) (H : SameColours n C D) where
  same_finish : (S T : Store) (x y : ℕ) → AlikeIn n S T → x < n → SameRemoved n (finish S n s x y) (finish T n s x y)
  unfolding finish_with
  same_finish S T x y h l =
      let v : ℕ = emptied n x y in
      let lv : v < n = emptied_live n x y l in
      let g : ℕ = above n T.words x y in
      let eg : above n S.words x y ≡ g = same_above n S.words T.words h.0 x y l in
      let Z : Agree n (cut_words n (handed n S.words x y) g v) (cut_words n (handed n T.words x y) g v) =
      agree_cut_words n (handed n S.words x y) (handed n T.words x y) (agree_handed n S.words T.words h.0 x y l) g v in
      rw (eg, h.2)
      (record {
        stores = same_swap_remove n _ _ S.colours T.colours (cut_root n T.root g) (n - 1) v Z h.1 (omega arith) lv;
        values = Z.1 Value v lv;
        pairs = refl;
      })

  pub removed_below : SameRemoved n (remove_rule W C n r s) (remove_rule X D n r s)
  unfolding remove_with remove_from_with
  removed_below =
      let x : ℕ = vacated n X s in
      let lx : x < n = vacated_live n X s ls in
      let E : Agree n (exchanged W s x) (exchanged X s x) = agree_exchanged n W X A s x ls lx in
      rw (same_vacated n W X A s ls, same_child n (exchanged W s x) (exchanged X s x) E x lx)
      (same_finish _ _ x (child (exchanged X s x) x)
      (same_restructure n (exchanged W s x) (exchanged X s x) C D r x (child (exchanged X s x) x) E (bits, H) lx) lx)

  -- and as many hulls change
  pub reach_below : changes n (remove_hulls W C n r s) ≡ changes n (remove_hulls X D n r s)
  unfolding remove_hulls remove_hulls_from
  reach_below =
      let x : ℕ = vacated n X s in
      let lx : x < n = vacated_live n X s ls in
      let E : Agree n (exchanged W s x) (exchanged X s x) = agree_exchanged n W X A s x ls lx in
      rw (same_vacated n W X A s ls, same_child n (exchanged W s x) (exchanged X s x) E x lx)
      (sums_vacate n (exchanged W s x) (exchanged X s x) C D r x (child (exchanged X s x) x) E (bits, H) lx)
