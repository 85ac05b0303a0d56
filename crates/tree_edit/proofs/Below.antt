-- "Slots from count up are not read": on two stores that agree below the count, what insertion and
-- removal write with agrees below the count, and as many hulls change.
use mathlib.Core.Path.{◌≡◌, refl, sym, ◌∙◌}
use mathlib.Core.Bool.{Bool, true, false, cond, not}
use mathlib.Core.List.{List, [], ◌∷◌, ◌++◌}
use Prim.Native.Nat.{ℕ, zero, suc, ◌+◌, ◌*◌, ◌<◌}
use native.Mathlib.Omega.{arith}
use lib.ListN.{length, get_or, set}
use lib.Dec.{eqb, leb}
use borrow.Author.Tests.{eqb-true, eqb-false, leb-false}
use Rattle.words.specs.Ix.{on_link}
use Rattle.words.specs.Intervals.{eq, extended}
use Rattle.words.specs.Nodes.{place, word, put, kid, par, interval, hull, entry, put_par, put_entry_lem, put_hull_lem, joined, hull_of, altered, fix, put_node_lem, HoldsBits}
use Rattle.words.specs.declared.interval.Interval.{Interval}
use Rattle.words.specs.declared.node.Entry.{Entry}
use Rattle.words.specs.declared.node.Field.{Field}
use Rattle.words.specs.declared.node.Field.TheVariants.{Start, End, Value, HullStart, HullEnd, Child, Parent}
use Rattle.words.proofs.Nodes.{length_put}
use Rattle.bitvec.specs.Colours.{red, red_at, paint}
use Rattle.bitvec.proofs.Bytes.{length_set_bit, bit_at_same, bit_at_other}
use Rattle.tree_edit.specs.Links.{adopt, set_child_lem, redirected, redirect, replaced, root_after, fix_up}
use Rattle.tree_edit.specs.Rotations.{rotate, rotate_2, rotate_4}
use Rattle.tree_edit.specs.Rounds.{Next, done, again, ending}
use Rattle.tree_edit.specs.Store.{Store}
use Rattle.tree_edit.specs.Reach.{Work, differs, changes, both_hulls, up_hulls, onward}
use Rattle.tree.specs.Below.{Agree, SameColours}
use Rattle.tree_edit.proofs.Reached.{changes_append}

-- one word is written in both lists
set_same : (W X : List ℕ) (i j v : ℕ) → length W ≡ length X → get_or W j 0 ≡ get_or X j 0 → get_or (set W i v) j 0 ≡ get_or (set X i v) j 0
set_same [] [] i j v l e = e
set_same [] (y ∷ X) i j v l e = absurd (omega arith)
set_same (x ∷ W) [] i j v l e = absurd (omega arith)
set_same (x ∷ W) (y ∷ X) zero zero v l e = refl
set_same (x ∷ W) (y ∷ X) zero (suc j) v l e = e
set_same (x ∷ W) (y ∷ X) (suc i) zero v l e = e
set_same (x ∷ W) (y ∷ X) (suc i) (suc j) v l e = set_same W X i j v (omega arith) e

module _ (n : ℕ) where
  -- by cases on one link
  pub link_same : {A : Type 0} (R : A → A → Type 0) (k : ℕ) (f g : ℕ → A) (y z : A) → (k < n → R (f k) (g k)) → R y z → R (on_link n k f y) (on_link n k g z)
  unfolding on_link
  link_same R k f g y z h e = go (leb n k) refl
    where
      go : (t : Bool) → leb n k ≡ t → R (cond t y (f k)) (cond t z (g k))
      go true i = e
      go false i = h (leb-false n k i)

  -- the colours: a bit is written in both
  pub same_colours_paint : (C D : List ℕ) (s : ℕ) (v : Bool) → HoldsBits C n → s < n → SameColours n C D → SameColours n (paint C s v) (paint D s v)
  same_colours_paint C D s v bits h H = (length_set_bit C s v ∙ H.0 ∙ sym (length_set_bit D s v), λ a l. go a l (eqb a s) refl)
    where
      go : (a : ℕ) → a < n → (t : Bool) → eqb a s ≡ t → red (paint C s v) a ≡ red (paint D s v) a
      go a l true e =
          let i : a ≡ s = eqb-true a s e in
          rw i (bit_at_same C s v (omega arith) ∙ sym (bit_at_same D s v (omega (arith, H.0))))
      go a l false e = bit_at_other C s v a (eqb-false a s e) ∙ H.1 a l ∙ sym (bit_at_other D s v a (eqb-false a s e))

  pub same_red_at : (C D : List ℕ) (k : ℕ) → SameColours n C D → red_at n C k ≡ red_at n D k
  same_red_at C D k H = link_same {A = Bool} (λ x y. x ≡ y) k (λ s. red C s) (λ s. red D s) false false (λ h. H.1 k h) refl

  -- the words: the same is written in both
  module _ (W X : List ℕ) (A : Agree n W X) where
    pub agree_put : (f : Field) (s v : ℕ) → Agree n (put W f s v) (put X f s v)
    unfolding word put
    agree_put f s v = (
      length_put W f s v ∙ A.0 ∙ sym (length_put X f s v),
      λ g a h. set_same W X (s * 8 + place f) (a * 8 + place g) v A.0 (A.1 g a h),
    )

    pub same_interval : (a : ℕ) → a < n → interval W a ≡ interval X a
    same_interval a h = rw (A.1 Start a h, A.1 End a h)

    pub same_hull : (a : ℕ) → a < n → hull W a ≡ hull X a
    same_hull a h = rw (A.1 HullStart a h, A.1 HullEnd a h)

    pub same_entry : (a : ℕ) → a < n → entry W a ≡ entry X a
    same_entry a h = rw (A.1 Start a h, A.1 End a h, A.1 Value a h)

    same_joined : (k : ℕ) (d : Interval) → joined n W k d ≡ joined n X k d
    unfolding joined
    same_joined k d =
        link_same {A = Interval} (λ x y. x ≡ y) k (λ s. extended d (hull W s)) (λ s. extended d (hull X s)) d d (λ h. rw (A.1 HullStart k h, A.1 HullEnd k h)) refl

    pub same_hull_of : (s : ℕ) → s < n → hull_of n W s ≡ hull_of n X s
    unfolding hull_of
    same_hull_of s h =
        rw (
          A.1 (Child false) s h,
          A.1 (Child true) s h,
          A.1 Start s h,
          A.1 End s h,
          same_joined (kid X true s) (interval X s),
          same_joined (kid X false s) (joined n X (kid X true s) (interval X s)),
        )

    pub agree_adopt : (c p : ℕ) → Agree n (adopt n W c p) (adopt n X c p)
    unfolding adopt
    agree_adopt c p = link_same {A = List ℕ} (Agree n) c (λ s. put_par W s p) (λ s. put_par X s p) W X (λ h. agree_put Parent c p) A

  pub agree_put_entry : (W X : List ℕ) (s : ℕ) (e : Entry) → Agree n W X → Agree n (put_entry_lem W s e) (put_entry_lem X s e)
  unfolding put_entry_lem
  agree_put_entry W X s e A =
      let B = agree_put W X A Start s e.start in
      let D = agree_put _ _ B End s e.end in
      agree_put _ _ D Value s e.value

  pub agree_put_hull : (W X : List ℕ) (s : ℕ) (h : Interval) → Agree n W X → Agree n (put_hull_lem W s h) (put_hull_lem X s h)
  unfolding put_hull_lem
  agree_put_hull W X s h A = let B = agree_put W X A HullStart s h.start in agree_put _ _ B HullEnd s h.end

  pub agree_put_node : (W X : List ℕ) (s : ℕ) (e : Entry) (h : Interval) (left right up : ℕ) → Agree n W X
      → Agree n (put_node_lem W s e h left right up) (put_node_lem X s e h left right up)
  unfolding put_node_lem
  agree_put_node W X s e h left right up A =
      let B = agree_put_hull _ _ s h (agree_put_entry W X s e A) in
      let D = agree_put _ _ B (Child true) s left in
      let E = agree_put _ _ D (Child false) s right in
      agree_put _ _ E Parent s up

  pub agree_fix : (W X : List ℕ) (s : ℕ) → s < n → Agree n W X → Agree n (fix n W s) (fix n X s)
  unfolding fix
  agree_fix W X s h A = rw (same_hull_of W X A s h) (agree_put_hull W X s (hull_of n X s) A)

  pub agree_fix_up : (height : ℕ) (W X : List ℕ) (k : ℕ) → Agree n W X → Agree n (fix_up n height W k) (fix_up n height X k)
  unfolding fix_up
  agree_fix_up zero W X k A = A
  agree_fix_up (suc height) W X k A =
      link_same {A = List ℕ} (Agree n) k _ _ W X
      (λ h. rw (A.1 Parent k h) (agree_fix_up height (fix n W k) (fix n X k) (par X k) (agree_fix W X k h A))) A

  pub agree_set_child : (W X : List ℕ) (p c : ℕ) (b : Bool) → Agree n W X → Agree n (set_child_lem n W p c b) (set_child_lem n X p c b)
  unfolding set_child_lem
  agree_set_child W X p c b A = agree_put (adopt n W c p) (adopt n X c p) (agree_adopt W X A c p) (Child b) p c

  pub agree_redirected : (W X : List ℕ) (g z v : ℕ) → g < n → Agree n W X → Agree n (redirected W g z v) (redirected X g z v)
  unfolding redirected
  agree_redirected W X g z v h A = rw (A.1 (Child true) g h) (agree_put W X A (Child (eqb (kid X true g) z)) g v)

  pub agree_redirect : (W X : List ℕ) (g z v : ℕ) → Agree n W X → Agree n (redirect n W g z v) (redirect n X g z v)
  unfolding redirect
  agree_redirect W X g z v A =
      link_same {A = List ℕ} (Agree n) g (λ s. redirected W s z v) (λ s. redirected X s z v) W X (λ h. agree_redirected W X g z v h A) A

  agree_replaced : (W X : List ℕ) (old new : ℕ) → old < n → Agree n W X → Agree n (replaced n W old new) (replaced n X old new)
  unfolding replaced
  agree_replaced W X old new h A =
      rw (A.1 Parent old h)
      (agree_put (redirect n W (par X old) old new) (redirect n X (par X old) old new) (agree_redirect W X (par X old) old new A) Parent new (par X old))

  pub same_root_after : (W X : List ℕ) (r old new : ℕ) → old < n → Agree n W X → root_after n W r old new ≡ root_after n X r old new
  unfolding root_after
  same_root_after W X r old new h A = rw (A.1 Parent old h)

  module _ (W X : List ℕ) (b : Bool) (P S : ℕ) (lp : P < n) (ls : S < n) (A : Agree n W X) where
    pub agree_rotate : Agree n (rotate n W b P S) (rotate n X b P S)
    unfolding rotate
    agree_rotate =
        rw (A.1 (Child b) S ls)
        (agree_set_child _ _ S P b (agree_set_child _ _ P (kid X b S) (not b) (agree_replaced W X P S lp A)))

    pub agree_rotate_2 : Agree n (rotate_2 n W b P S) (rotate_2 n X b P S)
    unfolding rotate_2
    agree_rotate_2 =
        rw (A.1 (Child b) S ls)
        (agree_set_child _ _ P (kid X b S) (not b) (agree_set_child _ _ S P b (agree_replaced W X P S lp A)))

    pub agree_rotate_4 : (c : ℕ) → c < n → Agree n (rotate_4 n W b P S c) (rotate_4 n X b P S c)
    unfolding rotate_4
    agree_rotate_4 c lc =
        rw (A.1 (Child (not b)) c lc)
        (agree_set_child _ _ P c (not b) (agree_set_child _ _ c S (not b) (agree_set_child W X S (kid X (not b) c) b A)))

  -- colours that agree, with room for n of them
  abbrev pub Both : List ℕ → List ℕ → Type 0
  Both C D = HoldsBits C n × SameColours n C D

  pub both_paint : (C D : List ℕ) (s : ℕ) (v : Bool) → s < n → Both C D → Both (paint C s v) (paint D s v)
  both_paint C D s v h B = (rw length_set_bit B.0, same_colours_paint C D s v B.0 h B.1)

  -- what a round of a loop comes to
  abbrev pub SameNext : Next → Next → Type 0
  SameNext (done W C r) (done X D q) = Agree n W X × Both C D × (r ≡ q)
  SameNext (done W C r) (again X D q j) = ⊥
  SameNext (again W C r i) (done X D q) = ⊥
  SameNext (again W C r i) (again X D q j) = Agree n W X × Both C D × (r ≡ q) × (i ≡ j) × (i < n)

  -- what a call leaves
  abbrev pub AlikeIn : Store → Store → Type 0
  AlikeIn S T = Agree n S.words T.words × Both S.colours T.colours × (S.root ≡ T.root)

  pub same_ending : (s t : Next) → SameNext s t → AlikeIn (ending s) (ending t)
  same_ending (done W C r) (done X D q) h = h
  same_ending (done W C r) (again X D q j) h = absurd h
  same_ending (again W C r i) (done X D q) h = absurd h
  same_ending (again W C r i) (again X D q j) h = (h.0, h.1, h.2)

  -- the hulls that are worked out: as many of them change
  abbrev pub Sums : List Work → List Work → Type 0
  Sums l m = changes n l ≡ changes n m

  pub sums_append : (l m j k : List Work) → Sums l j → Sums m k → Sums (l ++ m) (j ++ k)
  sums_append l m j k e f = changes_append n l m ∙ (λ t. e t + f t) ∙ sym (changes_append n j k)

  pub same_differs : (W X : List ℕ) (s : ℕ) → s < n → Agree n W X → differs n W s ≡ differs n X s
  unfolding differs altered
  same_differs W X s l A = λ t. cond (not (eq (same_hull W X A s l t) (same_hull_of W X A s l t))) 1 0

  pub sums_both : (W X : List ℕ) (a b : ℕ) → a < n → b < n → Agree n W X → Sums (both_hulls n W a b) (both_hulls n X a b)
  sums_both W X a b la lb A = λ t. same_differs W X a la A t + (same_differs (fix n W a) (fix n X a) b lb (agree_fix W X a la A) t + 0)

  pub sums_up : (height : ℕ) (W X : List ℕ) (k : ℕ) → Agree n W X → Sums (up_hulls n height W k) (up_hulls n height X k)
  unfolding up_hulls
  sums_up zero W X k A = refl
  sums_up (suc height) W X k A =
      link_same {A = List Work} Sums k _ _ [] []
      (λ h. let up = sums_up height (fix n W k) (fix n X k) (par X k) (agree_fix W X k h A) in
      rw (A.1 Parent k h) (λ t. same_differs W X k h A t + up t)) refl

  pub sums_onward : (f : List ℕ → List ℕ → ℕ → ℕ → List Work)
      → ((W X C D : List ℕ) (r i : ℕ) → Agree n W X → Both C D → i < n → Sums (f W C r i) (f X D r i))
      → (s t : Next) → SameNext s t → Sums (onward s f) (onward t f)
  sums_onward f rec (done W C r) (done X D q) h = refl
  sums_onward f rec (done W C r) (again X D q j) h = absurd h
  sums_onward f rec (again W C r i) (done X D q) h = absurd h
  sums_onward f rec (again W C r i) (again X D q j) h = rw (← h.2, ← h.3) (rec W X C D r i h.0 h.1 h.4)
