-- The planner's proposal: each slot of a store that passes gets its place in tree order. It is
-- accepted; after it slot i is place i; and proposing again proposes no move.
use mathlib.Core.Path.{◌≡◌, refl, sym, ap, ◌∙◌}
use mathlib.Core.Logic.{◌≢◌}
use mathlib.Core.List.{List, [], ◌∷◌, map}
use Prim.Native.Nat.{ℕ, zero, suc, ◌+◌, ◌<◌, ◌≤◌}
use native.Mathlib.Omega.{arith}
use native.Mathlib.Nat.{zero-add}
use lib.ListN.{length, get_or, set, take, length-set}
use lib.Seq.{get_or-set_same, get_or-set_other}
use Rattle.tree.specs.Tree.{slots, times}
use Rattle.tree.specs.Passes.{Passes}
use Rattle.tree.proofs.Slots.{hit_same, hit_ne, hit_cases, hit_zero, times_slots}
use Rattle.tree.proofs.Checked.{slot_live, slot_once}
use Rattle.tree_rm_rule.proofs.Rename.{slots_rename}
use Rattle.plain_rule.specs.Tour.{entries}
use Rattle.plain_rule.proofs.Tours.{entries_are, entered_all}
use Rattle.tidy_rule.specs.Plan.{renamed, numbered, proposed}
use Rattle.tidy_rule.specs.Tidied.{Tidied}
use Rattle.tidy_rule.proofs.Plans.{Fits, fits_by, named_at}
use Rattle.tidy_rule.proofs.Renumbers.{rename_is, renumbered, renumbered_tree}

-- places in a row
pub length_numbered : (l : List ℕ) (i : ℕ) (O : List ℕ) → length (numbered i l O) ≡ length O
unfolding numbered
length_numbered [] i O = refl
length_numbered (s ∷ l) i O = length_numbered l (i + 1) (set O s i) ∙ length-set O s i

pub numbered_away : (l : List ℕ) (i : ℕ) (O : List ℕ) (s : ℕ) → times s l ≡ 0 → get_or (numbered i l O) s 0 ≡ get_or O s 0
unfolding numbered
numbered_away [] i O s z = refl
numbered_away (a ∷ l) i O s z =
    let d : s ≢ a = hit_zero s a (omega arith) in
    numbered_away l (i + 1) (set O a i) s (omega arith) ∙ get_or-set_other O a s i 0 d

-- so many numbers from i on
abbrev count_up : ℕ → ℕ → List ℕ
count_up i zero = []
count_up i (suc k) = i ∷ count_up (i + 1) k

-- the plan takes the slots of the row to 0, 1, 2 ..
in_row : (l : List ℕ) (i : ℕ) (O : List ℕ) → ((s : ℕ) → 0 < times s l → s < length O) → ((s : ℕ) → times s l ≤ 1)
    → map (λ s. get_or (numbered i l O) s 0) l ≡ count_up i (length l)
unfolding numbered
in_row [] i O f one = refl
in_row (a ∷ l) i O f one =
    let z : times a l ≡ 0 = omega (arith, one a, hit_same a) in
    let x : get_or (numbered (i + 1) l (set O a i)) a 0 ≡ i =
    numbered_away l (i + 1) (set O a i) a z ∙ get_or-set_same O a i 0 (f a (omega (arith, hit_same a))) in
    let y = in_row l (i + 1) (set O a i) (λ s o. rw length-set (f s (omega arith))) (λ s. omega (arith, one s)) in
    rw (x, y) refl

none_below : (k j s : ℕ) → s < j → times s (count_up j k) ≡ 0
none_below zero j s h = refl
none_below (suc k) j s h = let d : s ≢ j = omega arith in omega (arith, hit_ne s j d, none_below k (j + 1) s (omega arith))

-- on slots in their order it proposes no move
at_home : (k i : ℕ) (O : List ℕ) → i + k ≤ length O → (s : ℕ) → i ≤ s → s < i + k → get_or (numbered i (count_up i k) O) s 0 ≡ s
unfolding numbered
at_home zero i O h s a b = absurd (omega arith)
at_home (suc k) i O h s a b =
    hit_cases s i
    (λ e. rw e (numbered_away (count_up (i + 1) k) (i + 1) (set O i i) i (none_below k (i + 1) i (omega arith)) ∙ get_or-set_same O i i 0 (omega arith)))
    (λ z. let d : s ≢ i = hit_zero s i z in at_home k (i + 1) (set O i i) (rw length-set (omega arith)) s (omega arith) (omega arith))

count_at : (k i v : ℕ) → v < k → get_or (count_up i k) v 0 ≡ i + v
count_at zero i v h = absurd (omega arith)
count_at (suc k) i zero h = omega arith
count_at (suc k) i (suc v) h = omega (arith, count_at k (i + 1) v (omega arith))

get_d_row : (f : ℕ → ℕ) (l : List ℕ) (v : ℕ) → v < length l → get_or (map f l) v 0 ≡ f (get_or l v 0)
get_d_row f [] v h = absurd (omega arith)
get_d_row f (a ∷ l) zero h = refl
get_d_row f (a ∷ l) (suc v) h = get_d_row f l v (omega arith)

times_row : (l : List ℕ) (v : ℕ) → v < length l → 0 < times (get_or l v 0) l
times_row [] v h = absurd (omega arith)
times_row (a ∷ l) zero h = omega (arith, hit_same a)
times_row (a ∷ l) (suc v) h = omega (arith, times_row l v (omega arith))

-- the first n places of a longer output
take_set : (n : ℕ) (O : List ℕ) (s v : ℕ) → take n (set O s v) ≡ set (take n O) s v
take_set zero O s v = refl
take_set (suc n) [] s v = refl
take_set (suc n) (a ∷ O) zero v = refl
take_set (suc n) (a ∷ O) (suc s) v = ap (λ (l : List ℕ). a ∷ l) (take_set n O s v)

take_numbered : (n : ℕ) (l : List ℕ) (i : ℕ) (O : List ℕ) → take n (numbered i l O) ≡ numbered i l (take n O)
unfolding numbered
take_numbered n [] i O = refl
take_numbered n (s ∷ l) i O = take_numbered n l (i + 1) (set O s i) ∙ ap (numbered (i + 1) l) (take_set n O s i)

pub take_proposed : (m n : ℕ) (W : List ℕ) (r : ℕ) (O : List ℕ) → take m (proposed n W r O) ≡ proposed n W r (take m O)
unfolding proposed
take_proposed m n W r O = take_numbered m (entries n W r) 0 O

pub length_proposed : (n : ℕ) (W : List ℕ) (r : ℕ) (O : List ℕ) → length (proposed n W r O) ≡ length O
unfolding proposed
length_proposed n W r O = length_numbered (entries n W r) 0 O

module _ (W C : List ℕ) (n r : ℕ) (small : n ≤ 65535) (h : Passes W C n r) where
  abbrev l : List ℕ
  l = entries n W r

  size_l : length l ≡ n
  size_l = entered_all W C n r small h

  times_l : (s : ℕ) → times s l ≡ times s (slots h.tree)
  times_l s = ap (λ (m : List ℕ). times s m) (entries_are W C n r small h)

  live_l : (s : ℕ) → 0 < times s l → s < n
  live_l s o = slot_live W C n r h s (omega (arith, times_l s, times_slots s h.tree))

  -- places from the count up stay
  pub proposed_kept : (O : List ℕ) (s : ℕ) → n ≤ s → get_or (proposed n W r O) s 0 ≡ get_or O s 0
  unfolding proposed
  proposed_kept O s q = numbered_away l 0 O s (none (times s l) (live_l s))
    where
      none : (k : ℕ) → (0 < k → s < n) → k ≡ 0
      none zero f = refl
      none (suc k) f = omega (arith, f (omega arith))

  module _ (O : List ℕ) (long : n ≤ length O) where
    row : map (λ s. get_or (proposed n W r O) s 0) l ≡ count_up 0 n
    unfolding proposed
    row =
        in_row l 0 O (λ s o. omega (arith, live_l s o)) (λ s. omega (arith, times_l s, times_slots s h.tree, slot_once W C n r h s))
        ∙ ap (count_up 0) size_l

    -- "its place in tree order": the slot at place v is proposed v
    pub proposed_place : (v : ℕ) → v < n → get_or (proposed n W r O) (get_or l v 0) 0 ≡ v
    proposed_place v q =
        sym (get_d_row (λ a. get_or (proposed n W r O) a 0) l v (omega (arith, size_l)))
        ∙ ap (λ (k : List ℕ). get_or k v 0) row ∙ count_at n 0 v q ∙ zero-add v

  module _ (P : List ℕ) (long : length P ≡ n) (O : List ℕ) (is : P ≡ proposed n W r O) where
    same_length : length O ≡ n
    same_length = sym (length_proposed n W r O) ∙ rw is at long

    -- it is accepted
    pub proposal_fits : Fits n P
    proposal_fits =
        fits_by n P long (λ v q.
        let s : ℕ = get_or l v 0 in
        let e : get_or P s 0 ≡ v = rw is (proposed_place O (omega (arith, same_length)) v q) in
        rw (← e) (named_at P s (omega (arith, live_l s (times_row l v (omega (arith, size_l)))))))

    module _ (X D : List ℕ) (m : Tidied n P W C X D) where
      abbrev after : Passes X D n (renamed n P r)
      after = renumbered n P W C X D proposal_fits m r small h

      in_order : entries n X (renamed n P r) ≡ count_up 0 n
      in_order =
          entries_are X D n (renamed n P r) small after ∙ ap slots (renumbered_tree n P W C X D proposal_fits m r small h ∙ sym (rename_is (λ s. get_or P s 0) h.tree))
          ∙ slots_rename (λ s. get_or P s 0) h.tree
          ∙ ap (map (λ s. get_or P s 0)) (sym (entries_are W C n r small h))
          ∙ rw (sym is) at (row O (omega (arith, same_length)))

      -- after it every slot is its place in tree order
      pub tidy_slots : (i : ℕ) → i < n → get_or (entries n X (renamed n P r)) i 0 ≡ i
      tidy_slots i q = rw in_order (count_at n 0 i q ∙ zero-add i)

      -- "Proposing again on a tidied map proposes no move."
      pub no_move : (Q : List ℕ) → n ≤ length Q → (s : ℕ) → s < n → get_or (proposed n X (renamed n P r) Q) s 0 ≡ s
      unfolding proposed
      no_move Q q s i = rw in_order (at_home n 0 Q (omega arith) s (omega arith) (omega arith))
