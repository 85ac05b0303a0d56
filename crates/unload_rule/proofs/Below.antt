-- "Slots from count up are not read": on two stores that agree below the count an unloading takes
-- the same entries, and leaves two such stores.
use mathlib.Core.Path.{◌≡◌, refl, sym, ◌∙◌}
use mathlib.Core.Bool.{Bool, true, false, cond, not, ◌&&◌}
use mathlib.Core.List.{List}
use Prim.Native.Nat.{ℕ, zero, suc, ◌-◌, ◌<◌, ◌≤◌}
use native.Mathlib.Omega.{arith}
use lib.ListN.{length}
use lib.Dec.{ltb}
use borrow.Author.Tests.{ltb-true}
use Rattle.words.specs.Ix.{U}
use Rattle.words.specs.Intervals.{passed, admits}
use Rattle.words.specs.Nodes.{start, stop, hi, kid, HoldsBits}
use Rattle.words.specs.declared.interval.Span.{Span}
use Rattle.words.specs.declared.node.Field.TheVariants.{Start, End, HullEnd, Child}
use Rattle.tree.specs.Below.{Agree}
use Rattle.tree.proofs.Cases.{compare}
use Rattle.tree_edit.specs.Below.{Alike}
use Rattle.tree_edit.specs.Inside.{Inside}
use Rattle.tree_edit.specs.Store.{Store, store}
use Rattle.tree_edit.proofs.Below.{link_same}
use Rattle.tree_rm_rule.proofs.Below.{removed_below}
use Rattle.tree_rm_rule.proofs.Inside.{removed_inside}
use Rattle.first_rule.specs.Way.{way_end}
use Rattle.first_rule.specs.First.{past, past_way, first_past_lem, first_met_lem, first_in}
use Rattle.unload_rule.specs.Sweep.{Sweep, next, less, still, one_more_lem, sweep}
use Rattle.unload_rule.specs.Unload.{unload_rule_lem}
use Rattle.unload_rule.proofs.Turns.{sweep_inside}

-- the search
module _ (n : ℕ) (W X : List ℕ) (A : Agree n W X) where
  same_past : (p : ℕ → Bool) (s : ℕ) → s < n → past p W n (kid W true s) ≡ past p X n (kid X true s)
  unfolding past
  same_past p s l =
      rw (A.1 (Child true) s l)
      (link_same n {A = Bool} (λ i j. i ≡ j) (kid X true s) (λ a. p (hi W a)) (λ a. p (hi X a)) false false
      (λ h. rw (A.1 HullEnd (kid X true s) h)) refl)

  same_way : (p : ℕ → Bool) (f k : ℕ) → way_end (past_way p W n) W n f k ≡ way_end (past_way p X n) X n f k
  unfolding way_end
  same_way p zero k = refl
  same_way p (suc f) k = go (ltb k n) refl (same_way p f)
    where
      go : (t : Bool) → ltb k n ≡ t → ((j : ℕ) → way_end (past_way p W n) W n f j ≡ way_end (past_way p X n) X n f j)
          → cond t (cond ((past_way p W n).ends k) k (way_end (past_way p W n) W n f (kid W ((past_way p W n).left k) k))) U
          ≡ cond t (cond ((past_way p X n).ends k) k (way_end (past_way p X n) X n f (kid X ((past_way p X n).left k) k))) U
      go true e rec =
          let l : k < n = ltb-true k n e in
          rw (same_past p k l, A.1 End k l, A.1 (Child (past p X n (kid X true k))) k l, rec (kid X (past p X n (kid X true k)) k)) refl
      go false e rec = refl

  met : (m : ℕ → Bool) (s : ℕ) → cond (ltb s n && m (start W s)) s U ≡ cond (ltb s n && m (start X s)) s U
  met m s = go (ltb s n) refl
    where
      go : (t : Bool) → ltb s n ≡ t → cond (t && m (start W s)) s U ≡ cond (t && m (start X s)) s U
      go true e = rw (A.1 Start s (ltb-true s n e)) refl
      go false e = refl

  first_below : (q : Span) (r : ℕ) → first_in q W n r ≡ first_in q X n r
  unfolding first_in first_met_lem first_past_lem
  first_below q r = rw (same_way (passed q.lo) 32 r) (met (admits q.hi) (way_end (past_way (passed q.lo) X n) X n 32 r))

-- two stores that agree below m, and as before from there up to n
joined : (n m : ℕ) (S T R Q : Store) → Alike n S T → Inside m S.words S.colours R → Inside m T.words T.colours Q → Alike m R Q
    → Alike n R Q
joined n m S T R Q h i j k = (
  (k.0.0, λ f a l. compare m a (λ d. i.words_kept f a (omega arith) ∙ h.0.1 f a l ∙ sym (j.words_kept f a (omega arith))) (λ d. k.0.1 f a (omega arith))),
  (k.1.0, λ a l. compare m a (λ d. i.colours_kept a (omega arith) ∙ h.1.1 a l ∙ sym (j.colours_kept a (omega arith))) (λ d. k.1.1 a (omega arith))),
  k.2,
)

-- two sweeps that answer the same, and leave such stores
pub record SameSwept (n : ℕ) (R Q : Sweep) : Type 0 where
  pub stores : Alike n R.store Q.store
  pub counts : R.count ≡ Q.count
  pub gones : R.gone ≡ Q.gone

-- one goes, and then the others
after_one : (n s : ℕ) (S T : Store) (R Q : Sweep) → s < n → HoldsBits S.colours n → Alike n S T
    → Inside (n - 1) (less S n s).words (less S n s).colours R.store → Inside (n - 1) (less T n s).words (less T n s).colours Q.store
    → (Alike n (less S n s) (less T n s) → SameSwept (n - 1) R Q) → SameSwept n (one_more_lem R) (one_more_lem Q)
after_one n s S T R Q l bits h i j f =
    let d : Alike n (less S n s) (less T n s) =
    rw h.2 (removed_below S.words T.words S.colours T.colours n T.root s bits l h.0 h.1).stores in
    let k = f d in
    record {
      stores = joined n (n - 1) (less S n s) (less T n s) R.store Q.store d i j k.stores;
      counts = k.counts;
      gones = rw k.gones;
    }

fewer : (n : ℕ) (S T : Store) → Alike n S T → Alike (n - 1) S T
fewer n S T h = ((h.0.0, λ f a l. h.0.1 f a (omega arith)), (h.1.0, λ a l. h.1.1 a (omega arith)), h.2)

module _ (find : List ℕ → ℕ → ℕ → ℕ) (alike : (n : ℕ) (W X : List ℕ) → Agree n W X → (r : ℕ) → find W n r ≡ find X n r) where
  sweep_below : (turns : ℕ) (S T : Store) (n : ℕ) → HoldsBits S.colours n → Alike n S T → SameSwept n (sweep find turns S n) (sweep find turns T n)
  unfolding sweep
  sweep_below zero S T n bits h = record { stores = h; counts = refl; gones = refl }
  sweep_below (suc turns) S T n bits h =
      let e : next find S n ≡ next find T n = rw h.2 (alike n S.words T.words h.0 T.root) in
      rw e (go (ltb (next find T n) n) refl (sweep_below turns (less S n (next find T n)) (less T n (next find T n)) (n - 1)))
    where
      s : ℕ
      s = next find T n

      go : (t : Bool) → ltb s n ≡ t
          → (HoldsBits (less S n s).colours (n - 1) → Alike (n - 1) (less S n s) (less T n s)
          → SameSwept (n - 1) (sweep find turns (less S n s) (n - 1)) (sweep find turns (less T n s) (n - 1)))
          → SameSwept n (cond t (one_more_lem (sweep find turns (less S n s) (n - 1))) (still S n)) (cond t (one_more_lem (sweep find turns (less T n s) (n - 1))) (still T n))
      go true e rec =
          let l : s < n = ltb-true s n e in
          let k : Inside n S.words S.colours (less S n s) = removed_inside S.words S.colours n S.root s l in
          after_one n s S T (sweep find turns (less S n s) (n - 1)) (sweep find turns (less T n s) (n - 1)) l bits h
          (sweep_inside find turns (less S n s) (n - 1)) (sweep_inside find turns (less T n s) (n - 1))
          (λ d. rec (rw k.colours_length (omega arith)) (fewer n (less S n s) (less T n s) d))
      go false e rec = record { stores = h; counts = refl; gones = refl }

pub unload_below : (W X C D : List ℕ) (n r : ℕ) (q : Span) → HoldsBits C n → Alike n (store W C r) (store X D r)
    → SameSwept n (unload_rule_lem W C n r q) (unload_rule_lem X D n r q)
unfolding unload_rule_lem
unload_below W X C D n r q bits h =
    sweep_below (first_in q) (λ m Y Z A s. first_below m Y Z A q s) n (store W C r) (store X D r) n bits h
