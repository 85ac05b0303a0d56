-- The tour by links, in the form that `search` takes.
use mathlib.Core.Path.{◌≡◌, refl, sym, ap, ◌∙◌}
use mathlib.Core.Bool.{Bool, true, false, cond}
use mathlib.Core.List.{List, [], ◌∷◌, ◌++◌, append_assoc, append-nil}
use Prim.Native.Nat.{ℕ, zero, suc, ◌+◌, ◌-◌, ◌<◌, ◌≤◌}
use native.Mathlib.Omega.{arith}
use native.Mathlib.Numerals.{sub-one, add-one}
use native.Mathlib.Nat.{sub-zero}
use lib.ListN.{length, take, drop, set, take-append-drop, length-set}
use lib.Seq.{length-take-le, take-suc-set}
use lib.Dec.{eqb}
use borrow.Author.Tests.{eq-eqb, ne_eqb}
use Rattle.words.specs.Ix.{U, link_of, on_link}
use Rattle.words.specs.Nodes.{kid, par}
use Rattle.words.specs.Lists.{filter}
use Rattle.std.specs.declared.option.Option.{Option}
use Rattle.std.specs.declared.option.Option.TheVariants.{Some, None}
use Rattle.tree_edit.specs.Links.{leftmost}
use Rattle.tree_links.proofs.LinkLaws.{read_linked, read_unlinked, slot_is, left_low, left_ends, left_on}
use Rattle.iter.specs.Drains.{filled}
use Rattle.iter.specs.Walk.{Rules}
use Rattle.iter.proofs.Fills.{drop_on}
use Rattle.plain_rule.specs.Tour.{ascend, next_of, first_of, tour, entries, plain}
use Rattle.plain.specs.declared.Tally.{Tally}

-- one link of the way up
module _ (n : ℕ) (W : List ℕ) (s : ℕ) where
  up_low : (h : ℕ) → h ≡ 0 → U ≡ ascend n h W s
  unfolding ascend
  up_low zero e = refl
  up_low (suc h) e = absurd (omega arith)

  module _ (h w : ℕ) (l : Option ℕ) (z : h ≡ 0 → ⊥) (e : w ≡ par W s) (p : l ≡ link_of n w) where
    go_up : (h : ℕ) → (h ≡ 0 → ⊥) → (r : ℕ) → r ≡ on_link n (par W s) (λ q. cond (eqb (kid W true q) s) q (ascend n (h - 1) W (par W s))) U → r ≡ ascend n h W s
    unfolding ascend
    go_up zero z r q = absurd (z refl)
    go_up (suc h) z r q = rw (sub-one (suc h)) at q

    up_none : l ≡ None → U ≡ ascend n h W s
    up_none q = go_up h z U (read_unlinked U n (par W s) w l (λ (k : ℕ). cond (eqb (kid W true k) s) k (ascend n (h - 1) W (par W s))) U e p q refl)

    module _ (k t : ℕ) (q : l ≡ Some k) (f : t ≡ kid W true k) where
      up_here : t ≡ s → k ≡ ascend n h W s
      up_here g =
          go_up h z k (read_linked k n (par W s) w l (λ (k : ℕ). cond (eqb (kid W true k) s) k (ascend n (h - 1) W (par W s))) U e p k q
          (rw (eq-eqb (kid W true k) s (sym f ∙ g))))

      up_on : (r : ℕ) → (t ≡ s → ⊥) → r ≡ ascend n (h - 1) W k → r ≡ ascend n h W s
      up_on r g i =
          let j : k ≡ par W s = slot_is n w k l p q ∙ e in
          go_up h z r (read_linked r n (par W s) w l (λ (k : ℕ). cond (eqb (kid W true k) s) k (ascend n (h - 1) W (par W s))) U e p k q
          (rw (ne_eqb (kid W true k) s (λ y. g (f ∙ y)), ← j) i))

-- the way up: X is where it ends
module _ (n : ℕ) (W : List ℕ) (X h s : ℕ) (i : X ≡ ascend n h W s) where
  pub above_ends : h ≤ 0 → U ≡ X
  above_ends z = up_low n W s h (omega arith) ∙ sym i

  module _ (w : ℕ) (l : Option ℕ) (e : w ≡ par W s) (p : l ≡ link_of n w) (z : 0 < h) where
    pub above_stops : l ≡ None → U ≡ X
    above_stops q = up_none n W s h w l (λ y. omega arith) e p q ∙ sym i

    module _ (k t : ℕ) (q : l ≡ Some k) (f : t ≡ kid W true k) where
      pub above_here : t ≡ s → k ≡ X
      above_here g = up_here n W s h w l (λ y. omega arith) e p k t q f g ∙ sym i

      pub above_on : (m : ℕ) → (t ≡ s → ⊥) → m ≡ h - 1 → X ≡ ascend n m W k
      above_on m g j = i ∙ sym (up_on n W s h w l (λ y. omega arith) e p k t q f (ascend n m W k) g (rw j))

-- the way down to the left: X is where it ends
module _ (n : ℕ) (W : List ℕ) (X h s : ℕ) (i : X ≡ leftmost n h W s) where
  pub down_ends : h ≤ 0 → s ≡ X
  down_ends z = left_low n W s h (omega arith) ∙ sym i

  module _ (w : ℕ) (l : Option ℕ) (e : w ≡ kid W true s) (p : l ≡ link_of n w) where
    pub down_stops : l ≡ None → s ≡ X
    down_stops q = left_ends n W s h w l e p q ∙ sym i

    pub down_on : (k m : ℕ) → l ≡ Some k → 0 < h → m ≡ h - 1 → X ≡ leftmost n m W k
    down_on k m q z j = i ∙ sym (left_on n W s h w k (leftmost n m W k) l (λ y. omega arith) e p q (rw j))

-- the tour after m entries
module _ (W : List ℕ) (n : ℕ) where
  abbrev rest : ℕ → ℕ → List ℕ
  rest f k = tour n f W k

  tour_step : (f k : ℕ) → 0 < f → rest f k ≡ on_link n k (λ s. k ∷ rest (f - 1) (next_of n W k)) []
  unfolding tour
  tour_step zero k h = absurd (omega arith)
  tour_step (suc f) k h = rw (sub-one (suc f))

  module _ (k m : ℕ) (l : Option ℕ) (p : l ≡ link_of n k) where
    none : l ≡ None → rest (n - m) k ≡ []
    unfolding tour
    none q = go (n - m)
      where
        go : (f : ℕ) → rest f k ≡ []
        go zero = refl
        go (suc f) = sym (read_unlinked [] n k k l (λ (s : ℕ). k ∷ rest f (next_of n W k)) [] refl p q refl)

    some : (s : ℕ) → l ≡ Some s → m < n → rest (n - m) k ≡ s ∷ rest (n - (m + 1)) (next_of n W s)
    some s q h =
        let i : s ≡ k = slot_is n k s l p q in
        let j : n - m - 1 ≡ n - (m + 1) = omega arith in
        rw (← j, i)
        (tour_step (n - m) k (omega arith)
        ∙ sym (read_linked (k ∷ rest (n - m - 1) (next_of n W k)) n k k l (λ (t : ℕ). k ∷ rest (n - m - 1) (next_of n W k)) [] refl p s q refl))

  -- how many there are
  pub count_begin : (r k : ℕ) → k ≡ first_of n W r → length (entries n W r) ≡ 0 + length (rest (n - 0) k)
  unfolding entries
  count_begin r k e = rw (sub-zero, ← e) (omega arith)

  module _ (k m E : ℕ) (e : E ≡ m + length (rest (n - m) k)) where
    pub count_on : (l : Option ℕ) (s u : ℕ) → l ≡ link_of n k → l ≡ Some s → m < n → u ≡ next_of n W s → E ≡ m + 1 + length (rest (n - (m + 1)) u)
    count_on l s u p q h x =
        rw x
        (let y : length (rest (n - m) k) ≡ suc (length (rest (n - (m + 1)) (next_of n W s))) = ap (λ (t : List ℕ). length t) (some k m l p s q h) in
        omega arith)

    pub count_none : (l : Option ℕ) → l ≡ link_of n k → l ≡ None → m ≡ E
    count_none l p q = let y : length (rest (n - m) k) ≡ 0 = rw (none k m l p q) in omega arith

    pub count_full : n ≤ m → m ≤ n → n ≡ E
    unfolding tour
    count_full h most =
        let z : n - m ≡ 0 = omega arith in
        let y : length (rest (n - m) k) ≡ 0 = rw z in
        omega arith

  -- the hits, i of which stand in `out`
  module _ (Q : Rules) where
    pub scan_begin : (r k : ℕ) (out : List ℕ) → k ≡ first_of n W r → plain n W Q r ≡ take 0 out ++ filter Q.match (rest (n - 0) k)
    unfolding plain entries
    scan_begin r k out e = rw (sub-zero, ← e)

    module _ (k m : ℕ) (P out old : List ℕ) (i : ℕ) (e : P ≡ take i out ++ filter Q.match (rest (n - m) k)) (few : i ≤ m) (big : n ≤ length old)
        (len : length out ≡ length old) where
      -- one entry more
      pub scan_on : (l : Option ℕ) (s i' u : ℕ) (b : Bool) (new : List ℕ) → l ≡ link_of n k → l ≡ Some s → m < n → b ≡ Q.match s
          → i' ≡ cond b (i + 1) i → new ≡ cond b (set out i s) out → u ≡ next_of n W s → P ≡ take i' new ++ filter Q.match (rest (n - (m + 1)) u)
      scan_on l s i' u b new p q h f g j x =
          rw (g, j, x) (e ∙ ap (λ (y : List ℕ). take i out ++ filter Q.match y) (some k m l p s q h) ∙ go b f)
        where
          go : (b : Bool) → b ≡ Q.match s → take i out ++ filter Q.match (s ∷ rest (n - (m + 1)) (next_of n W s))
              ≡ take (cond b (i + 1) i) (cond b (set out i s) out) ++ filter Q.match (rest (n - (m + 1)) (next_of n W s))
          go true f = rw (← f, add-one i, take-suc-set out i s (omega (arith, few, big, len, h)), append_assoc)
          go false f = rw (← f)

      -- the end: there is no next entry, or as many entries as the count were tested
      module _ (most : m ≤ n) (same : drop i out ≡ drop i old) where
        fit : i ≤ length out
        fit = omega arith

        ended_with : rest (n - m) k ≡ [] → (i ≡ length P) × (out ≡ filled P old)
        unfolding filled
        ended_with z =
            let y : P ≡ take i out = e ∙ rw (z, append-nil) in
            (rw (y, length-take-le i out fit), rw (y, length-take-le i out fit, ← same) (sym (take-append-drop i out)))

        over : n ≤ m → rest (n - m) k ≡ []
        unfolding tour
        over h = let z : n - m ≡ 0 = omega arith in rw z

        pub none_filled : (l : Option ℕ) → l ≡ link_of n k → l ≡ None → out ≡ filled P old
        none_filled l p q = (ended_with (none k m l p q)).1

        pub none_hits : (l : Option ℕ) → l ≡ link_of n k → l ≡ None → i ≡ length P
        none_hits l p q = (ended_with (none k m l p q)).0

        pub full_hits : n ≤ m → i ≡ length P
        full_hits h = (ended_with (over h)).0

        pub full_filled : n ≤ m → out ≡ filled P old
        full_filled h = (ended_with (over h)).1

-- the answer's two numbers
pub tally_is : (a b x y : ℕ) → a ≡ x → b ≡ y → ◌≡◌ {A = Tally} (record { hits = a; entered = b }) (record { hits = x; entered = y })
tally_is a b x y e f = λ t. record { hits = e t; entered = f t }

-- the places past the hits stay
pub drop_noted : (out old : List ℕ) (i s i' : ℕ) (b : Bool) (new : List ℕ) → drop i out ≡ drop i old → i' ≡ cond b (i + 1) i → new ≡ cond b (set out i s) out
    → drop i' new ≡ drop i' old
drop_noted out old i s i' b new e f g = rw (f, g) (go b)
  where
    go : (b : Bool) → drop (cond b (i + 1) i) (cond b (set out i s) out) ≡ drop (cond b (i + 1) i) old
    go true = drop_on out old i s e
    go false = e

pub length_noted : (out : List ℕ) (i s k : ℕ) (b : Bool) (new : List ℕ) → new ≡ cond b (set out i s) out → length out ≡ k → length new ≡ k
length_noted out i s k b new g e = rw g (go b)
  where
    go : (b : Bool) → length (cond b (set out i s) out) ≡ k
    go true = rw length-set e
    go false = e

pub few_noted : (i m i' : ℕ) (b : Bool) → i ≤ m → i' ≡ cond b (i + 1) i → i' ≤ m + 1
few_noted i m i' true h e = omega arith
few_noted i m i' false h e = omega arith
