-- Slots that are kept over a removal: the entry that stood in a kept slot before stands in
-- `slot_after_lem` of it afterwards.
use Rattle.std.proofs.Common.{◌≡◌, ℕ, suc, ◌-◌, ◌<◌, Bool, true, false, cond, eqb, List, [], ◌∷◌, map, length, sym, refl, ap, ◌∙◌, arith, eq-eqb, ne_eqb, eqb-true}
use borrow.Author.Tests.{eqb-false}
use Rattle.words.specs.Ix.{U}
use Rattle.words.specs.Nodes.{entry}
use Rattle.tree.specs.Tree.{hit, slots, without, times}
use Rattle.tree.proofs.Slots.{hit_same, hit_ne, hit_cases, hit_zero, times_slots}
use Rattle.tree.proofs.Checked.{slot_live}
use Rattle.tree_rm_rule.specs.Names.{changed, same, tally}
use Rattle.tree_rm_rule.specs.Remove.{Removed, remove_rule}
use Rattle.tree_rm_rule.specs.RemovalGuarantee.{RemovalGuarantee}
use Rattle.words.specs.declared.pair.Pair.{Pair}
use Rattle.words.specs.declared.pair.Pairs.{Pairs}
use Rattle.tree_rm_rule.proofs.PairLaws.{same_else, same_here}
use Rattle.tree_rm_rule.proofs.Rows.{times_without}
use Rattle.iset.specs.Remove.{remove_number, remove_call, moved, slot_after_lem}
use Rattle.iset.specs.declared.Map.{Map}
use Rattle.iset.proofs.Removals.{accepts, tree_before, by_rule_law}

abbrev front : {A : Type 0} → A → List A → A
front x [] = x
front x (y ∷ l) = y

abbrev rest : {A : Type 0} → List A → List A
rest [] = []
rest (y ∷ l) = l

module _ (a : ℕ) where
  -- no pair tells of a slot that is not in the list
  none_told : (l m : List ℕ) → times a l ≡ 0 → (c : ℕ) → tally a c (changed l m) ≡ 0
  none_told [] m t c = refl
  none_told (x ∷ l) [] t c = refl
  none_told (x ∷ l) (y ∷ m) t c = go (eqb x y) (none_told l m (omega arith) c)
    where
      go : (b : Bool) → tally a c (changed l m) ≡ 0 → tally a c (cond b (changed l m) (record { old = x; new = y } ∷ changed l m)) ≡ 0
      go true z = z
      go false z = omega (arith, same_else a c (record { old = x; new = y }) (hit_zero a x (omega arith)))

  -- where the entry of slot a is in the words X, whose slots in tree order are m: what the pairs
  -- tell of a is that alone
  abbrev Went : List ℕ → List ℕ → List ℕ → List ℕ → Type 0
  Went W X l m = (b : ℕ) × (0 < times b m) × (entry X b ≡ entry W a) × ((c : ℕ) → tally a c (changed l m) ≡ cond (eqb a b) 0 (hit c b))

  went : (W X l m : List ℕ) → map (entry X) m ≡ map (entry W) l → times a l ≡ 1 → Went W X l m
  went W X [] m e t = absurd (omega arith)
  went W X (x ∷ l) [] e t = let z : 0 ≡ suc (length (map (entry W) l)) = ap length e in absurd (omega arith)
  went W X (x ∷ l) (y ∷ m) e t =
      let h : entry X y ≡ entry W x = ap (front (entry X y)) e in
      hit_cases a x
      (λ i. (y, omega (arith, hit_same y), rw i h, λ c. here i c (eqb x y) refl))
      (λ z. let (b, o, p, f) = went W X l m (ap rest e) (omega arith) in (b, omega arith, p, λ c. else z c (eqb x y) ∙ f c))
    where
      here : a ≡ x → (c : ℕ) (s : Bool) → eqb x y ≡ s
          → tally a c (cond s (changed l m) (record { old = x; new = y } ∷ changed l m)) ≡ cond (eqb a y) 0 (hit c y)
      here i c true j =
          let n : times a l ≡ 0 = omega (arith, hit_same a, ap (hit a) i) in
          rw (i, j) (rw i at (none_told l m n c))
      here i c false j =
          let n : times a l ≡ 0 = omega (arith, hit_same a, ap (hit a) i) in
          let k : tally a c (changed l m) ≡ 0 = none_told l m n c in
          let u : same x c (record { old = x; new = y }) ≡ hit c y = same_here x c y in
          rw (i, j) (omega (arith, rw i at k))

      else : hit a x ≡ 0 → (c : ℕ) (s : Bool)
          → tally a c (cond s (changed l m) (record { old = x; new = y } ∷ changed l m)) ≡ tally a c (changed l m)
      else z c true = refl
      else z c false = omega (arith, same_else a c (record { old = x; new = y }) (hit_zero a x z))

  -- three pairs that tell just that are read back
  module _ (P : Pairs) (b : ℕ) (f : (c : ℕ) → tally a c (P.first ∷ P.second ∷ P.third ∷ []) ≡ cond (eqb a b) 0 (hit c b)) where
    told_once : (p : Pair) → p.old ≡ a → same a p.new p ≡ 1
    unfolding same
    told_once p e = rw (eq-eqb a p.old (sym e)) (hit_same p.new)

    lands : (c : ℕ) → 0 < cond (eqb a b) 0 (hit c b) → c ≡ b
    lands c o = go (eqb a b) o
      where
        go : (t : Bool) → 0 < cond t 0 (hit c b) → c ≡ b
        go true q = absurd (omega arith)
        go false q = hit_cases c b (λ e. e) (λ z. absurd (omega arith))

    stays : cond (eqb a b) 0 (hit b b) ≡ 0 → a ≡ b
    stays z = go (eqb a b) refl z
      where
        go : (t : Bool) → eqb a b ≡ t → cond t 0 (hit b b) ≡ 0 → a ≡ b
        go true i y = eqb-true a b i
        go false i y = absurd (omega (arith, hit_same b))

    untold : (p : Pair) (c : ℕ) → eqb p.old a ≡ false → same a c p ≡ 0
    untold p c i = same_else a c p (λ e. eqb-false p.old a i (sym e))

    read_back : moved P.first a (moved P.second a (moved P.third a a)) ≡ b
    read_back = go (eqb P.first.old a) (eqb P.second.old a) (eqb P.third.old a) refl refl refl
      where
        go : (x y z : Bool) → eqb P.first.old a ≡ x → eqb P.second.old a ≡ y → eqb P.third.old a ≡ z
            → cond x P.first.new (cond y P.second.new (cond z P.third.new a)) ≡ b
        go true y z i j k = lands P.first.new (omega (arith, f P.first.new, told_once P.first (eqb-true P.first.old a i)))
        go false true z i j k = lands P.second.new (omega (arith, f P.second.new, told_once P.second (eqb-true P.second.old a j)))
        go false false true i j k = lands P.third.new (omega (arith, f P.third.new, told_once P.third (eqb-true P.third.old a k)))
        go false false false i j k =
            stays (omega (arith, f b, untold P.first b i, untold P.second b j, untold P.third b k))

module _ (m : Map) (W C : List ℕ) (s : ℕ) (e : remove_number m W C s ≡ 0) where
  abbrev n : ℕ
  n = m.count

  abbrev R : Removed
  R = remove_rule W C n m.root s

  abbrev T : List ℕ
  T = slots (tree_before m W C s e).tree

  once : (a : ℕ) → a < n → times a T ≡ 1
  once a h = times_slots a (tree_before m W C s e).tree ∙ (tree_before m W C s e).once a h

  -- of each entry but the removed one
  module _ (a : ℕ) (h : a < n) (d : a ≡ s → ⊥) where
    kept_once : times a (without s T) ≡ 1
    kept_once =
        let o : times s T ≡ 1 = once s (accepts m W C s e).1 in
        omega (arith, times_without s a T (omega arith) (omega arith), once a h, hit_ne a s d)

    rule_keeps : (slot_after_lem R.pairs s a < n - 1) × (entry R.store.words (slot_after_lem R.pairs s a) ≡ entry W a)
    unfolding slot_after_lem
    rule_keeps =
        let D : RemovalGuarantee W C n m.root s (tree_before m W C s e) R = by_rule_law m W C s e in
        let (b, o, p, f) = went a W R.store.words (without s T) (slots D.passes.tree) D.entries kept_once in
        let q : moved R.pairs.first a (moved R.pairs.second a (moved R.pairs.third a a)) ≡ b =
        read_back a R.pairs b (λ c. D.pairs.exact a c h ∙ f c) in
        rw (ne_eqb a s d, q)
        (slot_live R.store.words R.store.colours (n - 1) R.store.root D.passes b (rw (← (times_slots b D.passes.tree)) o), p)

    pub kept_slot : (slot_after_lem (remove_call m W C s).answer.pairs s a < (remove_call m W C s).answer.map.count)
        × (entry (remove_call m W C s).words (slot_after_lem (remove_call m W C s).answer.pairs s a) ≡ entry W a)
    unfolding remove_call
    kept_slot = rw (eq-eqb (remove_number m W C s) 0 e) rule_keeps

-- and the removed one has no slot
pub removed_slot : (P : Pairs) (s : ℕ) → slot_after_lem P s s ≡ U
unfolding slot_after_lem
removed_slot P s = rw (eq-eqb s s refl)
