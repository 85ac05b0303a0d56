-- Entries and order: slots and entries in a row, one slot left out, two neighbours exchanged.
use mathlib.Core.Path.{◌≡◌, refl, sym, ap, ◌∙◌}
use mathlib.Core.Logic.{◌≢◌}
use mathlib.Core.Bool.{Bool, true, false, cond}
use mathlib.Core.List.{List, [], ◌∷◌, ◌++◌, append_assoc, map, map-append, map-map}
use Prim.Native.Nat.{ℕ, ◌+◌, ◌<◌, ◌≤◌}
use native.Mathlib.Omega.{arith}
use lib.Dec.{eqb}
use borrow.Author.Tests.{eq-eqb, ne_eqb}
use Rattle.words.specs.Nodes.{start, stop, interval, entry}
use Rattle.words.specs.declared.interval.Interval.{Interval}
use Rattle.words.specs.declared.node.Entry.{Entry}
use Rattle.tree.specs.Tree.{Tree, slots, without, hit, node, times}
use Rattle.tree.specs.Zipper.{Frame, plug, frame}
use Rattle.tree.specs.Order.{Rising, RisingAt}
use Rattle.tree.proofs.Slots.{hit_same, hit_cases, hit_zero, times_append}
use Rattle.tree.proofs.Orders.{after_trans, rising_same}
use Rattle.tree_rm_rule.specs.Pairs.{moved_to}
use Rattle.tree_edit.proofs.Rows.{map_same}

-- one slot in the place of another
pub moved_to_here : (c b : ℕ) → moved_to c b c ≡ b
unfolding moved_to
moved_to_here c b = rw (eq-eqb c c refl)

pub moved_to_other : (c b a : ℕ) → a ≢ c → moved_to c b a ≡ a
unfolding moved_to
moved_to_other c b a d = rw (ne_eqb a c d)

pub moved_to_self : (s a : ℕ) → moved_to s s a ≡ a
moved_to_self s a =
    hit_cases a s (λ e. rw e (moved_to_here s s)) (λ z. moved_to_other s s a (hit_zero a s z))

-- a slot left out
without_append : (s : ℕ) (A B : List ℕ) → without s (A ++ B) ≡ without s A ++ without s B
without_append s [] B = refl
without_append s (a ∷ A) B = go (eqb a s) (without_append s A B)
  where
    go : (t : Bool) → without s (A ++ B) ≡ without s A ++ without s B
        → cond t (without s (A ++ B)) (a ∷ without s (A ++ B)) ≡ cond t (without s A) (a ∷ without s A) ++ without s B
    go true e = e
    go false e = rw e

without_none : (s : ℕ) (A : List ℕ) → times s A ≡ 0 → without s A ≡ A
without_none s [] z = refl
without_none s (a ∷ A) z =
    let d : s ≢ a = hit_zero s a (omega arith) in
    rw (ne_eqb a s (λ e. d (sym e)), without_none s A (omega arith))

pub without_at : (s : ℕ) (A B : List ℕ) → times s A ≡ 0 → times s B ≡ 0 → without s (A ++ (s ∷ B)) ≡ A ++ B
without_at s A B y z = without_append s A (s ∷ B) ∙ rw (without_none s A y, eq-eqb s s refl, without_none s B z)

pub times_without : (s a : ℕ) (l : List ℕ) → times s l ≤ 1 → 0 < times s l → times a (without s l) + hit a s ≡ times a l
times_without s a [] m o = absurd (omega arith)
times_without s a (c ∷ l) m o =
    hit_cases s c
    (λ e. let h : hit s c ≡ 1 = rw (← e) (hit_same s) in rw (← e, eq-eqb s s refl, without_none s l (omega arith)) (omega arith))
    (λ z. let d : s ≢ c = hit_zero s c z in
    rw (ne_eqb c s (λ q. d (sym q))) (omega (arith, times_without s a l (omega arith) (omega arith))))

pub map_id : (f : ℕ → ℕ) (l : List ℕ) → ((a : ℕ) → 0 < times a l → f a ≡ a) → map f l ≡ l
map_id f [] h = refl
map_id f (a ∷ l) h = rw (h a (omega (arith, hit_same a)), map_id f l (λ c o. h c (omega arith)))

absent : (a c : ℕ) (l : List ℕ) → times c l ≡ 0 → 0 < times a l → a ≢ c
absent a c l z o e = let q : 0 < times c l = rw e at o in omega arith

-- two neighbours, a before b at `true`
abbrev pub couple : Bool → ℕ → ℕ → List ℕ → List ℕ
couple true a b B = a ∷ b ∷ B
couple false a b B = b ∷ a ∷ B

times_couple : (d : Bool) (c a b : ℕ) (B : List ℕ) → times c (couple d a b B) ≡ hit c a + hit c b + times c B
times_couple true c a b B = omega arith
times_couple false c a b B = omega arith

module _ (d : Bool) (a b : ℕ) (A B : List ℕ) (one : (c : ℕ) → times c (A ++ couple d a b B) ≤ 1) where
  parts : (c : ℕ) → times c A + hit c a + hit c b + times c B ≤ 1
  parts c = omega (arith, one c, times_append c A (couple d a b B), times_couple d c a b B)

  without_second : without b (A ++ couple d a b B) ≡ A ++ (a ∷ B)
  without_second =
      let e : a ≢ b = hit_zero a b (omega (arith, parts a, hit_same a)) in
      without_append b A (couple d a b B) ∙ rw (without_none b A (omega (arith, parts b, hit_same b))) (go d (without_none b B (omega (arith, parts b, hit_same b))) e)
    where
      go : (d : Bool) → without b B ≡ B → a ≢ b → A ++ without b (couple d a b B) ≡ A ++ (a ∷ B)
      go true q e = rw (ne_eqb a b e, eq-eqb b b refl, q)
      go false q e = rw (eq-eqb b b refl, ne_eqb a b e, q)

  without_first : without a (A ++ couple d a b B) ≡ A ++ (b ∷ B)
  without_first =
      let e : b ≢ a = hit_zero b a (omega (arith, parts b, hit_same b)) in
      without_append a A (couple d a b B) ∙ rw (without_none a A (omega (arith, parts a, hit_same a))) (go d (without_none a B (omega (arith, parts a, hit_same a))) e)
    where
      go : (d : Bool) → without a B ≡ B → b ≢ a → A ++ without a (couple d a b B) ≡ A ++ (b ∷ B)
      go true q e = rw (eq-eqb a a refl, ne_eqb b a e, q)
      go false q e = rw (ne_eqb b a e, eq-eqb a a refl, q)

  -- the entries of neighbours exchanged, and the second slot left out: the entries without the
  -- first
  pub exchange : (E F : ℕ → Entry) → F a ≡ E b → ((c : ℕ) → c ≢ a → c ≢ b → F c ≡ E c)
      → map F (without b (A ++ couple d a b B)) ≡ map E (without a (A ++ couple d a b B))
  exchange E F fa f =
      let x : map F A ≡ map E A = map_same E F A (λ c o. f c (absent c a A (omega (arith, parts a, hit_same a)) o) (absent c b A (omega (arith, parts b, hit_same b)) o)) in
      let y : map F B ≡ map E B = map_same E F B (λ c o. f c (absent c a B (omega (arith, parts a, hit_same a)) o) (absent c b B (omega (arith, parts b, hit_same b)) o)) in
      ap (λ (l : List ℕ). map F l) without_second ∙ map-append F A (a ∷ B) ∙ rw (x, y, fa) (sym (map-append E A (b ∷ B))) ∙ sym (ap (λ (l : List ℕ). map E l) without_first)

  -- what stood in the second slot stands in the first
  pub exchange_slots : without b (A ++ couple d a b B) ≡ map (moved_to b a) (without a (A ++ couple d a b B))
  exchange_slots =
      let x : map (moved_to b a) A ≡ A = map_id (moved_to b a) A (λ c o. moved_to_other b a c (absent c b A (omega (arith, parts b, hit_same b)) o)) in
      let y : map (moved_to b a) B ≡ B = map_id (moved_to b a) B (λ c o. moved_to_other b a c (absent c b B (omega (arith, parts b, hit_same b)) o)) in
      without_second ∙ sym (ap (λ (l : List ℕ). map (moved_to b a) l) without_first ∙ map-append (moved_to b a) A (b ∷ B) ∙ rw (x, y, moved_to_here b a))

-- the slots around a place
pub around : {X : Type 0} (c : List Frame) → ((A B : List ℕ) → ((t : Tree) → slots (plug c t) ≡ A ++ (slots t ++ B)) → X) → X
around [] k = k [] [] (λ t. append-nil (slots t))
  where
    append-nil : (l : List ℕ) → l ≡ l ++ []
    append-nil [] = refl
    append-nil (a ∷ l) = ap (λ (m : List ℕ). a ∷ m) (append-nil l)
around (frame true s far ∷ c) k =
    around c (λ A B f. k A (s ∷ (slots far ++ B)) (λ t. f (node t s far) ∙ simp append_assoc))
around (frame false s far ∷ c) k =
    around c (λ A B f. k (A ++ (slots far ++ (s ∷ []))) B (λ t. f (node far s t) ∙ simp append_assoc))

-- a list at a slot that it has
pub split : {X : Type 0} (s : ℕ) (l : List ℕ) → 0 < times s l → ((A B : List ℕ) → l ≡ A ++ (s ∷ B) → X) → X
split s [] o k = absurd (omega arith)
split s (a ∷ l) o k =
    hit_cases s a
    (λ e. k [] l (rw e))
    (λ z. split s l (omega arith) (λ A B e. k (a ∷ A) B (ap (λ (m : List ℕ). a ∷ m) e)))

-- one left out of a rising row
rising_drop : (A : List Interval) (i : Interval) (B : List Interval) → Rising (A ++ (i ∷ B)) → Rising (A ++ B)
rising_drop [] i B h = h.1
rising_drop (a ∷ []) i [] h = (tt, tt)
rising_drop (a ∷ []) i (b ∷ B) h = (after_trans h.0 h.1.0, h.1.1)
rising_drop (a ∷ c ∷ A) i B h = (h.0, rising_drop (c ∷ A) i B h.1)

pub rising_without : (W : List ℕ) (A : List ℕ) (s : ℕ) (B : List ℕ) → RisingAt W (A ++ (s ∷ B)) → RisingAt W (A ++ B)
rising_without W A s B h =
    rw map-append (rising_drop (map (interval W) A) (interval W s) (map (interval W) B) (rw map-append at h))

-- the same entries in other slots
span : Entry → Interval
span e = record { start = e.start; end = e.end }

module _ (W X : List ℕ) where
  pub rising_entries : (l m : List ℕ) → map (entry X) m ≡ map (entry W) l → RisingAt W l → RisingAt X m
  unfolding span
  rising_entries l m e =
      rising_same W X l m (sym (map-map span (entry X) m) ∙ ap (λ (k : List Entry). map span k) e ∙ map-map span (entry W) l)

  pub proper_entries : (l m : List ℕ) → map (entry X) m ≡ map (entry W) l → ((a : ℕ) → 0 < times a l → start W a < stop W a)
      → (b : ℕ) → 0 < times b m → start X b < stop X b
  proper_entries l [] e f b o = absurd (omega arith)
  proper_entries [] (d ∷ m) e f b o = let z : ◌≡◌ {A = ℕ} 0 1 = cc in absurd (omega arith)
  proper_entries (a ∷ l) (d ∷ m) e f b o =
      let p : entry X d ≡ entry W a = cc in
      let p₀ : start X d ≡ start W a = ap (λ (e : Entry). e.start) p in
      let p₁ : stop X d ≡ stop W a = ap (λ (e : Entry). e.end) p in
      hit_cases b d
      (λ q. rw q (omega (arith, f a (omega (arith, hit_same a)))))
      (λ z. proper_entries l m (cc) (λ c i. f c (omega arith)) b (omega arith))
