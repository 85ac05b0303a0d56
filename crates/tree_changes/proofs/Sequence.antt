-- Insertions and removals one after the other: the store passes after each, what lies above the
-- arena stays, and room that a removal gives up is used again.
use mathlib.Core.Path.{◌≡◌, refl}
use mathlib.Core.List.{List, [], ◌∷◌, map}
use Prim.Native.Nat.{ℕ, ◌+◌, ◌-◌, ◌<◌, ◌≤◌}
use native.Mathlib.Omega.{arith}
use Rattle.words.specs.Nodes.{entry, Holds, HoldsBits}
use Rattle.words.specs.declared.node.Entry.{Entry}
use Rattle.tree.specs.Passes.{Passes}
use Rattle.tree_edit.specs.Store.{Store}
use Rattle.tree_rm_rule.specs.Remove.{remove_rule}
use Rattle.tree_edit.specs.Inside.{Inside}
use Rattle.tree_rm_rule.specs.Sequence.{after}
use Rattle.tree_rm_rule.proofs.Inside.{removed_inside}
use Rattle.tree_rm_rule.proofs.Removal.{removed}
use Rattle.tree_edit.proofs.Inside.{inside_trans, inside_more}
use Rattle.tree_in_rule.specs.Insert.{insert_rule}
use Rattle.tree_changes.specs.Sequence.{Change, remove, insert, changed, counted, run, total, Takes, TakesAll}
use Rattle.tree_in_rule.proofs.Inside.{inserted_inside}
use Rattle.tree_in_rule.proofs.Insertion.{inserted}

-- a run of removals alone is that of the theory of removal
pub run_after : (l : List ℕ) (S : Store) (n : ℕ) → run S n (map remove l) ≡ after S n l
run_after [] S n = refl
run_after (s ∷ l) S n = run_after l (remove_rule S.words S.colours n S.root s).store (n - 1)

-- one change
changed_inside : (x : Change) (S : Store) (n m : ℕ) → n ≤ m → Takes m n x → Inside m S.words S.colours (changed S n x)
changed_inside (remove s) S n m q t = inside_more n m S.words S.colours _ q (removed_inside S.words S.colours n S.root s t)
changed_inside (insert e) S n m q t =
    inside_more (n + 1) m S.words S.colours _ (omega (arith, t.0)) (inserted_inside S.words S.colours n S.root e)

counted_most : (x : Change) (n m : ℕ) → n ≤ m → Takes m n x → counted n x ≤ m
counted_most (remove s) n m q t = omega arith
counted_most (insert e) n m q t = omega (arith, t.0)

changed_passes : (x : Change) (S : Store) (n m : ℕ) → m ≤ 65535 → Holds S.words m → HoldsBits S.colours m → n ≤ m
    → Passes S.words S.colours n S.root → Takes m n x
    → Passes (changed S n x).words (changed S n x).colours (counted n x) (changed S n x).root
changed_passes (remove s) S n m small fit bits q h t =
    (removed S.words S.colours n S.root s (omega arith) (omega arith) (omega arith) t h).passes
changed_passes (insert e) S n m small fit bits q h t =
    (inserted S.words S.colours n S.root e (omega (arith, t.0)) (omega (arith, t.0)) (omega (arith, t.0)) t.1 h).passes

-- any run of them
pub run_inside : (l : List Change) (S : Store) (n m : ℕ) → n ≤ m → TakesAll m n l → Inside m S.words S.colours (run S n l)
run_inside [] S n m q t = record { words_length = refl; colours_length = refl; words_kept = λ f a u. refl; colours_kept = λ a u. refl }
run_inside (x ∷ l) S n m q t =
    let T : Store = changed S n x in
    inside_trans m m S T (run T (counted n x) l) (omega arith) (changed_inside x S n m q t.0)
    (run_inside l T (counted n x) m (counted_most x n m q t.0) t.1)

pub ran : (l : List Change) (S : Store) (n m : ℕ) → m ≤ 65535 → Holds S.words m → HoldsBits S.colours m → n ≤ m
    → Passes S.words S.colours n S.root → TakesAll m n l
    → Passes (run S n l).words (run S n l).colours (total n l) (run S n l).root × (total n l ≤ m)
ran [] S n m small fit bits q h t = (h, q)
ran (x ∷ l) S n m small fit bits q h t =
    let T : Store = changed S n x in
    let i = changed_inside x S n m q t.0 in
    ran l T (counted n x) m small (rw i.words_length fit) (rw i.colours_length bits) (counted_most x n m q t.0)
    (changed_passes x S n m small fit bits q h t.0) t.1

-- "Room given up by removals is used again, since slot count is always the next one": an arena that
-- is full takes a new entry after any removal, in the slot that the removal emptied, and is full
-- again
module _ (W C : List ℕ) (n r s : ℕ) (e : Entry) (small : n ≤ 65535) (fit : Holds W n) (bits : HoldsBits C n) (ls : s < n)
    (proper : e.start < e.end) (h : Passes W C n r) where
  abbrev T : Store
  T = (remove_rule W C n r s).store

  abbrev R : Store
  R = insert_rule T.words T.colours (n - 1) T.root e

  pub reused : Passes R.words R.colours n R.root × (entry R.words (n - 1) ≡ e)
  reused =
      let i : Inside n W C T = removed_inside W C n r s ls in
      let k : n - 1 + 1 ≡ n = omega arith in
      let room : Holds T.words (n - 1 + 1) = rw (k, i.words_length) fit in
      let g = inserted T.words T.colours (n - 1) T.root e (omega arith) room (rw (k, i.colours_length) bits) proper
      (removed W C n r s small fit bits ls h).passes in
      (rw k at g.passes, g.entry_new)
