-- The renumbered store has the tree of the old one with other slots: it passes the check, and its
-- entries in tree order are as they were.
use mathlib.Core.Path.{◌≡◌, refl, sym, ap, ◌∙◌}
use mathlib.Core.Bool.{Bool, true, false}
use mathlib.Core.List.{List, map}
use Prim.Native.Nat.{ℕ, ◌<◌, ◌≤◌}
use native.Mathlib.Omega.{arith}
use lib.ListN.{get_or}
use Rattle.words.specs.Ix.{U}
use Rattle.words.specs.Nodes.{word, kid, par, entry}
use Rattle.words.specs.declared.node.Entry.{Entry}
use Rattle.words.specs.declared.node.Field.{Field}
use Rattle.bitvec.specs.Colours.{red}
use Rattle.tree.specs.Tree.{Tree, leaf, node, slots, hit, occ, Shape}
use Rattle.tree.specs.View.{view}
use Rattle.tree.specs.Passes.{Passes}
use Rattle.tree.proofs.Cases.{compare}
use Rattle.tree.proofs.Slots.{hit_same, hit_ne, hit_cases, hit_zero, occ_cases}
use Rattle.tree.proofs.Views.{root_red_view, entries_view, hulls_view, red_black_view}
use Rattle.tree.proofs.Checked.{slot_live}
use Rattle.tree_edit.proofs.Carried.{carry, datum_carried}
use Rattle.tree_rm_rule.proofs.Rename.{rename, view_rename}
use Rattle.tree_rm_rule.proofs.Rows.{rising_entries}
use Rattle.tidy_rule.specs.Plan.{renamed}
use Rattle.tidy_rule.specs.Tidied.{with_slots, Tidied}
use Rattle.tidy_rule.proofs.Plans.{Fits, plan_low, plan_one, plan_all, renamed_live, renamed_none}
use Rattle.tidy_rule.proofs.Settles.{Like, fields}

pub rename_is : (f : ℕ → ℕ) (t : Tree) → rename f t ≡ with_slots f t
rename_is f leaf = refl
rename_is f (node l s r) = rw (rename_is f l, rename_is f r) refl

module _ (n : ℕ) (P W C X D : List ℕ) (w : Fits n P) (m : Tidied n P W C X D) where
  abbrev π : ℕ → ℕ
  π s = get_or P s 0

  -- any two stores that a plan leaves read the same
  module _ (Y E : List ℕ) (o : Tidied n P W C Y E) where
    pub tidied_unique : ((f : Field) (a : ℕ) → word X f a ≡ word Y f a) × ((a : ℕ) → red D a ≡ red E a)
    tidied_unique = (
      λ f a. compare n a
          (λ q. m.words_kept f a q ∙ sym (o.words_kept f a q))
          (λ q. plan_all n P w a q (λ s i e. rw (← e) (like s i f))),
      λ a. compare n a
          (λ q. m.colours_kept a q ∙ sym (o.colours_kept a q))
          (λ q. plan_all n P w a q (λ s i e. rw (← e) (m.colours s i ∙ sym (o.colours s i)))),
    )
      where
        like : (s : ℕ) → s < n → Like X (π s) Y (π s)
        like s i =
            fields Y X (π s) (π s) (m.entries s i ∙ sym (o.entries s i)) (m.hulls s i ∙ sym (o.hulls s i))
            (λ b. m.kids b s i ∙ sym (o.kids b s i)) (m.parents s i ∙ sym (o.parents s i))

  module _ (r : ℕ) (small : n ≤ 65535) (h : Passes W C n r) where
    live : (a : ℕ) → 0 < occ a h.tree → a < n
    live = slot_live W C n r h

    shape : (p k : ℕ) (t : Tree) → Shape W n p k t → Shape X n (renamed n P p) (renamed n P k) (rename π t)
    shape p k leaf q = renamed_none n P w k (omega arith)
    shape p k (node l s x) q =
        record {
          here = ap (renamed n P) q.here ∙ renamed_live n P w s q.live;
          live = plan_low n P w s q.live;
          up = m.parents s q.live ∙ ap (renamed n P) q.up;
          left = rw (m.kids true s q.live, ← (renamed_live n P w s q.live)) (shape s (kid W true s) l q.left);
          right = rw (m.kids false s q.live, ← (renamed_live n P w s q.live)) (shape s (kid W false s) x q.right);
        }

    occ_rename : (s : ℕ) → s < n → (t : Tree) → ((a : ℕ) → 0 < occ a t → a < n) → occ (π s) (rename π t) ≡ occ s t
    occ_rename s l leaf f = refl
    occ_rename s l (node x a y) f =
        let i : hit (π s) (π a) ≡ hit s a = hit_cases s a
        (λ e. rw e (hit_same (π a) ∙ sym (hit_same a)))
        (λ z. hit_ne (π s) (π a) (λ e. hit_zero s a z (plan_one n P w s a l (f a (omega (arith, hit_same a))) e)) ∙ sym z) in
        omega (arith, i, occ_rename s l x (λ b o. f b (omega arith)), occ_rename s l y (λ b o. f b (omega arith)))

    view_is : view X (red D) (rename π h.tree) ≡ view W (red C) h.tree
    view_is =
        view_rename W (red C) X (red D) π h.tree
        (λ a o. datum_carried W X (red C) (red D) a (π a) (carry W X a (π a) (m.entries a (live a o)) (m.hulls a (live a o))) (m.colours a (live a o)))

    -- the entries in tree order are as they were
    same_entries : map (entry X) (slots (rename π h.tree)) ≡ map (entry W) (slots h.tree)
    same_entries = entries_view W (red C) X (red D) (rename π h.tree) h.tree view_is

    -- "tree order and shape staying"
    pub renumbered : Passes X D n (renamed n P r)
    renumbered =
        record {
          tree = rename π h.tree;
          shape = rw (renamed_none n P w U (omega arith)) at (shape U r h.tree h.shape);
          once = λ v l. plan_all n P w v l (λ s i e. rw (← e) (occ_rename s i h.tree live ∙ h.once s i));
          proper = λ v l. plan_all n P w v l (λ s i e. let q : entry X (π s) ≡ entry W s = m.entries s i in
              rw (← e) (omega (arith, h.proper s i, ap (λ (z : Entry). z.start) q, ap (λ (z : Entry). z.end) q)));
          rising = rising_entries W X (slots h.tree) (slots (rename π h.tree)) same_entries h.rising;
          hulls = hulls_view W (red C) X (red D) (rename π h.tree) h.tree view_is h.hulls;
          top = root_red_view W (red C) X (red D) (rename π h.tree) h.tree view_is ∙ h.top;
          red_black = red_black_view W (red C) X (red D) (rename π h.tree) h.tree view_is h.red_black;
        }

    -- the tree is the old one with other slots
    pub renumbered_tree : renumbered.tree ≡ with_slots π h.tree
    unfolding renumbered
    renumbered_tree = rename_is π h.tree

    pub renumbered_entries : map (entry X) (slots renumbered.tree) ≡ map (entry W) (slots h.tree)
    unfolding renumbered
    renumbered_entries = same_entries

    -- a plan that moves nothing leaves what there was
    module _ (same : (s : ℕ) → s < n → get_or P s 0 ≡ s) where
      stays : (p k : ℕ) (t : Tree) → Shape W n p k t → renamed n P k ≡ k
      stays p k leaf q = renamed_none n P w k (omega arith) ∙ sym q
      stays p k (node l s x) q = rw q.here (renamed_live n P w s q.live ∙ same s q.live)

      links : (p k : ℕ) (t : Tree) (s : ℕ) → renamed n P p ≡ p → Shape W n p k t → 0 < occ s t
          → ((b : Bool) → renamed n P (kid W b s) ≡ kid W b s) × (renamed n P (par W s) ≡ par W s)
      links p k leaf s e q o = absurd (omega arith)
      links p k (node l a x) s e q o =
          let up : renamed n P a ≡ a = renamed_live n P w a q.live ∙ same a q.live in
          occ_cases s a l x o
          (λ i. links a (kid W true a) l s up q.left i)
          (λ i. rw i (λ b. side b, rw q.up e))
          (λ i. links a (kid W false a) x s up q.right i)
        where
          side : (b : Bool) → renamed n P (kid W b a) ≡ kid W b a
          side true = stays a (kid W true a) l q.left
          side false = stays a (kid W false a) x q.right

      pub idle : ((f : Field) (a : ℕ) → word X f a ≡ word W f a) × ((a : ℕ) → red D a ≡ red C a)
      idle = (
        λ f a. compare n a (λ q. m.words_kept f a q) (λ q. here a q f),
        λ a. compare n a (λ q. m.colours_kept a q) (λ q. rw (same a q) at (m.colours a q)),
      )
        where
          here : (s : ℕ) → s < n → Like X s W s
          here s i =
              let k = links U r h.tree s (renamed_none n P w U (omega arith)) h.shape (omega (arith, h.once s i)) in
              fields W X s s (rw (same s i) at (m.entries s i)) (rw (same s i) at (m.hulls s i))
              (λ b. rw (same s i) at (m.kids b s i) ∙ k.0 b) (rw (same s i) at (m.parents s i) ∙ k.1)
