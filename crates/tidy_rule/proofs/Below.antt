-- "Slots from count up are not read": on two stores that agree below the count the planner proposes
-- the same, and a plan leaves stores that agree below the count.
use mathlib.Core.Path.{◌≡◌, sym, ap, ◌∙◌}
use mathlib.Core.List.{List}
use Prim.Native.Nat.{ℕ, ◌<◌, ◌≤◌}
use lib.ListN.{get_or}
use Rattle.words.specs.Ix.{U}
use Rattle.words.specs.declared.node.Field.TheVariants.{Child, Parent}
use Rattle.tree.specs.Tree.{slots}
use Rattle.tree.specs.Below.{Agree, SameColours}
use Rattle.tree.specs.Passes.{Passes}
use Rattle.tree.proofs.Frames.{keep}
use Rattle.tree.proofs.Once.{one_tree}
use Rattle.tree.proofs.Checked.{slot_live}
use Rattle.tree_edit.proofs.Below.{same_entry, same_hull}
use Rattle.plain_rule.proofs.Tours.{entries_are}
use Rattle.tidy_rule.specs.Plan.{renamed, numbered, proposed}
use Rattle.tidy_rule.specs.Tidied.{Tidied}
use Rattle.tidy_rule.proofs.Plans.{Fits, plan_all}
use Rattle.tidy_rule.proofs.Settles.{Like, fields}

module _ (n : ℕ) (W C X D : List ℕ) (A : Agree n W X) where
  module _ (r : ℕ) (small : n ≤ 65535) (g : Passes W C n r) (h : Passes X D n r) where
    same_tree : g.tree ≡ h.tree
    same_tree =
        one_tree X n small U U r g.tree h.tree
        (keep W X n U r g.tree
        (λ s o. let l : s < n = slot_live W C n r g s o in (λ b. sym (A.1 (Child b) s l), sym (A.1 Parent s l))) g.shape)
        h.shape

    pub proposed_below : (O : List ℕ) → proposed n W r O ≡ proposed n X r O
    unfolding proposed
    proposed_below O =
        ap (λ (l : List ℕ). numbered 0 l O) (entries_are W C n r small g ∙ ap slots same_tree ∙ sym (entries_are X D n r small h))

  -- Y and E are what a plan leaves of W and C, Z and F of X and D
  pub tidied_below : (P Y E Z F : List ℕ) → Fits n P → SameColours n C D → Tidied n P W C Y E → Tidied n P X D Z F → Agree n Y Z × SameColours n E F
  tidied_below P Y E Z F w S m o = (
    (m.words_length ∙ A.0 ∙ sym o.words_length, λ f a q. plan_all n P w a q (λ s i e. rw (← e) (like s i f))),
    (m.colours_length ∙ S.0 ∙ sym o.colours_length, λ a q. plan_all n P w a q (λ s i e. rw (← e) (m.colours s i ∙ S.1 s i ∙ sym (o.colours s i)))),
  )
    where
      like : (s : ℕ) → s < n → Like Y (get_or P s 0) Z (get_or P s 0)
      like s i =
          fields Z Y (get_or P s 0) (get_or P s 0)
          (m.entries s i ∙ same_entry n W X A s i ∙ sym (o.entries s i)) (m.hulls s i ∙ same_hull n W X A s i ∙ sym (o.hulls s i))
          (λ b. m.kids b s i ∙ ap (renamed n P) (A.1 (Child b) s i) ∙ sym (o.kids b s i))
          (m.parents s i ∙ ap (renamed n P) (A.1 Parent s i) ∙ sym (o.parents s i))
