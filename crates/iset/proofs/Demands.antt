-- The three demands, of the public calls, and document 02's item 9.
use Rattle.std.proofs.Common.{◌≡◌, ℕ, ◌+◌, ◌<◌, ◌≤◌, List, length, sym, ap, ◌∙◌, arith, eq-eqb}
use Rattle.words.specs.Nodes.{capacity}
use Rattle.words.specs.declared.node.Entry.{Entry}
use Rattle.tree_edit.specs.Reach.{Follows}
use Rattle.tree_rm_rule.specs.Remove.{Removed, remove_rule, remove_with}
use Rattle.tree_rm_rule.proofs.Enough as removal-numbers
use Rattle.tree_rm_rule.proofs.Reached as removal-hulls
use Rattle.tree_in_rule.specs.Descent.{under}
use Rattle.tree_in_rule.specs.Insert.{own, hung_words, insert_rule}
use Rattle.tree_in_rule.specs.Reach.{insert_hulls}
use Rattle.tree_in_rule.specs.InsertionGuarantee.{insert_with}
use Rattle.tree_in_rule.proofs.Insertion as insertion-numbers
use Rattle.tree_in_rule.proofs.Reached as insertion-hulls
use Rattle.iset.specs.Effects.{Effect}
use Rattle.iset.specs.Remove.{RemoveAnswer, remove_number, remove_reach, remove_call}
use Rattle.iset.specs.Insert.{InsertAnswer, insert_number, insert_reach, insert_call}
use Rattle.iset.specs.Demands.{Demand1, removal, insertion, Demand2, Demand3, Request9}
use Rattle.iset.specs.declared.Map.{Map}
use Rattle.iset.proofs.Checks.{check_zero}
use Rattle.iset.proofs.Removals as removals
use Rattle.iset.proofs.Insertions as insertions
use Rattle.iset.proofs.Refusals.{check_refusals, build_refusals, build_leaves, remove_refusals, remove_no, remove_leaves, insert_refusals, insert_no, insert_leaves, read_refusals, read_leaves, start_refusals, start_leaves, step_refusals, step_leaves, drain_refusals, drain_leaves, plain_refusals, plain_leaves, find_all_refusals, find_all_leaves, unload_refusals, unload_leaves}
use Rattle.iset.proofs.ImageRefusals.{write_image_refusals, write_image_leaves, read_image_refusals, read_image_leaves}
use Rattle.iset.proofs.TidyRefusals.{propose_refusals, propose_leaves, renumber_refusals, renumber_leaves}
use Rattle.iset.proofs.Answers.{build_answers, remove_answers, insert_answers}
use Rattle.iset.proofs.Runs.{overlap_runs, exact_runs}

pub demand_1 : (m : Map) (W C : List ℕ) → Demand1 m W C
demand_1 m W C =
    record {
      check = check_refusals m W C;
      build = λ S. build_refusals m W C S;
      remove = λ s. remove_refusals m W C s;
      insert = λ e. insert_refusals m W C e;
      read = λ t. read_refusals m W C t;
      fresh_exact_law = λ x. start_refusals m W C x;
      step = λ q c. step_refusals m W C c q;
      drain = λ q c limit out. drain_refusals m W C c limit q out;
      plain = λ q out. plain_refusals m W C q out;
      find_all_law = λ q out. find_all_refusals m W C q out;
      write_image_law = λ out. write_image_refusals m W C out;
      read_image_law = λ I. read_image_refusals m W C I;
      unload = λ k q. unload_refusals m W C k q;
      propose = λ out. propose_refusals m W C out;
      renumber = λ plan. renumber_refusals m W C plan;
      build_leaves = λ S. build_leaves m W C S;
      remove_leaves = λ s. remove_leaves m W C s;
      insert_leaves = λ e. insert_leaves m W C e;
      read_leaves = λ t. read_leaves m W C t;
      fresh_exact_leaves = λ x. start_leaves m W C x;
      step_leaves = λ q c. step_leaves m W C c q;
      drain_leaves = λ q c limit out. drain_leaves m W C c limit q out;
      plain_leaves = λ q out. plain_leaves m W C q out;
      find_all_leaves = λ q out. find_all_leaves m W C q out;
      write_image_leaves = λ out. write_image_leaves m W C out;
      read_image_leaves = λ I. read_image_leaves m W C I;
      unload_leaves = λ k q. unload_leaves m W C k q;
      propose_leaves = λ out. propose_leaves m W C out;
      renumber_leaves = λ plan. renumber_leaves m W C plan;
    }

-- a removal: what the call answers and leaves is what the rule does
module _ (m : Map) (W C : List ℕ) (s : ℕ) (e : remove_number m W C s ≡ 0) where
  fits : m.count ≤ capacity (length W) (length C)
  fits = (check_zero m W C (removals.accepts m W C s e).0).0

  removal_is : removal m W C s ≡ remove_rule W C m.count m.root s
  unfolding remove_call
  removal_is = rw (eq-eqb (remove_number m W C s) 0 e)

  pub remove_enough : (rounds links hulls : ℕ) → 36 ≤ rounds → 32 ≤ links → 32 ≤ hulls
      → removal m W C s ≡ remove_with rounds links hulls W C m.count m.root s
  remove_enough rounds links hulls i j k =
      removal_is
      ∙ sym (removal-numbers.enough W C m.count m.root s (omega (arith, fits)) (omega (arith, fits)) (omega (arith, fits))
      (removals.accepts m W C s e).1 (removals.tree_before m W C s e) rounds links hulls i j k)

  remove_sum : (remove_call m W C s).answer.reach ≡ remove_reach m W C s
  unfolding remove_call
  remove_sum = rw (eq-eqb (remove_number m W C s) 0 e)

-- an insertion
module _ (m : Map) (W C : List ℕ) (x : Entry) (e : insert_number m W C x ≡ 0) where
  roomy : m.count < capacity (length W) (length C)
  roomy = (insertions.accepts m W C x e).0

  insertion_is : insertion m W C x ≡ insert_rule W C m.count m.root x
  unfolding insert_call
  insertion_is = rw (eq-eqb (insert_number m W C x) 0 e)

  pub insert_enough : (levels rounds hulls : ℕ) → 32 ≤ levels → 32 ≤ rounds → 32 ≤ hulls
      → insertion m W C x ≡ insert_with levels rounds hulls W C m.count m.root x
  insert_enough levels rounds hulls i j k =
      insertion_is
      ∙ sym (insertion-numbers.enough W C m.count m.root x (omega (arith, roomy)) (omega (arith, roomy)) (omega (arith, roomy))
      (insertions.accepts m W C x e).2 (insertions.tree_before m W C x e) levels rounds hulls i j k)

  insert_sum : (insert_call m W C x).answer.reach ≡ insert_reach m W C x
  unfolding insert_call
  insert_sum = rw (eq-eqb (insert_number m W C x) 0 e)

  insert_hulls_lem : Follows (m.count + 1) (hung_words W m.count x (under m.count W m.root (own x))) (insert_hulls W C m.count m.root x) (insert_call m W C x).words
  unfolding insert_call
  insert_hulls_lem = rw (eq-eqb (insert_number m W C x) 0 e) (insertion-hulls.reached W C m.count m.root x)

pub demand_2 : (m : Map) (W C : List ℕ) → Demand2 m W C
demand_2 m W C =
    record {
      builds = λ S e. build_answers m W C S e;
      removes = λ s e P. remove_answers m W C s e P;
      inserts = λ x e P. insert_answers m W C x e P;
      remove_enough = λ s e. remove_enough m W C s (sym (remove_no m W C s) ∙ e);
      insert_enough = λ x e. insert_enough m W C x (sym (insert_no m W C x) ∙ e);
    }

pub demand_3 : (m : Map) (W C : List ℕ) → Demand3 m W C
demand_3 m W C = record { overlap = λ e q d. overlap_runs m W C q e d; exact = λ e x d. exact_runs m W C x e d }

pub request_9 : (m : Map) (W C : List ℕ) → Request9 m W C
request_9 m W C =
    record {
      remove_sum = λ s e. remove_sum m W C s (sym (remove_no m W C s) ∙ e);
      remove_hulls_lem = λ s e. removal-hulls.reached W C m.count m.root s;
      remove_moves = λ s e.
          ap (λ (R : Removed). R.store) (removal_is m W C s (sym (remove_no m W C s) ∙ e)) ∙ removal-hulls.cut_then_moved W C m.count m.root s;
      remove_none = λ s d. ap (λ (a : Effect RemoveAnswer). a.answer.reach) (remove_leaves m W C s d);
      insert_sum = λ x e. insert_sum m W C x (sym (insert_no m W C x) ∙ e);
      insert_hangs = λ x e.
          let h = roomy m W C x (sym (insert_no m W C x) ∙ e) in
          let p : ℕ = under m.count W m.root (own x) in
          (insertion-hulls.hung_own W m.count x p (omega (arith, h)), λ a d. insertion-hulls.hung_stays W m.count x p a d);
      insert_hulls_lem = λ x e. insert_hulls_lem m W C x (sym (insert_no m W C x) ∙ e);
      insert_none = λ x d. ap (λ (a : Effect InsertAnswer). a.answer.reach) (insert_leaves m W C x d);
    }
