-- What an accepted query has: a store that passes, with at most 65,535 entries, and a fresh cursor
-- that is accepted.
use Rattle.std.proofs.Common.{◌≡◌, ℕ, ◌≤◌, List, length, refl, arith, eq-eqb}
use Rattle.words.specs.Nodes.{capacity}
use Rattle.tree.specs.Passes.{Passes}
use Rattle.iter.specs.Cursors.{fresh}
use Rattle.iter.specs.Forms.{form_of}
use Rattle.iter.specs.declared.rules.Query.{Query}
use Rattle.iset.specs.Lookup.{beginning, start_number, step_number}
use Rattle.iset.specs.declared.Map.{Map}
use Rattle.iset.proofs.Checks.{check_zero}
use Rattle.iset.proofs.Lookups.{start_accepts}
use Rattle.iset.proofs.Orders.{step_order}

module _ (m : Map) (W C : List ℕ) (q : Query) (e : start_number m W C q ≡ 0) where
  -- the tree of the store, which passes
  pub tree_of : Passes W C m.count m.root
  tree_of = (check_zero m W C (start_accepts m W C q e).0).1

  pub few : m.count ≤ 65535
  few = let h : m.count ≤ capacity (length W) (length C) = (check_zero m W C (start_accepts m W C q e).0).0 in omega arith

  -- the fresh cursor is accepted
  pub fresh_accepted : step_number m W C q (fresh (beginning m W q)) ≡ 0
  unfolding form_of
  fresh_accepted =
      rw (step_order m W C q (fresh (beginning m W q)), eq-eqb (start_number m W C q) 0 e, eq-eqb (beginning m W q) (beginning m W q) refl)
