-- Document 02, item 12.
use mathlib.Core.Path.{◌≡◌, refl, sym, ap, ◌∙◌}
use mathlib.Core.Bool.{Bool, true, false}
use mathlib.Core.List.{List}
use Prim.Native.Nat.{ℕ, ◌+◌, ◌-◌, ◌*◌, ◌<◌, ◌≤◌}
use native.Mathlib.Omega.{arith}
use lib.ListN.{length, get_or}
use borrow.Author.Tests.{eq-eqb}
use Rattle.words.specs.Ix.{U}
use Rattle.words.specs.Nodes.{word, capacity}
use Rattle.words.specs.Layouts.{field_in, packed_place_lem, unpack, capacity_as}
use Rattle.words.specs.declared.node.Field.{Field}
use Rattle.words.specs.declared.node.Field.TheVariants.{Child, Parent}
use Rattle.words.proofs.Layouts.{length_unpack, word_unpack, links_none}
use Rattle.tree_rm_rule.specs.Remove.{remove_rule}
use Rattle.tree_rm_rule.specs.Corrected.{blank_word}
use Rattle.tree_rm_rule.proofs.Inside.{corrected, removed_inside}
use Rattle.iset.specs.Check.{check_rule}
use Rattle.iset.specs.Remove.{remove_number, remove_call}
use Rattle.iset.specs.declared.Map.{Map}
use Rattle.iset.proofs.Checks.{check_zero}
use Rattle.iset.proofs.Layouts.{capacity_unpacked, tops_refused}
use Rattle.iset.proofs.Removals.{accepts}
use Rattle.layouts.specs.Narrowed.{Request12}
use Rattle.layouts.proofs.Agree.{determined, agrees_both, slots_agree, agrees_all}

-- a removal that is not refused, on six-word nodes N: X is what it leaves
module _ (m : Map) (N C X : List ℕ) (s : ℕ) (e : remove_number m (unpack N) C s ≡ 0) (left : unpack X ≡ (remove_call m (unpack N) C s).words) where
  abbrev n : ℕ
  n = m.count

  abbrev W : List ℕ
  W = unpack N

  held : (n ≤ capacity (length W) (length C)) × (s < n)
  held = ((check_zero m W C (accepts m W C s e).0).0, (accepts m W C s e).1)

  by_rule_law : unpack X ≡ (remove_rule W C n m.root s).store.words
  unfolding remove_call
  by_rule_law = left ∙ rw (eq-eqb (remove_number m W C s) 0 e)

  room : (n - 1) * 6 + 6 ≤ length X
  room =
      let kept : length (unpack X) ≡ length W =
      ap (λ (l : List ℕ). length l) by_rule_law ∙ (removed_inside W C n m.root s held.1).words_length in
      omega (arith, held, length_unpack X, kept)

  link : (f : Field) → field_in f (get_or X ((n - 1) * 6 + packed_place_lem f) 0) ≡ blank_word U f
  link f =
      sym (word_unpack f (n - 1) X room) ∙ ap (λ (l : List ℕ). word l f (n - 1)) by_rule_law
      ∙ (corrected W C n m.root s held.1 (omega (arith, held))).last_is f

  none_left : get_or X ((n - 1) * 6 + 5) 0 ≡ 281474976710655
  none_left = links_none _ (link (Child true)) (link (Child false)) (link Parent)

pub request_12 : Request12
request_12 =
    record {
      agrees = agrees_both;
      slots_agree = slots_agree;
      runs_agree = agrees_all;
      determined = determined;
      room = λ N bytes. sym (capacity_unpacked N bytes);
      tops = λ m N C s h l t. tops_refused m N C s (rw (capacity_unpacked N (length C)) h) l t;
      emptied = none_left;
    }
