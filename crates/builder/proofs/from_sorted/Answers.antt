use native.Mathlib.Omega.{arith}
use Rattle.builder.proofs.Parts.{colours_all, root_all}
use Rattle.builder.proofs.Layouts.{all_in, all_size, none_up, lent_all, words_all_eight}
use Rattle.builder.proofs.from_sorted.Goals as goal

pub slice_bounds-init_from_sorted-end : goal.slice_bounds-init_from_sorted-end
slice_bounds-init_from_sorted-end c = all_in c.args.narrow _ _ _ c.requires.1 c.words_of.ensures.0

pub slice_bounds-init_from_sorted-end-2 : goal.slice_bounds-init_from_sorted-end-2
slice_bounds-init_from_sorted-end-2 c = all_size c.args.narrow _ _ _ c.requires.1 c.words_of.ensures.0

pub init_from_sorted-requires : goal.init_from_sorted-requires
init_from_sorted-requires c = (search lent_all, omega arith, none_up _)

pub returns : goal.returns
returns c = (search root_all, search words_all_eight, search colours_all)
