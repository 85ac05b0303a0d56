use native.Mathlib.Omega.{arith}
use borrow.Author.Rules.{rules}
use Rattle.builder.proofs.Parts.{span_pos, span_triples, hull_empty, words_empty, colours_empty, one_lent, one_hull, one_words, one_colours, hull_whole, colours_whole}
use Rattle.builder.proofs.Layouts.{center_fits, left_in, left_size, lent_left, right_in, lent_right, both_size, words_whole_eight}
use Rattle.builder.proofs.+init_from_sorted.Goals as goal

pub returns-then-end-start : goal.returns-then-end-start
returns-then-end-start t c = (search hull_empty, search words_empty, search colours_empty)

pub put_leaf-requires : goal.put_leaf-requires
put_leaf-requires t c = (search one_lent, search rules)

pub returns-then-end-start-eq1 : goal.returns-then-end-start-eq1
returns-then-end-start-eq1 t c = (search one_hull, search one_words, search one_colours)

pub slice_bounds-init_from_sorted-end : goal.slice_bounds-init_from_sorted-end
slice_bounds-init_from_sorted-end t c = search left_in

pub slice_bounds-init_from_sorted-end-2 : goal.slice_bounds-init_from_sorted-end-2
slice_bounds-init_from_sorted-end-2 t c = search left_size

pub overflow_sub-rev_depth : goal.overflow_sub-rev_depth
overflow_sub-rev_depth t c = search span_pos

pub init_from_sorted-left-requires : goal.init_from_sorted-left-requires
init_from_sorted-left-requires t c = (omega arith, (search lent_left, omega arith, search center_fits))

pub slice_bounds-init_from_sorted-count : goal.slice_bounds-init_from_sorted-count
slice_bounds-init_from_sorted-count t c = search right_in

pub slice_bounds-init_from_sorted-start : goal.slice_bounds-init_from_sorted-start
slice_bounds-init_from_sorted-start t c = search right_in

pub overflow_sub-rev_depth-2 : goal.overflow_sub-rev_depth-2
overflow_sub-rev_depth-2 t c = search span_pos

pub init_from_sorted-hull-requires : goal.init_from_sorted-hull-requires
init_from_sorted-hull-requires t c = (omega arith, (search lent_right, search rules, search center_fits))

pub put_root-requires : goal.put_root-requires
put_root-requires t c =
    let some = c.if-end-start.false in
    let (span, few, up) = c.requires in
    let x = c.init_from_sorted-left in
    let y = c.init_from_sorted-hull in (
      span_triples _ _ _ _ _ _ span some,
      both_size _ _ _ _ _ _ _ span some _ c.words_of.ensures.0 _ c.words_of-2.ensures.0 x.new.nodes x.auto.nodes y.new.nodes y.auto.nodes,
      some,
      few,
      up,
    )

pub returns : goal.returns
returns t c =
    let some = c.if-end-start.false in
    let span = c.requires.0 in
    let own = c.interval_at-own.ensures in
    let x = c.init_from_sorted-left.ensures in
    let y = c.init_from_sorted-hull.ensures in
    let kx = c.init_from_sorted-left.auto.nodes in
    let ky = c.init_from_sorted-hull.auto.nodes in (
      hull_whole _ _ _ _ _ _ span some _ _ _ _ _ own x.0 y.0 c.extend.ensures,
      words_whole_eight _ _ _ _ _ _ _ span some _ c.words_of.ensures.0 _ c.words_of-2.ensures.0 _ kx _ ky _ _ _ _ _ own x.0 x.1 y.0 y.1
          c.put_root.ensures,
      colours_whole _ _ _ _ _ _ span some _ _ _ c.put_bit.ensures x.2 y.2,
    )
