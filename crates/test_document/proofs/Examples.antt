-- The table, by computing each rule.
use mathlib.Core.Path.{refl}
use Rattle.words.specs.Ix.{on_link}
use Rattle.words.specs.Layouts.{widened, narrowed, field_in, unpack, as_eight}
use Rattle.words.specs.Nodes.{word, put, put_entry_lem, put_hull_lem, swap, joined, hull_of, altered, fix, put_node_lem}
use Rattle.bitvec.specs.Bits.{bit, put as put_bit, bit_at, set_bit}
use Rattle.tree.specs.Tree.{hit}
use Rattle.audit.specs.Survey.{pass, whole_of}
use Rattle.builder.specs.Input.{start_of, end_of, value_of, every, proper_at, in_order_lem, all_proper_lem, sorted as sortedList}
use Rattle.builder.specs.Build.{span_hull, span_words, painted, log, levels, build_words, build_colours, build_root}
use Rattle.tree_edit.specs.Links.{adopt, set_child_lem, redirected, remove_child_lem, redirect, replaced, root_after, fix_up, leftmost}
use Rattle.tree_edit.specs.Rotations.{rotate, rotate_2, rotate_4}
use Rattle.bitvec.specs.Colours.{paint_at}
use Rattle.tree_rm_rule.specs.Repair.{choose, round_of, round_at_lem, round}
use Rattle.tree_rm_rule.specs.Pairs.{moved_to, emptied, home, named, lower, upper, by_old_slot, moved}
use Rattle.tree_rm_rule.specs.Remove.{exchanged, child, handed, above, cut_root, copied, relinked, cleared, swap_remove_lem, cut_words_with, finish_with, remove_from_with, remove_with, restructure_with, vacated_with}
use Rattle.tree_edit.specs.Reach.{differs, up_hulls, loop_hulls}
use Rattle.tree_rm_rule.specs.Reach.{round_of_hulls, round_at_hulls, round_hulls, restructure_hulls, cut_hulls, vacate_hulls, remove_hulls_from, remove_hulls}
use Rattle.tree_in_rule.specs.Descent.{goes_left_lem, descend, under}
use Rattle.tree_in_rule.specs.InsertRepair.{rotated, outer, inner, recoloured, insert_round_at, insert_round_below, insert_round}
use Rattle.tree_in_rule.specs.Insert.{hung_node, hung_words, hung_root, hung, insert_at_lem, insert_rule}
use Rattle.tree_in_rule.specs.Reach.{rotated_hulls, outer_hulls, inner_hulls, insert_round_at_hulls, insert_round_below_hulls, insert_round_hulls, insert_at_hulls, insert_hulls}
use Rattle.stack.specs.States.{state_at_lem, put_state_lem, top, marked, pushed, popped}
use Rattle.iter.specs.Cursors.{up_to}
use Rattle.iter.specs.Walk.{deeper, mark, down, move, enters, hits, seek, step as step_of}
use Rattle.iter.specs.Drains.{drain, filled}
use Rattle.iter.specs.Forms.{on_side, formed, held_form, form_of}
use Rattle.iter.specs.Overlap.{meets, should_go}
use Rattle.iter.specs.Exact.{equals, toward, should_go_exact, find}
use Rattle.iter.specs.Queries.{rules}
use Rattle.first_rule.specs.Way.{way_end, way_nodes}
use Rattle.first_rule.specs.First.{past, first_past_lem, first_met_lem, first_in}
use Rattle.unload_rule.specs.Sweep.{sweep}
use Rattle.unload_rule.specs.Unload.{unload_rule_lem}
use Rattle.disjoint_rule.specs.Apart.{apart_left, apart_right, apart_at, apart_below}
use Rattle.disjoint_rule.specs.Point.{point, point_nodes}
use Rattle.disjoint.specs.Check.{disjoint_rule_lem}
use Rattle.disjoint.specs.Point.{point_call}
use Rattle.disjoint.specs.Place.{meet_number, trial_number, open_place_number, place_number, place_call}
use Rattle.image_host.specs.Host.{host_image, seen_in_lem, host_count, host_number, host_value}
use Rattle.image_rule.specs.Sought.{sought}
use Rattle.tidy_rule.specs.Plan.{each_once, fits, renamed, numbered, proposed}
use Rattle.tidy_rule.specs.Tidy.{rename_kid, tag_node_lem, tagged, tag, swap_nodes_lem, swap_colours_lem, settle, untag_node_lem, untagged, tidied}
use Rattle.plain_rule.specs.Tour.{ascend, next_of, first_of, tour, entries, plain}
use Rattle.iset.specs.Check.{count_number, check_rule}
use Rattle.iset.specs.Build.{build_number, build_call}
use Rattle.iset.specs.Remove.{remove_number, remove_call, open_remove_number}
use Rattle.iset.specs.Insert.{full_number, open_insert_number, room_then_check, insert_number, insert_call}
use Rattle.iset.specs.Unload.{unload_call}
use Rattle.iset.specs.Tidy.{open_propose_number, propose_number, propose_call, open_renumber_number, renumber_number, renumber_call}
use Rattle.iset.specs.Lookup.{start_number, step_number, drain_number, start_call, step_call, drain_call, open_start_number, open_step_number, open_drain_number}
use Rattle.iset.specs.Plain.{open_plain_number, plain_number, plain_call}
use Rattle.iset.specs.Find.{find_all_call}
use Rattle.fast_rule.specs.Fast.{should_enter, fast_rules, start_at, entering, fast_nodes, fast_hits}
use Rattle.test_document.specs.Stores.{build_in_lem, ◌at◌, ◌minus◌, ◌plus◌, ◌by◌, tree_at, tree_of, touched, bound_of}
use Rattle.iset.specs.Ticket.{age, ticket_number, open_read_number, read_number_lem, read_call}
use Rattle.bitvec.specs.Calls.{bytes_for}
use Rattle.little.specs.Numbers.{number, digits}
use Rattle.image_rule.specs.Judge.{whole_at, worked}
use Rattle.image_rule.specs.Layout.{laid_out_lem}
use Rattle.image_rule.specs.Stored.{unpacked, painted as loadedBits, loaded_words, loaded_colours}
use Rattle.image_rule.specs.Written.{header, pieces, shades, image_of}
use Rattle.iset.specs.Image.{open_write_image_number, write_image_number, write_image_call, read_image_number, read_image_call}
use Rattle.test_document.specs.Rows.{Each, outcome, steps_from, found_from, left_in_lem, tell}
use Rattle.test_document.specs.Table.{lone, store_a, store_a₆, store_a', store_b, store_c, store_d, table}
use Rattle.tree_edit.specs.Rounds.{loop}

-- What the rows compute with, layer by layer: to unfold one of these names is to unfold all that
-- its line names.
reading : Unit {0}
unfolding on_link widened narrowed field_in unpack as_eight word put put_entry_lem put_hull_lem swap joined hull_of fix put_node_lem bit put_bit bit_at set_bit
reading = record {}

checking : Unit {0}
unfolding pass whole_of count_number check_rule
checking = record {}

building : Unit {0}
unfolding start_of end_of value_of every proper_at in_order_lem all_proper_lem sortedList span_hull span_words painted log levels build_words build_colours build_root
building = record {}

repairing : Unit {0}
unfolding adopt set_child_lem redirected remove_child_lem redirect replaced root_after fix_up rotate rotate_2 rotate_4 paint_at choose round_of round_at_lem round loop
repairing = record {}

naming : Unit {0}
unfolding moved_to emptied home named lower upper by_old_slot moved
naming = record {}

removing : Unit {0}
unfolding leftmost vacated_with exchanged child restructure_with handed above cut_words_with cut_root copied relinked cleared swap_remove_lem finish_with remove_from_with remove_with
removing = record {}

inserting : Unit {0}
unfolding goes_left_lem descend under rotated outer inner recoloured insert_round_at insert_round_below insert_round hung_node hung_words hung_root hung insert_at_lem insert_rule
inserting = record {}

reaching : Unit {0}
unfolding altered differs up_hulls round_of_hulls round_at_hulls round_hulls loop_hulls restructure_hulls cut_hulls vacate_hulls remove_hulls_from remove_hulls rotated_hulls outer_hulls inner_hulls insert_round_at_hulls insert_round_below_hulls insert_round_hulls insert_at_hulls insert_hulls
reaching = record {}

walking : Unit {0}
unfolding state_at_lem put_state_lem top marked pushed popped up_to deeper mark down move enters hits seek step_of drain filled on_side formed held_form form_of
walking = record {}

looking : Unit {0}
unfolding meets should_go equals toward should_go_exact find rules open_start_number open_step_number open_drain_number start_number step_number drain_number start_call step_call drain_call
looking = record {}

touring : Unit {0}
unfolding ascend next_of first_of tour entries plain open_plain_number plain_number plain_call
touring = record {}

entering_nodes : Unit {0}
unfolding should_enter fast_rules start_at entering fast_nodes fast_hits find_all_call
entering_nodes = record {}

sweeping : Unit {0}
unfolding way_end way_nodes past first_past_lem first_met_lem first_in sweep unload_rule_lem unload_call
sweeping = record {}

tidying : Unit {0}
unfolding hit each_once fits renamed numbered proposed rename_kid tag_node_lem tagged tag swap_nodes_lem swap_colours_lem settle untag_node_lem untagged tidied open_propose_number propose_number propose_call open_renumber_number renumber_number renumber_call
tidying = record {}

disjoining : Unit {0}
unfolding apart_left apart_right apart_at apart_below point point_nodes disjoint_rule_lem point_call meet_number trial_number open_place_number place_number place_call
disjoining = record {}

hosting : Unit {0}
unfolding host_image seen_in_lem host_count host_number host_value sought
hosting = record {}

ticketing : Unit {0}
unfolding age ticket_number open_read_number read_number_lem read_call
ticketing = record {}

saving : Unit {0}
unfolding bytes_for number digits whole_at worked laid_out_lem unpacked loadedBits loaded_words loaded_colours header pieces shades image_of open_write_image_number write_image_number write_image_call read_image_number read_image_call
saving = record {}

changing : Unit {0}
unfolding build_number build_call open_remove_number remove_number remove_call full_number open_insert_number room_then_check insert_number insert_call
changing = record {}

telling : Unit {0}
unfolding build_in_lem ◌at◌ ◌minus◌ ◌plus◌ ◌by◌ tree_at tree_of touched bound_of outcome steps_from found_from left_in_lem tell lone store_a store_a₆ store_a' store_b store_c store_d
telling = record {}

-- one `refl` a row, in the table's order
pub examples : Each table
unfolding reading checking building repairing naming removing inserting reaching walking looking touring entering_nodes sweeping tidying disjoining hosting ticketing saving changing telling
examples = (refl, (refl, (refl, (refl, (refl, (refl, (refl, (refl, (refl, (refl, (refl, (refl, (refl, (refl, (refl, (refl, (refl, (refl, (refl, (refl, (refl, (refl, (refl, (refl, (refl, (refl, (refl, (refl, (refl, (refl, (refl, (refl, (refl, (refl, (refl, (refl, (refl, (refl, (refl, (refl, (refl, (refl, (refl, (refl, (refl, (refl, (refl, (refl, (refl, (refl, (refl, (refl, (refl, (refl, (refl, (refl, (refl, (refl, (refl, (refl, (refl, (refl, (refl, (refl, (refl, (refl, (refl, (refl, (refl, (refl, (refl, (refl, (refl, (refl, (refl, (refl, (refl, (refl, (refl, (refl, (refl, (refl, (refl, (refl, record {}))))))))))))))))))))))))))))))))))))))))))))))))))))))))))))))))))))))))))))))))))))
