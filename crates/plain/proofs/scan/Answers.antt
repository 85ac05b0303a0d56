use mathlib.Core.Path.{refl}
use native.Mathlib.Omega.{arith}
use Rattle.words.proofs.Laws.{slot_live}
use Rattle.plain.proofs.Scans.{scan_begin, count_begin, scan_on, none_filled, none_hits, full_hits, full_filled, count_on, count_none, count_full, tally_is, drop_noted, length_noted, few_noted}
use borrow.Author.Rules.{rules as usual}
use Rattle.plain.proofs.scan.Goals as goal

pub loop-seen-init : goal.loop-seen-init
loop-seen-init c = (search scan_begin, search count_begin, omega arith, omega arith, refl, refl)

pub returns-in_default : goal.returns-in_default
returns-in_default c = (search (tally_is, none_hits, count_none), search none_filled)

pub is_hit-requires : goal.is_hit-requires
is_hit-requires c = (omega arith, search slot_live, search usual)

pub next_slot-at-requires : goal.next_slot-at-requires
next_slot-at-requires c = (omega arith, search slot_live)

pub loop-seen-preserved : goal.loop-seen-preserved
loop-seen-preserved c = (search scan_on, search count_on, search few_noted, omega arith, search drop_noted, search length_noted)

pub returns : goal.returns
returns c = (search (tally_is, full_hits, count_full), search full_filled)
