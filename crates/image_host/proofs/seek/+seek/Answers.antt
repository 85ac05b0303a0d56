use native.Mathlib.Omega.{arith}
use borrow.Author.Rules.{rules}
use Rattle.image_host.proofs.Laws.{seek_dry, seek_out, seek_on, left_fits, here_fits, right_fits}
use Rattle.image_host.proofs.seek.+seek.Goals as goal

pub returns-then-height-eq0 : goal.returns-then-height-eq0
returns-then-height-eq0 t c = search seek_dry

pub returns-then-count-link : goal.returns-then-count-link
returns-then-count-link t c = search seek_out

pub seek-before-requires : goal.seek-before-requires
seek-before-requires t c = (omega arith, (search rules, search left_fits))

pub note-here-requires : goal.note-here-requires
note-here-requires t c = search here_fits

pub seek-requires : goal.seek-requires
seek-requires t c = (omega arith, (search rules, search right_fits))

pub returns : goal.returns
returns t c = search seek_on
