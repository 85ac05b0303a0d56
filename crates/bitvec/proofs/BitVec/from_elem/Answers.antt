use Rattle.bitvec.specs.Calls.{from_elem_rule, from_elem_bytes}
use Rattle.words.proofs.Tests.{picked, passed}
use Rattle.bitvec.proofs.Laws.{bytes_fit, fill_is}
use Rattle.bitvec.proofs.BitVec.from_elem.Goals as goal

pub returns-then-not-holds : goal.returns-then-not-holds
unfolding from_elem_bytes from_elem_rule
returns-then-not-holds c = (search passed, search passed)

pub fill_bytes-requires : goal.fill_bytes-requires
unfolding from_elem_bytes from_elem_rule
fill_bytes-requires c = search bytes_fit

pub returns : goal.returns
unfolding from_elem_bytes from_elem_rule
returns c = (search picked, search (picked, fill_is))
