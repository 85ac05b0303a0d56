use Rattle.iset_c.proofs.check_in.Goals as goal

pub returns : goal.returns
returns c = cc
