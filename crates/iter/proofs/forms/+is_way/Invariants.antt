use Rattle.iter.proofs.forms.+is_way.Given as goal

-- the links that are left
abbrev pub decreases-is_way : goal.decreases-is_way
decreases-is_way l = l.links
