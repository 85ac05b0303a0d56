use native.Mathlib.Omega.{arith}
use Prim.Native.Nat.{◌+◌}
use Rattle.builder.specs.Build.{center}
use Rattle.builder.proofs.Layouts.{root_fits, root_held}
use Rattle.builder.proofs.put_root.Goals as goal

pub put_node-requires : goal.put_node-requires
put_node-requires c = let (_, size, some, few, up) = c.requires in
    let start = c.args.start in
    let end = c.args.end in (
      root_held _ _ start end size some few,
      root_fits _ start (center start end) _ (omega arith) c.root_of-left.ensures,
      root_fits _ (center start end + 1) end _ few c.root_of-right.ensures,
      up,
    )

pub returns : goal.returns
returns c = rw (← c.entry_at-entry.ensures, ← c.root_of-left.ensures, ← c.root_of-right.ensures) c.put_node.ensures
