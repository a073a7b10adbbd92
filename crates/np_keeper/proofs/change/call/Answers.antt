use Rattle.np_keeper.proofs.Prelude.{NoMemory, after_parts, goes-unrefused, ◌≡◌}
use Rattle.np_keeper.proofs.change.call.Goals as goal

pub unreachable-requires : goal.unreachable-requires
unreachable-requires c =
    let none : c.in-Err-Refused.field-0 ≡ NoMemory = goes-unrefused c.args.tree.now (after_parts c.args.tree.now c.args.session c.args.ops.now) c.args.session c.args.ops.now c.in-Err-Refused.field-0 c.requires.goes c.in-Err-Refused.ensures.answer in
    let is = c.in-Err-Refused.field-0-is in
    absurd cc
