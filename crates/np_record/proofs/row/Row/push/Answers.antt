use Rattle.std.proofs.Common.{arith, ◌<◌, length}
use Rattle.std.proofs.Math.ListN.{length-set}
use Rattle.np_record.proofs.RowLemmas.{padded-push}
use Rattle.np_record.proofs.row.Row.push.Goals as goal

pub invariant_of-self : goal.invariant_of-self
invariant_of-self g c =
    let inside : c.self.inside.len < length c.self.inside.items = omega arith in
    (omega arith, c.self.invariant.1, simp length-set c.self.invariant.2, padded-push _ _ _ _ _ inside c.self.invariant.3)
