use Rattle.np_tree_rows.proofs.Prelude.{◌∙◌}
use Rattle.np_tree_rows.proofs.Shown.{waits-none, waits-number, waits-owned, waits-positive, waits-some}
use Rattle.np_tree_rows.proofs.rows.waiting_at.Goals as goal

pub returns-in_err-stat : goal.returns-in_err-stat
returns-in_err-stat c next queue waits = c.from_residual.ensures ∙ waits-none c.args.tree.now c.args.lock c.args.at next queue waits c.in_err-stat.ensures

pub returns-in_err-owner : goal.returns-in_err-owner
returns-in_err-owner c next queue waits =
    let waiting = waits-some c.args.tree.now c.args.lock c.args.at next queue waits c.in_ok-stat.stat c.in_ok-stat.ensures in
    absurd (waits-owned _ _ waiting c.in_err-owner.was)

pub returns-in_err-number : goal.returns-in_err-number
returns-in_err-number c next queue waits =
    let waiting = waits-some c.args.tree.now c.args.lock c.args.at next queue waits c.in_ok-stat.stat c.in_ok-stat.ensures in
    absurd (c.in_err-number.ensures (waits-positive c.in_ok-owner.owner _ _ waiting c.in_ok-owner.was))

pub returns : goal.returns
returns c next queue waits =
    let waiting = waits-some c.args.tree.now c.args.lock c.args.at next queue waits c.in_ok-stat.stat c.in_ok-stat.ensures in
    waits-number c.in_ok-owner.owner _ _ waiting c.in_ok-owner.was c.in_ok-number.number c.in_ok-number.ensures.1
