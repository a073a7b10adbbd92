use Rattle.np_keeper.proofs.Prelude.{IsStored, State, TreeState, ap, arith, later-joined, on_err_weaker, on_ok_weaker, subst, trees-have-one_state, ◌<◌, ◌∙◌, ◌≡◌}
use Rattle.np_keeper.proofs.Enacted.{can-make, enact, holds-made, holds-spared, later-spared, own-spare}
use Rattle.np_keeper.proofs.change.write.Goals as goal

pub returns-in_err-reserve-clause-later : goal.returns-in_err-reserve-clause-later
returns-in_err-reserve-clause-later g c = later-spared c.args.tree.now c.reserve.new.tree c.reserve.ensures.same

pub parts-requires-clause-stored : goal.parts-requires-clause-stored
parts-requires-clause-stored g c =
    let holds = holds-spared (g.R.Rows.site c.args.rows.now) (g.R.Rows.state c.args.rows.now) c.args.tree.now c.reserve.new.tree c.reserve.ensures.same c.requires.holds in
    subst (λ (s : State). IsStored (g.R.Rows.site c.args.rows.now) s c.reserve.new.tree) holds.state holds.held.stored

pub returns-in_err-ops-clause-later : goal.returns-in_err-ops-clause-later
returns-in_err-ops-clause-later g c = later-spared c.args.tree.now c.reserve.new.tree c.reserve.ensures.same

pub make-requires-clause-can : goal.make-requires-clause-can
make-requires-clause-can g c =
    let site = g.R.Rows.site c.args.rows.now in
    let s = g.R.Rows.state c.args.rows.now in
    can-make enact trees-have-one_state site c.args.changes.now s c.args.tree.now c.reserve.new.tree c.reserve.ensures.same c.requires.holds c.requires.low c.requires.ready c.as_slice.result.now (c.as_slice.ensures.value ∙ c.in_ok-ops.ensures.parts) c.in_ok-reserve.ensures.ok

pub returns-clause-ok : goal.returns-clause-ok
returns-clause-ok g c =
    let site = g.R.Rows.site c.args.rows.now in
    let s = g.R.Rows.state c.args.rows.now in
    on_ok_weaker c.make.result (holds-made enact trees-have-one_state site c.args.changes.now s c.args.tree.now c.reserve.new.tree c.reserve.ensures.same c.requires.holds c.requires.low c.requires.ready c.as_slice.result.now c.make.new.tree (c.as_slice.ensures.value ∙ c.in_ok-ops.ensures.parts)) c.make.ensures.ok

pub returns-clause-err : goal.returns-clause-err
returns-clause-err g c = on_err_weaker c.make.result (λ is. own-spare c.make.new.tree c.args.tree.now c.reserve.new.tree.spare (is ∙ c.reserve.ensures.same)) c.make.ensures.err

pub returns-clause-later : goal.returns-clause-later
returns-clause-later g c = later-joined c.args.tree.now c.reserve.new.tree c.make.new.tree (later-spared c.args.tree.now c.reserve.new.tree c.reserve.ensures.same) c.make.ensures.later
