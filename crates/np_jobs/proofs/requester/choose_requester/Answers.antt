use Rattle.np_jobs.proofs.Prelude.{Requester, opening-chooses, requester_kinds, sym}
use Rattle.np_jobs.proofs.Settles.{requester-law, all-choose}
use Rattle.np_jobs.proofs.requester.choose_requester.Goals as goal

pub returns-in_default : goal.returns-in_default
returns-in_default g c =
    opening-chooses (g.L.Look.site c.args.look.now) (g.L.Look.state c.args.look.now) (Requester c.args.requester) requester_kinds
    (requester-law (g.L.Look.site c.args.look.now) (g.L.Look.state c.args.look.now) c.args.requester)
    c.in_default.ensures c.choose_opening.result c.choose_opening.ensures

pub returns : goal.returns
returns g c =
    all-choose (g.L.Look.site c.args.look.now) (g.L.Look.state c.args.look.now) c.args.requester c.in-Some.session c.in-Some.ensures
    c.first_step_under_way-found.result c.first_step_under_way-found.ensures (sym c.if-is_some.ensures)
    c.first_release-release.result c.first_release-release.ensures (sym c.if-is_some-2.ensures)
    c.first_step_in_window-begun.result c.first_step_in_window-begun.ensures (sym c.if-is_some-3.ensures)
    c.first_step_to_leave.result c.first_step_to_leave.ensures
