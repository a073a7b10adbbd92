use Rattle.np_classes.proofs.Prelude.{RequestEntry, ap, arith, groups_of_request, is_id_before, length, none_there, same_request, sym, ◌<◌, ◌∙◌}
use Rattle.np_classes.proofs.MemberLemmas.{made-next, requests-in_order, requests-made}
use Rattle.np_classes.proofs.members.all_requests.Goals.{in-Some+in_ok-add_request, in_default}
use Rattle.np_classes.proofs.members.all_requests.Goals as goal

pub loop-at-preserved : goal.loop-at-preserved
loop-at-preserved g c =
    elim c.match-request_at.branch [
      | in-Some+in_ok-add_request w ↦
          made-next is_id_before same_request requests-in_order (λ (e : RequestEntry). e.id) (groups_of_request (g.R.Rows.state c.args.rows.now)) (g.R.Rows.state c.args.rows.now).requests c.loop-at.at w.in-Some.request _ _ w.in-Some.ensures c.loop-at.invariant
          (ap (λ (m : _). m.members) w.groups-is ∙ w.in_ok-add_request.ensures)
      | in_default w ↦
          let within : c.loop-at.at < length (g.R.Rows.state c.args.rows.now).requests = omega (arith, c.requests-at-end.ensures) in
          absurd (none_there (λ (e : RequestEntry). e.id) _ c.loop-at.at within (sym w.in_default.ensures))
    ]

pub returns : goal.returns
returns g c = requests-made (g.R.Rows.site c.args.rows.now) (g.R.Rows.state c.args.rows.now) c.requires c.loop-at.at _ (omega (arith, c.requests-at-end.ensures, c.loop-at.auto.at-end, c.loop-at-test.false)) c.loop-at.invariant
