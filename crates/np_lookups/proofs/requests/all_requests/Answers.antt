use Rattle.np_lookups.proofs.Prelude.{Configuration, List, Member, Rank, ap, arith, length, line_of, none_there, refl, request_view, slice_get, subst, sym, ◌<◌, ◌∙◌}
use Rattle.np_lookups.proofs.Members.{Adds, rows-all, rows-next}
use Rattle.np_lookups.proofs.requests.all_requests.Goals.{in-Some+in_ok-add_request, in_default}
use Rattle.np_lookups.proofs.requests.all_requests.Goals as goal

pub loop-at-preserved : goal.loop-at-preserved
loop-at-preserved g c =
    elim c.match-request_view.branch [
      | in-Some+in_ok-add_request w ↦
          rows-next (g.R.Rows.site c.args.rows.now) (g.R.Rows.state c.args.rows.now) c.args.lines.now c.requires c.loop-at.at w.in-Some.view
          (slice_get (g.R.Rows.state c.args.rows.now).requests c.loop-at.at) refl (sym w.in-Some.ensures)
          c.loop-at.groups.members c.match-request_view.groups.members c.config-config.result.now c.pools_of-pools.result c.config-config.ensures
          (c.pools_of-pools.ensures ∙ ap (λ (config : Configuration). length config.pools) c.config-config.ensures)
          c.loop-at.invariant
          (subst (λ (later : List (Member Rank)). Adds c.pools_of-pools.result (line_of c.config-config.result.now c.args.lines.now) w.in-Some.view c.loop-at.groups.members later)
          (sym (ap (λ (m : _). m.members) w.groups-is)) w.in_ok-add_request.ensures)
      | in_default w ↦
          let within : c.loop-at.at < length (g.R.Rows.state c.args.rows.now).requests = omega (arith, c.requests-at-end.ensures) in
          absurd (none_there request_view _ c.loop-at.at within (sym w.in_default.ensures))
    ]

pub returns : goal.returns
returns g c =
    rows-all (g.R.Rows.site c.args.rows.now) (g.R.Rows.state c.args.rows.now) c.args.lines.now c.requires c.loop-at.at _
    (omega (arith, c.requests-at-end.ensures, c.loop-at.auto.at-end, c.loop-at-test.false)) c.loop-at.invariant
