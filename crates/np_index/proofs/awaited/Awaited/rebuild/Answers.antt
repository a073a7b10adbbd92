use Rattle.np_index.proofs.Prelude.{Amount, Configuration, Global, IsSound, Vec, ap, arith, length, none_there, nothing, replicate, request_view, rest_by, subst, suc, sym, ◌<◌, ◌∙◌, ◌≡◌}
use Rattle.np_index.proofs.AmountLemmas.{up-to-all, up-to-next, up-to-none}
use Rattle.np_index.proofs.awaited.Awaited.rebuild.Goals.{in-Some, in_default}
use Rattle.np_index.proofs.awaited.Awaited.rebuild.Goals as goal

pub loop-at-init : goal.loop-at-init
loop-at-init g c =
    up-to-none (g.R.Rows.site c.args.rows.now) (g.R.Rows.state c.args.rows.now) c.in_ok-amounts.amounts.items
    (c.in_ok-amounts.ensures ∙ ap (λ (site : Configuration). replicate (suc (length site.tenants)) nothing) c.config-config.ensures)

pub loop-at-preserved : goal.loop-at-preserved
loop-at-preserved g c =
    elim c.match-request_view.branch [
      | in-Some w ↦
          let sound : IsSound (g.R.Rows.site c.args.rows.now) = subst IsSound c.config-config.ensures c.know_soundness.ensures in
          let items : c.match-request_view.amounts.items ≡ w.add.new.amounts.items = ap (λ (amounts : Vec Amount Global). amounts.items) w.amounts-is in
          up-to-next (g.R.Rows.site c.args.rows.now) (g.R.Rows.state c.args.rows.now) sound c.requires c.loop-at.at c.loop-at.amounts.items c.loop-at.invariant
          w.in-Some.view w.in-Some.ensures w.rest_by.result c.match-request_view.amounts.items
          (w.rest_by.ensures ∙ ap (λ (site : Configuration). rest_by site w.in-Some.view.kept) c.config-config.ensures) (λ small. items ∙ w.add.ensures small)
      | in_default w ↦
          let within : c.loop-at.at < length (g.R.Rows.state c.args.rows.now).requests = omega (arith, c.requests-at-end.ensures) in
          absurd (none_there request_view (g.R.Rows.state c.args.rows.now).requests c.loop-at.at within (sym w.in_default.ensures))
    ]

pub returns : goal.returns
returns g c =
    up-to-all (g.R.Rows.site c.args.rows.now) (g.R.Rows.state c.args.rows.now) c.loop-at.at c.loop-at.amounts.items
    (omega (arith, c.requests-at-end.ensures, c.loop-at-test.false)) c.loop-at.invariant
