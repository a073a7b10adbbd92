use Rattle.np_top.proofs.Prelude.{HasCome, rules, site_run, subst}
use Rattle.np_top.proofs.Sites.{run_ends}
use Rattle.np_top.proofs.running.ran.Goals as goal

pub returns-in_ok-played-in-Ok-clause-ok : goal.returns-in_ok-played-in-Ok-clause-ok
returns-in_ok-played-in-Ok-clause-ok g c =
    let before = g.S.Source.facts c.args.source.now in let now = g.S.Source.facts c.configuration.new.source in
    run_ends (site_run c.args.plans) before now c.in-Ok.config c.in_ok-played-in-Ok.field-0 (subst (HasCome (site_run c.args.plans) before now) c.in-Ok.is (c.in_ok-config.ensures.read c.args.plans)) c.in_ok-played-in-Ok.ensures

pub returns-in_err-config-clause-err : goal.returns-in_err-config-clause-err
returns-in_err-config-clause-err g c = let stops = c.in_err-config.ensures.stops c.args.plans in search rules
