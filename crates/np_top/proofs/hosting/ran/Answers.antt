use Rattle.np_top.proofs.Prelude.{HasCome, HostedFault, HostedSite, Result, hosted_read, hosted_run, hosted_view, subst}
use Rattle.np_top.proofs.Sites.{come_lines, run_ends}
use Rattle.np_top.proofs.hosting.ran.Goals as goal

pub played-requires-after_bounds : goal.played-requires-after_bounds
played-requires-after_bounds g c κs within =
    let before = g.S.Source.facts c.args.source.now in let now = g.S.Source.facts c.hosted_site.new.source in
    come_lines before now (hosted_view c.in-Ok.site)
    (subst (λ (read : Result HostedSite HostedFault). HasCome hosted_run before now (hosted_read read)) c.in-Ok.is c.in_ok-site.ensures.read)

pub returns-in_ok-played-in-Ok-clause-ok : goal.returns-in_ok-played-in-Ok-clause-ok
returns-in_ok-played-in-Ok-clause-ok g c =
    let before = g.S.Source.facts c.args.source.now in let now = g.S.Source.facts c.hosted_site.new.source in
    run_ends hosted_run before now (hosted_view c.in-Ok.site) c.in_ok-played-in-Ok.field-0
    (subst (λ (read : Result HostedSite HostedFault). HasCome hosted_run before now (hosted_read read)) c.in-Ok.is c.in_ok-site.ensures.read) c.in_ok-played-in-Ok.ensures
