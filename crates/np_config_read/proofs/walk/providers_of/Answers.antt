use Rattle.np_config_read.proofs.Prelude.{EachAfter, IsUnused, Providers, length, pool_names, view, [], ◌<◌, ◌^◌}
use Rattle.np_config_read.proofs.WalkTakes.{gives_ok, providers-unused, providers-few}
use Rattle.np_config_read.proofs.walk.providers_of.Goals as goal

pub returns-clause-unused : goal.returns-clause-unused
returns-clause-unused c =
    let read = rw (c.one_to-length.ensures, c.new.ensures, c.none.ensures) at c.rows_required.ensures in
    gives_ok (λ (s : Providers). EachAfter IsUnused [] (pool_names s.providers s.pools)) _ _ (providers-unused c.args.labels.now.table (view c.args.value.now)) read

pub returns-clause-few : goal.returns-clause-few
returns-clause-few c =
    let read = rw (c.one_to-length.ensures, c.new.ensures, c.none.ensures) at c.rows_required.ensures in
    gives_ok (λ (s : Providers). length s.pools < 2 ^ 16) _ _ (providers-few c.args.labels.now.table (view c.args.value.now)) read
