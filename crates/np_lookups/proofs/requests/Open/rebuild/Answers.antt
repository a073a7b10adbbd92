use Rattle.np_lookups.proofs.Prelude.{sym}
use Rattle.np_lookups.proofs.Members.{open-rebuilt}
use Rattle.np_lookups.proofs.requests.Open.rebuild.Goals as goal

pub returns : goal.returns
returns g c = open-rebuilt (g.R.Rows.site c.args.rows.now) (g.R.Rows.state c.args.rows.now) c.as_slice.result.now c.requires _ (sym c.as_slice.ensures.value) c.in_ok-groups.ensures
