use Rattle.np_index.proofs.Prelude.{IsSound, subst}
use Rattle.np_index.proofs.AmountLemmas.{amounts-after}
use Rattle.np_index.proofs.awaited.Awaited.note.Goals as goal

pub returns : goal.returns
returns g c site s ch reached planned stay before same_site later was =
    amounts-after site (g.R.Rows.site c.args.rows.now) s (g.R.Rows.state c.args.rows.now) ch c.args.requests.now c.args.before c.first_rest-after.result c.args.self.now _
    (subst IsSound c.config.ensures c.know_soundness.ensures) reached planned stay before c.first_rest-after.ensures same_site later c.exchange.ensures was
