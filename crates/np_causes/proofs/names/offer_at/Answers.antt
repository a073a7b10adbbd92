use Rattle.np_causes.proofs.Prelude.{None, POOLS, Some, arith, length, past-end, slice_get, sym, ◌≡◌, ◌≤◌}
use Rattle.np_causes.proofs.Places.{no_offer, offer_there}
use Rattle.np_causes.proofs.names.offer_at.Goals as goal

pub returns-in-None : goal.returns-in-None
returns-in-None g c =
    let none : slice_get (g.R.Rows.site c.args.rows.now).pools c.args.at ≡ None = rw c.config-config.ensures at (sym c.in-None.ensures) in
    sym (no_offer (g.R.Rows.site c.args.rows.now) c.args.request c.args.at (past-end (g.R.Rows.site c.args.rows.now).pools c.args.at none))

pub returns-in-Some : goal.returns-in-Some
returns-in-Some g c =
    let there : slice_get (g.R.Rows.site c.args.rows.now).pools c.args.at ≡ Some c.in-Some.field-0.now = rw c.config-config.ensures at (sym c.in-Some.ensures) in
    sym (offer_there (g.R.Rows.site c.args.rows.now) c.args.request c.args.at c.in-Some.field-0.now there)

pub returns-then-at-from : goal.returns-then-at-from
returns-then-at-from g c =
    let few : length (g.R.Rows.site c.args.rows.now).pools ≤ POOLS = rw c.config-config.ensures at c.know_soundness.ensures.supply.few_pools in
    sym (no_offer (g.R.Rows.site c.args.rows.now) c.args.request c.args.at (omega (arith, few, c.if-at-from.true, c.from.ensures)))
