use Rattle.np_look.proofs.Prelude.{Configuration, Some, amount_of_all, ap, false, fits, limit_of_tenant, limited_tenant, new_record, not, plus, sym, true, ◌∙◌, ◌≡◌}
use Rattle.np_look.proofs.Looks.{blocks, has_room}
use Rattle.np_look.proofs.scan.ScanLook.blocking.Goals as goal

pub returns-then-is_short_of : goal.returns-then-is_short_of
returns-then-is_short_of g c =
    let limited : Some c.in_ok-tenant.tenant ≡ limited_tenant (g.R.Rows.site c.args.self.now.rows.now) c.args.pool (new_record c.args.asked.now) = rw c.config.ensures at c.in_ok-tenant.ensures in
    let short : not (fits (plus c.used_by-used.result (amount_of_all (g.R.Rows.site c.args.self.now.rows.now) c.args.pool c.args.asked.now.labels)) (limit_of_tenant (g.R.Rows.site c.args.self.now.rows.now) c.in_ok-tenant.tenant)) ≡ true =
    sym (c.is_short_of.ensures ∙ ap (λ (k : Configuration). not (fits (plus c.used_by-used.result (amount_of_all k c.args.pool c.args.asked.now.labels)) (limit_of_tenant k c.in_ok-tenant.tenant))) c.config-2.ensures) ∙ c.if-is_short_of.true in
    blocks (g.R.Rows.site c.args.self.now.rows.now) (g.R.Rows.state c.args.self.now.rows.now) c.args.pool (new_record c.args.asked.now) c.in_ok-tenant.tenant c.used_by-used.result limited c.used_by-used.ensures.used short

pub returns-else-is_short_of : goal.returns-else-is_short_of
returns-else-is_short_of g c =
    let limited : Some c.in_ok-tenant.tenant ≡ limited_tenant (g.R.Rows.site c.args.self.now.rows.now) c.args.pool (new_record c.args.asked.now) = rw c.config.ensures at c.in_ok-tenant.ensures in
    let short : not (fits (plus c.used_by-used.result (amount_of_all (g.R.Rows.site c.args.self.now.rows.now) c.args.pool c.args.asked.now.labels)) (limit_of_tenant (g.R.Rows.site c.args.self.now.rows.now) c.in_ok-tenant.tenant)) ≡ false =
    sym (c.is_short_of.ensures ∙ ap (λ (k : Configuration). not (fits (plus c.used_by-used.result (amount_of_all k c.args.pool c.args.asked.now.labels)) (limit_of_tenant k c.in_ok-tenant.tenant))) c.config-2.ensures) ∙ c.if-is_short_of.false in
    has_room (g.R.Rows.site c.args.self.now.rows.now) (g.R.Rows.state c.args.self.now.rows.now) c.args.pool (new_record c.args.asked.now) c.in_ok-tenant.tenant c.used_by-used.result limited c.used_by-used.ensures.used short
