use Rattle.np_look.proofs.Prelude.{None, Some, add-one, is_stuck, refl, request_seen, request_view, short_label, sym, ◌∙◌, ◌≡◌}
use Rattle.np_look.proofs.Looks.{any_found, any_later, stuck_at}
use Rattle.np_look.proofs.scan.ScanLook.is_paused.Goals as goal

pub loop-at-preserved-in_default-short_label : goal.loop-at-preserved-in_default-short_label
loop-at-preserved-in_default-short_label g c =
    let short : None ≡ short_label (g.R.Rows.site c.args.self.now.rows.now) c.args.pool c.used-used.result c.in-Some.view.kept = rw c.config.ensures at c.in_default-short_label.ensures in
    rw add-one (sym (any_later (λ v. is_stuck (g.R.Rows.site c.args.self.now.rows.now) (g.R.Rows.state c.args.self.now.rows.now) c.args.pool (request_seen v)) request_view (is_stuck (g.R.Rows.site c.args.self.now.rows.now) (g.R.Rows.state c.args.self.now.rows.now) c.args.pool) (λ e. refl) (g.R.Rows.state c.args.self.now.rows.now).requests c.loop-at.at c.in-Some.view (sym c.in-Some.ensures) (stuck_at (g.R.Rows.site c.args.self.now.rows.now) (g.R.Rows.state c.args.self.now.rows.now) c.args.pool c.in-Some.view c.used-used.result c.used-used.ensures.used None short)) ∙ c.loop-at.invariant)

pub returns-then-is_some : goal.returns-then-is_some
returns-then-is_some g c =
    let short : Some c.in-Some-short_label.label ≡ short_label (g.R.Rows.site c.args.self.now.rows.now) c.args.pool c.used-used.result c.in-Some.view.kept = rw c.config.ensures at c.in-Some-short_label.ensures in
    sym (any_found (λ v. is_stuck (g.R.Rows.site c.args.self.now.rows.now) (g.R.Rows.state c.args.self.now.rows.now) c.args.pool (request_seen v)) request_view (is_stuck (g.R.Rows.site c.args.self.now.rows.now) (g.R.Rows.state c.args.self.now.rows.now) c.args.pool) (λ e. refl) (g.R.Rows.state c.args.self.now.rows.now).requests c.loop-at.at c.in-Some.view (sym c.in-Some.ensures) (stuck_at (g.R.Rows.site c.args.self.now.rows.now) (g.R.Rows.state c.args.self.now.rows.now) c.args.pool c.in-Some.view c.used-used.result c.used-used.ensures.used (Some c.in-Some-short_label.label) short ∙ rw (sym c.if-is_some.ensures) refl)) ∙ c.loop-at.invariant

pub returns-then-not-has_spare : goal.returns-then-not-has_spare
returns-then-not-has_spare g c =
    let short : Some c.in-Some-short_label.label ≡ short_label (g.R.Rows.site c.args.self.now.rows.now) c.args.pool c.used-used.result c.in-Some.view.kept = rw c.config.ensures at c.in-Some-short_label.ensures in
    sym (any_found (λ v. is_stuck (g.R.Rows.site c.args.self.now.rows.now) (g.R.Rows.state c.args.self.now.rows.now) c.args.pool (request_seen v)) request_view (is_stuck (g.R.Rows.site c.args.self.now.rows.now) (g.R.Rows.state c.args.self.now.rows.now) c.args.pool) (λ e. refl) (g.R.Rows.state c.args.self.now.rows.now).requests c.loop-at.at c.in-Some.view (sym c.in-Some.ensures) (stuck_at (g.R.Rows.site c.args.self.now.rows.now) (g.R.Rows.state c.args.self.now.rows.now) c.args.pool c.in-Some.view c.used-used.result c.used-used.ensures.used (Some c.in-Some-short_label.label) short ∙ rw (sym c.if-is_some.ensures, sym c.if-not-has_spare.ensures) refl)) ∙ c.loop-at.invariant

pub loop-at-preserved : goal.loop-at-preserved
loop-at-preserved g c =
    let short : Some c.in-Some-short_label.label ≡ short_label (g.R.Rows.site c.args.self.now.rows.now) c.args.pool c.used-used.result c.in-Some.view.kept = rw c.config.ensures at c.in-Some-short_label.ensures in
    rw add-one (sym (any_later (λ v. is_stuck (g.R.Rows.site c.args.self.now.rows.now) (g.R.Rows.state c.args.self.now.rows.now) c.args.pool (request_seen v)) request_view (is_stuck (g.R.Rows.site c.args.self.now.rows.now) (g.R.Rows.state c.args.self.now.rows.now) c.args.pool) (λ e. refl) (g.R.Rows.state c.args.self.now.rows.now).requests c.loop-at.at c.in-Some.view (sym c.in-Some.ensures) (stuck_at (g.R.Rows.site c.args.self.now.rows.now) (g.R.Rows.state c.args.self.now.rows.now) c.args.pool c.in-Some.view c.used-used.result c.used-used.ensures.used (Some c.in-Some-short_label.label) short ∙ rw (sym c.if-is_some.ensures, sym c.if-not-has_spare.ensures) refl)) ∙ c.loop-at.invariant)
