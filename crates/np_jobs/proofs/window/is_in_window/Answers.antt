use Rattle.np_jobs.proofs.Prelude.{Configuration, ap, arith, sym, window_of, ◌+◌, ◌-◌, ◌∙◌, ◌≡◌}
use Rattle.np_jobs.proofs.Windows.{over-outside, last-none, last-some}
use Rattle.np_jobs.proofs.window.is_in_window.Goals as goal

pub returns-then-not-is_unfinished : goal.returns-then-not-is_unfinished
returns-then-not-is_unfinished g c =
    sym (over-outside (g.L.Look.site c.args.look.now) (g.L.Look.state c.args.look.now) c.args.requester c.args.job (sym (rw (c.rows-rows.ensures.site, c.rows-rows.ensures.state) at c.if-not-is_unfinished.ensures)))

pub returns-in-None : goal.returns-in-None
returns-in-None g c =
    let window : c.window-width.result ≡ window_of (g.L.Look.site c.args.look.now) c.args.requester = c.window-width.ensures ∙ ap (λ (x : Configuration). window_of x c.args.requester) (c.config.ensures ∙ c.rows-rows.ensures.site) in
    let last : (c.window-width.result - 1) + 1 ≡ window_of (g.L.Look.site c.args.look.now) c.args.requester = omega (arith, window, c.if-width-eq0.false) in
    sym (last-none (g.L.Look.site c.args.look.now) (g.L.Look.state c.args.look.now) c.args.requester c.args.job (sym (rw (c.rows-rows.ensures.site, c.rows-rows.ensures.state) at c.if-not-is_unfinished.ensures)) (c.window-width.result - 1) last (sym c.in-None.ensures))

pub returns-in-Some : goal.returns-in-Some
returns-in-Some g c =
    let window : c.window-width.result ≡ window_of (g.L.Look.site c.args.look.now) c.args.requester = c.window-width.ensures ∙ ap (λ (x : Configuration). window_of x c.args.requester) (c.config.ensures ∙ c.rows-rows.ensures.site) in
    let last : (c.window-width.result - 1) + 1 ≡ window_of (g.L.Look.site c.args.look.now) c.args.requester = omega (arith, window, c.if-width-eq0.false) in
    sym (last-some (g.L.Look.site c.args.look.now) (g.L.Look.state c.args.look.now) c.args.requester c.args.job (sym (rw (c.rows-rows.ensures.site, c.rows-rows.ensures.state) at c.if-not-is_unfinished.ensures)) (c.window-width.result - 1) last c.in-Some.last (sym c.in-Some.ensures))
