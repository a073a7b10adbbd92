use Rattle.np_janitor.proofs.Prelude.{Configuration, None, Some, ap, before-end, slice_get, sym, ◌∙◌, ◌≡◌}
use Rattle.np_janitor.proofs.Strikes.{found-chooses, none-strikes}
use Rattle.np_janitor.proofs.reaper.first_strike.Goals as goal

pub returns-then-is_some : goal.returns-then-is_some
returns-then-is_some g c =
    found-chooses (g.L.Look.site c.args.look.now) (g.L.Look.state c.args.look.now) c.in-Some.fault.now c.strike_by-found.result c.strike_by-found.ensures (sym c.if-is_some.ensures)

pub returns : goal.returns
returns g c =
    let none : slice_get c.config-config.result.now.faults c.loop-fault.at ≡ None = sym c.in_default.ensures in
    none-strikes (g.L.Look.site c.args.look.now) (g.L.Look.state c.args.look.now) (λ at f there.
    let here : slice_get c.config-config.result.now.faults at ≡ Some f = ap (λ (x : Configuration). slice_get x.faults at) (c.config-config.ensures ∙ c.rows.ensures.site) ∙ there in
    c.loop-fault.invariant at (before-end c.config-config.result.now.faults c.loop-fault.at at f none here) f here)
