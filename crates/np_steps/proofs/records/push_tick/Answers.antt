use Rattle.np_steps.proofs.Prelude.{Bool, OnOk, Tick, arith, decimal, set, subst, sym, tick_parts, ℕ, [], ◌++◌, ◌+◌, ◌∷◌, ◌≡◌}
use Rattle.np_steps.proofs.records.push_tick.Goals as goal

pub overflow_add-tick : goal.overflow_add-tick
overflow_add-tick g c =
    let same = c.tick.ensures in
    let room = c.requires in
    omega arith

pub returns : goal.returns
returns g c =
    let s = g.R.Rows.state c.args.rows.now in
    let same = c.tick.ensures in
    subst (λ (b : Bool). OnOk c.push_number.result (c.push_number.new.ops.items ≡ c.args.ops.now.items ++ tick_parts b s.tick)) (sym c.if-not-ticks.false)
    (subst (λ (n : ℕ). OnOk c.push_number.result (c.push_number.new.ops.items ≡ c.args.ops.now.items ++ set (decimal (n + 1)) Tick ∷ [])) same c.push_number.ensures)
