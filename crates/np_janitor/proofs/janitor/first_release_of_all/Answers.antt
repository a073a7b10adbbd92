use Rattle.np_janitor.proofs.Prelude.{ChoosesRelease, Configuration, IsSound, Janitor, NoneReleased, arith, below_more, subst, sym, ℕ, ◌∙◌}
use Rattle.np_janitor.proofs.Janitors.{none-chosen, release-none}
use Rattle.np_janitor.proofs.janitor.first_release_of_all.Goals as goal

pub loop-at-preserved : goal.loop-at-preserved
loop-at-preserved g c =
    below_more (λ (k : ℕ). NoneReleased (g.L.Look.site c.args.look.now) (g.L.Look.state c.args.look.now) (Janitor c.args.rows.now.known.pool) (record { 0 = k })) c.loop-at.at c.loop-at.invariant
    (none-chosen (ChoosesRelease (g.L.Look.site c.args.look.now) (g.L.Look.state c.args.look.now) (Janitor c.args.rows.now.known.pool) (record { 0 = c.loop-at.at })) c.first_release-found.result (sym c.if-is_some.ensures) c.first_release-found.ensures)

pub returns : goal.returns
returns g c =
    let sound : IsSound (g.L.Look.site c.args.look.now) = subst (λ (site : Configuration). IsSound site) (c.config.ensures ∙ c.rows.ensures.site) c.know_soundness.ensures in
    release-none (g.L.Look.site c.args.look.now) (g.L.Look.state c.args.look.now) c.args.rows.now.known.pool sound
    (λ k less. c.loop-at.invariant k (omega (arith, less, c.loop-at-test.false)))
