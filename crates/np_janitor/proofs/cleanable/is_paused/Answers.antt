use Rattle.np_janitor.proofs.Prelude.{ap, is_paused, sym, ℕ, ◌∙◌}
use Rattle.np_janitor.proofs.cleanable.is_paused.Goals as goal

pub returns-then-pool-known : goal.returns-then-pool-known
returns-then-pool-known g c =
    c.requires.known
    ∙ ap (λ (n : ℕ). is_paused (g.L.Look.site c.args.look.now) (g.L.Look.state c.args.look.now) (record { 0 = n })) (sym c.if-pool-known.true)
