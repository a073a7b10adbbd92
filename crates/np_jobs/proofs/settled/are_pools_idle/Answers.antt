use Rattle.np_jobs.proofs.Prelude.{IsPoolIdle, POOLS, arith, below_more, refl, true, ℕ, ◌<◌, ◌≡◌}
use Rattle.np_jobs.proofs.settled.are_pools_idle.Goals as goal

pub returns-then-not-is_pool_idle : goal.returns-then-not-is_pool_idle
returns-then-not-is_pool_idle g c =
    let below : c.loop-at.at < POOLS = omega arith in
    (λ no. absurd cc, λ idle. let yes : c.is_pool_idle.result ≡ true = c.is_pool_idle.ensures.1 (idle c.loop-at.at below) in absurd cc)

pub loop-at-preserved : goal.loop-at-preserved
loop-at-preserved g c =
    let yes : c.is_pool_idle.result ≡ true = cc in
    below_more (λ (k : ℕ). IsPoolIdle (g.L.Look.site c.args.look.now) (g.L.Look.state c.args.look.now) (record { 0 = k })) c.loop-at.at c.loop-at.invariant (c.is_pool_idle.ensures.0 yes)

pub returns : goal.returns
returns g c = (λ yes k less. c.loop-at.invariant k (omega arith), λ idle. refl)
