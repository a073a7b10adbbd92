use Rattle.np_jobs.proofs.Prelude.{Configuration, IsSound, subst, true, ◌∙◌, ◌≡◌}
use Rattle.np_jobs.proofs.Settles.{all-idle, settled-pools, settled-requesters, settled-reaper}
use Rattle.np_jobs.proofs.settled.is_settled.Goals.{then-are_pools_idle, else-are_pools_idle}
use Rattle.np_jobs.proofs.settled.is_settled.Goals as goal

pub returns-then-are_requesters_idle : goal.returns-then-are_requesters_idle
returns-then-are_requesters_idle g c =
    let sound : IsSound (g.L.Look.site c.args.look.now) = subst (λ (site : Configuration). IsSound site) (c.config.ensures ∙ c.rows.ensures.site) c.know_soundness.ensures in
    elim c.if-are_pools_idle.branch [
      | then-are_pools_idle w ↦
          let pools : c.are_pools_idle.result ≡ true = cc in
          let requesters : w.are_requesters_idle.result ≡ true = cc in (
            λ yes. all-idle (g.L.Look.site c.args.look.now) (g.L.Look.state c.args.look.now) sound (c.are_pools_idle.ensures.0 pools) (w.are_requesters_idle.ensures.0 requesters) (c.is_idle.ensures.0 yes),
            λ settled. c.is_idle.ensures.1 (settled-reaper (g.L.Look.site c.args.look.now) (g.L.Look.state c.args.look.now) c.requires.reached settled),
          )
      | else-are_pools_idle w ↦ absurd cc
    ]

pub returns-else-are_requesters_idle : goal.returns-else-are_requesters_idle
returns-else-are_requesters_idle g c =
    elim c.if-are_pools_idle.branch [
      | then-are_pools_idle w ↦ (
        λ yes. absurd cc,
        λ settled.
            let requesters : w.are_requesters_idle.result ≡ true = w.are_requesters_idle.ensures.1 (settled-requesters (g.L.Look.site c.args.look.now) (g.L.Look.state c.args.look.now) c.requires.reached settled) in
            absurd cc,
      )
      | else-are_pools_idle w ↦ (
        λ yes. absurd cc,
        λ settled.
            let pools : c.are_pools_idle.result ≡ true = c.are_pools_idle.ensures.1 (settled-pools (g.L.Look.site c.args.look.now) (g.L.Look.state c.args.look.now) c.requires.reached settled) in
            absurd cc,
      )
    ]
