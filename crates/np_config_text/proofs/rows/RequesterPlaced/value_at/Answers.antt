use Rattle.np_config_text.proofs.Prelude.{IsJob, Job, StandsByOwner}
use Rattle.np_config_text.proofs.Again.{names-ascii}
use Rattle.np_config_text.proofs.rows.RequesterPlaced.value_at.Goals as goal

pub owned_value-requires : goal.owned_value-requires
owned_value-requires c = rw c.jobs.ensures (names-ascii (λ (r : Job). r.name) (StandsByOwner (λ (r : Job). r.requester.0) (IsJob _ _ _)) (λ e r is. is.own.name.named) _ c.know_soundness.ensures.demand.each_job)
