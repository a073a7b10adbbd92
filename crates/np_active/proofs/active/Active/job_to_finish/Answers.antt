use Rattle.np_active.proofs.Prelude.{ap, ending_ones, ◌∙◌}
use Rattle.np_active.proofs.KindLemmas.{job-at}
use Rattle.np_active.proofs.active.Active.job_to_finish.Goals as goal

pub returns : goal.returns
returns c site state are = c.at.ensures ∙ job-at site state _ are (ending_ones c.args.requester) _ c.ending_group.ensures _ (ap (λ (x : _). x.jobs) c.self.view_is) c.args.at
