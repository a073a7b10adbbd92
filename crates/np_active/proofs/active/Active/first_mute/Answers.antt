use Rattle.np_active.proofs.Prelude.{ap, ◌∙◌}
use Rattle.np_active.proofs.KindLemmas.{mute-at}
use Rattle.np_active.proofs.active.Active.first_mute.Goals as goal

pub returns : goal.returns
returns c site state are = c.at.ensures ∙ mute-at site state _ are _ _ (ap (λ (x : _). x.sessions) c.self.view_is) c.mute_group.ensures
