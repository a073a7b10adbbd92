use Rattle.np_active.proofs.Prelude.{Option, SessionId, ap, is_some, ◌∙◌}
use Rattle.np_active.proofs.KindLemmas.{live-at}
use Rattle.np_active.proofs.active.Active.has_live_session.Goals as goal

pub returns : goal.returns
returns c site state are =
    c.is_some.ensures ∙ ap (λ (o : Option SessionId). is_some o) c.at.ensures
    ∙ live-at site state _ are _ _ (ap (λ (x : _). x.sessions) c.self.view_is) c.args.requester c.live_group.ensures
