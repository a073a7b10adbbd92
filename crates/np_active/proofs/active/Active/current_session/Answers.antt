use Rattle.np_active.proofs.Prelude.{ap, sym, ◌∙◌}
use Rattle.np_active.proofs.KindLemmas.{current-at, current-none}
use Rattle.np_active.proofs.active.Active.current_session.Goals as goal

pub returns-then-count-eq0 : goal.returns-then-count-eq0
returns-then-count-eq0 c site state are =
    sym (current-none site state _ are _ _ (ap (λ (x : _). x.sessions) c.self.view_is) c.args.role c.role_group-group.ensures (sym c.count-count.ensures ∙ c.if-count-eq0.true))

pub returns : goal.returns
returns c site state are =
    c.at.ensures ∙ current-at site state _ are _ _ (ap (λ (x : _). x.sessions) c.self.view_is) c.args.role c.count-count.result c.role_group-group.ensures c.count-count.ensures
