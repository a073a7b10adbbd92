use Rattle.np_index.proofs.Prelude.{AreActive, subst, sym}
use Rattle.np_index.proofs.index.Index.has_live_session.Goals as goal

pub returns : goal.returns
returns c config s is = c.has_live_session.ensures config s (subst (λ index. AreActive config s index.active) (sym c.self.view_is) is.active)
