use Rattle.np_index.proofs.Prelude.{AreActive, subst, sym}
use Rattle.np_index.proofs.index.Index.first_mute.Goals as goal

pub returns : goal.returns
returns c config s is = c.first_mute.ensures config s (subst (λ index. AreActive config s index.active) (sym c.self.view_is) is.active)
