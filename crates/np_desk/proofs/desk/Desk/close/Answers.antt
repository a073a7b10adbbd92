use Rattle.np_desk.proofs.Prelude.{ap}
use Rattle.np_desk.proofs.DeskRule.{leaves}
use Rattle.np_desk.proofs.desk.Desk.close.Goals as goal

pub returns-clause-fixed : goal.returns-clause-fixed
returns-clause-fixed g c = (leaves _ _ _ _ _ _ _ _ _ _ _ _ (ap (λ d. d.origin) c.self.view_is) c.pass.view_is c.requires.whole c.pass.invariant.idle c.close_with-closed.ensures.values.2 c.take-object.ensures.value).0

pub returns-clause-legal : goal.returns-clause-legal
returns-clause-legal g c = (leaves _ _ _ _ _ _ _ _ _ _ _ _ (ap (λ d. d.origin) c.self.view_is) c.pass.view_is c.requires.whole c.pass.invariant.idle c.close_with-closed.ensures.values.2 c.take-object.ensures.value).1

pub returns-clause-history : goal.returns-clause-history
returns-clause-history g c = (leaves _ _ _ _ _ _ _ _ _ _ _ _ (ap (λ d. d.origin) c.self.view_is) c.pass.view_is c.requires.whole c.pass.invariant.idle c.close_with-closed.ensures.values.2 c.take-object.ensures.value).2

pub returns-clause-mine : goal.returns-clause-mine
returns-clause-mine g c = (leaves _ _ _ _ _ _ _ _ _ _ _ _ (ap (λ d. d.origin) c.self.view_is) c.pass.view_is c.requires.whole c.pass.invariant.idle c.close_with-closed.ensures.values.2 c.take-object.ensures.value).3
