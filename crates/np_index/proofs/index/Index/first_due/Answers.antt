use Rattle.np_index.proofs.Prelude.{AreClasses, subst, sym}
use Rattle.np_index.proofs.index.Index.first_due.Goals as goal

pub returns : goal.returns
returns c config s is = c.first_due.ensures config s (subst (λ index. AreClasses config s index.classes) (sym c.self.view_is) is.classes)
