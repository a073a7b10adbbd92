use Rattle.np_lookups.proofs.Prelude.{AreLookupsOf, subst, sym}
use Rattle.np_lookups.proofs.QueueLemmas.{requests-more, nodes-more}
use Rattle.np_lookups.proofs.lookups.Lookups.make_room.Goals.{then-len-wanted+in_ok-push, else-len-wanted}
use Rattle.np_lookups.proofs.lookups.Lookups.make_room.Goals as goal

pub returns-in_ok-push-2-clause-same : goal.returns-in_ok-push-2-clause-same
returns-in_ok-push-2-clause-same c = λ config s is.
    nodes-more config s _
    (elim c.if-len-wanted.branch [
      | then-len-wanted+in_ok-push w ↦ rw w.self-inside-is (requests-more config s _ (subst (AreLookupsOf config s) (sym c.self.view_is) is) _ _ w.in_ok-push.ensures.items w.new.ensures)
      | else-len-wanted w ↦ rw w.self-inside-is (subst (AreLookupsOf config s) (sym c.self.view_is) is)
    ])
    _ _ c.in_ok-push-2.ensures.items c.new-then-len-wanted-2.ensures

pub returns-else-len-wanted-2-clause-same : goal.returns-else-len-wanted-2-clause-same
returns-else-len-wanted-2-clause-same c = λ config s is.
    elim c.if-len-wanted.branch [
      | then-len-wanted+in_ok-push w ↦ rw w.self-inside-is (requests-more config s _ (subst (AreLookupsOf config s) (sym c.self.view_is) is) _ _ w.in_ok-push.ensures.items w.new.ensures)
      | else-len-wanted w ↦ rw w.self-inside-is (subst (AreLookupsOf config s) (sym c.self.view_is) is)
    ]
