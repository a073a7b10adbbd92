use Rattle.np_index.proofs.Prelude.{AreLookupsOf, IsPreparedFor, OthersStay, ap, changed, first_rest, lookups_made, subst, sym, ◌∙◌}
use Rattle.np_index.proofs.Kept.{others-stay}
use Rattle.np_index.proofs.index.Index.note.Goals as goal

pub returns : goal.returns
returns g c config s reached planned is site state =
    let kept = subst (λ p. IsPreparedFor config s c.args.changes.now p c.args.self.now) (sym c.prepared.view_is) is in
    let prepared = subst (IsPreparedFor config s c.args.changes.now _) (sym c.self.view_is) kept in
    record {
      lookups = subst (AreLookupsOf _ _) (sym (c.settle.ensures ∙ ap (λ x. lookups_made x c.args.changes.now c.prepared.inside.lookups c.self.inside.lookups) (c.config.ensures ∙ site))) prepared.lookups.made;
      classes = c.note.ensures _ _ c.args.changes.now _ reached prepared.touched prepared.past site state prepared.classes;
      awaited = c.note-2.ensures _ _ c.args.changes.now reached planned
          (subst (λ requests. OthersStay requests s (changed config c.args.changes.now s)) (sym c.requests.ensures) (others-stay config s c.args.changes.now _ prepared.touched))
          (prepared.before ∙ sym (ap (first_rest config s) c.requests.ensures)) site state prepared.awaited;
      requested = c.note-3.ensures _ _ c.args.changes.now reached prepared.moved site state prepared.requested;
      active = c.note-4.ensures _ _ c.args.changes.now _ reached prepared.touched prepared.placed site state prepared.active;
      given = c.note-5.ensures _ _ c.args.changes.now reached planned prepared.listed site state prepared.given;
    }
