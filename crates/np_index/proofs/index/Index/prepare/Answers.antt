use Rattle.np_index.proofs.Prelude.{AreGivenGroups, AreListed, IsIndexOf, ap, classes-same, first_rest, subst, sym, ◌∙◌}
use Rattle.np_index.proofs.Kept.{active-same, open-same, placed-same}
use Rattle.np_index.proofs.index.Index.prepare.Goals as goal

pub returns-clause-ok : goal.returns-clause-ok
returns-clause-ok g c =
    let are = subst (IsIndexOf (g.R.Rows.site c.args.rows.now) (g.R.Rows.state c.args.rows.now)) (sym c.self.view_is) c.requires.index in
    let ready = c.in_ok-touched.ensures in
    record {
      lookups = c.in_ok-lookups.ensures.ok;
      ends = c.in_ok-lookups.ensures.ends;
      classes = classes-same _ _ _ _ c.prepare.ensures.nodes c.prepare.ensures.requests are.classes;
      awaited = are.awaited;
      before = c.first_rest-before.ensures ∙ ap (first_rest (g.R.Rows.site c.args.rows.now) (g.R.Rows.state c.args.rows.now)) c.requests.ensures;
      touched = ready;
      past = c.in_ok-past.ensures.past;
      requested = open-same _ _ _ _ c.prepare-2.ensures.members c.prepare-2.ensures.lines are.requested;
      moved = c.in_ok-moved.ensures.prepared c.args.changes.now (subst (AreListed c.args.changes.now (g.R.Rows.state c.args.rows.now)) (sym c.requests-2.ensures) ready.requests);
      active = active-same _ _ _ _ c.prepare-3.ensures.lines c.prepare-3.ensures.jobs c.prepare-3.ensures.sessions are.active;
      given = subst (AreGivenGroups (g.R.Rows.site c.args.rows.now) (g.R.Rows.state c.args.rows.now)) (sym c.prepare-4.ensures.members) are.given;
      listed = c.in_ok-given.ensures.prepared;
      placed = placed-same _ _ _ _ _ _ c.prepare-3.ensures.lines c.in_ok-placed.ensures.past;
      room = record {
        classes = c.in_ok-past.ensures.room;
        requested = c.in_ok-moved.ensures.room;
        active = c.in_ok-placed.ensures.room;
        given = c.in_ok-given.ensures.room;
      };
    }
