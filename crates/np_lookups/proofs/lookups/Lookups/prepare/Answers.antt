use Rattle.np_lookups.proofs.Prelude.{AreLookupsOf, HasRoom, ap, holder_at, queue_at, refl, subst, sym, ◌∙◌}
use Rattle.np_lookups.proofs.LookupLemmas.{ends-same, lookups-after}
use Rattle.np_lookups.proofs.lookups.Lookups.prepare.Goals as goal

pub returns-clause-ok : goal.returns-clause-ok
returns-clause-ok g c =
    let site = g.R.Rows.site c.args.rows.now in
    let state = g.R.Rows.state c.args.rows.now in
    let room : AreLookupsOf site state c.make_room.new.self = c.in_ok-make_room.ensures.same site state c.requires.are in
    let has_room : HasRoom state c.make_room.new.self = c.in_ok-make_room.ensures.room site state c.requires.are (sym c.sessions.ensures) in
    record {
      unmade = subst (AreLookupsOf site state) (sym c.in_ok-added.ensures.undo) room;
      made = lookups-after site site site state _ c.args.changes.now _ _ _ c.make_room.new.self _ _ c.requires.reached c.requires.planned room has_room
          c.next_node-next.ensures
          (c.holder_of-holder.ensures ∙ ap (λ r. holder_at r state) c.removed_request.ensures)
          (c.in_ok-queue.ensures ∙ ap (λ n. queue_at n state) c.removed_node.ensures)
          c.in_ok-added.ensures.ok
          refl refl refl refl;
    }

pub returns-clause-ends : goal.returns-clause-ends
returns-clause-ends g c = λ session ends.
    let site = g.R.Rows.site c.args.rows.now in
    let state = g.R.Rows.state c.args.rows.now in
    ends-same site state c.args.changes.now _ session c.make_room.new.self _ c.requires.planned ends (c.in_ok-make_room.ensures.same site state c.requires.are) c.in_ok-added.ensures.ok
