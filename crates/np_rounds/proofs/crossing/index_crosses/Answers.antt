-- An index crosses since each of its six parts does: a search would have to go too deep.
use Rattle.np_rounds.proofs.Prelude.{Quiet-if, of_param, unseen, ◌+◌}
use Rattle.np_rounds.proofs.crossing.index_crosses.Goals as goal

pub crosses-requires-send-T : goal.crosses-requires-send-T
crosses-requires-send-T c κs = record {
  owned = λ x vs inside. (
    (λ parts.
        let lookups = c.lookups_cross.ensures.send.owned inside.0.lookups parts.0 in
        let classes = c.classes_cross.ensures.send.owned inside.0.classes parts.1.0 in
        let awaited = c.awaited_cross.ensures.send.owned inside.0.awaited parts.1.1.0 in
        let requested = c.requested_crosses.ensures.send.owned inside.0.requested parts.1.1.1.0 in
        let active = c.active_crosses.ensures.send.owned inside.0.active parts.1.1.1.1.0 in
        (tt, (lookups, (classes, (awaited, (requested, (active, (c.given_crosses.ensures.send.owned inside.0.given parts.1.1.1.1.1.0, tt)))))))),
    tt,
  );
  leaving = λ k. Quiet-if (k (of_param 0)) unseen unseen (λ x w. tt) (λ x w. tt);
}

pub crosses-requires-sync-T : goal.crosses-requires-sync-T
crosses-requires-sync-T c κs = record {
  shared = λ x b o κ inside.
      let lookups = c.lookups_cross.ensures.sync.shared inside.0.lookups b (o + 0) κ in
      let classes = c.classes_cross.ensures.sync.shared inside.0.classes b (o + 96) κ in
      let awaited = c.awaited_cross.ensures.sync.shared inside.0.awaited b (o + 160) κ in
      let requested = c.requested_crosses.ensures.sync.shared inside.0.requested b (o + 184) κ in
      let active = c.active_crosses.ensures.sync.shared inside.0.active b (o + 240) κ in
      (((lookups, (classes, (awaited, (requested, (active, (c.given_crosses.ensures.sync.shared inside.0.given b (o + 328) κ, tt)))))), λ q. tt), tt);
}
