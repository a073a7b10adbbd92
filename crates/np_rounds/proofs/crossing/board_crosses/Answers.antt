-- A machine crosses since each of its parts does: a search would have to go too deep.
use Rattle.np_rounds.proofs.Prelude.{Enum, IsSend, IsSync, Quiet-if, Vec-send, Vec-sync, enum_send, enum_sync, of_param, recorded_send, recorded_sync, rules, unseen, ◌+◌}
use denote.Enum.Declared as enum
use Rattle.std.specs.contracts.option.Option as Option
use Rattle.np_board.specs.contracts.board.plan.Watched as watched
use Rattle.np_board.specs.contracts.board.plans.Plans as plans
use Rattle.np_rounds.proofs.crossing.board_crosses.Goals as goal

-- the place of a plan, as a type
abbrev slot : enum.Declared
slot = Option.the_type watched.the_row

pub crosses-requires-2-send-T : goal.crosses-requires-2-send-T
crosses-requires-2-send-T c κs = record {
  owned = λ x vs inside. (
    (λ parts.
        let tables = c.tables_cross.ensures.send.owned inside.0.tables parts.1.0 in
        let index = c.index_crosses.ensures.send.owned inside.0.index parts.1.1.0 in
        let journal = c.crosses.ensures.send.owned inside.0.journal parts.1.1.1.1.0 in
        (tt, (search rules, (tables, (index, (search rules, (journal, (c.store_crosses.ensures.send.owned inside.0.store parts.1.1.1.1.1.0, tt)))))))),
    tt,
  );
  leaving = λ k. Quiet-if (k (of_param 0)) unseen unseen (λ x w. tt) (λ x w. tt);
}

pub crosses-requires-2-sync-T : goal.crosses-requires-2-sync-T
crosses-requires-2-sync-T c κs = record {
  shared = λ x b o κ inside.
      let tables = c.tables_cross.ensures.sync.shared inside.0.tables b (o + 0) κ in
      let index = c.index_crosses.ensures.sync.shared inside.0.index b (o + 528) κ in
      let journal = c.crosses.ensures.sync.shared inside.0.journal b (o + 920) κ in
      (((search rules, (tables, (index, (search rules, (journal, (c.store_crosses.ensures.sync.shared inside.0.store b (o + 944) κ, tt)))))), λ q. tt), tt);
}

pub crosses-requires-6-send-T : goal.crosses-requires-6-send-T
crosses-requires-6-send-T c κs =
    let one : IsSend watched.the_row = record {
      owned = λ x vs inside. (
        (λ parts. (
          tt,
          (
            c.crosses-3.ensures.send.owned inside.0.plan parts.0,
            (c.crosses-4.ensures.send.owned inside.0.paths parts.1.0, (c.crosses-5.ensures.send.owned inside.0.watches parts.1.1.0, tt)),
          ),
        )),
        tt,
      );
      leaving = search rules;
    } in
    let place : IsSend (Option.the_row watched.the_row) = recorded_send (Enum (enum.shape slot)) slot.D slot.to slot.to_one (enum_send (enum.shape slot) (tt, ((one, tt), tt))) in
    let places = Vec-send (Option.the_row watched.the_row) place in
    let all : IsSend plans.the_row = record {
      owned = λ x vs inside. ((λ parts. (tt, (places.owned inside.0.places parts.0, tt))), tt);
      leaving = search rules;
    } in
    record {
      owned = λ x vs inside. (
        (λ parts. (
          tt,
          (
            search rules,
            (c.crosses-2.ensures.send.owned inside.0.machine parts.1.0, (all.owned inside.0.plans parts.1.1.0, (search rules, tt))),
          ),
        )),
        tt,
      );
      leaving = λ k. Quiet-if (k (of_param 0)) unseen unseen (λ x w. tt) (λ x w. tt);
    }

pub crosses-requires-6-sync-T : goal.crosses-requires-6-sync-T
crosses-requires-6-sync-T c κs =
    let one : IsSync watched.the_row = record {
      shared = λ x b o κ inside. (
        (
          (
            c.crosses-3.ensures.sync.shared inside.0.plan b (o + 0) κ,
            (c.crosses-4.ensures.sync.shared inside.0.paths b (o + 872) κ, (c.crosses-5.ensures.sync.shared inside.0.watches b (o + 896) κ, tt)),
          ),
          λ q. tt,
        ),
        tt,
      );
    } in
    let place : IsSync (Option.the_row watched.the_row) = recorded_sync (Enum (enum.shape slot)) slot.D slot.to slot.to_one (enum_sync (enum.shape slot) (tt, ((one, tt), tt))) in
    let places = Vec-sync (Option.the_row watched.the_row) place in
    let all : IsSync plans.the_row = record { shared = λ x b o κ inside. (((places.shared inside.0.places b (o + 0) κ, tt), λ q. tt), tt) } in
    record {
      shared = λ x b o κ inside. (
        ((search rules, (c.crosses-2.ensures.sync.shared inside.0.machine b (o + 0) κ, (all.shared inside.0.plans b (o + 1040) κ, (search rules, tt)))), λ q. tt),
        tt,
      );
    }
