use Rattle.std.proofs.Common.{◌≡◌, ◌<◌, ◌++◌, ◌∷◌, [], ◌∙◌, List, length, ap, arith}
use Rattle.np_event.specs.declared.entry.Entry.{Entry}
use Rattle.np_layout.specs.Decoded.{decoded}
use Rattle.np_changes.proofs.Runs.{Runs-next}
use Rattle.np_board_tests.proofs.bare.Bare.apply.Goals as goal

pub invariant_of-self-2 : goal.invariant_of-self-2
invariant_of-self-2 c =
    let entry : Entry = record { event = c.args.event; reply = c.judge_event-reply.result } in
    let journal : c.push.new.self.items ≡ c.self.inside.journal.items ++ entry ∷ [] = c.in_ok-push.ensures.items ∙ ap (λ (entries : List Entry). entries ++ entry ∷ []) c.in_ok-reserve.ensures.items in
    let room : length c.self.inside.journal.items < 262144 = omega (arith, c.len.ensures) in
    record {
      held = c.enact_done.ensures.held;
      runs = rw (journal, c.in_ok-enact_done.ensures.ok)
          (Runs-next c.self.inside.config c.self.inside.journal.items (decoded c.self.inside.config c.self.inside.tree) entry c.self.invariant.runs room c.judge_event-reply.ensures);
    }
