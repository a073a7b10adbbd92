use Rattle.np_keeper.proofs.Prelude.{Changes, Fits, Fits-Runs, IsTyped, ap, changed, decoded, on_ok_weaker, plan-next, rules, sound_fits, ◌∙◌}
use Rattle.np_keeper.proofs.Enacted.{may-change, next-laid}
use Rattle.np_keeper.proofs.step.enact.Goals as goal

pub verdict_on-requires-clause-fits : goal.verdict_on-requires-clause-fits
verdict_on-requires-clause-fits c = Fits-Runs _ _ _ (sound_fits c.args.config.now c.know_soundness.ensures) c.requires.reached.runs

pub enact_changes-requires-clause-ready : goal.enact_changes-requires-clause-ready
enact_changes-requires-clause-ready c =
    let fits : Fits c.args.config.now (decoded c.args.config.now c.args.tree.now) = Fits-Runs _ _ _ (sound_fits c.args.config.now c.know_soundness.ensures) c.requires.reached.runs in
    let typed : IsTyped c.in-Ok.verdict.changes = search rules in
    may-change c.args.config.now (decoded c.args.config.now c.args.tree.now) c.in-Ok.verdict.changes c.know_soundness.ensures c.requires.held.stored.carried c.requires.reached fits (record {
      event = c.args.event;
      accepted = c.requires.accepted;
      plan = c.in-Ok.ensures.changes;
    }) typed

pub returns-clause-ok : goal.returns-clause-ok
returns-clause-ok c =
    on_ok_weaker c.enact_changes.result (λ is.
    is
    ∙ ap (λ (ch : Changes). changed c.args.config.now ch (decoded c.args.config.now c.args.tree.now)) c.in-Ok.ensures.changes
    ∙ plan-next c.args.config.now (decoded c.args.config.now c.args.tree.now) c.args.event c.requires.accepted) c.enact_changes.ensures.ok

pub returns-clause-laid : goal.returns-clause-laid
returns-clause-laid c s stored =
    on_ok_weaker c.enact_changes.result (next-laid c.args.config.now c.args.event s c.args.tree.now c.enact_changes.new.tree stored c.enact_changes.ensures.held) (returns-clause-ok c)
