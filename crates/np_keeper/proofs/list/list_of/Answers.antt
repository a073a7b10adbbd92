use Rattle.np_keeper.proofs.Prelude.{Global, Vec, ap, arith, sym, ◌∙◌}
use Rattle.np_keeper.proofs.Queued.{copied_next, none_missing, take_whole}
use Rattle.np_keeper.proofs.list.list_of.Goals.{in-Some+in_ok-push, in_default}
use Rattle.np_keeper.proofs.list.list_of.Goals as goal

pub loop-at-preserved : goal.loop-at-preserved
loop-at-preserved g c whole is reads =
    let there = reads c.loop-at.at c.read.result c.loop-at-test.true c.read.ensures in
    let copied = c.loop-at.invariant whole is reads in
    elim c.match-read.branch [
      | in-Some+in_ok-push w ↦
          ap (λ (list : Vec _ Global). list.items) w.list-is ∙ copied_next whole _ _ c.loop-at.at w.in-Some.item (sym w.in-Some.is ∙ there) copied w.in_ok-push.ensures.items
      | in_default w ↦
          absurd (none_missing whole c.loop-at.at (omega (arith, is, c.loop-at-test.true)) (sym w.in_default.is ∙ there))
    ]

pub returns : goal.returns
returns g c whole is reads = c.loop-at.invariant whole is reads ∙ take_whole whole c.loop-at.at (omega (arith, is, c.loop-at-test.false, c.loop-at.auto.at-end))
