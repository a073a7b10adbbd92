use Rattle.np_replay.proofs.Prelude.{IsPlayable, Script, subst, sym}
use Rattle.np_replay.proofs.ResumeStatuses.{appended-leaves, more-few, more-lines, more-playable}
use Rattle.np_replay.proofs.resuming.text_of_resumed.Goals as goal

pub append_more-requires-clause-room : goal.append_more-requires-clause-room
append_more-requires-clause-room g c =
    more-few c.in_ok-log.script.events c.args.came.now c.in_ok-more.more c.in_ok-log.ensures.ready.playable.few c.in_ok-more.ensures.more

pub append_more-requires-clause-lines : goal.append_more-requires-clause-lines
append_more-requires-clause-lines g c = more-lines c.in_ok-log.script.events c.args.came.now c.in_ok-more.more c.in_ok-more.ensures.more

pub text_of_script-requires : goal.text_of_script-requires
text_of_script-requires g c =
    subst (λ (script : Script). IsPlayable script) (sym c.in_ok-script.ensures.script)
    (more-playable c.in_ok-log.script c.args.came.now c.in_ok-more.more c.in_ok-log.ensures.ready.playable c.in_ok-more.ensures.more)

pub returns-in_err-text_of_script-clause-any_moment : goal.returns-in_err-text_of_script-clause-any_moment
returns-in_err-text_of_script-clause-any_moment g c =
    appended-leaves (g.D.Disk.facts c.args.disk.now) (g.D.Disk.facts c.load_script.new.disk) (g.D.Disk.facts c.append_more.new.disk) c.in_ok-log.log c.in_ok-log.script c.args.came.now c.in_ok-more.more
    c.load_script.ensures.any_moment c.load_script.ensures.kept c.in_ok-log.ensures.ready c.in_ok-more.ensures.more c.append_more.ensures.any_moment

pub returns-clause-any_moment : goal.returns-clause-any_moment
returns-clause-any_moment g c =
    appended-leaves (g.D.Disk.facts c.args.disk.now) (g.D.Disk.facts c.load_script.new.disk) (g.D.Disk.facts c.append_more.new.disk) c.in_ok-log.log c.in_ok-log.script c.args.came.now c.in_ok-more.more
    c.load_script.ensures.any_moment c.load_script.ensures.kept c.in_ok-log.ensures.ready c.in_ok-more.ensures.more c.append_more.ensures.any_moment
