use Rattle.np_replay.proofs.Statuses.{ends-script, whole-script}
use Rattle.np_replay.proofs.keeping.ending_of.Goals as goal

pub returns-in-Ok-Ok-clause-ends : goal.returns-in-Ok-Ok-clause-ends
returns-in-Ok-Ok-clause-ends g c =
    ends-script g.D.Disk.facts (g.S.Source.facts c.args.source.now) (g.S.Source.facts c.script_come.new.source) c.args.disk.now c.keep_script.new.disk c.in-Ok-Ok.script c.keep_script.result
    (rw c.in-Ok-Ok.field-0-is at c.in-Ok-Ok.ensures.read) c.keep_script.ensures.ends

pub returns-in-Ok-Ok-clause-crash : goal.returns-in-Ok-Ok-clause-crash
returns-in-Ok-Ok-clause-crash g c =
    whole-script g.D.Disk.facts (g.S.Source.facts c.args.source.now) (g.S.Source.facts c.script_come.new.source) c.args.disk.now c.keep_script.new.disk c.in-Ok-Ok.script
    (rw c.in-Ok-Ok.field-0-is at c.in-Ok-Ok.ensures.read) c.keep_script.ensures.any_moment
