use Rattle.np_log.proofs.Prelude.{◌∙◌}
use Rattle.np_log.proofs.Writes.{create_content, create_moment, create_settled}
use Rattle.np_log.proofs.log.Log.create.Goals as goal

pub returns-in_err-write_first-clause-any_moment : goal.returns-in_err-write_first-clause-any_moment
returns-in_err-write_first-clause-any_moment g c =
    create_moment (g.D.Disk.facts c.args.disk.now) (g.D.Disk.facts c.length.new.self) (g.D.Disk.facts c.write_first.new.disk) c.args.config.now c.deref.result.now
    (g.D.Disk.lawful c.args.disk.now) c.length.ensures.stays c.requires (c.deref.ensures.value ∙ c.in_ok-record.ensures) c.write_first.ensures.any_moment

pub returns-clause-any_moment : goal.returns-clause-any_moment
returns-clause-any_moment g c =
    create_moment (g.D.Disk.facts c.args.disk.now) (g.D.Disk.facts c.length.new.self) (g.D.Disk.facts c.write_first.new.disk) c.args.config.now c.deref.result.now
    (g.D.Disk.lawful c.args.disk.now) c.length.ensures.stays c.requires (c.deref.ensures.value ∙ c.in_ok-record.ensures) c.write_first.ensures.any_moment

pub returns-clause-content : goal.returns-clause-content
returns-clause-content g c =
    create_content (g.D.Disk.facts c.args.disk.now).now (g.D.Disk.facts c.length.new.self).now (g.D.Disk.facts c.write_first.new.disk).now c.args.config.now c.deref.result.now
    c.length.ensures.stays.bytes (c.deref.ensures.value ∙ c.in_ok-record.ensures) c.in_ok-write_first.ensures.written c.requires

pub returns-clause-settled : goal.returns-clause-settled
returns-clause-settled g c =
    create_settled (g.D.Disk.facts c.length.new.self).now (g.D.Disk.facts c.write_first.new.disk).now (g.D.Disk.facts c.write_first.new.disk).may_leave c.args.config.now c.deref.result.now
    (c.deref.ensures.value ∙ c.in_ok-record.ensures) c.in_ok-write_first.ensures.written c.requires c.in_ok-write_first.ensures.durable
