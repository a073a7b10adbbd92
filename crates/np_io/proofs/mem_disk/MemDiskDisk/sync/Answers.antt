use Rattle.np_io.proofs.CallLemmas.{only_kept, settles_kept}
use Rattle.np_io.proofs.mem_disk.MemDiskDisk.sync.Goals as goal

pub returns-clause-durable : goal.returns-clause-durable
returns-clause-durable c =
    let kept = c.in-Ok.ensures.ok in
    only_kept c.args.self.now.calls.items c.keep.new.calls.items kept.0
    c.args.self.now.bytes.items kept.1 kept.2 kept.3

pub returns-clause-settles : goal.returns-clause-settles
returns-clause-settles c =
    let kept = c.in-Ok.ensures.ok in
    settles_kept c.args.self.now.calls.items c.keep.new.calls.items kept.0
    c.args.self.now.bytes.items _ _ kept.1 kept.2 kept.3
