use Rattle.np_io.proofs.Prelude.{TornWrite, ap, arith, length, put_at, subst, sym, ◌∙◌, ◌≡◌}
use Rattle.np_io.proofs.Moments.{torn_same}
use Rattle.np_io.proofs.TornLemmas.{torn_by_part}
use Rattle.np_io.proofs.CallLemmas.{tears_kept}
use Rattle.np_io.proofs.mem_disk.MemDiskDisk.write_at.Goals as goal

pub returns-then-stops-clause-tears : goal.returns-then-stops-clause-tears
returns-then-stops-clause-tears c =
    let kept = c.in-Ok.ensures.ok in
    let file = c.args.self.now.bytes.items in
    tears_kept c.args.self.now.calls.items c.keep_write.new.calls.items kept.0 kept.1 file file c.args.at
    (length c.args.bytes.now) _ _ kept.2 kept.3 kept.4 (ap length kept.5) kept.6
    (torn_same c.args.at (length c.args.bytes.now) file)

pub returns-in_default-put_at-clause-tears : goal.returns-in_default-put_at-clause-tears
returns-in_default-put_at-clause-tears c =
    let kept = c.in-Ok.ensures.ok in
    let file = c.args.self.now.bytes.items in
    tears_kept c.args.self.now.calls.items c.keep_write.new.calls.items kept.0 kept.1 file file c.args.at
    (length c.args.bytes.now) _ _ kept.2 kept.3 kept.4 (ap length kept.5) kept.6
    (torn_same c.args.at (length c.args.bytes.now) file)

pub returns-clause-tears : goal.returns-clause-tears
returns-clause-tears c =
    let kept = c.in-Ok.ensures.ok in
    let file = c.args.self.now.bytes.items in
    let put : c.in-Ok-put_at.next.items ≡ put_at c.args.at c.args.bytes.now file =
    c.in-Ok-put_at.ensures ∙ ap (put_at c.args.at c.args.bytes.now) c.deref.ensures.value in
    tears_kept c.args.self.now.calls.items c.keep_write.new.calls.items kept.0 kept.1 file
    c.in-Ok-put_at.next.items c.args.at
    (length c.args.bytes.now) _ _ kept.2 kept.3 kept.4 (ap length kept.5) kept.6
    (subst (TornWrite c.args.at (length c.args.bytes.now) file) (sym put)
    (torn_by_part c.args.at (length c.args.bytes.now) c.args.bytes.now file c.requires (omega arith)))
