use Rattle.np_static.proofs.Prelude.{Told, ap, are_numbered, arith, length, ◌%◌, ◌-◌, ◌<◌, ◌∙◌}
use Rattle.np_static.proofs.Loads.{fewer, gone, keeps-removed, keeps-unknown, load-at}
use Rattle.np_static.proofs.driver.HostDriverDriver.remove.Goals as goal

pub overflow_sub-gone : goal.overflow_sub-gone
overflow_sub-gone c = omega (arith, fewer c.args.self.now c.remove.new.self c.args.number c.remove.ensures, c.server_count.ensures, c.server_count-before.ensures)

pub overflow_cast-gone : goal.overflow_cast-gone
overflow_cast-gone c =
    let d = c.args.self.now in
    let inside : c.args.number % 1024 < length d.loads.items = omega (arith, c.if-host-len.true, c.len.ensures) in
    omega (arith, gone d c.remove.new.self c.args.number c.remove.ensures (omega (arith, d.keeps.lengths)), load-at d (c.args.number % 1024) c.index-load.result.now c.index-load.ensures inside, c.type_inv.load, c.server_count.ensures, c.server_count-before.ensures)

pub overflow_sub-load : goal.overflow_sub-load
overflow_sub-load c =
    let d = c.args.self.now in
    let inside : c.args.number % 1024 < length d.loads.items = omega (arith, c.if-host-len.true, c.len.ensures) in
    omega (arith, gone d c.remove.new.self c.args.number c.remove.ensures (omega (arith, d.keeps.lengths)), load-at d (c.args.number % 1024) c.index-load.result.now c.index-load.ensures inside, c.server_count.ensures, c.server_count-before.ensures)

pub invariant_of-self : goal.invariant_of-self
invariant_of-self c =
    let d = c.args.self.now in
    let inside : c.args.number % 1024 < length d.loads.items = omega (arith, c.if-host-len.true, c.len.ensures) in
    let load = load-at d (c.args.number % 1024) c.index-load.result.now c.index-load.ensures inside in
    let less = fewer d c.remove.new.self c.args.number c.remove.ensures in
    let more = gone d c.remove.new.self c.args.number c.remove.ensures (omega (arith, d.keeps.lengths)) in
    record {
      keeps = keeps-removed d c.remove.new.self c.args.number c.remove.ensures (c.index-load.result.now - (c.server_count-before.result - c.server_count.result)) c.min-self.result (omega (arith, d.keeps.lengths))
          (omega (arith, load, less, more, c.server_count.ensures, c.server_count-before.ensures)) (omega (arith, c.min-self.ensures)) (omega (arith, c.min-self.ensures));
      numbered = ap (λ (told : Told). are_numbered 1 told.answered) c.remove.ensures ∙ d.numbered;
    }

pub invariant_of-self-else-host-len : goal.invariant_of-self-else-host-len
invariant_of-self-else-host-len c =
    let d = c.args.self.now in
    record {
      keeps = keeps-unknown d c.remove.new.self c.args.number c.remove.ensures (omega (arith, c.if-host-len.false, c.len.ensures, d.keeps.lengths));
      numbered = ap (λ (told : Told). are_numbered 1 told.answered) c.remove.ensures ∙ d.numbered;
    }
