use Rattle.np_io.proofs.Prelude.{arith, length, length-drop, overwrites, put_mid, rules, ◌-◌, ◌∙◌, ◌≡◌}
use Rattle.np_io.proofs.Moments.{Stays-then}
use Rattle.np_io.proofs.ReadLemmas.{fills}
use Rattle.np_io.proofs.whole_disk.read_full.Goals as goal

pub loop-done-preserved : goal.loop-done-preserved
loop-done-preserved g c =
    let before = c.loop-done.invariant in
    let few = c.in_ok-count.ensures.bound in
    let done = c.loop-done.done in
    let buf = c.loop-done.buf in
    let new = c.read_at.new.buf in
    let same : length (put_mid done (length buf - done) buf new) ≡ length buf = search (rules, overwrites) in
    record {
      within = omega (arith, same, before.within, few, length-drop done buf, c.read_at.auto.buf);
      same_length = same ∙ before.same_length;
      read = fills _ (g.D.Disk.facts c.loop-done.disk).now c.args.at done c.in_ok-count.count buf new
          before.stays.bytes before.within few before.read c.in_ok-count.ensures.read;
      stays = Stays-then _ _ _ before.stays c.in_ok-count.ensures.stays;
      later = omega (arith, before.later, c.read_at.ensures.later);
    }
