use Rattle.np_replay.proofs.Prelude.{ap, arith, canonical, canonical-short, length, ◌∙◌, ◌≡◌}
use Rattle.np_replay.proofs.keeping.new_log.Goals as goal

pub create-requires : goal.create-requires
create-requires g c =
    let is : c.deref.result.now ≡ canonical c.args.config.now = c.deref.ensures.value ∙ c.in_ok-text.ensures.text in
    omega (arith, ap length is, canonical-short c.args.config.now c.know_soundness.ensures)
