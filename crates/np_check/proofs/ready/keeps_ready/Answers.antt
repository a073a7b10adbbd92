use Rattle.np_check.proofs.Prelude.{AmountFits, sound_fits, subst, sym}
use Rattle.np_check.proofs.ready.keeps_ready.Goals as goal

pub many-all-requires : goal.many-all-requires
many-all-requires c = subst (λ a. AmountFits a) (sym c.amount.ensures) ((sound_fits c.args.config.now c.know_soundness.ensures).amounts c.args.pool c.args.label)
