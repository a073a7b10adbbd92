use Rattle.np_lookups.proofs.Prelude.{arith}
use Rattle.np_lookups.proofs.QueueLemmas.{requests-by_session}
use Rattle.np_lookups.proofs.lookups.requests_by_session.Goals as goal

pub returns : goal.returns
returns g c =
    requests-by_session _ _ c.requires.reached c.loop-number.number _ (omega (arith, c.sessions-number-end.ensures)) c.loop-number.invariant
