use Rattle.np_worked.proofs.Prelude.{inl, inr, refl, []}
use Rattle.np_worked.specs.Parts.{requester}
use Rattle.np_worked.proofs.refused.a_tick_follows_no_tick.Goals as goal

pub returns-clause-single : goal.returns-clause-single
returns-clause-single c = (
  inl (record { role = requester; useful = record { accepted = refl; maker = refl; row = refl } }),
  (inr (inl (record { event = refl; earlier = []; previous = _; follows = refl; other = refl })), tt),
)
