use Rattle.np_worked.proofs.Prelude.{Event, refl, requester}
use Rattle.np_worked.proofs.useful.whole.a_requester_without_jobs_is_settled.Goals as goal

pub returns-clause-before : goal.returns-clause-before
returns-clause-before c = λ settled.
    settled (requester 0) (Event.OpenSession (requester 0)) refl (record { accepted = refl; maker = refl; row = refl })
