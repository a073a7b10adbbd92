use Rattle.np_worked.proofs.Prelude.{Event, launcher, refl}
use Rattle.np_worked.proofs.useful.whole.a_site_that_has_not_begun_is_not_settled.Goals as goal

pub returns : goal.returns
returns c = λ settled.
    settled (launcher 0) (Event.OpenSession (launcher 0)) refl (record { accepted = refl; maker = refl; row = refl })
