use Rattle.np_worked.proofs.Prelude.{launcher, refl, requester}
use Rattle.np_worked.proofs.DrivenLemmas.{by, ◌then◌}
use Rattle.np_worked.proofs.useful.whole.the_plain_path_was_driven.Goals as goal

pub returns : goal.returns
returns c =
    by (launcher 0) refl then by (requester 0) refl then by (launcher 0) refl then by (requester 0) refl
    then by (launcher 0) refl then by (launcher 0) refl then by (launcher 0) refl
    then by (launcher 0) refl then by (launcher 0) refl then by (launcher 0) refl then tt
