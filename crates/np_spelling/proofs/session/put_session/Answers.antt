use Rattle.np_spelling.proofs.Prelude.{append_assoc, refl}
use Rattle.np_spelling.proofs.session.put_session.Goals as goal

pub returns : goal.returns
returns c = rw (c.in_ok-put-4.ensures, c.in_ok-put_role_name.ensures, c.in_ok-put-3.ensures, c.in_ok-put-2.ensures, c.flag_word.ensures, c.in_ok-put.ensures) (simp append_assoc refl)
