use Rattle.np_spelling.proofs.Prelude.{append-nil, append_assoc, refl}
use Rattle.np_spelling.proofs.node.put_head.Goals as goal

pub returns : goal.returns
returns c = rw (c.in_ok-put-2.ensures, c.flag_word.ensures, c.in_ok-put.ensures, c.in_ok-put_u8.ensures, c.in_ok-put_front.ensures) (simp (append_assoc, append-nil) refl)
