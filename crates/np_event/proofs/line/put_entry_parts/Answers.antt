use Rattle.np_event.proofs.Prelude.{on_err_weaker}
use Rattle.np_event.proofs.Fields.{StartsWith-grown}
use Rattle.np_event.proofs.line.put_entry_parts.Goals as goal

pub returns-clause-err : goal.returns-clause-err
returns-clause-err c =
    on_err_weaker c.put_reply_parts.result
    (λ starts. StartsWith-grown _ _ _ _ _ _ starts c.in_ok-extend_from_slice.ensures.items c.in_ok-put_event_parts.ensures.ok)
    c.put_reply_parts.ensures.err
