use Rattle.np_steps.proofs.Prelude.{Bool, Maker, Option, RequestLock, ap, by_session, cond, join_parts, sym, wait_at, [], ◌++◌, ◌∙◌, ◌∷◌}
use Rattle.np_steps.proofs.RecordRows.{request-waits, on-ok}
use Rattle.np_steps.proofs.grow.push_request_wait.Goals as goal

pub returns-in-Some : goal.returns-in-Some
returns-in-Some c config s e stored there = on-ok c.push_join.result
    (λ joined. joined
    ∙ ap (λ (b : Bool). c.args.ops.now.items ++ cond b [] (wait_at (RequestLock c.args.request) ∷ [])) (request-waits config s c.args.tree.now stored c.in-Some.maker.session c.args.request e there)
    ∙ sym (ap (λ (who : Option Maker). c.args.ops.now.items ++ by_session who (join_parts (RequestLock c.args.request) e.queue)) c.in-Some.is))
    c.push_join.ensures
