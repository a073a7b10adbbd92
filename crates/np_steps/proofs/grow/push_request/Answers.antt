use Rattle.np_steps.proofs.Prelude.{request_record_text, ◌∙◌}
use Rattle.np_steps.proofs.RecordRows.{on-ok, request-pushed}
use Rattle.np_steps.proofs.grow.push_request.Goals as goal

pub returns : goal.returns
returns c = on-ok c.push_make.result
    (λ locked. request-pushed c.args.ops.now.items c.push.new.self.items c.push_make.new.ops.items c.args.id c.in_ok-path.path c.new-bytes.result (request_record_text c.args.kept.now)
    c.in_ok-push.ensures.items c.in_ok-path.ensures (c.new-bytes.ensures ∙ c.in_ok-text.ensures) locked)
    c.push_make.ensures
