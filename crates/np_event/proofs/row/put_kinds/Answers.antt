use Rattle.np_event.proofs.Prelude.{StartsWith}
use Rattle.np_event.proofs.Fields.{HasWord-at, OnErr-from, StartsWith-grown, texts_more}
use Rattle.np_event.proofs.row.put_kinds.Goals as goal

pub returns-in_err-put_field-clause-err : goal.returns-in_err-put_field-clause-err
returns-in_err-put_field-clause-err c =
    OnErr-from c.from_residual-in_err-put_field.result (StartsWith c.put_field.new.out.items c.args.out.now.items)
    (StartsWith-grown _ _ _ _ _ _ c.in_err-put_field.ensures.err c.in_ok-push.ensures.items c.loop-kind.invariant)

pub put_field-requires : goal.put_field-requires
put_field-requires c = HasWord-at c.args.kinds.now c.loop-kind.kind-index _ c.args.fields.now c.requires c.loop-kind-test.true

pub loop-kind-preserved : goal.loop-kind-preserved
loop-kind-preserved c =
    texts_more c.args.kinds.now c.loop-kind.kind-index _ c.args.fields.now _ _ _ _ c.loop-kind-test.true c.loop-kind.invariant c.in_ok-push.ensures.items c.in_ok-put_field.ensures.ok
