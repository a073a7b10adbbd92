use Rattle.np_steps.proofs.Prelude.{OnOk, Option, RequestLock, RequestRecord, leave_parts, request_in, subst, where_there, ◌++◌, ◌≡◌}
use Rattle.np_steps.proofs.RecordRows.{parts-none, request-text}
use Rattle.np_steps.proofs.requests.push_leaving.Goals as goal

pub returns-in_default : goal.returns-in_default
returns-in_default g c =
    let s = g.R.Rows.state c.args.rows.now in
    parts-none (request_in c.args.id s.requests) (λ kept. leave_parts (RequestLock c.args.id) c.args.tree.now c.args.session) c.args.ops.now.items c.in_default.ensures

pub push_leave-requires : goal.push_leave-requires
push_leave-requires g c =
    let s = g.R.Rows.state c.args.rows.now in
    request-text (g.R.Rows.site c.args.rows.now) s c.requires c.args.id c.in-Some.field-0 c.in-Some.ensures

pub returns : goal.returns
returns g c =
    let s = g.R.Rows.state c.args.rows.now in
    subst (λ (o : Option RequestRecord). OnOk c.push_leave.result (c.push_leave.new.ops.items ≡ c.args.ops.now.items ++ where_there o (λ kept. leave_parts (RequestLock c.args.id) c.args.tree.now c.args.session)))
    c.in-Some.ensures c.push_leave.ensures
