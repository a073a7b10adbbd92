use Rattle.np_steps.proofs.Prelude.{List, OnOk, Op, Option, Request, RequestLock, RequestRecord, ap, delete, delete_parts, path_of, request_deletes, request_in, subst, under, where_there, ◌≡◌}
use Rattle.np_steps.proofs.RecordRows.{parts-behind, parts-none, request-text}
use Rattle.np_steps.proofs.requests.push_removal.Goals as goal

pub returns-in_default : goal.returns-in_default
returns-in_default g c =
    let s = g.R.Rows.state c.args.rows.now in
    parts-none (request_in c.args.id s.requests) (λ kept. request_deletes c.args.id c.args.tree.now) c.args.ops.now.items c.in_default.ensures

pub push_deletes-requires : goal.push_deletes-requires
push_deletes-requires g c =
    let s = g.R.Rows.state c.args.rows.now in
    request-text (g.R.Rows.site c.args.rows.now) s c.requires c.args.id c.in-Some.field-0 c.in-Some.ensures

pub push_delete-requires : goal.push_delete-requires
push_delete-requires g c =
    let s = g.R.Rows.state c.args.rows.now in
    request-text (g.R.Rows.site c.args.rows.now) s c.requires c.args.id c.in-Some.field-0 c.in-Some.ensures

pub push_delete-requires-2 : goal.push_delete-requires-2
push_delete-requires-2 g c =
    let s = g.R.Rows.state c.args.rows.now in
    request-text (g.R.Rows.site c.args.rows.now) s c.requires c.args.id c.in-Some.field-0 c.in-Some.ensures

pub returns : goal.returns
returns g c =
    let s = g.R.Rows.state c.args.rows.now in
    let lock = RequestLock c.args.id in
    let is = c.in-Some.ensures in
    let all = ap (λ (o : Option RequestRecord). where_there o (λ kept. request_deletes c.args.id c.args.tree.now)) is in
    let behind = parts-behind c.args.ops.now.items (delete_parts (path_of lock) (under lock c.args.tree.now)) c.push_deletes.new.ops.items c.push_delete.new.ops.items
    (where_there (request_in c.args.id s.requests) (λ kept. request_deletes c.args.id c.args.tree.now)) (delete lock) (delete (Request c.args.id)) c.in_ok-push_deletes.ensures c.in_ok-push_delete.ensures all in
    subst (λ (items : List Op). OnOk c.push_delete-2.result (c.push_delete-2.new.ops.items ≡ items)) behind c.push_delete-2.ensures
