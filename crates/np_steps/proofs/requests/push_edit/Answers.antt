use Rattle.np_steps.proofs.Prelude.{IsRequest, OnOk, Option, Request, RequestRecord, edited, request_in, request_record_text, set, subst, sym, where_there, [], ◌++◌, ◌∷◌, ◌≡◌}
use Rattle.np_steps.proofs.RecordRows.{parts-none, request-edited, request-text}
use Rattle.np_steps.proofs.requests.push_edit.Goals as goal

pub returns-in_default : goal.returns-in_default
returns-in_default g c =
    let s = g.R.Rows.state c.args.rows.now in
    parts-none (request_in c.args.id s.requests) (λ kept. set (request_record_text (edited c.args.edit kept)) (Request c.args.id) ∷ []) c.args.ops.now.items c.in_default.ensures

pub edited-later-requires : goal.edited-later-requires
edited-later-requires g c =
    let s = g.R.Rows.state c.args.rows.now in
    request-edited s.requests c.args.id c.args.edit c.in-Some.kept c.requires.spelled c.in-Some.ensures

pub push_set-requires-clause-good : goal.push_set-requires-clause-good
push_set-requires-clause-good g c =
    let s = g.R.Rows.state c.args.rows.now in
    request-text (g.R.Rows.site c.args.rows.now) s c.requires.carried c.args.id c.in-Some.kept c.in-Some.ensures

pub push_set-requires-clause-sound : goal.push_set-requires-clause-sound
push_set-requires-clause-sound g c =
    let s = g.R.Rows.state c.args.rows.now in
    subst IsRequest (sym c.edited-later.ensures) (request-edited s.requests c.args.id c.args.edit c.in-Some.kept c.requires.spelled c.in-Some.ensures)

pub returns : goal.returns
returns g c =
    let s = g.R.Rows.state c.args.rows.now in
    let is = c.in-Some.ensures in
    let written = subst (λ (later : RequestRecord). OnOk c.push_set.result (c.push_set.new.ops.items ≡ c.args.ops.now.items ++ set (request_record_text later) (Request c.args.id) ∷ [])) c.edited-later.ensures c.push_set.ensures in
    subst (λ (o : Option RequestRecord). OnOk c.push_set.result (c.push_set.new.ops.items ≡ c.args.ops.now.items ++ where_there o (λ kept. set (request_record_text (edited c.args.edit kept)) (Request c.args.id) ∷ []))) is written
