use Rattle.np_steps.proofs.Prelude.{Growth, GrowthReady, NodeEntry, NodeLock, Option, RequestEntry, RequestLock, RequestRecord, Session, ap, arith, by_session, false, grown_parts, join_parts, length, make, node_parts, node_text, option_map_or, request_parts, request_record_text, session_text, subst, sym, ℕ, [], ◌++◌, ◌+◌, ◌∙◌, ◌∷◌, ◌≡◌}
use Rattle.np_steps.proofs.RecordRows.{on-ok, grown-request-text}
use Rattle.np_steps.proofs.grow.push_growth.Goals as goal

pub overflow_add-session : goal.overflow_add-session
overflow_add-session g c =
    let s = g.R.Rows.state c.args.rows.now in
    let ready = subst (λ (grows : Growth). GrowthReady (g.R.Rows.site c.args.rows.now) c.args.maker grows s) c.in-Session.is c.requires.ready in
    let counted : c.sessions.result ≡ length s.sessions = c.sessions.ensures in
    omega (arith, counted, ready.1.0)

pub push_request_wait-requires : goal.push_request_wait-requires
push_request_wait-requires g c =
    let s = g.R.Rows.state c.args.rows.now in
    let ready = subst (λ (grows : Growth). GrowthReady (g.R.Rows.site c.args.rows.now) c.args.maker grows s) c.in-JoinRequest.is c.requires.ready in
    grown-request-text (g.R.Rows.site c.args.rows.now) s c.args.tree.now c.requires.stored c.in-JoinRequest.request ready.0 ready.1

pub returns-in-Session : goal.returns-in-Session
returns-in-Session g c =
    let s = g.R.Rows.state c.args.rows.now in
    let counted : c.sessions.result ≡ length s.sessions = c.sessions.ensures in
    on-ok c.push_session.result
    (λ made. made
    ∙ ap (λ (n : ℕ). c.args.ops.now.items ++ make (session_text (record { mute = false; role = c.in-Session.role })) (Session (record { 0 = n + 1 })) ∷ []) counted
    ∙ sym (ap (λ (grows : Growth). c.args.ops.now.items ++ grown_parts (g.R.Rows.site c.args.rows.now) c.args.maker grows s) c.in-Session.is))
    c.push_session.ensures

pub returns-in-Request : goal.returns-in-Request
returns-in-Request g c =
    let s = g.R.Rows.state c.args.rows.now in
    on-ok c.push_request.result
    (λ made. made
    ∙ ap (λ (n : ℕ). c.args.ops.now.items ++ request_parts (record { priority = c.in-Request.priority; seq = n }) (request_record_text c.new_record-kept.result)) c.next_request-seq.ensures
    ∙ ap (λ (kept : RequestRecord). c.args.ops.now.items ++ request_parts (record { priority = c.in-Request.priority; seq = s.next_request }) (request_record_text kept)) c.new_record-kept.ensures
    ∙ sym (ap (λ (grows : Growth). c.args.ops.now.items ++ grown_parts (g.R.Rows.site c.args.rows.now) c.args.maker grows s) c.in-Request.is))
    c.push_request.ensures

pub returns-in-Node : goal.returns-in-Node
returns-in-Node g c =
    let s = g.R.Rows.state c.args.rows.now in
    on-ok c.push_node.result
    (λ made. made
    ∙ ap (λ (n : ℕ). c.args.ops.now.items ++ node_parts (record { 0 = n }) (node_text c.in-Node.kept)) c.next_node.ensures
    ∙ sym (ap (λ (grows : Growth). c.args.ops.now.items ++ grown_parts (g.R.Rows.site c.args.rows.now) c.args.maker grows s) c.in-Node.is))
    c.push_node.ensures

pub returns-in-JoinRequest : goal.returns-in-JoinRequest
returns-in-JoinRequest g c =
    let s = g.R.Rows.state c.args.rows.now in
    let ready = subst (λ (grows : Growth). GrowthReady (g.R.Rows.site c.args.rows.now) c.args.maker grows s) c.in-JoinRequest.is c.requires.ready in
    on-ok c.push_request_wait.result
    (λ joined. joined
    ∙ sym (ap (λ (o : Option RequestEntry). c.args.ops.now.items ++ by_session c.args.maker (join_parts (RequestLock c.in-JoinRequest.request) (option_map_or (λ (e : RequestEntry). e.queue) o []))) ready.1)
    ∙ sym (ap (λ (grows : Growth). c.args.ops.now.items ++ grown_parts (g.R.Rows.site c.args.rows.now) c.args.maker grows s) c.in-JoinRequest.is))
    (c.push_request_wait.ensures (g.R.Rows.site c.args.rows.now) s ready.0 c.requires.stored ready.1)

pub returns-in-JoinNode : goal.returns-in-JoinNode
returns-in-JoinNode g c =
    let s = g.R.Rows.state c.args.rows.now in
    let ready = subst (λ (grows : Growth). GrowthReady (g.R.Rows.site c.args.rows.now) c.args.maker grows s) c.in-JoinNode.is c.requires.ready in
    on-ok c.push_node_wait.result
    (λ joined. joined
    ∙ sym (ap (λ (o : Option NodeEntry). c.args.ops.now.items ++ by_session c.args.maker (join_parts (NodeLock c.in-JoinNode.node) (option_map_or (λ (e : NodeEntry). e.queue) o []))) ready.1)
    ∙ sym (ap (λ (grows : Growth). c.args.ops.now.items ++ grown_parts (g.R.Rows.site c.args.rows.now) c.args.maker grows s) c.in-JoinNode.is))
    (c.push_node_wait.ensures (g.R.Rows.site c.args.rows.now) s ready.0 c.requires.stored ready.1)

pub returns-in-Swept : goal.returns-in-Swept
returns-in-Swept g c =
    let s = g.R.Rows.state c.args.rows.now in
    on-ok c.push_swept.result
    (λ made. made ∙ sym (ap (λ (grows : Growth). c.args.ops.now.items ++ grown_parts (g.R.Rows.site c.args.rows.now) c.args.maker grows s) c.in-Swept.is))
    c.push_swept.ensures
