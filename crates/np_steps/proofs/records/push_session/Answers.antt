use Rattle.np_steps.proofs.Prelude.{OnOk, Session, SessionFacts, SessionsChange, session_of, session_parts, session_text, set, subst, sym, true, [], ◌++◌, ◌∷◌, ◌≡◌}
use Rattle.np_steps.proofs.RecordRows.{none-parts, session-role, there-parts}
use Rattle.np_steps.proofs.records.push_session.Goals as goal

pub push_muted-requires : goal.push_muted-requires
push_muted-requires g c = session-role (g.R.Rows.state c.args.rows.now) c.in-Mute.session c.in-Some.facts c.requires c.in-Some.ensures

pub returns-in-Some : goal.returns-in-Some
returns-in-Some g c =
    let s = g.R.Rows.state c.args.rows.now in
    subst (λ (change : SessionsChange). OnOk c.push_muted.result (c.push_muted.new.ops.items ≡ c.args.ops.now.items ++ session_parts change s)) (sym c.in-Mute.is)
    (there-parts (λ (facts : SessionFacts). set (session_text (record { mute = true; role = facts.role })) (Session c.in-Mute.session) ∷ []) _ _ _ (session_of c.in-Mute.session s) c.in-Some.facts c.in-Some.ensures c.push_muted.ensures)

pub returns-in-None : goal.returns-in-None
returns-in-None g c =
    let s = g.R.Rows.state c.args.rows.now in
    subst (λ (change : SessionsChange). c.args.ops.now.items ≡ c.args.ops.now.items ++ session_parts change s) (sym c.in-Mute.is)
    (none-parts (λ (facts : SessionFacts). set (session_text (record { mute = true; role = facts.role })) (Session c.in-Mute.session) ∷ []) _ (session_of c.in-Mute.session s) c.in-None.ensures)
