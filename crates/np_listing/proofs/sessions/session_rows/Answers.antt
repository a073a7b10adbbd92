use Rattle.np_listing.proofs.Prelude.{SessionFacts, Some, session_row, session_rows, slice_get, sym, ℕ, ◌+◌, ◌∙◌, ◌≡◌}
use Rattle.np_listing.proofs.Walks.{numbered-put, session_of-next}
use Rattle.np_listing.proofs.sessions.session_rows.Goals as goal

pub loop-at-preserved : goal.loop-at-preserved
loop-at-preserved g c =
    let site = g.R.Rows.site c.args.rows.now in
    let state = g.R.Rows.state c.args.rows.now in
    let there : slice_get state.sessions c.loop-at.at ≡ Some c.in-Some.facts = sym (session_of-next state c.loop-at.at) ∙ sym c.in-Some.ensures in
    numbered-put (λ (n : ℕ) (facts : SessionFacts). session_row site state (record { 0 = n }) facts) state.sessions c.loop-at.at (c.loop-at.at + 1) c.in-Some.facts
    c.in_ok-session_row.field-0 c.loop-at.table.items c.push-in-loop-at.new.self.items (session_rows site state)
    there c.in_ok-session_row.ensures c.in_ok-push-2.ensures.items c.loop-at.invariant
