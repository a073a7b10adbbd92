use Rattle.np_look.proofs.Prelude.{SessionFacts, Some, add-one, is_requesters, refl, slice_get, sym, ◌&&◌, ◌∙◌}
use Rattle.np_look.proofs.Looks.{any_found, any_later, as_it_is, session-there}
use Rattle.np_look.proofs.scan.ScanLook.has_live_session.Goals as goal

pub returns-then-is_live_of : goal.returns-then-is_live_of
returns-then-is_live_of g c =
    sym (any_found (λ (f : SessionFacts). f.live && is_requesters c.args.requester (Some f.role)) (λ (f : SessionFacts). f) (λ (f : SessionFacts). f.live && is_requesters c.args.requester (Some f.role)) (λ f. refl) (g.R.Rows.state c.args.self.now.rows.now).sessions c.loop-at.at c.in-Some.facts (as_it_is (slice_get (g.R.Rows.state c.args.self.now.rows.now).sessions c.loop-at.at) c.in-Some.facts (session-there (g.R.Rows.state c.args.self.now.rows.now) c.loop-at.at c.in-Some.facts (sym c.in-Some.ensures))) (cc)) ∙ c.loop-at.invariant

pub loop-at-preserved : goal.loop-at-preserved
loop-at-preserved g c =
    rw add-one (sym (any_later (λ (f : SessionFacts). f.live && is_requesters c.args.requester (Some f.role)) (λ (f : SessionFacts). f) (λ (f : SessionFacts). f.live && is_requesters c.args.requester (Some f.role)) (λ f. refl) (g.R.Rows.state c.args.self.now.rows.now).sessions c.loop-at.at c.in-Some.facts (as_it_is (slice_get (g.R.Rows.state c.args.self.now.rows.now).sessions c.loop-at.at) c.in-Some.facts (session-there (g.R.Rows.state c.args.self.now.rows.now) c.loop-at.at c.in-Some.facts (sym c.in-Some.ensures))) (cc)) ∙ c.loop-at.invariant)
