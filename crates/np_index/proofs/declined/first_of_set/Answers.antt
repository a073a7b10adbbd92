use Rattle.np_index.proofs.Prelude.{◌∙◌}
use Rattle.np_index.proofs.Requests.{no-first, no-record, first-passes-all, first-fails}
use Rattle.np_index.proofs.declined.first_of_set.Goals as goal

pub returns-in_err-request : goal.returns-in_err-request
returns-in_err-request g c =
    c.from_residual.ensures
    ∙ no-first _ _ _ c.requires.classes c.requires.some c.requires.known c.args.set _ c.declined_group.ensures _ c.request_at.ensures c.in_err-request.was

pub returns-in_err-kept : goal.returns-in_err-kept
returns-in_err-kept g c =
    c.from_residual-in_err-kept.ensures
    ∙ no-record _ _ _ c.requires.classes c.requires.some c.requires.known c.args.set _ c.declined_group.ensures _ c.request_at.ensures c.in_ok-request.request c.in_ok-request.was _ c.request.ensures c.in_err-kept.was

pub returns-then-is_declined_by_all : goal.returns-then-is_declined_by_all
returns-then-is_declined_by_all g c =
    first-passes-all _ _ _ c.requires.classes c.requires.some c.requires.known c.args.set _ c.declined_group.ensures _ c.request_at.ensures c.in_ok-request.request c.in_ok-request.was _ c.request.ensures
    c.in_ok-kept.kept c.in_ok-kept.was _ c.is_declined_by_all.ensures c.if-is_declined_by_all.true

pub returns-else-is_declined_by_all : goal.returns-else-is_declined_by_all
returns-else-is_declined_by_all g c =
    first-fails _ _ _ c.requires.classes c.requires.some c.requires.known c.args.set _ c.declined_group.ensures _ c.request_at.ensures c.in_ok-request.request c.in_ok-request.was _ c.request.ensures
    c.in_ok-kept.kept c.in_ok-kept.was _ c.is_declined_by_all.ensures c.if-is_declined_by_all.false
