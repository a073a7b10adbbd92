use Rattle.np_tables.proofs.Prelude.{left, refl}
use Rattle.np_tables.proofs.TableLemmas.{request-queued}
use Rattle.np_tables.proofs.settle.leave_request.Goals as goal

pub returns-in-Some : goal.returns-in-Some
returns-in-Some c = rw c.in-Some.is (rw (c.edit.ensures, request-queued (left c.in-Some.maker.session) c.args.request c.args.requests.now.rows) refl)
