use Rattle.np_janitor.proofs.Prelude.{Janitor, janitor_order, opening-chooses, sym}
use Rattle.np_janitor.proofs.Janitors.{janitor-law, last-chooses}
use Rattle.np_janitor.proofs.janitor.choose_janitor.Goals as goal

pub returns-in_default : goal.returns-in_default
returns-in_default g c =
    opening-chooses (g.L.Look.site c.args.look.now) (g.L.Look.state c.args.look.now) (Janitor c.args.pool) janitor_order
    (janitor-law (g.L.Look.site c.args.look.now) (g.L.Look.state c.args.look.now) c.args.pool)
    c.in_default.ensures c.choose_opening.result c.choose_opening.ensures

pub returns : goal.returns
returns g c =
    last-chooses (g.L.Look.site c.args.look.now) (g.L.Look.state c.args.look.now) c.args.pool c.in-Some.session c.in-Some.ensures
    c.first_of_kinds-found.result c.first_of_kinds-found.ensures (sym c.if-is_some.ensures)
    c.first_fail-found.result c.first_fail-found.ensures (sym c.if-is_some-2.ensures)
    c.first_finish-found.result c.first_finish-found.ensures (sym c.if-is_some-3.ensures)
    c.first_release_of_all-found.result c.first_release_of_all-found.ensures (sym c.if-is_some-4.ensures)
    c.first_request_lock-found.result c.first_request_lock-found.ensures (sym c.if-is_some-5.ensures)
    c.first_node_lock.result c.first_node_lock.ensures
