use Rattle.np_keeper.proofs.Prelude.{IsHeld, IsReady, IsStored, SiteState, State, TreeState, ap, arith, decoded, on_err_weaker, on_ok_weaker, parts_of, refl, subst, sym, trees-have-one_state, ◌<◌, ◌∙◌, ◌≡◌}
use Rattle.np_keeper.proofs.Enacted.{can-make, either-way, enact, err-always, held-reserved, holds-made}
use Rattle.np_keeper.proofs.change.enact_changes.Goals as goal

pub returns-in_err-reserve-clause-held : goal.returns-in_err-reserve-clause-held
returns-in_err-reserve-clause-held c = (held-reserved c.args.config.now c.args.tree.now c.reserve.new.tree c.reserve.ensures.same c.requires.held).held

pub returns-in_err-reserve-clause-err : goal.returns-in_err-reserve-clause-err
returns-in_err-reserve-clause-err c = err-always c.from_residual.result (held-reserved c.args.config.now c.args.tree.now c.reserve.new.tree c.reserve.ensures.same c.requires.held).state

pub new-requires-clause-stored : goal.new-requires-clause-stored
new-requires-clause-stored c = (held-reserved c.args.config.now c.args.tree.now c.reserve.new.tree c.reserve.ensures.same c.requires.held).held.stored

pub parts-requires-clause-stored : goal.parts-requires-clause-stored
parts-requires-clause-stored c = subst (λ (k : SiteState). IsStored k.configuration k.state c.reserve.new.tree) (sym c.new.ensures) (held-reserved c.args.config.now c.args.tree.now c.reserve.new.tree c.reserve.ensures.same c.requires.held).held.stored

pub parts-requires-clause-ready : goal.parts-requires-clause-ready
parts-requires-clause-ready c =
    subst (λ (k : SiteState). IsReady k.configuration c.args.changes.now k.state) (sym c.new.ensures)
    (subst (IsReady c.args.config.now c.args.changes.now) (sym (held-reserved c.args.config.now c.args.tree.now c.reserve.new.tree c.reserve.ensures.same c.requires.held).state) c.requires.ready.ready)

pub returns-in_err-ops-clause-held : goal.returns-in_err-ops-clause-held
returns-in_err-ops-clause-held c = (held-reserved c.args.config.now c.args.tree.now c.reserve.new.tree c.reserve.ensures.same c.requires.held).held

pub returns-in_err-ops-clause-err : goal.returns-in_err-ops-clause-err
returns-in_err-ops-clause-err c = err-always c.from_residual-in_err-ops.result (held-reserved c.args.config.now c.args.tree.now c.reserve.new.tree c.reserve.ensures.same c.requires.held).state

pub make-requires-clause-can : goal.make-requires-clause-can
make-requires-clause-can c =
    let config = c.args.config.now in
    let ch = c.args.changes.now in
    let s = decoded config c.args.tree.now in
    let t = c.reserve.new.tree in
    let holds = held-reserved config c.args.tree.now t c.reserve.ensures.same c.requires.held in
    let ops = c.as_slice.ensures.value ∙ c.in_ok-ops.ensures.parts ∙ ap (λ (k : SiteState). parts_of k.configuration ch k.state t) c.new.ensures ∙ ap (λ (x : State). parts_of config ch x t) holds.state in
    can-make enact trees-have-one_state config ch s c.args.tree.now t c.reserve.ensures.same (record { held = c.requires.held; state = refl }) c.requires.low c.requires.ready c.as_slice.result.now ops c.in_ok-reserve.ensures.ok

pub returns-clause-held : goal.returns-clause-held
returns-clause-held c =
    let config = c.args.config.now in
    let ch = c.args.changes.now in
    let s = decoded config c.args.tree.now in
    let t = c.reserve.new.tree in
    let holds = held-reserved config c.args.tree.now t c.reserve.ensures.same c.requires.held in
    let ops = c.as_slice.ensures.value ∙ c.in_ok-ops.ensures.parts ∙ ap (λ (k : SiteState). parts_of k.configuration ch k.state t) c.new.ensures ∙ ap (λ (x : State). parts_of config ch x t) holds.state in
    either-way c.make.result c.make.ensures.ok c.make.ensures.err (λ is. (holds-made enact trees-have-one_state config ch s c.args.tree.now t c.reserve.ensures.same (record { held = c.requires.held; state = refl }) c.requires.low c.requires.ready c.as_slice.result.now c.make.new.tree ops is).held) (λ is. subst (IsHeld config) (sym is) holds.held)

pub returns-clause-ok : goal.returns-clause-ok
returns-clause-ok c =
    let config = c.args.config.now in
    let ch = c.args.changes.now in
    let s = decoded config c.args.tree.now in
    let t = c.reserve.new.tree in
    let holds = held-reserved config c.args.tree.now t c.reserve.ensures.same c.requires.held in
    let ops = c.as_slice.ensures.value ∙ c.in_ok-ops.ensures.parts ∙ ap (λ (k : SiteState). parts_of k.configuration ch k.state t) c.new.ensures ∙ ap (λ (x : State). parts_of config ch x t) holds.state in
    on_ok_weaker c.make.result (λ is. (holds-made enact trees-have-one_state config ch s c.args.tree.now t c.reserve.ensures.same (record { held = c.requires.held; state = refl }) c.requires.low c.requires.ready c.as_slice.result.now c.make.new.tree ops is).state) c.make.ensures.ok

pub returns-clause-err : goal.returns-clause-err
returns-clause-err c =
    on_err_weaker c.make.result (λ is. ap (decoded c.args.config.now) is ∙ (held-reserved c.args.config.now c.args.tree.now c.reserve.new.tree c.reserve.ensures.same c.requires.held).state) c.make.ensures.err
