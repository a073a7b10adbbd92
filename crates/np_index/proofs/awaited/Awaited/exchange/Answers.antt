use Rattle.np_index.proofs.Prelude.{Amount, AreSmall, List, ap, subst, sym, with_rest, without_rest, ◌∙◌, ◌≡◌}
use Rattle.np_index.proofs.awaited.Awaited.exchange.Goals as goal

pub returns : goal.returns
returns c =
    let less : c.take_off.new.amounts.items ≡ without_rest c.args.before c.args.self.now = c.take_off.ensures ∙ ap (without_rest c.args.before) c.self.view_is in
    λ small.
    c.add.ensures (subst (λ (list : List Amount). AreSmall (with_rest c.args.after list)) (sym less) small)
    ∙ ap (with_rest c.args.after) less
