use Rattle.np_explain_lines.proofs.Prelude.{Link, Some, ap, option_map, slice_get-get_or, slice_get-map, sym, ◌∙◌}
use Rattle.np_explain_lines.proofs.told.fact_at.Goals as goal

pub returns-then-is_same : goal.returns-then-is_same
returns-then-is_same c = (
  sym c.about.ensures ∙ c.is_same.ensures c.if-is_same.true,
  (
    c.args.at,
    slice_get-map (λ (l : Link). l.fact) c.args.links.now c.args.at
        ∙ ap (option_map (λ (l : Link). l.fact)) (slice_get-get_or c.args.links.now c.args.at c.in_ok-link.link.now c.in_ok-link.ensures.lookup.3.0 ∙ ap Some (sym c.in_ok-link.ensures.lookup.1)),
  ),
)
