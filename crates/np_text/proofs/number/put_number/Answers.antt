use Rattle.np_text.proofs.Prelude.{ap, without_zeros, ◌++◌, ◌∙◌}
use Rattle.np_text.proofs.SpellingLemmas.{without_zeros-padded}
use Rattle.np_text.proofs.number.put_number.Goals as goal

pub returns-clause-ok : goal.returns-clause-ok
returns-clause-ok c =
    let spelled = c.without_zeros.ensures ∙ ap without_zeros c.fill_digits.ensures ∙ without_zeros-padded c.args.n c.ranges.n.fits in
    c.in_ok-extend_from_slice.ensures.items ∙ ap (λ ds. c.args.out.now.items ++ ds) spelled
