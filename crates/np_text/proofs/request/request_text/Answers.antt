use Rattle.np_text.proofs.Prelude.{ap, padded, ◌∙◌}
use Rattle.np_text.proofs.RequestLemmas.{request_written}
use Rattle.np_text.proofs.request.request_text.Goals as goal

pub returns : goal.returns
returns c = request_written c.args.id _ _ c.requires.least c.requires.most (c.fill_digits.ensures ∙ ap (padded 3) c.from.ensures) (c.fill_digits-2.ensures ∙ ap (padded _) c.from-2.ensures)
