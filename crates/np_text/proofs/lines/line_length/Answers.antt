use Rattle.np_text.proofs.LineLemmas.{unwrap_or-position}
use Rattle.np_text.proofs.lines.line_length.Goals as goal

pub returns-clause-length : goal.returns-clause-length
returns-clause-length c = rw (c.unwrap_or.ensures, c.first_newline.ensures) (unwrap_or-position _ c.args.text.now)
