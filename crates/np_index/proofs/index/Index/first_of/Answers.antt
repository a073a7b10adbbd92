use Rattle.np_index.proofs.Prelude.{◌∙◌}
use Rattle.np_index.proofs.CandidateLemmas.{candidate-first}
use Rattle.np_index.proofs.index.Index.first_of.Goals as goal

pub returns : goal.returns
returns g c =
    c.candidate_at.ensures
    ∙ candidate-first (g.R.Rows.site c.args.rows.now) (g.R.Rows.state c.args.rows.now) c.args.pool c.requires.index.requested.once
