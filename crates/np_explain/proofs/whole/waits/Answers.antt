use Rattle.np_explain.proofs.Prelude.{RunsOn-fits}
use Rattle.np_explain.proofs.whole.waits.Goals as goal

pub chains-requires : goal.chains-requires
chains-requires c = RunsOn-fits _ _ _ _ c.know_soundness.ensures.site c.know_soundness.ensures.runs

pub returns : goal.returns
returns c = record {
  links = c.in_ok-links.links.items;
  explains = c.in_ok-links.ensures;
  is = rw (c.as_slice.ensures.value, c.config.ensures, c.rows.ensures.site, c.new-out.ensures.items) at c.in_ok-put_links.ensures;
}
