use Rattle.np_explain.proofs.Prelude.{drop, link_lines, ◌++◌, ◌≡◌}
use Rattle.np_explain.proofs.waits.put_links.Given as goal

abbrev pub invariant-loop-link : goal.invariant-loop-link
invariant-loop-link l = l.out.items ++ link_lines l.config (drop l.link-index l.links) ≡ l.fn.out.items ++ link_lines l.config l.links
