use Rattle.np_spelling.proofs.Prelude.{node_front_in, sym, ◌∙◌}
use Rattle.np_spelling.proofs.node.front.Goals as goal

pub returns-in_ok-id : goal.returns-in_ok-id
unfolding node_front_in
returns-in_ok-id c =
    let chosen = sym c.begins.ensures ∙ c.if-begins.true in
    rw (c.in_ok-lead.ensures, chosen, c.in_ok-lead-2.ensures, c.in_ok-id.ensures) c.spelled.ensures
