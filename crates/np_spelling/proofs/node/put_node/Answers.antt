use Rattle.np_spelling.proofs.Prelude.{codes, decimal, flag_text, node_front, node_server, node_state_word, node_tenant}
use Rattle.np_spelling.proofs.Records.{regroup}
use Rattle.np_spelling.proofs.node.put_node.Goals as goal

pub returns : goal.returns
returns c =
    let n = c.args.node.now in
    rw (c.in_ok-put_tenant.ensures, c.in_ok-put_age.ensures, c.in_ok-put_place.ensures, c.in_ok-put_head.ensures)
    (regroup c.args.out.now.items (node_front n.allocated_to) (decimal n.attempts) (codes ",\"in-flight\":") (flag_text n.in_flight) (codes ",\"label\":") (decimal n.label.0) (codes ",\"pool\":") (decimal n.pool.0)
    (node_server n.server) (decimal n.since) (codes ",\"start\":") (decimal n.start) (codes ",\"state\":\"") (node_state_word n.state) (codes "\"") (node_tenant n.tenant))
