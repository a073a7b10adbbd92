use Rattle.np_spelling.proofs.Prelude.{ap, arith, length}
use Rattle.np_spelling.proofs.Readers.{left_of}
use Rattle.np_spelling.proofs.Records.{node_read}
use Rattle.np_spelling.proofs.node.read_node.Goals as goal

pub answer-requires : goal.answer-requires
answer-requires c = omega (arith, left_of node_read _ _ _ c.node-found.ensures, ap length c.new-cursor.ensures)
