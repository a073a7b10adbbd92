use Rattle.np_layout.proofs.FirstTrees.{first-goes, first-lays}
use Rattle.np_layout.proofs.laws.first_trees_lay_out_the_start.Goals as goal

pub returns-clause-accepted : goal.returns-clause-accepted
returns-clause-accepted c = first-goes

pub returns-clause-lays : goal.returns-clause-lays
returns-clause-lays c = first-lays
