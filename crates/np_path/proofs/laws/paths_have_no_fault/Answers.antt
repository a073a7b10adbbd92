use Rattle.np_path.proofs.GrammarLemmas.{is_path-no_fault}
use Rattle.np_path.proofs.laws.paths_have_no_fault.Goals as goal

pub returns : goal.returns
returns c = is_path-no_fault
