use Rattle.np_report.proofs.PlayedLemmas.{printed-script}
use Rattle.np_report.proofs.law.a_script_plays_safely.Goals as goal

pub returns : goal.returns
returns c = printed-script
