use Rattle.np_worker.proofs.Prelude.{WasAnswered}
use Rattle.np_worker.proofs.Board.{unwanted_gone}
use Rattle.np_worker.proofs.law.servers.unwanted_servers_go_in_a_whole_round.Goals as goal

pub returns : goal.returns
returns g = λ plans c drivings. unwanted_gone c plans (WasAnswered drivings)
