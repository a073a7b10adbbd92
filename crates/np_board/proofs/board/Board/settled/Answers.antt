use Rattle.np_board.proofs.Prelude.{IsSettled, Planning, subst, true, ◌↔◌, ◌≡◌}
use Rattle.np_board.proofs.board.Board.settled.Goals as goal

pub returns : goal.returns
returns c = subst (λ (m : Planning). (c.has_settled.result ≡ true) ↔ IsSettled m.configuration m.state) c.self.view_is c.has_settled.ensures
