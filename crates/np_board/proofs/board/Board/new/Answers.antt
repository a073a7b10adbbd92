use Rattle.np_board.proofs.Prelude.{List, Pool, Running, TreeState, ap, length, planning_of, refl, sym, ◌∙◌}
use Rattle.np_board.proofs.BoardTurns.{start-planning}
use Rattle.np_board.proofs.board.Board.new.Goals as goal

pub invariant_of-result : goal.invariant_of-result
invariant_of-result c = (
  ap (λ (m : Running TreeState). m.earlier) c.in_ok-machine.ensures,
  start-planning (planning_of c.in_ok-machine.machine 0 c.in_ok-plans.plans) (length c.pools.result.now)
      (ap (λ (pools : List Pool). length pools) c.pools.ensures ∙ sym (ap (λ (m : Running TreeState). length m.configuration.pools) c.in_ok-machine.ensures))
      c.in_ok-plans.ensures refl,
)
