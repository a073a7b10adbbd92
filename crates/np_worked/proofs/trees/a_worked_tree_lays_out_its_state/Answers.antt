use Rattle.np_worked.proofs.Prelude.{arith, digits, inr, path_of, refl, request_text_of, rules, ten_digits_of}
use Rattle.np_worked.proofs.trees.a_worked_tree_lays_out_its_state.Goals as goal

pub returns : goal.returns
unfolding path_of ten_digits_of request_text_of digits
returns c = record {
  frame = record { root = refl; nodepool = refl; zuul = refl; poolsim = refl; leaf = refl };
  requests = record { rows = refl; leaves = (refl, tt); gives = refl };
  request_locks = record {
    rows = refl;
    queues = (record { next = 2; gives = refl; waits = (record { number = 0; given = omega arith; is = refl }, (record { number = 1; given = omega arith; is = refl }, tt)) }, tt);
  };
  nodes = record { rows = (record { is = refl; spells = (search (rules, arith), inr (refl, refl)) }, tt); gives = refl };
  node_locks = (record { rows = refl; queue = record { next = 1; gives = refl; waits = (record { number = 0; given = omega arith; is = refl }, tt) } }, tt);
  launchers = refl;
  semaphores = record { rows = refl; each = (record { rows = refl; leaves = (refl, (refl, tt)) }, tt) };
  jobs = record { rows = refl; leaves = (refl, (refl, tt)) };
  roles = record { rows = refl; leaves = (refl, (refl, (refl, tt))) };
  sessions = record { rows = refl; leaves = (refl, (refl, (refl, tt))) };
  swept = record { rows = refl; leaves = (refl, (refl, tt)) };
  live = record { begun = refl; first = refl; each = refl };
}
