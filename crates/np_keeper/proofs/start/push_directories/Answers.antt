use Rattle.np_keeper.proofs.Prelude.{Jobs, Launchers, Nodepool, Nodes, Poolsim, RequestLocks, Requests, Roles, Semaphores, Sessions, SweptPairs, Zuul, make, []}
use Rattle.np_keeper.proofs.Enacted.{twelve}
use Rattle.np_keeper.proofs.start.push_directories.Goals as goal

pub returns : goal.returns
returns c = rw (c.in_ok-push_make-12.ensures, c.in_ok-push_make-11.ensures, c.in_ok-push_make-10.ensures, c.in_ok-push_make-9.ensures, c.in_ok-push_make-8.ensures, c.in_ok-push_make-7.ensures, c.in_ok-push_make-6.ensures, c.in_ok-push_make-5.ensures, c.in_ok-push_make-4.ensures, c.in_ok-push_make-3.ensures, c.in_ok-push_make-2.ensures, c.in_ok-push_make.ensures) (twelve c.args.ops.now.items (make [] Nodepool) (make [] Launchers) (make [] Nodes) (make [] Requests) (make [] RequestLocks) (make [] Poolsim) (make [] Jobs) (make [] Roles) (make [] Sessions) (make [] SweptPairs) (make [] Zuul) (make [] Semaphores))
