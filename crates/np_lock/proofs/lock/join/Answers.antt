use Rattle.np_lock.proofs.Prelude.{EphemeralSequential, List, Ok, after_create, ap, create_answer, join_answer, sym, wait_path, ℕ, [], ◌++◌, ◌∙◌, ◌∷◌, ◌≡◌}
use Rattle.np_lock.proofs.JoinLemmas.{Joins-accepted, queue-joined}
use Rattle.np_lock.proofs.WaitLemmas.{IsLock-number}
use Rattle.np_lock.proofs.lock.join.Goals as goal

pub returns-in-Ok-clause-queue : goal.returns-in-Ok-clause-queue
returns-in-Ok-clause-queue c =
    let t = c.args.tree.now in
    let dir = c.args.dir.now in
    let same : c.in_ok-path.path ≡ wait_path dir = c.in_ok-path.ensures.path in
    let answer : join_answer t c.args.session dir ≡ Ok c.in-Ok.field-0 = ap (λ (p : List ℕ). create_answer t c.args.session p [] EphemeralSequential) (sym same) ∙ c.in-Ok.ensures.answer in
    let joins = Joins-accepted t c.args.session dir c.in-Ok.field-0 c.requires.lock.0 c.in_ok-path.ensures.directory c.changes.ensures.tree.whole c.requires.lock.1 c.requires.new answer in
    rw (c.in-Ok.ensures.ok, same) (queue-joined t c.args.session dir c.requires.lock.0 c.requires.lock.1 joins)

pub returns-in-Ok-clause-lock : goal.returns-in-Ok-clause-lock
returns-in-Ok-clause-lock c =
    let t = c.args.tree.now in
    let dir = c.args.dir.now in
    let same : c.in_ok-path.path ≡ wait_path dir = c.in_ok-path.ensures.path in
    let answer : join_answer t c.args.session dir ≡ Ok c.in-Ok.field-0 = ap (λ (p : List ℕ). create_answer t c.args.session p [] EphemeralSequential) (sym same) ∙ c.in-Ok.ensures.answer in
    let joins = Joins-accepted t c.args.session dir c.in-Ok.field-0 c.requires.lock.0 c.in_ok-path.ensures.directory c.changes.ensures.tree.whole c.requires.lock.1 c.requires.new answer in
    rw (c.in-Ok.ensures.ok, same) (IsLock-number (after_create t c.args.session (wait_path dir) [] EphemeralSequential) dir (c.requires.lock.0 ++ record { number = joins.counter; session = c.args.session } ∷ [], joins.queue))
