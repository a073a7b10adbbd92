use Rattle.np_lock.proofs.Prelude.{List, Some, ap, below, child_name, sym, ℕ, ◌∙◌, ◌≡◌}
use Rattle.np_lock.proofs.LeaveLemmas.{child-makes, is_element-child, path-at, path-some}
use Rattle.np_lock.proofs.lock.path_at.Goals as goal

pub returns-in_default-clause-some : goal.returns-in_default-clause-some
returns-in_default-clause-some c = path-some c.args.tree.now c.args.session c.args.dir.now c.args.at c.requires.lock c.requires.at

pub returns-in-Ok-clause-some : goal.returns-in-Ok-clause-some
returns-in-Ok-clause-some c = path-some c.args.tree.now c.args.session c.args.dir.now c.args.at c.requires.lock c.requires.at

pub returns-in-Err-clause-some : goal.returns-in-Err-clause-some
returns-in-Err-clause-some c = path-some c.args.tree.now c.args.session c.args.dir.now c.args.at c.requires.lock c.requires.at

pub returns-in-Ok-clause-path : goal.returns-in-Ok-clause-path
returns-in-Ok-clause-path c =
    let t = c.args.tree.now in
    let dir = c.args.dir.now in
    let name = c.in-Some.name.now in
    let is : child_name t dir c.args.at ≡ Some name = ap (λ (p : List ℕ). child_name t p c.args.at) (sym c.text.ensures.text) ∙ sym c.in-Some.ensures in
    let made = child-makes name (below dir name) c.in-Ok.path (is_element-child t dir c.args.at name c.requires.lock is) c.in-Ok.ensures in
    path-at t c.args.session dir c.args.at name c.requires.lock c.requires.at is ∙ sym (ap Some made)
