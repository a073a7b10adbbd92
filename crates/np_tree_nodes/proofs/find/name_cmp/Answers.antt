use Rattle.np_tree_nodes.proofs.Prelude.{sym, ◌∙◌}
use Rattle.np_tree_nodes.proofs.PlaceLemmas.{slice_cmp-shorter, slice_cmp-append}
use Rattle.np_tree_nodes.proofs.find.name_cmp.Goals as goal

pub returns-then-name-front : goal.returns-then-name-front
returns-then-name-front c = c.cmp.ensures ∙ sym (slice_cmp-shorter c.args.name.now c.args.front.now c.args.digits.now c.if-name-front.true)

pub returns : goal.returns
returns c =
    let front = c.split_at.result.0.now in
    let back = c.split_at.result.1.now in
    let whole = c.split_at.ensures.by_index.0 in
    rw (c.then.ensures, c.cmp-2.ensures, c.cmp-3.ensures, whole)
    (sym (slice_cmp-append front c.args.front.now back c.args.digits.now c.split_at.ensures.front_len))
