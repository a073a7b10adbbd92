use Rattle.np_tree_nodes.proofs.Prelude.{made_path, sym, ◌∙◌}
use Rattle.np_tree_nodes.proofs.PlanLemmas.{IsMade-made_path}
use Rattle.np_tree_nodes.proofs.lists.NodeLists.gap.Goals as goal

pub returns : goal.returns
returns c =
    let parent = c.args.parent.now in
    let made = IsMade-made_path parent c.args.name.now c.args.mode c.half_of.ensures.path c.requires.name in
    c.gap_at.ensures (made_path parent c.args.name.now c.args.mode) made.is (made.half ∙ sym c.half_of.ensures.half)
    (rw (c.as_bytes.ensures.value, c.digits_for-digits.ensures, c.ten_digits-number.ensures) made.last)
