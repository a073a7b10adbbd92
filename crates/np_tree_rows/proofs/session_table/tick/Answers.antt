use Rattle.np_tree_rows.proofs.Prelude.{None, Some, ap, number_of, ℕ, ◌∙◌, ◌≡◌}
use Rattle.np_tree_rows.proofs.Stored.{tick-reads, tick-there}
use Rattle.np_tree_rows.proofs.session_table.tick.Goals as goal

pub returns-in_default : goal.returns-in_default
returns-in_default c config s stored = absurd (tick-there config s c.args.tree.now stored c.in_default.ensures)

pub returns-in-Some-read_number : goal.returns-in-Some-read_number
returns-in-Some-read_number c config s stored =
    let is : Some c.in-Some-read_number.tick ≡ Some s.tick = c.in-Some-read_number.ensures.answer ∙ ap (λ (most : ℕ). number_of most c.in-Some.bytes.now) c.from.ensures ∙ tick-reads config s c.args.tree.now stored c.in-Some.bytes.now c.in-Some.ensures in
    cc

pub returns-in-None : goal.returns-in-None
returns-in-None c config s stored =
    absurd (let is : None ≡ Some s.tick = c.in-None.ensures.answer ∙ ap (λ (most : ℕ). number_of most c.in-Some.bytes.now) c.from.ensures ∙ tick-reads config s c.args.tree.now stored c.in-Some.bytes.now c.in-Some.ensures in cc)
