use Rattle.np_event.proofs.Prelude.{ap, option_copied, sym, ◌∙◌}
use Rattle.np_event.proofs.Fields.{fields_from-no_word}
use Rattle.np_event.proofs.row.read_fields.Goals as goal

pub returns-in_default : goal.returns-in_default
returns-in_default c =
    sym (fields_from-no_word _ c.args.kinds.now c.loop-at.at _ c.loop-at.fields c.loop-at-test.true (sym c.next_word.ensures.word ∙ ap option_copied c.in_default.is)) ∙ c.loop-at.invariant
