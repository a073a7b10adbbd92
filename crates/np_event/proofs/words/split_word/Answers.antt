use Rattle.np_event.proofs.Prelude.{sym, ◌∙◌}
use Rattle.np_event.proofs.Fields.{words_of-last, words_of-split}
use Rattle.np_event.proofs.words.split_word.Goals as goal

pub returns-in-Some : goal.returns-in-Some
returns-in-Some c =
    words_of-split c.args.text.now _ _ _ c.in-Some.at (sym c.first_space.ensures ∙ c.in-Some.is) c.split_at.ensures.front c.split_at.ensures.back c.split_at-in-Some.ensures.back

pub returns-in-None : goal.returns-in-None
returns-in-None c = words_of-last c.args.text.now (sym c.first_space.ensures ∙ c.in-None.is)
