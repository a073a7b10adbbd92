use Rattle.np_static.proofs.Prelude.{sym}
use Rattle.np_static.proofs.Sites.{more-words}
use Rattle.np_static.proofs.line.read_words.Goals as goal

pub returns-in-Some-rest-2 : goal.returns-in-Some-rest-2
returns-in-Some-rest-2 c =
    rw (c.in-Some.is, c.split_word.ensures, c.in-Some-rest.is, c.split_word-2.ensures, c.in-Some-rest-2.is) (sym (more-words c.args.pools c.split_word.result.0.now c.split_word-2.result.0.now c.in-Some-rest-2.field-0.now))
