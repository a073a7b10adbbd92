use Rattle.np_tree_rows.proofs.Prelude.{List, ParsesUnsigned, Result, subst, ℕ}
use Rattle.np_tree_rows.proofs.Stored.{ten-parsed, ten-read}
use Rattle.np_tree_rows.proofs.rows.read_ten.Goals as goal

pub returns-in-Ok : goal.returns-in-Ok
returns-in-Ok c n small is = ten-read c.args.name.now n c.in-Ok.n small is c.in-Ok.ensures.value.0

pub returns-in-Err : goal.returns-in-Err
returns-in-Err c n small is =
    let parses = subst (λ (text : List ℕ). ParsesUnsigned 32 10 text (Result.Err c.in-Err.field-0)) is c.in-Err.ensures.value.0 in
    let same = ten-parsed n (Result.Err c.in-Err.field-0) small parses in
    absurd cc
