use Rattle.np_json.proofs.Prelude.{arith, err_from_is_err_and}
use Rattle.np_json.proofs.ItemLemmas.{items_more, items_fail, items_end}
use Rattle.np_json.proofs.list.rows_of.Goals as goal

pub returns-in_err-read-clause-gives : goal.returns-in_err-read-clause-gives
returns-in_err-read-clause-gives g c =
    let p = err_from_is_err_and c.from_residual.result c.from_residual.ensures.1 in
    rw (p.1, p.2) (items_fail _ _ _ _ _ _ _ _ c.loop-index-test.true c.index-values-index.is c.in_err-read.ensures.read c.loop-index.invariant.read)

pub loop-index-preserved : goal.loop-index-preserved
loop-index-preserved g c = record {
  read = items_more _ _ _ _ _ _ _ _ c.loop-index-test.true c.index-values-index.is c.in_ok-read.ensures.read c.loop-index.invariant.read;
  count = omega (arith, c.in_ok-read.ensures.count, c.loop-index.invariant.count);
}

pub returns-clause-gives : goal.returns-clause-gives
returns-clause-gives g c = items_end _ _ _ _ _ _ c.loop-index-test.false c.loop-index.invariant.read
