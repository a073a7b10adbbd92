use Rattle.np_tables.proofs.Prelude.{AllByRecursion, JobId, List, Roomy, add-one, all-mapped, arith, length, length-set, subst, take_all, ◌<◌, ◌∙◌, ◌≤◌}
use Rattle.np_tables.proofs.TableLemmas.{IsRoomy, roomy-more, rows_of-same}
use Rattle.np_tables.proofs.handles.reserve_handles.Goals as goal

pub returns-in_err-reserve-clause-rows : goal.returns-in_err-reserve-clause-rows
returns-in_err-reserve-clause-rows c =
    let within : c.loop-at.at < length c.loop-at.handles.items = omega arith in
    rows_of-same c.loop-at.handles.items c.loop-at.at c.index_mut-table.result.now c.reserve.new.self within c.index_mut-table.ensures.value c.reserve.ensures.rows
    ∙ c.loop-at.invariant.rows

pub loop-at-preserved : goal.loop-at-preserved
loop-at-preserved c =
    let within : c.loop-at.at < length c.loop-at.handles.items = omega arith in
    record {
      length = length-set c.loop-at.handles.items c.loop-at.at c.reserve.new.self ∙ c.loop-at.invariant.length;
      rows = rows_of-same c.loop-at.handles.items c.loop-at.at c.index_mut-table.result.now c.reserve.new.self within c.index_mut-table.ensures.value c.reserve.ensures.rows
          ∙ c.loop-at.invariant.rows;
      room = rw add-one (roomy-more c.loop-at.handles.items c.loop-at.at c.reserve.new.self within c.loop-at.invariant.room c.in_ok-reserve.ensures.ok);
    }

pub returns-clause-ok : goal.returns-clause-ok
returns-clause-ok c =
    let tables = c.loop-at.handles.items in
    let all : length tables ≤ c.loop-at.at = omega (arith, c.len-at-end.ensures, c.loop-at.invariant.length, c.args.handles.now.ok.0) in
    all-mapped IsRoomy (λ more. 0 < more) (λ t. t.room) tables (λ t more. more)
    (subst (λ (ts : List (Roomy JobId)). AllByRecursion IsRoomy ts) (take_all c.loop-at.at tables all) c.loop-at.invariant.room)
