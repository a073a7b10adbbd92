use Rattle.np_watch.proofs.Prelude.{ap, arith, filter, filter-not_none, is_between, length, none-find, not, sym, ◌<◌, ◌∙◌}
use Rattle.np_watch.proofs.WatchLemmas.{none-found, rest-same, shorter, taken, watches-without}
use Rattle.np_watch.proofs.watches.drop_between.Goals as goal

pub loop-key-smaller : goal.loop-key-smaller
loop-key-smaller c =
    let found = rw c.rows.ensures at c.in-Some.ensures in
    let gone = c.remove.ensures ∙ taken (is_between c.args.from c.args.to) c.loop-key.table c.in-Some.key c.loop-key.invariant.watches.rise (sym found) in
    let less : length c.remove.new.self < length c.loop-key.table =
    omega (arith, ap length gone, shorter (is_between c.args.from c.args.to) c.loop-key.table c.in-Some.key (sym found)) in
    less

pub loop-key-preserved : goal.loop-key-preserved
loop-key-preserved c =
    let found = rw c.rows.ensures at c.in-Some.ensures in
    let gone = c.remove.ensures ∙ taken (is_between c.args.from c.args.to) c.loop-key.table c.in-Some.key c.loop-key.invariant.watches.rise (sym found) in
    record {
      rest =
          ap (filter (λ watch. not (is_between c.args.from c.args.to watch))) gone
          ∙ rest-same (is_between c.args.from c.args.to) c.loop-key.table
          ∙ c.loop-key.invariant.rest;
      watches = rw gone (watches-without (is_between c.args.from c.args.to) c.loop-key.table c.loop-key.invariant.watches);
    }

pub returns-clause-rest : goal.returns-clause-rest
returns-clause-rest c =
    let none = rw c.rows.ensures at c.in_default.ensures in
    let empty = none-found (is_between c.args.from c.args.to) c.loop-key.table (sym none) in
    sym (filter-not_none (is_between c.args.from c.args.to) c.loop-key.table (none-find (is_between c.args.from c.args.to) c.loop-key.table empty))
    ∙ c.loop-key.invariant.rest
