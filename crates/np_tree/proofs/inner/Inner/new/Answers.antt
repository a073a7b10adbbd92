use Rattle.np_tree.proofs.Prelude.{Known, ap, new_tree, refl}
use Rattle.np_tree.proofs.CallLemmas.{Holds-of, IsTree-new_tree}
use Rattle.np_tree.proofs.inner.Inner.new.Goals as goal

pub returns-clause-holds : goal.returns-clause-holds
returns-clause-holds c =
    Holds-of (record { alloc = c.args.alloc; lists = c.in_ok-new.field-0; sessions = c.new-2.result; changes = 0 }) new_tree IsTree-new_tree refl c.in_ok-new.ensures.nodes (ap (λ (k : Known). k.live) c.new-2.ensures) c.in_ok-new.ensures.kept c.in_ok-new.ensures.undo
