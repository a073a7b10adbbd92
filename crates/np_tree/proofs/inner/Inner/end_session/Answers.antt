use Rattle.np_tree.proofs.Prelude.{Known, after_end, ap, nodes_after_end, state_of, ℕ, ◌∙◌}
use Rattle.np_tree.proofs.CallLemmas.{Holds-of, IsTree-after_end}
use Rattle.np_tree.proofs.inner.Inner.end_session.Goals as goal

pub returns-clause-holds : goal.returns-clause-holds
returns-clause-holds c =
    Holds-of (record { alloc = c.args.self.now.alloc; lists = c.release.new.self; sessions = c.end.new.self; changes = c.next_change-change.result }) (after_end (state_of c.args.self.now) c.args.session) (IsTree-after_end (state_of c.args.self.now) c.args.session c.requires.tree)
    c.next_change-change.ensures (c.release.ensures.nodes ∙ ap (λ (z : ℕ). nodes_after_end z c.args.session c.args.self.now.lists.nodes) c.next_change-change.ensures) (ap (λ (k : Known). k.live) c.if-not-end.ensures.yes) c.release.ensures.kept (c.release.ensures.undo ∙ c.requires.undo)
