use Rattle.std.proofs.Common.{◌≡◌, ◌∙◌, ◌+◌, ℕ, [], List, ◌++◌, ap, arith, append-nil, length, subst, sym}
use Rattle.std.proofs.lemmas.List.{length-append}
use Rattle.np_layout.specs.Prelude.{TreeState, decoded}
use Rattle.np_changes.specs.Prelude.{Configuration, Entry, Runs, State}
use Rattle.np_rules.specs.Running.{RunsOn}
use Rattle.np_board_tests.proofs.restored.read_back.Goals as goal

-- earlier entries and the journal lead to the state that the tree lays out
RunsOn-parts : (c d : Configuration) (earlier : ℕ) (journal : List Entry) (s : State) (t : TreeState) (many : ℕ) →
    d ≡ c → decoded c t ≡ s → many ≡ earlier + length journal → RunsOn c earlier journal s → RunsOn d many [] (decoded d t)
RunsOn-parts c d earlier journal s t many configuration state is on = rw (configuration, state) (record {
  before = on.before ++ journal;
  many = omega (arith, length-append on.before journal, on.many, is);
  runs = subst (λ (j : List Entry). Runs c j s) (sym (append-nil (on.before ++ journal))) on.runs;
})

pub machine_of_tree-requires-clause-runs : goal.machine_of_tree-requires-clause-runs
machine_of_tree-requires-clause-runs c =
    let parts = c.into_parts-config in let machine = c.args.machine in
    let state : decoded machine.configuration c.into_tree.result ≡ machine.state = rw (c.into_tree.ensures ∙ parts.ensures.store) parts.ensures.held.state in
    RunsOn-parts machine.configuration parts.result.0 machine.earlier machine.journal machine.state c.into_tree.result _
    parts.ensures.configuration state (omega (arith, c.earlier.ensures, ap (λ (j : List Entry). length j) c.journal.ensures)) c.know_soundness.ensures.runs
