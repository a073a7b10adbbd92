use Rattle.np_replay.proofs.Prelude.{refl, sym, true, true≢false, ◌∙◌, ◌≡◌}
use Rattle.np_replay.proofs.ReadingLemmas.{command_found-error, command_found-matches}
use Rattle.np_replay.proofs.words.parse.Goals as goal

pub returns-in-Ok : goal.returns-in-Ok
returns-in-Ok c = command_found-matches _ _ c.in-Ok.matches c.in_ok-program.ensures c.in-Ok.ensures.matches c.in-Ok.ensures.kinds

pub returns : goal.returns
returns c = command_found-error _ _ c.in-Err.error c.in_ok-program.ensures c.in-Err.ensures.kinds (λ memory.
    let same : c.eq.result ≡ true = rw (c.eq.ensures, c.kind.ensures, memory) refl in
    true≢false (sym same ∙ c.if-eq.false))
