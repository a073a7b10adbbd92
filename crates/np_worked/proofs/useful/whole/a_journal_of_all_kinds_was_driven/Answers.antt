use Rattle.np_worked.proofs.Prelude.{Outcome, Reaper, all_kinds, expiring_site, inl, inr, janitor, launcher, node, pool, refl, requester, session, take, turns}
use Rattle.np_worked.proofs.DrivenLemmas.{by, ◌then◌}
use Rattle.np_worked.proofs.useful.whole.a_journal_of_all_kinds_was_driven.Goals as goal

pub returns : goal.returns
returns c =
    by (launcher 0) refl then by (requester 0) refl then by (launcher 0) refl then by (requester 0) refl
    then by (launcher 0) refl then by (launcher 0) refl then by (launcher 0) refl
    then by (launcher 0) refl then by Reaper refl then by (janitor 0) refl
    then by (janitor 0) refl then by (janitor 0) refl then by (janitor 0) refl
    then inr (inr (inr (record {
      session = session 1;
      number = node 0;
      attempt = 1;
      outcome = Outcome.Launched 1;
      event = refl;
      start = 1;
      pool = pool 0;
      begun = inr (inr (inr (inr (inr (inr (inr (inl (record { event = refl; started = refl; node = _; stood = refl; of_pool = refl }))))))));
      first = refl then refl then refl then refl then refl then refl then refl then refl then refl then refl then refl then refl then refl then tt;
      answered = refl;
    })))
    then by (janitor 0) refl then by (janitor 0) refl then by (janitor 0) refl
    then inr (inr (inl (record {
      session = session 3;
      pool = pool 0;
      number = node 0;
      server = 1;
      event = refl;
      removed = refl;
      current = refl;
      named = inr (inr (inr (inr (inr (inr (inr (inr (inr (inr (inr (inr (inr (inl (record { session = session 1; attempt = 1; event = refl }))))))))))))));
      unswept = refl;
    })))
    then inr (inl (record { event = refl; earlier = take 17 (turns expiring_site all_kinds); previous = _; follows = refl; other = refl }))
    then tt
