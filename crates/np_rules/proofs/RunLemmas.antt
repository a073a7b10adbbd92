-- runs that go on from an earlier one
use Rattle.np_rules.proofs.Prelude.{Configuration, Entry, Fits, Fits-Runs, IsFitSite, IsReached, List, Runs, Runs-next, Runs-start, RunsOn, State, append_assoc, arith, judge, length, length-append, next, refl, reply_of, start, subst, ℕ, [], ◌++◌, ◌+◌, ◌<◌, ◌∷◌, ◌≡◌, ◌≤◌}

-- a run of the configuration reaches the state
pub RunsOn-reached : (c : Configuration) (earlier : ℕ) (journal : List Entry) (s : State) → RunsOn c earlier journal s → IsReached c s
RunsOn-reached c earlier journal s on = record { journal = on.before ++ journal; runs = on.runs }

-- so the state fits
pub RunsOn-fits : (c : Configuration) (earlier : ℕ) (journal : List Entry) (s : State) → IsFitSite c → RunsOn c earlier journal s → Fits c s
RunsOn-fits c earlier journal s site on = Fits-Runs c (on.before ++ journal) s site on.runs

-- before the first event
pub RunsOn-start : (c : Configuration) → RunsOn c 0 [] (start c)
RunsOn-start c = record { before = []; many = refl; runs = Runs-start c }

-- a run continues with an event and the machine's reply
pub RunsOn-next : (c : Configuration) (earlier : ℕ) (journal : List Entry) (s : State) (entry : Entry) →
    RunsOn c earlier journal s → earlier + length journal < 262144 → entry.reply ≡ reply_of (judge c s entry.event) →
    RunsOn c earlier (journal ++ entry ∷ []) (next c s entry.event)
RunsOn-next c earlier journal s entry on room replied =
    let short : length (on.before ++ journal) < 262144 = omega (arith, on.many, length-append on.before journal, room) in
    record {
      before = on.before;
      many = on.many;
      runs = subst (λ (j : List Entry). Runs c j (next c s entry.event)) (append_assoc on.before journal (entry ∷ []))
          (Runs-next c (on.before ++ journal) s entry on.runs short replied);
    }
