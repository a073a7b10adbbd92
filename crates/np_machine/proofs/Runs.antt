-- laws of whole runs
use Rattle.np_machine.proofs.Prelude.{Configuration, Entry, List, Runs, State, after, ap, arith, judge, length-append, next, refl, replayed, reply_of, start, state_after, [], ◌++◌, ◌∷◌, ◌≡◌}

pub state_after-push : (c : Configuration) (s : State) (journal : List Entry) (entry : Entry) → state_after c s (journal ++ entry ∷ []) ≡ next c (state_after c s journal) entry.event
state_after-push c s [] entry = refl
state_after-push c s (first ∷ journal) entry = state_after-push c (next c s first.event) journal entry

pub replayed-push : (c : Configuration) (s : State) (journal : List Entry) (entry : Entry) → replayed c s (journal ++ entry ∷ []) ≡ replayed c s journal ++ record { event = entry.event; reply = reply_of (judge c (state_after c s journal) entry.event) } ∷ []
replayed-push c s [] entry = refl
replayed-push c s (first ∷ journal) entry = ap (λ (t : List Entry). record { event = first.event; reply = reply_of (judge c s first.event) } ∷ t) (replayed-push c (next c s first.event) journal entry)

-- the replies of a journal begin with those of its prefix
pub replayed-prefix : (c : Configuration) (s : State) (before rest : List Entry) → replayed c s (before ++ rest) ≡ before ++ rest → replayed c s before ≡ before
replayed-prefix c s [] rest is = refl
replayed-prefix c s (first ∷ before) rest is =
    let head : record { event = first.event; reply = reply_of (judge c s first.event) } ≡ first = cc in
    let tail : replayed c (next c s first.event) (before ++ rest) ≡ before ++ rest = cc in
    let more : replayed c (next c s first.event) before ≡ before = replayed-prefix c (next c s first.event) before rest tail in
    cc

pub Runs-prefix : (c : Configuration) (before rest : List Entry) (s : State) → Runs c (before ++ rest) s → Runs c before (after c before)
Runs-prefix c before rest s runs = record {
  replies = replayed-prefix c (start c) before rest runs.replies;
  ends = refl;
  short = omega (arith, length-append before rest, runs.short);
}
