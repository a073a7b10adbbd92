-- parts of an index that stay are those of the same state
use Rattle.np_index.proofs.Prelude.{ActiveOf, AreActive, AreJobGroups, AreOpen, AreSessionGroups, Changes, Configuration, IsPast, IsTouched, JobId, List, OpenOf, OthersStay, PastOf, State, TouchedOf, changed, record-stays, subst, sym, ◌≡◌}

-- where the members and the lines stay, they are those of the same state
pub open-same : (c : Configuration) (s : State) (old new : OpenOf) → new.members ≡ old.members → new.lines ≡ old.lines → AreOpen c s old → AreOpen c s new
open-same c s old new members lines was =
    subst (λ list. AreOpen c s (record { members = list; room = new.room; lines = new.lines })) (sym members)
    (subst (λ list. AreOpen c s (record { members = old.members; room = new.room; lines = list })) (sym lines)
    (record { rises = was.rises; each = was.each; once = was.once }))

pub active-same : (c : Configuration) (s : State) (old new : ActiveOf) → new.lines ≡ old.lines → new.jobs ≡ old.jobs → new.sessions ≡ old.sessions → AreActive c s old → AreActive c s new
active-same c s old new lines jobs sessions was = record {
  jobs = subst (λ list. AreJobGroups c s list new.jobs) (sym lines) (subst (AreJobGroups c s old.lines) (sym jobs) was.jobs);
  sessions = subst (AreSessionGroups s) (sym sessions) was.sessions;
}

-- what was placed by lines that stay
pub placed-same : (c : Configuration) (s : State) (old new : List JobId) (touched : TouchedOf) (past : PastOf) → new ≡ old → IsPast c s old touched past → IsPast c s new touched past
placed-same c s old new touched past same is = subst (λ (lines : List JobId). IsPast c s lines touched past) (sym same) is

-- the requests that are touched are one at most, and the records of all others stay
pub others-stay : (c : Configuration) (s : State) (ch : Changes) (touched : TouchedOf) → IsTouched s ch touched → OthersStay touched.requests s (changed c ch s)
others-stay c s ch touched is = record {
  once = is.once;
  same = record-stays c s ch touched is;
}
