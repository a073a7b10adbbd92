-- a decline that finds the request in another state
use Rattle.np_decision.proofs.Prelude.{Asked, Configuration, Err, NeverFits, NoLabel, None, Ok, Option, PoolId, Reason, Refusal, RequestId, RequestRecord, SessionId, Some, Spent, State, TenantNeverFits, ap, asked_of, by_registrant, by_request_holder, found, in_state_for, judge_decline, launcher, new_record, refl, request_at, request_in, sym, without_declines, ◌∙◌, ◌≡◌}

-- a reason does not depend on a request's declines
in_state_for-asked : (p : PoolId) (k : RequestRecord) (why : Reason) → in_state_for p (new_record (asked_of k)) why ≡ in_state_for p k why
in_state_for-asked p k (NoLabel l) = refl
in_state_for-asked p k NeverFits = refl
in_state_for-asked p k TenantNeverFits = refl
in_state_for-asked p k (Spent n) = refl

asked_by : (o : Option RequestRecord) (k : RequestRecord) (asked : Asked) → o ≡ Some k → Ok asked ≡ without_declines (found o Refusal.NoRequest) → asked_of k ≡ asked
asked_by None k asked has is = absurd cc
asked_by (Some other) k asked has is = let same : other ≡ k = cc in rw (← same) cc

there_by : (o : Option RequestRecord) (asked : Asked) → Ok asked ≡ without_declines (found o Refusal.NoRequest) → o ≡ None → ⊥
there_by None asked is has = cc
there_by (Some k) asked is has = cc

state_by : (c : Configuration) (s : State) (session : SessionId) (r : RequestId) (why : Reason) (p : PoolId) (asked : Asked) (refusal : Refusal) (o : Option RequestRecord) → request_in r s.requests ≡ o → Ok p ≡ launcher s session → Ok asked ≡ without_declines (request_at s r) → Ok tt ≡ by_registrant s p session → Ok tt ≡ by_request_holder s r session → Err refusal ≡ in_state_for p (new_record asked) why → judge_decline c s session r why ≡ Err refusal
state_by c s session r why p asked refusal None has who is registrant holder state = absurd (there_by (request_in r s.requests) asked is has)
state_by c s session r why p asked refusal (Some k) has who is registrant holder state =
    let same : asked_of k ≡ asked = asked_by (request_in r s.requests) k asked has is in
    let refused : in_state_for p k why ≡ Err refusal = sym (in_state_for-asked p k why) ∙ ap (λ (a : Asked). in_state_for p (new_record a) why) same ∙ sym state in
    rw (← who, has, ← registrant, ← holder, refused) refl

pub decline-state : (c : Configuration) (s : State) (session : SessionId) (r : RequestId) (why : Reason) (p : PoolId) (asked : Asked) (refusal : Refusal) → Ok p ≡ launcher s session → Ok asked ≡ without_declines (request_at s r) → Ok tt ≡ by_registrant s p session → Ok tt ≡ by_request_holder s r session → Err refusal ≡ in_state_for p (new_record asked) why → judge_decline c s session r why ≡ Err refusal
decline-state c s session r why p asked refusal who found registrant holder state = state_by c s session r why p asked refusal (request_in r s.requests) refl who found registrant holder state
