-- Ids, sessions and queues: what proofs of several crates need.
use Rattle.np_machine.proofs.Prelude.{NodeId, RequestId, SessionId, ap, arith, is_session, nat_tests, refl, same_request, true, ℕ, ◌==◌, ◌≡◌}

pub request-itself : (a : RequestId) → same_request a a ≡ true
request-itself a = grind (arith, nat_tests)

pub request-equal : (a b : RequestId) → same_request a b ≡ true → a ≡ b
request-equal a b same =
    let priority : a.priority ≡ b.priority = grind (arith, nat_tests) in
    let seq : a.seq ≡ b.seq = grind (arith, nat_tests) in
    let id : record { priority = a.priority; seq = a.seq } ≡ record { priority = b.priority; seq = b.seq } = rw (priority, seq) refl in
    id

pub session-equal : (a b : SessionId) → is_session a b ≡ true → a ≡ b
session-equal a b same = let number : a.0 ≡ b.0 = grind (arith, nat_tests) in ap (λ (n : ℕ). record { 0 = n }) number

pub node-itself : (a : NodeId) → (a.0 == a.0) ≡ true
node-itself a = grind (arith, nat_tests)
