-- the orders of keys: nodes, jobs and sessions by number, requests by priority and then sequence, swept
-- pairs by node and then server
use Rattle.std.proofs.Common.{◌≡◌, arith, true, false, ap, refl}
use Rattle.std.specs.Prelude.{ℕ, Bool, nat_lt, ◌==◌}
use Rattle.std.proofs.lemmas.Bool.Decides.{nat_tests}
use Rattle.np_look.specs.Lower.{JobId, NodeId, RequestId, SessionId, Swept, is_id_before, is_pair, is_pair_after, same_request}

-- ## nodes

abbrev pub is_node_before : NodeId → NodeId → Bool
is_node_before a b = nat_lt a.0 b.0

abbrev pub same_node : NodeId → NodeId → Bool
same_node a b = a.0 == b.0

pub node_transitive : (a b k : NodeId) → is_node_before a b ≡ true → is_node_before b k ≡ true → is_node_before a k ≡ true
node_transitive a b k first second = grind (arith, nat_tests)

pub node_one_way : (a b : NodeId) → is_node_before a b ≡ true → is_node_before b a ≡ false
node_one_way a b first = grind (arith, nat_tests)

pub node_some_way : (a b : NodeId) → is_node_before a b ≡ false → same_node a b ≡ false → is_node_before b a ≡ true
node_some_way a b past other = grind (arith, nat_tests)

pub node_equal : (a b : NodeId) → same_node a b ≡ true → a ≡ b
node_equal a b same =
    let number : a.0 ≡ b.0 = grind (arith, nat_tests) in
    ap (λ (n : ℕ). record { 0 = n }) number

-- ## requests

pub request_transitive : (a b k : RequestId) → is_id_before a b ≡ true → is_id_before b k ≡ true → is_id_before a k ≡ true
request_transitive a b k first second = grind (arith, nat_tests)

pub request_one_way : (a b : RequestId) → is_id_before a b ≡ true → is_id_before b a ≡ false
request_one_way a b first = grind (arith, nat_tests)

pub request_some_way : (a b : RequestId) → is_id_before a b ≡ false → same_request a b ≡ false → is_id_before b a ≡ true
request_some_way a b past other = grind (arith, nat_tests)

pub request_equal : (a b : RequestId) → same_request a b ≡ true → a ≡ b
request_equal a b same =
    let priority : a.priority ≡ b.priority = grind (arith, nat_tests) in
    let seq : a.seq ≡ b.seq = grind (arith, nat_tests) in
    let id : record { priority = a.priority; seq = a.seq } ≡ record { priority = b.priority; seq = b.seq } = rw (priority, seq) refl in
    id

-- ## swept pairs

abbrev pub is_pair_before : Swept → Swept → Bool
is_pair_before a b = is_pair_after a.node a.server b

abbrev pub same_pair : Swept → Swept → Bool
same_pair a b = is_pair b.node b.server a

pub pair_transitive : (a b k : Swept) → is_pair_before a b ≡ true → is_pair_before b k ≡ true → is_pair_before a k ≡ true
pair_transitive a b k first second = grind (arith, nat_tests)

pub pair_one_way : (a b : Swept) → is_pair_before a b ≡ true → is_pair_before b a ≡ false
pair_one_way a b first = grind (arith, nat_tests)

pub pair_some_way : (a b : Swept) → is_pair_before a b ≡ false → same_pair a b ≡ false → is_pair_before b a ≡ true
pair_some_way a b past other = grind (arith, nat_tests)

pub pair_equal : (a b : Swept) → same_pair a b ≡ true → a ≡ b
pair_equal a b same =
    let node : a.node.0 ≡ b.node.0 = grind (arith, nat_tests) in
    let server : a.server ≡ b.server = grind (arith, nat_tests) in
    let pair : record { node = record { 0 = a.node.0 }; server = a.server } ≡ record { node = record { 0 = b.node.0 }; server = b.server } = rw (node, server) refl in
    pair

-- ## jobs

abbrev pub is_job_before : JobId → JobId → Bool
is_job_before a b = nat_lt a.0 b.0

abbrev pub same_job : JobId → JobId → Bool
same_job a b = a.0 == b.0

pub job_transitive : (a b k : JobId) → is_job_before a b ≡ true → is_job_before b k ≡ true → is_job_before a k ≡ true
job_transitive a b k first second = grind (arith, nat_tests)

pub job_one_way : (a b : JobId) → is_job_before a b ≡ true → is_job_before b a ≡ false
job_one_way a b first = grind (arith, nat_tests)

pub job_some_way : (a b : JobId) → is_job_before a b ≡ false → same_job a b ≡ false → is_job_before b a ≡ true
job_some_way a b past other = grind (arith, nat_tests)

pub job_equal : (a b : JobId) → same_job a b ≡ true → a ≡ b
job_equal a b same =
    let number : a.0 ≡ b.0 = grind (arith, nat_tests) in
    ap (λ (n : ℕ). record { 0 = n }) number

-- ## sessions

abbrev pub is_session_before : SessionId → SessionId → Bool
is_session_before a b = nat_lt a.0 b.0

abbrev pub same_session : SessionId → SessionId → Bool
same_session a b = a.0 == b.0

pub session_transitive : (a b k : SessionId) → is_session_before a b ≡ true → is_session_before b k ≡ true → is_session_before a k ≡ true
session_transitive a b k first second = grind (arith, nat_tests)

pub session_one_way : (a b : SessionId) → is_session_before a b ≡ true → is_session_before b a ≡ false
session_one_way a b first = grind (arith, nat_tests)

pub session_some_way : (a b : SessionId) → is_session_before a b ≡ false → same_session a b ≡ false → is_session_before b a ≡ true
session_some_way a b past other = grind (arith, nat_tests)

pub session_equal : (a b : SessionId) → same_session a b ≡ true → a ≡ b
session_equal a b same =
    let number : a.0 ≡ b.0 = grind (arith, nat_tests) in
    ap (λ (n : ℕ). record { 0 = n }) number
