-- How the code reads: what a reader returns and which bytes it leaves. Only the code needs this.
use Rattle.std.specs.Prelude.{ℕ, zero, suc, ◌+◌, ◌-◌, ◌*◌, ◌==◌, ◌&&◌, nat_le, Bool, false, if◌then◌else◌, List, [], ◌∷◌, ◌++◌, length, codes, Option, Some, None, Result, Ok, Err}
use Rattle.std.specs.Option.{option_map}
use Rattle.std.specs.Char.{is_ascii_digit}
use Rattle.np_spelling.specs.Spelling.{default_tenant, flag_text}
use Rattle.np_spelling.specs.declared.fault.BadRecord.{BadRecord}
use Rattle.np_spelling.specs.Lower.{Declined, Ending, JobId, JobRecord, LabelId, Marked, NodeId, NodeRecord, NodeState, Phase, PoolId, Reason, RequestId, RequestRecord, RequestState, Role, RoleKind, RoleRecord, SessionRecord, TenantId, ending_word, node_state_word, role_kind_word}

-- from the bytes that are left: the value, if there is one, and the bytes that are left after it
abbrev pub Reader : Type 0 → Type 0
Reader A = List ℕ → Option A × List ℕ

abbrev pub after : {A B : Type 0} → Option A → List ℕ → (A → Reader B) → Option B × List ℕ
after (Some a) left next = next a left
after None left next = (None, left)

infixr 10 ◌>>=◌
abbrev pub ◌>>=◌ : {A B : Type 0} → Reader A → (A → Reader B) → Reader B
(first >>= next) s = after (first s).0 (first s).1 next

infixr 10 ◌>>◌
abbrev pub ◌>>◌ : {A B : Type 0} → Reader A → Reader B → Reader B
(first >> next) s = after (first s).0 (first s).1 (λ a. next)

abbrev pub gives : {A : Type 0} → A → Reader A
gives a s = (Some a, s)

-- passes these bytes
unfoldable pub lead : List ℕ → Reader (Unit {0})
lead [] s = (Some tt, s)
lead (c ∷ cs) [] = (None, [])
lead (c ∷ cs) (b ∷ bs) = if b == c then lead cs bs else (None, b ∷ bs)

-- these bytes, read as this value
abbrev pub spelled : {A : Type 0} → List ℕ → A → Reader A
spelled text a = lead text >> gives a

-- the byte c comes next
abbrev pub begins : ℕ → List ℕ → Bool
begins c [] = false
begins c (b ∷ bs) = b == c

-- the first reader if the byte c comes next, and otherwise the other
abbrev pub fork : {A : Type 0} → ℕ → Reader A → Reader A → Reader A
fork c one other s = if begins c s then one s else other s

-- continues a number by its digits, while it is at most max
unfoldable pub digits : ℕ → ℕ → Reader ℕ
digits max n [] = (Some n, [])
digits max n (c ∷ cs) = if is_ascii_digit c && nat_le (n * 10 + (c - 48)) max then digits max (n * 10 + (c - 48)) cs else (Some n, c ∷ cs)

-- a number of at most max, which is at least 9
unfoldable pub number : ℕ → Reader ℕ
number max [] = (None, [])
number max (c ∷ cs) = if is_ascii_digit c then (if c == 48 then (Some 0, cs) else digits max (c - 48) cs) else (None, c ∷ cs)

-- these bytes and then a number of at most max
unfoldable pub numbered : List ℕ → ℕ → Reader ℕ
numbered text max = lead text >> number max

-- the largest numbers of 8, 16, 32 and 64 bits
abbrev pub max_u8 : ℕ
max_u8 = 255

abbrev pub max_u16 : ℕ
max_u16 = 65535

abbrev pub max_u32 : ℕ
max_u32 = 4294967295

abbrev pub max_u64 : ℕ
max_u64 = 18446744073709551615

-- one digit for each limit, after n: what the digits make so far is at most their limit
unfoldable pub fixed : List ℕ → ℕ → Reader ℕ
fixed [] n s = (Some n, s)
fixed (limit ∷ limits) n [] = (None, [])
fixed (limit ∷ limits) n (c ∷ cs) = if is_ascii_digit c && nat_le (n * 10 + (c - 48)) limit then fixed limits (n * 10 + (c - 48)) cs else (None, c ∷ cs)

-- no zero comes first
abbrev pub nonzero : {A : Type 0} → Reader A → Reader A
nonzero run s = if begins 48 s then (None, s) else run s

-- the front digits of 999, and of the largest number of 32 bits
abbrev pub priority_limits : List ℕ
priority_limits = 9 ∷ 99 ∷ 999 ∷ []

abbrev pub sequence_limits : List ℕ
sequence_limits = 4 ∷ 42 ∷ 429 ∷ 4294 ∷ 42949 ∷ 429496 ∷ 4294967 ∷ 42949672 ∷ 429496729 ∷ 4294967295 ∷ []

unfoldable pub priority_in : Reader ℕ
priority_in = nonzero (fixed priority_limits 0)

unfoldable pub request_in : Reader RequestId
request_in = do
  priority ← priority_in
  lead (codes "-")
  seq ← fixed sequence_limits 0
  gives (record { priority = priority; seq = seq })

abbrev pub close : {A : Type 0} → Reader (List A)
close = lead (codes "]") >> gives []

-- at most `room` further items of a list, and the bracket
unfoldable pub rest_in : {A : Type 0} → Reader A → ℕ → Reader (List A)
rest_in item zero = close
rest_in item (suc room) = fork 93 close (do
  lead (codes ",")
  x ← item
  xs ← rest_in item room
  gives (x ∷ xs))

-- an answer with these items in front of what was read
abbrev pub with_front : {A : Type 0} → List A → Option (List A) × List ℕ → Option (List A) × List ℕ
with_front xs read = (option_map (λ ys. xs ++ ys) read.0, read.1)

-- a list of at most one more item than room
unfoldable pub list_in : {A : Type 0} → Reader A → ℕ → Reader (List A)
list_in item room = do
  lead (codes "[")
  fork 93 close (do
    x ← item
    xs ← rest_in item room
    gives (x ∷ xs))

-- the first byte, or 0 at the end
abbrev pub first_byte : List ℕ → ℕ
first_byte [] = 0
first_byte (b ∷ bs) = b

-- the word of the value that the first byte determines
unfoldable pub chosen : {A : Type 0} → (ℕ → A) → (A → List ℕ) → Reader A
chosen by word s = (lead (word (by (first_byte s))) >> gives (by (first_byte s))) s

abbrev pub flag_by : ℕ → Bool
flag_by b = b == 116

abbrev pub role_kind_by : ℕ → RoleKind
role_kind_by b = if b == 108 then RoleKind.Launcher else (if b == 106 then RoleKind.Janitor else RoleKind.Requester)

-- ## Items of lists

unfoldable pub label_in : Reader LabelId
label_in = do
  n ← number max_u16
  gives (record { 0 = n })

unfoldable pub node_id_in : Reader NodeId
node_id_in = do
  n ← number max_u32
  gives (record { 0 = n })

unfoldable pub marked_in : Reader Marked
marked_in = do
  n ← numbered (codes "[") max_u32
  lead (codes ",")
  ended ← chosen flag_by flag_text
  lead (codes "]")
  gives (record { node = record { 0 = n }; ended = ended })

unfoldable pub reason_in : Reader Reason
reason_in = fork 115 (do
  n ← numbered (codes "spent-n") max_u32
  gives (Reason.Spent (record { 0 = n }))) (fork 116 (do
    lead (codes "tenant-never-fits")
    gives Reason.TenantNeverFits) (do
      lead (codes "n")
      fork 111 (do
        l ← numbered (codes "o-label-l") max_u16
        gives (Reason.NoLabel (record { 0 = l }))) (do
          lead (codes "ever-fits")
          gives Reason.NeverFits)))

unfoldable pub declined_in : Reader Declined
declined_in = do
  p ← numbered (codes "[") max_u16
  lead (codes ",\"")
  why ← reason_in
  lead (codes "\"]")
  gives (record { pool = record { 0 = p }; reason = why })

-- ## Roles

unfoldable pub role_in : Reader RoleRecord
role_in = do
  acts ← numbered (codes "{\"acts\":") max_u32
  starts ← numbered (codes ",\"starts\":") max_u32
  strikes ← numbered (codes ",\"strikes\":") max_u32
  lead (codes "}")
  gives (record { acts = acts; starts = starts; strikes = strikes })

-- ## Sessions

-- the role of a kind and a number
abbrev pub role_of : RoleKind → ℕ → Role
role_of RoleKind.Launcher n = Role.Launcher (record { 0 = n })
role_of RoleKind.Janitor n = Role.Janitor (record { 0 = n })
role_of RoleKind.Requester n = Role.Requester (record { 0 = n })

unfoldable pub role_name_in : Reader Role
role_name_in = do
  kind ← chosen role_kind_by role_kind_word
  n ← numbered (codes "-") max_u16
  gives (role_of kind n)

unfoldable pub session_in : Reader SessionRecord
session_in = do
  lead (codes "{\"mute\":")
  mute ← chosen flag_by flag_text
  lead (codes ",\"role\":\"")
  role ← role_name_in
  lead (codes "\"}")
  gives (record { mute = mute; role = role })

-- ## Nodes

unfoldable pub node_front_in : Reader (Option RequestId)
node_front_in = do
  lead (codes "{\"a")
  fork 108 (do
    lead (codes "llocated-to\":\"")
    id ← request_in
    lead (codes "\",\"attempts\":")
    gives (Some id)) (do
      lead (codes "ttempts\":")
      gives None)

unfoldable pub node_head_in : Reader (Option RequestId × ℕ × Bool)
node_head_in = do
  allocated_to ← node_front_in
  attempts ← number max_u8
  lead (codes ",\"in-flight\":")
  in_flight ← chosen flag_by flag_text
  gives (allocated_to, attempts, in_flight)

unfoldable pub node_server_in : Reader (Option ℕ)
node_server_in = do
  lead (codes ",\"s")
  fork 101 (do
    server ← numbered (codes "erver\":") max_u64
    lead (codes ",\"since\":")
    gives (Some server)) (do
      lead (codes "ince\":")
      gives None)

unfoldable pub node_place_in : Reader (LabelId × PoolId × Option ℕ)
node_place_in = do
  label ← numbered (codes ",\"label\":") max_u16
  pool ← numbered (codes ",\"pool\":") max_u16
  server ← node_server_in
  gives (record { 0 = label }, record { 0 = pool }, server)

abbrev pub node_state_by : ℕ → NodeState
node_state_by b =
    if b == 98 then NodeState.Building else (
    if b == 114 then NodeState.Ready else (
    if b == 105 then NodeState.InUse else (
    if b == 117 then NodeState.Used else (
    if b == 104 then NodeState.Hold else (
    if b == 100 then NodeState.Deleting else NodeState.Failed)))))

unfoldable pub node_state_in : Reader NodeState
node_state_in = do
  lead (codes ",\"state\":\"")
  state ← chosen node_state_by node_state_word
  lead (codes "\"")
  gives state

unfoldable pub node_age_in : Reader (ℕ × ℕ × NodeState)
node_age_in = do
  since ← number max_u32
  start ← numbered (codes ",\"start\":") max_u32
  state ← node_state_in
  gives (since, start, state)

unfoldable pub node_tenant_in : Reader (Option TenantId)
node_tenant_in = fork 125 (do
  lead (codes "}")
  gives default_tenant) (do
    lead (codes ",\"tenant\":")
    fork 34 (do
      lead (codes "\"none\"}")
      gives None) (do
        t ← number max_u16
        lead (codes "}")
        gives (Some (record { 0 = t }))))

unfoldable pub node_in : Reader NodeRecord
node_in = do
  head ← node_head_in
  place ← node_place_in
  age ← node_age_in
  tenant ← node_tenant_in
  gives (record {
    allocated_to = head.0;
    attempts = head.1;
    in_flight = head.2;
    label = place.0;
    pool = place.1;
    server = place.2;
    since = age.0;
    start = age.1;
    state = age.2;
    tenant = tenant;
  })

-- ## Jobs

abbrev pub ending_by : ℕ → Ending
ending_by b = if b == 115 then Ending.Served else (if b == 108 then Ending.Lost else (if b == 102 then Ending.Failed else Ending.Withdrawn))

unfoldable pub job_front_in : Reader (Option Ending)
job_front_in = do
  lead (codes "{\"")
  fork 101 (do
    lead (codes "ending\":\"")
    e ← chosen ending_by ending_word
    lead (codes "\",\"nodes\":")
    gives (Some e)) (do
      lead (codes "nodes\":")
      gives None)

unfoldable pub open_phase_in : Reader Phase
open_phase_in = fork 110 (lead (codes "new\"") >> gives Phase.New) (fork 97 (lead (codes "asked\"") >> gives Phase.Asked) (lead (codes "using\"") >> gives Phase.Using))

unfoldable pub phase_in : Option Ending → Reader Phase
phase_in (Some e) = lead (codes ",\"phase\":\"over\"") >> gives Phase.Over
phase_in None = lead (codes ",\"phase\":\"") >> open_phase_in

unfoldable pub no_end_in : Reader (Option PoolId × Option RequestId)
no_end_in = lead (codes "}") >> gives (None, None)

-- an id after these bytes, and the end of the record
unfoldable pub asked_end_in : List ℕ → Option PoolId → Reader (Option PoolId × Option RequestId)
asked_end_in text pool = do
  lead text
  id ← request_in
  lead (codes "\"}")
  gives (pool, Some id)

unfoldable pub using_end_in : List ℕ → Reader (Option PoolId × Option RequestId)
using_end_in text = do
  p ← numbered text max_u16
  asked_end_in (codes ",\"request\":\"") (Some (record { 0 = p }))

unfoldable pub over_end_in : Reader (Option PoolId × Option RequestId)
over_end_in = fork 125 no_end_in (lead (codes ",\"") >> fork 112 (using_end_in (codes "pool\":")) (asked_end_in (codes "request\":\"") None))

abbrev pub job_end_in : Phase → Reader (Option PoolId × Option RequestId)
job_end_in Phase.New = no_end_in
job_end_in Phase.Asked = asked_end_in (codes ",\"request\":\"") None
job_end_in Phase.Using = using_end_in (codes ",\"pool\":")
job_end_in Phase.Over = over_end_in

unfoldable pub job_in : Reader JobRecord
job_in = do
  ending ← job_front_in
  nodes ← list_in marked_in 31
  phase ← phase_in ending
  ends ← job_end_in phase
  gives (record { ending = ending; nodes = nodes; phase = phase; pool = ends.0; request = ends.1 })

-- ## Requests

unfoldable pub request_job_in : Reader (Option JobId)
request_job_in = do
  lead (codes ",\"")
  fork 106 (do
    j ← numbered (codes "job\":") max_u32
    lead (codes ",\"labels\":")
    gives (Some (record { 0 = j }))) (do
      lead (codes "labels\":")
      gives None)

unfoldable pub request_pinned_in : Option JobId → Reader (Option PoolId)
request_pinned_in (Some j) = gives None
request_pinned_in None = numbered (codes ",\"pinned\":") max_u16 >>= λ p. gives (Some (record { 0 = p }))

unfoldable pub request_pool_in : Reader (Option PoolId)
request_pool_in = do
  lead (codes ",\"")
  fork 112 (do
    p ← numbered (codes "pool\":") max_u16
    lead (codes ",\"relative-priority\":")
    gives (Some (record { 0 = p }))) (do
      lead (codes "relative-priority\":")
      gives None)

unfoldable pub served_state_in : Reader RequestState
served_state_in = fork 112 (lead (codes "pending\"}") >> gives RequestState.Pending) (lead (codes "fulfilled\"}") >> gives RequestState.Fulfilled)

unfoldable pub other_state_in : Reader RequestState
other_state_in = fork 114 (lead (codes "requested\"}") >> gives RequestState.Requested) (lead (codes "failed\"}") >> gives RequestState.Failed)

abbrev pub request_state_in : Option PoolId → Reader RequestState
request_state_in (Some p) = served_state_in
request_state_in None = other_state_in

unfoldable pub request_record_in : Reader RequestRecord
request_record_in = do
  lead (codes "{\"declined\":")
  declined ← list_in declined_in 63
  job ← request_job_in
  labels ← list_in label_in 31
  lead (codes ",\"nodes\":")
  nodes ← list_in node_id_in 31
  pinned ← request_pinned_in job
  pool ← request_pool_in
  relative_priority ← number max_u32
  lead (codes ",\"state\":\"")
  state ← request_state_in pool
  gives (record {
    declined = declined;
    job = job;
    labels = labels;
    nodes = nodes;
    pinned = pinned;
    pool = pool;
    relative_priority = relative_priority;
    state = state;
  })

-- what a reader of n bytes returns in all: its value if it left none, and otherwise the count of
-- bytes that it passed
abbrev pub answer : {A : Type 0} → ℕ → Option A → List ℕ → Result A BadRecord
answer n (Some a) [] = Ok a
answer n (Some a) (c ∷ cs) = Err (record { place = n - length (c ∷ cs) })
answer n None left = Err (record { place = n - length left })
