-- replies as lists of numbers, so that a test can compare them
use Rattle.std.specs.Prelude.{ℕ, List, [], ◌∷◌, Bool, true, ◌&&◌, nat_le, length}
use Rattle.std.specs.Str.{bytes_eq}
use Rattle.np_worker.specs.Lower.{Configuration, Done, Ending, Entry, Found, NodeState, Phase, Refusal, Reply, RequestState, State, judge, next, reply_of, start}

-- ## the words, in order (own)

abbrev pub ending_number : Ending → ℕ
ending_number Ending.Served = 0
ending_number Ending.Lost = 1
ending_number Ending.Failed = 2
ending_number Ending.Withdrawn = 3

abbrev pub request_state_number : RequestState → ℕ
request_state_number RequestState.Requested = 0
request_state_number RequestState.Pending = 1
request_state_number RequestState.Fulfilled = 2
request_state_number RequestState.Failed = 3

abbrev pub node_state_number : NodeState → ℕ
node_state_number NodeState.Building = 0
node_state_number NodeState.Ready = 1
node_state_number NodeState.InUse = 2
node_state_number NodeState.Used = 3
node_state_number NodeState.Hold = 4
node_state_number NodeState.Deleting = 5
node_state_number NodeState.Failed = 6

abbrev pub phase_number : Phase → ℕ
phase_number Phase.New = 0
phase_number Phase.Asked = 1
phase_number Phase.Using = 2
phase_number Phase.Over = 3

-- ## replies: first which one, then what it says (own)

abbrev pub found_numbers : Found → List ℕ
found_numbers (Found.Request state) = 0 ∷ request_state_number state ∷ []
found_numbers (Found.Node state) = 1 ∷ node_state_number state ∷ []
found_numbers Found.InFlight = 2 ∷ []
found_numbers (Found.Job at) = 3 ∷ phase_number at ∷ []

abbrev pub done_numbers : Done → List ℕ
done_numbers Done.Plain = 0 ∷ []
done_numbers (Done.Session session) = 1 ∷ session.0 ∷ []
done_numbers (Done.Request r) = 2 ∷ r.priority ∷ r.seq ∷ []
done_numbers (Done.Node n) = 3 ∷ n.0 ∷ []
done_numbers (Done.Started attempt start) = 4 ∷ attempt ∷ start ∷ []
done_numbers Done.Held = 5 ∷ []
done_numbers (Done.Queued ahead) = 6 ∷ ahead ∷ []
done_numbers Done.Keep = 7 ∷ []
done_numbers Done.Remove = 8 ∷ []
done_numbers (Done.Ended how) = 9 ∷ ending_number how ∷ []

abbrev pub refusal_numbers : Refusal → List ℕ
refusal_numbers Refusal.NoSession = 0 ∷ []
refusal_numbers Refusal.Expired = 1 ∷ []
refusal_numbers Refusal.Crashed = 2 ∷ []
refusal_numbers Refusal.WrongRole = 3 ∷ []
refusal_numbers Refusal.NoRequest = 4 ∷ []
refusal_numbers Refusal.NoNode = 5 ∷ []
refusal_numbers Refusal.NoJob = 6 ∷ []
refusal_numbers Refusal.NotOwner = 7 ∷ []
refusal_numbers Refusal.NotRegistered = 8 ∷ []
refusal_numbers (Refusal.Taken session) = 9 ∷ session.0 ∷ []
refusal_numbers (Refusal.Busy session) = 10 ∷ session.0 ∷ []
refusal_numbers Refusal.NotHeld = 11 ∷ []
refusal_numbers (Refusal.WrongState state) = 12 ∷ found_numbers state
refusal_numbers Refusal.Declined = 13 ∷ []
refusal_numbers (Refusal.NotFirst r) = 14 ∷ r.priority ∷ r.seq ∷ []
refusal_numbers Refusal.FalseReason = 15 ∷ []
refusal_numbers (Refusal.NoLabel l) = 16 ∷ l.0 ∷ []
refusal_numbers Refusal.NeverFits = 17 ∷ []
refusal_numbers (Refusal.QuotaShort instances cores ram) = 18 ∷ instances ∷ cores ∷ ram ∷ []
refusal_numbers (Refusal.Allocated r) = 19 ∷ r.priority ∷ r.seq ∷ []
refusal_numbers (Refusal.WrongAttempt attempts) = 20 ∷ attempts ∷ []
refusal_numbers (Refusal.NotAll missing) = 21 ∷ missing ∷ []
refusal_numbers (Refusal.SemaphoreFull x) = 22 ∷ x.0 ∷ []
refusal_numbers (Refusal.NotDue tick) = 23 ∷ tick ∷ []
refusal_numbers (Refusal.Enough count) = 24 ∷ count ∷ []
refusal_numbers Refusal.Spent = 25 ∷ []
refusal_numbers Refusal.Full = 26 ∷ []
refusal_numbers (Refusal.TenantShort instances cores ram) = 27 ∷ instances ∷ cores ∷ ram ∷ []
refusal_numbers Refusal.TenantNeverFits = 28 ∷ []

abbrev pub reply_numbers : Reply → List ℕ
reply_numbers (Reply.Done what) = 0 ∷ done_numbers what
reply_numbers (Reply.Refused why) = 1 ∷ refusal_numbers why

-- the replies are the same: so are their numbers (own)
abbrev pub is_same_reply : Reply → Reply → Bool
is_same_reply a b = bytes_eq (reply_numbers a) (reply_numbers b)

-- which journals are the machine's, as a test

-- from this state on, the machine gives the journal's replies, one by one (own)
abbrev pub has_replies : Configuration → State → List Entry → Bool
has_replies c s [] = true
has_replies c s (e ∷ journal) = is_same_reply e.reply (reply_of (judge c s e.event)) && has_replies c (next c s e.event) journal

-- it gives them from the start, and the journal is not longer than it may be: the journal runs (own)
unfoldable pub is_legal : Configuration → List Entry → Bool
is_legal c journal = has_replies c (start c) journal && nat_le (length journal) 262144
