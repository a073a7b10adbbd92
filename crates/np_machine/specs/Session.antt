-- the rows on sessions and the tick
use Rattle.std.specs.Prelude.{◌+◌, [], ◌∷◌, ◌++◌, Bool, true, false, not, if◌then◌else◌, is_some, Ok, length, map, filter, slice_get}
use Rattle.np_machine.specs.Entries.{RequestEntry, NodeEntry}
use Rattle.np_machine.specs.declared.state.SessionFacts.{SessionFacts}
use Rattle.np_machine.specs.Tables.{session_of, change_session, is_session, left, change_launcher, change_janitor, change_requester}
use Rattle.np_machine.specs.Tests.{Answer, maker, after_found}
use Rattle.np_lists.specs.Refusals.{◌>>=◌, ◌>>◌}
use Rattle.np_machine.specs.State.{State}
use Rattle.np_machine.specs.Lower.{Configuration, Done, Janitor, Launcher, Reaper, Refusal, Requester, Role, RoleRecord, SessionId, found, need}

-- ## tick: time advances by one (own)
abbrev pub effect_tick : State → State
effect_tick s = record s { tick = s.tick + 1 }

-- ## open: a role of the configuration begins a session (ZooKeeper Programmer's Guide: sessions)
abbrev pub is_role : Configuration → Role → Bool
is_role c (Launcher p) = is_some (slice_get c.pools p.0)
is_role c (Janitor p) = is_some (slice_get c.pools p.0)
is_role c (Requester q) = is_some (slice_get c.requesters q.0)
is_role c Reaper = false

abbrev pub judge_open : Configuration → State → Role → Answer
judge_open c s role = do
  need (is_role c role) Refusal.WrongRole
  Ok (Done.Session (record { 0 = length s.sessions + 1 }))

abbrev pub effect_open : State → Role → State
effect_open s role = record s { sessions = s.sessions ++ record { role = role; live = true; mute = false } ∷ [] }

-- ## crash: the party stops, and its session makes no more events (own)
abbrev pub judge_crash : State → SessionId → Answer
judge_crash s session = do
  _role ← maker s session
  Ok Done.Plain

abbrev pub muted : SessionFacts → SessionFacts
muted facts = record facts { mute = true }

-- one more strike against the role, unless it was counted at the crash
abbrev pub struck_unless : Bool → RoleRecord → RoleRecord
struck_unless counted role = record role { strikes = if counted then role.strikes else role.strikes + 1 }

abbrev pub crashed : State → SessionId → SessionFacts → State
crashed s session facts = record s {
  sessions = change_session session muted s.sessions;
  launchers = change_launcher (struck_unless false) facts.role s.launchers;
  janitors = change_janitor (struck_unless false) facts.role s.janitors;
  requesters = change_requester (struck_unless false) facts.role s.requesters;
}

abbrev pub effect_crash : State → SessionId → State
effect_crash s session = after_found (session_of session s) s (crashed s session)

-- ## expire: the session ends, and leaves every queue and its registration (ZooKeeper Programmer's Guide: ephemeral nodes go with their session)
abbrev pub judge_expire : State → SessionId → Answer
judge_expire s session = do
  facts ← found (session_of session s) Refusal.NoSession
  need facts.live Refusal.Expired
  Ok Done.Plain

abbrev pub ended : SessionFacts → SessionFacts
ended facts = record facts { live = false }

abbrev pub request_left : SessionId → RequestEntry → RequestEntry
request_left session e = record e { queue = left session e.queue }

abbrev pub node_left : SessionId → NodeEntry → NodeEntry
node_left session e = record e { queue = left session e.queue }

abbrev pub expired : State → SessionId → SessionFacts → State
expired s session facts = record s {
  sessions = change_session session ended s.sessions;
  registrations = filter (λ g. not (is_session g.session session)) s.registrations;
  requests = map (request_left session) s.requests;
  nodes = map (node_left session) s.nodes;
  launchers = change_launcher (struck_unless facts.mute) facts.role s.launchers;
  janitors = change_janitor (struck_unless facts.mute) facts.role s.janitors;
  requesters = change_requester (struck_unless facts.mute) facts.role s.requesters;
}

abbrev pub effect_expire : State → SessionId → State
effect_expire s session = after_found (session_of session s) s (expired s session)
