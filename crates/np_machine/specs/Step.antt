-- the index of the machine: one line per event, in judge, in effect and in its maker
use Rattle.std.specs.Prelude.{◌+◌, if◌then◌else◌, Option, Some, None, is_ok, Ok, Err, option_and_then}
use Rattle.std.specs.Option.{option_map_or}
use Rattle.np_machine.specs.Tables.{role_of, change_launcher, change_janitor, change_requester}
use Rattle.np_machine.specs.Tests.{Answer}
use Rattle.np_machine.specs.Request.{judge_register, effect_register, judge_submit, effect_submit, judge_revise, effect_revise, judge_min_ready, effect_min_ready, judge_lock_request, effect_lock_request, judge_unlock_request, effect_unlock_request, judge_accept, effect_accept, judge_decline, effect_decline, judge_fulfil, effect_fulfil, judge_reset, effect_reset, judge_fail_declined, effect_fail_declined}
use Rattle.np_machine.specs.Node.{judge_take_ready, effect_take_ready, judge_create, effect_create, judge_start, effect_start, judge_done, effect_done, judge_lock_node, effect_lock_node, judge_unlock_node, effect_unlock_node, judge_end_node, effect_end_node, judge_mark_deleting, effect_mark_deleting, judge_gone, effect_gone, judge_free_node, effect_free_node, judge_sweep, effect_sweep}
use Rattle.np_machine.specs.Semaphore.{judge_acquire, effect_acquire, judge_take, effect_take, judge_finish, effect_finish, judge_withdraw, effect_withdraw, judge_release, effect_release}
use Rattle.np_machine.specs.Session.{effect_tick, judge_open, effect_open, judge_crash, effect_crash, judge_expire, effect_expire}
use Rattle.np_machine.specs.State.{State}
use Rattle.np_machine.specs.Lower.{Configuration, Done, Event, Reply, Role, RoleRecord, SessionId}

-- what the event is answered: the first of its row's tests that fails, or what was done
abbrev pub judge : Configuration → State → Event → Answer
judge c s Event.Tick = Ok Done.Plain
judge c s (Event.OpenSession role) = judge_open c s role
judge c s (Event.Crash session) = judge_crash s session
judge c s (Event.Expire session) = judge_expire s session
judge c s (Event.Register session) = judge_register s session
judge c s (Event.Submit session j) = judge_submit c s session j
judge c s (Event.Revise session j relative) = judge_revise c s session j
judge c s (Event.MinReady session l) = judge_min_ready c s session l
judge c s (Event.LockRequest session r) = judge_lock_request c s session r
judge c s (Event.UnlockRequest session r) = judge_unlock_request s session r
judge c s (Event.Accept session r) = judge_accept c s session r
judge c s (Event.Decline session r why) = judge_decline c s session r why
judge c s (Event.TakeReady session r n) = judge_take_ready s session r n
judge c s (Event.Create session r) = judge_create c s session r
judge c s (Event.Start session n) = judge_start s session n
judge c s (Event.Done session n attempt o) = judge_done s session n attempt
judge c s (Event.Fulfil session r) = judge_fulfil s session r
judge c s (Event.LockNode session n) = judge_lock_node s session n
judge c s (Event.UnlockNode session n) = judge_unlock_node s session n
judge c s (Event.Acquire session j) = judge_acquire c s session j
judge c s (Event.Take session j) = judge_take c s session j
judge c s (Event.EndNode session n as_what) = judge_end_node c s session n
judge c s (Event.Finish session j) = judge_finish c s session j
judge c s (Event.Withdraw session j) = judge_withdraw c s session j
judge c s (Event.Release session j) = judge_release c s session j
judge c s (Event.MarkDeleting session n) = judge_mark_deleting c s session n
judge c s (Event.Gone session n) = judge_gone s session n
judge c s (Event.Reset session r) = judge_reset s session r
judge c s (Event.FreeNode session n) = judge_free_node s session n
judge c s (Event.FailDeclined session r) = judge_fail_declined s session r
judge c s (Event.Sweep session n x) = judge_sweep s session n x

-- what an accepted event changes, except for its role's acts
abbrev pub effect : Configuration → State → Event → State
effect c s Event.Tick = effect_tick s
effect c s (Event.OpenSession role) = effect_open s role
effect c s (Event.Crash session) = effect_crash s session
effect c s (Event.Expire session) = effect_expire s session
effect c s (Event.Register session) = effect_register s session
effect c s (Event.Submit session j) = effect_submit c s j
effect c s (Event.Revise session j relative) = effect_revise s j relative
effect c s (Event.MinReady session l) = effect_min_ready s session l
effect c s (Event.LockRequest session r) = effect_lock_request s session r
effect c s (Event.UnlockRequest session r) = effect_unlock_request s session r
effect c s (Event.Accept session r) = effect_accept s session r
effect c s (Event.Decline session r why) = effect_decline s session r why
effect c s (Event.TakeReady session r n) = effect_take_ready c s session r n
effect c s (Event.Create session r) = effect_create c s session r
effect c s (Event.Start session n) = effect_start s session n
effect c s (Event.Done session n attempt o) = effect_done c s n o
effect c s (Event.Fulfil session r) = effect_fulfil s r
effect c s (Event.LockNode session n) = effect_lock_node s session n
effect c s (Event.UnlockNode session n) = effect_unlock_node s session n
effect c s (Event.Acquire session j) = effect_acquire c s j
effect c s (Event.Take session j) = effect_take s j
effect c s (Event.EndNode session n as_what) = effect_end_node s n as_what
effect c s (Event.Finish session j) = effect_finish s j
effect c s (Event.Withdraw session j) = effect_withdraw s j
effect c s (Event.Release session j) = effect_release c s j
effect c s (Event.MarkDeleting session n) = effect_mark_deleting s n
effect c s (Event.Gone session n) = effect_gone s n
effect c s (Event.Reset session r) = effect_reset s r
effect c s (Event.FreeNode session n) = effect_free_node s n
effect c s (Event.FailDeclined session r) = effect_fail_declined s r
effect c s (Event.Sweep session n x) = effect_sweep s n x

-- the session that makes the event; tick, open, crash and expire have none
abbrev pub maker_of : Event → Option SessionId
maker_of (Event.Register session) = Some session
maker_of (Event.Submit session j) = Some session
maker_of (Event.Revise session j relative) = Some session
maker_of (Event.MinReady session l) = Some session
maker_of (Event.LockRequest session r) = Some session
maker_of (Event.UnlockRequest session r) = Some session
maker_of (Event.Accept session r) = Some session
maker_of (Event.Decline session r why) = Some session
maker_of (Event.TakeReady session r n) = Some session
maker_of (Event.Create session r) = Some session
maker_of (Event.Start session n) = Some session
maker_of (Event.Done session n attempt o) = Some session
maker_of (Event.Fulfil session r) = Some session
maker_of (Event.LockNode session n) = Some session
maker_of (Event.UnlockNode session n) = Some session
maker_of (Event.Acquire session j) = Some session
maker_of (Event.Take session j) = Some session
maker_of (Event.EndNode session n as_what) = Some session
maker_of (Event.Finish session j) = Some session
maker_of (Event.Withdraw session j) = Some session
maker_of (Event.Release session j) = Some session
maker_of (Event.MarkDeleting session n) = Some session
maker_of (Event.Gone session n) = Some session
maker_of (Event.Reset session r) = Some session
maker_of (Event.FreeNode session n) = Some session
maker_of (Event.FailDeclined session r) = Some session
maker_of (Event.Sweep session n x) = Some session
maker_of _ = None

-- ## the step

-- the role of the event's maker
abbrev pub acting : State → Event → Option Role
acting s e = option_and_then (λ session. role_of session s) (maker_of e)

abbrev pub one_more_act : RoleRecord → RoleRecord
one_more_act role = record role { acts = role.acts + 1 }

-- one more act of the role, if there is one
abbrev pub with_act : Option Role → State → State
with_act role s = record s {
  launchers = option_map_or (λ r. change_launcher one_more_act r s.launchers) role s.launchers;
  janitors = option_map_or (λ r. change_janitor one_more_act r s.janitors) role s.janitors;
  requesters = option_map_or (λ r. change_requester one_more_act r s.requesters) role s.requesters;
}

-- the state after the event: a refused one leaves it as it was
abbrev pub next : Configuration → State → Event → State
next c s e = if is_ok (judge c s e) then with_act (acting s e) (effect c s e) else s

abbrev pub reply_of : Answer → Reply
reply_of (Ok what) = Reply.Done what
reply_of (Err refusal) = Reply.Refused refusal

-- the machine: the answer to the event, and the state that it leaves
abbrev pub react : Configuration → State → Event → Reply × State
react c s e = (reply_of (judge c s e), next c s e)
