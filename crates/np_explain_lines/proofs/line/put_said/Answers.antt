use Rattle.np_explain_lines.proofs.Parts.{then_more, then_two}
use Rattle.np_explain_lines.proofs.line.put_said.Goals as goal

pub returns-in_ok-put-in-PastWindow : goal.returns-in_ok-put-in-PastWindow
returns-in_ok-put-in-PastWindow c = rw c.in-PastWindow.is (then_more c.put_job.result _ _ _ _ _ c.in_ok-put-in-PastWindow.ensures c.put_job.ensures)

pub returns-in_ok-put_session-in-TakenUp : goal.returns-in_ok-put_session-in-TakenUp
returns-in_ok-put_session-in-TakenUp c = rw c.in-TakenUp.is (then_more c.put-in-TakenUp.result _ _ _ _ _ c.in_ok-put_session-in-TakenUp.ensures c.put-in-TakenUp.ensures)

pub returns-in_ok-put-in-Served : goal.returns-in_ok-put-in-Served
returns-in_ok-put-in-Served c = rw c.in-Served.is (then_more c.put_session-in-Served.result _ _ _ _ _ c.in_ok-put-in-Served.ensures c.put_session-in-Served.ensures)

pub returns-in_ok-put_session-in-Registered : goal.returns-in_ok-put_session-in-Registered
returns-in_ok-put_session-in-Registered c = rw c.in-Registered.is (then_more c.put-in-Registered.result _ _ _ _ _ c.in_ok-put_session-in-Registered.ensures c.put-in-Registered.ensures)

pub returns-in_ok-put_semaphore-in-Full : goal.returns-in_ok-put_semaphore-in-Full
returns-in_ok-put_semaphore-in-Full c = rw c.in-Full.is (then_two c.put-in-Full-2.result _ _ _ _ _ _ _ c.in_ok-put-in-Full.ensures c.in_ok-put_semaphore-in-Full.ensures c.put-in-Full-2.ensures)

pub returns-in_ok-put_pool-in-NoRoom : goal.returns-in_ok-put_pool-in-NoRoom
returns-in_ok-put_pool-in-NoRoom c = rw c.in-NoRoom.is (then_two c.put_next.result _ _ _ _ _ _ _ c.in_ok-put-in-NoRoom.ensures c.in_ok-put_pool-in-NoRoom.ensures c.put_next.ensures)

pub returns-in_ok-put_label-in-Lacks : goal.returns-in_ok-put_label-in-Lacks
returns-in_ok-put_label-in-Lacks c = rw c.in-Lacks.is (then_two c.put-in-Lacks-2.result _ _ _ _ _ _ _ c.in_ok-put-in-Lacks.ensures c.in_ok-put_label-in-Lacks.ensures c.put-in-Lacks-2.ensures)

pub returns-in_ok-put-in-TenantUses : goal.returns-in_ok-put-in-TenantUses
returns-in_ok-put-in-TenantUses c = rw c.in-TenantUses.is (then_more c.put_amount-in-TenantUses.result _ _ _ _ _ c.in_ok-put-in-TenantUses.ensures (rw c.limit_of_tenant.ensures at c.put_amount-in-TenantUses.ensures))
