-- What the definitions take from the crates below, passed on from one place. Declares nothing.
pub use Rattle.np_changes.specs.Prelude.{AllByRecursion, Amount, Configuration, EachAfter, Entry, Fits, Janitor, JobId, LabelId, Launcher, NodeEntry, NodeId, NodeState, Phase, Pool, PoolId, Reason, RequestEntry, RequestId, RequestRecord, RequestState, Requester, RequesterId, Role, SemId, SessionFacts, SessionId, State, TenantId, asked_of, blocking, count_of, count_of_tenant, first_full, first_of, handles_of, has_handle, holder, is_over, is_pending_of, is_request, is_tenant, next_label, node_holder, node_in, option_map, option_map_or, owner_of, range_with_len, registered, request_holder, request_in, request_of_job, same_request, same_role, session_of}
pub use Rattle.np_look.specs.Readers.{current_of, has_request_under_way, is_under_way_by, unfinished_of}
pub use Rattle.np_look.specs.Jobs.{held_by, request_seen, request_view}
pub use Rattle.np_machine.specs.Reasons.{is_stuck_at}
pub use Rattle.np_useful.specs.Launcher.{concurrency_of, has_turn_left, is_held_near, is_served_near, is_sister, is_sister_launcher, provider_of, requests_near}
pub use Rattle.np_useful.specs.Sessions.{is_stopped}
pub use Rattle.np_useful.specs.Useful.{window_of}
pub use Rattle.np_worked.specs.Examples.{after_first, struck, struck_site, two_jobs, window_site}
pub use Rattle.np_worked.specs.Jobs.{crashed_requester, fail_declined, plain_path, retries_spent}
pub use Rattle.np_worked.specs.Nodes.{expiry_during_a_launch}
pub use Rattle.np_worked.specs.Shares.{paused_pool, semaphores_all_or_none, tenant_limit}
pub use Rattle.np_worked.specs.Site.{janitor, job, label, launcher, node, pool, request, requester, semaphore, session, tenant}
