-- What the definitions take from the crates below, passed on from one place. Declares nothing.
pub use Rattle.np_causes.specs.Explains.{IsNamed, IsTold, waits, named_by}
pub use Rattle.np_causes.specs.Fact.{IsTrueOf, Tells, about_of}
pub use Rattle.np_causes.specs.declared.fact.Fact.{Fact}
pub use Rattle.np_causes.specs.declared.fact.Thing.{Thing}
pub use Rattle.np_changes.specs.Prelude.{Amount, Configuration, EachAfter, Fits, Janitor, Job, JobId, JobRecord, LabelId, Launcher, Limit, NodeId, NodeState, Phase, Pool, PoolId, Reaper, Reason, RequestId, Requester, RequesterId, Role, SemId, SessionId, State, TenantId, is_over, limit_of, limit_of_tenant, option_map, option_map_or, ten_digits_of}
pub use Rattle.np_config.specs.Configuration.{tenant_of}
