-- What the definitions take from the crates below, passed on from one place. Declares nothing.
pub use Rattle.np_changes.specs.Prelude.{AmountFits, Job, JobId, LabelId, Offer, PoolId, RequestRecord, SemId, TenantId, amount_of, first_unoffered, fits, is_offered, limit_of, limit_of_tenant, may_fit, never_fits, offers_of, ready_age, tenant_never_fits, times}
pub use Rattle.np_config.specs.Configuration.{Configuration, tenant_of}
pub use Rattle.np_config_read.specs.Providers.{pool_name}
pub use Rattle.np_config_read.specs.Walk.{reads}
pub use Rattle.np_json.specs.declared.fault.ConfigFault.{ConfigFault}
pub use Rattle.np_json.specs.declared.fault.ConfigKind.{ConfigKind}
pub use Rattle.np_machine.specs.Request.{asked_by}
