-- What the definitions take from the crates below, passed on from one place. Declares nothing.
pub use Rattle.np_amount.specs.declared.amount.Limit.{Limit}
pub use Rattle.np_config.specs.Configuration.{AreProviders, AreRequesters, Configuration, HasNewName, IsFault, IsJob, IsLabel, IsLimit, IsOffer, IsPool, IsPriority, IsProvider, IsRequester, IsRole, IsSem, IsSound, IsStart, IsTaken, IsTenant, IsWanted, StandsByOwner, default_name, default_tenant, tenant_of}
pub use Rattle.np_config.specs.Word.{fault_kind_of, fault_kind_word}
pub use Rattle.np_config.specs.declared.row.Fault.{Fault}
pub use Rattle.np_config.specs.declared.row.FaultKind.TheVariants.{Crash, Expire, Stop}
pub use Rattle.np_config.specs.declared.row.Job.{Job}
pub use Rattle.np_config.specs.declared.row.Label.{Label}
pub use Rattle.np_config.specs.declared.row.Offer.{Offer}
pub use Rattle.np_config.specs.declared.row.Pool.{Pool}
pub use Rattle.np_config.specs.declared.row.Provider.{Provider}
pub use Rattle.np_config.specs.declared.row.Requester.{Requester}
pub use Rattle.np_config.specs.declared.row.Sem.{Sem}
pub use Rattle.np_config.specs.declared.row.Tenant.{Tenant}
pub use Rattle.np_config_read.specs.FirstFaults.{json}
pub use Rattle.np_config_read.specs.Providers.{IsUnused, PoolsSoFar, ProvidersSoFar, job_keys, label_named, pool_keys, pool_name, pool_named, pool_names, provider_keys, requester_named, semaphore_named, tenant_id, tenant_keys, tenant_named, top_keys}
pub use Rattle.np_config_read.specs.Requesters.{JobsSoFar, RequestersSoFar, count, priority_of}
pub use Rattle.np_config_read.specs.Walk.{reads}
pub use Rattle.np_text.specs.Word.{end_as_of, end_as_word, role_kind_word}
pub use Rattle.np_text.specs.declared.id.LabelId.{LabelId}
pub use Rattle.np_text.specs.declared.id.PoolId.{PoolId}
pub use Rattle.np_text.specs.declared.id.RequesterId.{RequesterId}
pub use Rattle.np_text.specs.declared.id.Role.{Role}
pub use Rattle.np_text.specs.declared.id.Role.TheVariants.{Janitor}
pub use Rattle.np_text.specs.declared.id.SemId.{SemId}
pub use Rattle.np_text.specs.declared.id.TenantId.{TenantId}
pub use Rattle.np_text.specs.declared.word.EndAs.TheVariants.{Hold, Used}
pub use Rattle.np_text.specs.declared.word.RoleKind.{RoleKind}
