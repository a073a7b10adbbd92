-- What the definitions take from the crates below, passed on from one place. Declares nothing.
pub use Rattle.np_amount.specs.declared.amount.Limit.{Limit}
pub use Rattle.np_config.specs.Configuration.{AreProviders, AreRequesters, Configuration, IsFault, IsJob, IsLabel, IsOffer, IsPool, IsPriority, IsProvider, IsRequester, IsSem, IsSound, IsTaken, IsWanted, StandsByOwner, configuration}
pub use Rattle.np_config.specs.declared.row.Job.{Job}
pub use Rattle.np_config.specs.declared.row.Label.{Label}
pub use Rattle.np_config.specs.declared.row.Offer.{Offer}
pub use Rattle.np_config.specs.declared.row.Pool.{Pool}
pub use Rattle.np_config.specs.declared.row.Provider.{Provider}
pub use Rattle.np_config.specs.declared.row.Requester.{Requester}
pub use Rattle.np_config.specs.declared.row.Sem.{Sem}
pub use Rattle.np_text.specs.declared.id.LabelId.{LabelId}
pub use Rattle.np_text.specs.declared.id.SemId.{SemId}
pub use Rattle.np_text.specs.declared.word.EndAs.TheVariants.{Used}
