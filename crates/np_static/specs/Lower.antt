-- What the definitions take from the crates below, passed on from one place. Declares nothing.
pub use Rattle.np_cloud.specs.Calls.{IsAsPlanned, KeepsCounts, Launches, Removes, without_number}
pub use Rattle.np_cloud.specs.Facts.{DriverFacts}
pub use Rattle.np_cloud.specs.Inventory.{HasOutcome, Simulation, Told, after_launch, after_removal, facts_of, simulated_outcome, simulation_facts, simulation_of, simulation_plan, told_nothing}
pub use Rattle.np_cloud.specs.Sound.{DistinctNumbers, FailsOnlyFull, IsFull, Soundness, every_list, is_number, numbers_of, soundness_of_every_list}
pub use Rattle.np_cloud.specs.declared.driver.Launch.{Launch}
pub use Rattle.np_cloud.specs.declared.driver.RemoveFailed.{RemoveFailed}
pub use Rattle.np_cloud.specs.declared.driver.Tag.{Tag}
pub use Rattle.np_cloud.specs.declared.driver.TheConstants.{MOST_LAUNCHES}
pub use Rattle.np_config_read.specs.Walk.{reads}
pub use Rattle.np_event.specs.Kind.{number_behind}
pub use Rattle.np_event.specs.Words.{is_space, left_of, words_of}
pub use Rattle.np_event.specs.declared.event.Outcome.TheVariants.{Failed, Launched}
pub use Rattle.np_event.specs.declared.fault.LineFault.{LineFault}
pub use Rattle.np_event.specs.declared.fault.LineFault.TheVariants.{BadArgument, UnknownEvent, WrongCount}
pub use Rattle.np_json.specs.declared.fault.ConfigFault.{ConfigFault}
pub use Rattle.np_machine.specs.Prelude.{Configuration, Outcome, Pool, PoolId, lines_of, list_all, number_of}
pub use Rattle.np_report.specs.Lines.{lines_read}
pub use Rattle.np_report.specs.declared.lines.LinesFault.{LinesFault}
pub use Rattle.np_text.specs.Sections.{sections_of}
