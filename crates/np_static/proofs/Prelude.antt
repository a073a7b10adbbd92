-- The names that the proofs cite from elsewhere, passed on from one place. Declares nothing.
pub use Rattle.np_cloud.specs.declared.driver.LaunchFault.{LaunchFault}
pub use Rattle.np_cloud.specs.declared.driver.Server.{Server}
pub use Rattle.np_event.proofs.Fields.{words_of-last, words_of-split}
pub use Rattle.np_lists.proofs.Changes.{length-filter_at_most}
pub use Rattle.np_lists.proofs.Plain.{by_bool, drop-past, drop-there, length-map, map-push, member-there}
pub use Rattle.np_report.proofs.PlayedLemmas.{lines_read-fault, lines_read-few, lines_read-many, lines_read-said, read_before}
pub use Rattle.np_static.specs.Counts.{all-filter, all-stands, count-apart, count-push, count-same, without}
pub use Rattle.np_static.specs.Line.{host_with}
pub use Rattle.np_static.specs.Loads.{AreFull, IsFirstFree, IsFirstHost, KeepsLoads, are_numbered, first_free, have_hosts, host_of, is_numbered, is_sound, launched_numbers, load_of, none_above, numbers_with, server_number}
pub use Rattle.np_static.specs.Lower.{ConfigFault, Configuration, DistinctNumbers, FailsOnlyFull, HasOutcome, IsFull, Launch, LineFault, LinesFault, Outcome, Pool, PoolId, Simulation, Tag, Told, WrongCount, after_launch, after_removal, facts_of, is_number, is_space, left_of, lines_of, lines_read, numbers_of, reads, sections_of, simulation_of, told_nothing, without_number, words_of}
pub use Rattle.np_static.specs.Read.{HasHostLines, Hosted, hosted_in, with_hosts, with_sites, without_bar, Tells, host_said, hosts_in, hosts_of, hosts_read, is_of, is_room_for, site_with, sites_from, sites_with, with_site}
unfoldable pub use Rattle.np_static.specs.Read.{hosted_of}
pub use Rattle.np_static.specs.Site.{Hosting, hosted_outcome, hosting, hosting_of, launch_on, Site, hosted, simulated, site_of, told_of, none_above-each}
pub use Rattle.np_static.specs.declared.driver.HostDriver.{HostDriver}
pub use Rattle.np_static.specs.declared.fault.HostsFault.{HostsFault}
pub use Rattle.np_static.specs.declared.fault.HostsRead.{HostsRead}
pub use Rattle.np_static.specs.declared.limit.TheConstants.{HOSTS}
pub use Rattle.np_static.specs.declared.line.HostLine.{HostLine}
pub use Rattle.np_static.specs.declared.site.SiteDriver.{SiteDriver}
pub use Rattle.np_text.proofs.LineLemmas.{lines_of-walk}
pub use Rattle.np_text.specs.Lines.{line_in}
pub use Rattle.std.proofs.Common.{All, Bool, Err, List, None, Ok, Option, Result, Some, [], ap, append-nil, append_assoc, arith, cond, drop, false, filter, get_or, get_or-set_other, inl, inr, length, length-append, length-set, map, nat_le, nat_lt, not, option_copied, refl, slice_get, slice_index, slice_set, subst, suc, sum, sym, take, true, zero, ℕ, ◌%◌, ◌++◌, ◌+◌, ◌-◌, ◌/◌, ◌<◌, ◌==◌, ◌∙◌, ◌∷◌, ◌≡◌, ◌≢◌, ◌≤◌, ◌⊎◌}
pub use Rattle.std.proofs.lemmas.Bool.{and_from, and_parts, or_right}
pub use Rattle.std.proofs.lemmas.Bool.Decides.{nat_tests}
pub use Rattle.std.proofs.lemmas.Grind.{get_or-set_at}
pub use Rattle.std.proofs.lemmas.List.{drop_min, get_or_read_under}
pub use Rattle.std.proofs.lemmas.List.Elements.{All-cons, All-nil}
pub use Rattle.std.proofs.lemmas.List.Filters.{length-filter_both}
pub use Rattle.std.proofs.lemmas.List.Folds.{list_all-append}
pub use Rattle.std.proofs.lemmas.List.Splits.{length-slice_split}
pub use Rattle.std.proofs.lemmas.List.Sums.{sum_by-cons}
pub use Rattle.std.proofs.lemmas.Option.{get_or_from_slice_get, slice_get-get_or, slice_get_within}
pub use Rattle.std.proofs.lemmas.Result.{err_from_is_err_and}
pub use Rattle.std.specs.Prelude.{IfOk}
