-- The names from elsewhere that the proofs cite, passed on from one place. Declares nothing.
pub use Rattle.np_io.specs.Memory.{Appends, Takes, Rose, counted}
pub use Rattle.np_io.specs.Disk.{AfterTornWrite, DiskFacts, Elapses, IsDisk, LeavesOnly, Only, Reads, Settles, Stays, Tears, TornWrite, put_at, unknown_disk}
pub use Rattle.np_io.specs.DiskCalls.{IsImageAt, LeftSince, images_after, images_then, left_after, left_then, now_at}
pub use Rattle.np_io.specs.MemDisk.{facts_of}
pub use Rattle.np_io.specs.declared.disk_calls.Call.{Call}
pub use Rattle.np_io.specs.declared.disk_calls.Written.{Written}
pub use Rattle.std.proofs.Common.{Err, IfOk, IfSome, List, None, Ok, OnErr, OnOk, Option, Result, Some, ap, append_assoc, arith, drop, if◌then◌else◌, inl, inr, is_ok, length, length-append, length-take, refl, rules, subst, suc, sym, take, vec_len, zero, ℕ, [], ⊎_elim, ◌++◌, ◌+◌, ◌-◌, ◌<◌, ◌∙◌, ◌∷◌, ◌≡◌, ◌≤◌, ◌⊎◌}
pub use Rattle.std.proofs.Math.Seq.{take-add}
pub use Rattle.std.proofs.lemmas.Bool.{cases_lt}
pub use Rattle.std.proofs.lemmas.List.{drop-drop, drop_at, drop_more, length-drop, length-take-le, take-append-le, take-take, take_all, take_at, take_rest}
pub use Rattle.std.proofs.lemmas.Slice.{overwrites, take-put_mid}
pub use Rattle.std.specs.Option.{option_map}
pub use borrow.Rule.Slice.PartMut.{put_mid}
