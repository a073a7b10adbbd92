use Rattle.np_io.proofs.Prelude.{refl}
use Rattle.np_io.proofs.FileLemmas.{always_if, always_on, rose_by_count, unknown_stays, unknown_tears, unknown_settles}
use Rattle.np_io.proofs.file_disk.FileDiskDisk.TheImpl.Goals as goal

pub open_file-tells : goal.open_file-tells
open_file-tells g c = record {
  stays = unknown_stays _ _;
  cause = rose_by_count c.result _ _ c.ensures.faults;
  later = c.ensures.later;
}

pub length-tells : goal.length-tells
length-tells g c = record {
  answer = always_if c.result _ (λ n. tt);
  stays = unknown_stays _ _;
  cause = rose_by_count c.result _ _ c.ensures.faults;
  later = c.ensures.later;
}

pub read_at-tells : goal.read_at-tells
read_at-tells g c = record {
  bound = c.ensures.bound;
  read = always_if c.result _ (λ n. tt);
  stays = unknown_stays _ _;
  cause = rose_by_count c.result _ _ c.ensures.faults;
  later = c.ensures.later;
}

pub write_at-tells : goal.write_at-tells
write_at-tells g c = record {
  written = always_on c.result _ refl;
  tears = unknown_tears _ _ _ _;
  cause = rose_by_count c.result _ _ c.ensures.faults;
  later = c.ensures.later;
}

pub sync-tells : goal.sync-tells
sync-tells g c = record {
  durable = always_on c.result _ tt;
  settles = unknown_settles _ _;
  cause = rose_by_count c.result _ _ c.ensures.faults;
  later = c.ensures.later;
}
