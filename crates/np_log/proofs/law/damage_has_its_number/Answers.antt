use Rattle.np_log.proofs.Prelude.{event_forms, event_in, record_in, refl, walk, walk_of}
use Rattle.np_log.proofs.Walks.{after_record-many}
use Rattle.np_log.proofs.law.damage_has_its_number.Goals as goal

pub returns : goal.returns
unfolding walk_of walk record_in event_in event_forms
returns c = record {
  no_bytes = refl;
  no_gate = refl;
  closed_first = refl;
  short_config = refl;
  short_length = refl;
  short_batch = refl;
  no_newline = refl;
  too_many = after_record-many;
}
