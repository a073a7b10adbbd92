use Rattle.np_layout.proofs.Prelude.{slice_cmp-request_text, slice_cmp-ten}
use Rattle.np_layout.proofs.place_laws.names_stand_in_order.Goals as goal

pub returns : goal.returns
returns c = record { requests = slice_cmp-request_text; request_locks = slice_cmp-request_text; request_waits = λ id. slice_cmp-ten; nodes = λ a b. slice_cmp-ten a.0 b.0; node_waits = λ n. slice_cmp-ten; sessions = λ a b. slice_cmp-ten a.0 b.0 }
