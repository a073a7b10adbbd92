use Rattle.np_event.proofs.Prelude.{BadArgument, WrongCount, event_row}
use Rattle.np_event.proofs.Lines.{form-fault, row-count, row-word}
use Rattle.np_event.proofs.law.a_line_is_judged_by_its_form.Goals as goal

pub returns : goal.returns
returns c = record {
  count = λ form rest stands.
      let fault = form-fault form rest WrongCount stands in
      let row = row-count (event_row form).kinds rest in
      (λ answer. row.0 (fault.0 answer), λ other. fault.1 (row.1 other));
  word = λ form rest word stands.
      let fault = form-fault form rest (BadArgument word) stands in
      let row = row-word (event_row form).kinds rest word in
      (λ answer. row.0 (fault.0 answer), λ told. fault.1 (row.1 told));
}
