use Rattle.np_event.proofs.Lines.{unheaded-unknown, unknown-unheaded}
use Rattle.np_event.proofs.Fields.{with_field-said, with_field-unsaid}
use Rattle.np_event.proofs.law.faults_are_told_by_the_lines.Goals as goal

pub returns : goal.returns
returns c = record {
  unknown = λ first rest. (unknown-unheaded first rest, unheaded-unknown first rest);
  unfit = λ kind text f. (
    λ none says. with_field-unsaid kind text f none says.0 says.1 says.2,
    λ unsaid. with_field-said kind text f (λ g has says. unsaid (g, has, says)),
  );
}
