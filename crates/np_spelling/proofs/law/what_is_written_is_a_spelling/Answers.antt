use Rattle.np_spelling.proofs.Prelude.{inl, refl}
use Rattle.np_spelling.proofs.law.what_is_written_is_a_spelling.Goals as goal

pub returns : goal.returns
returns c = record {
  requests = λ r is. (is, refl);
  nodes = λ n is. (is, inl refl);
  jobs = λ j is. (is, refl);
  roles = λ r is. (is, refl);
  sessions = λ s is. (is, refl);
}
