use Rattle.np_spelling.proofs.Prelude.{SpellsJob, SpellsNode, SpellsRequest, SpellsRole, SpellsSession}
use Rattle.np_spelling.proofs.Readers.{one_value}
use Rattle.np_spelling.proofs.Records.{job_means, job_read, node_means, node_read, role_means, role_read, session_means, session_read}
use Rattle.np_spelling.proofs.RequestForm.{request_means, request_read}
use Rattle.np_spelling.proofs.law.a_spelling_has_one_value.Goals as goal

pub returns : goal.returns
returns c = record {
  requests = one_value request_read SpellsRequest request_means;
  nodes = one_value node_read SpellsNode node_means;
  jobs = one_value job_read SpellsJob job_means;
  roles = one_value role_read SpellsRole role_means;
  sessions = one_value session_read SpellsSession session_means;
}
