use Rattle.np_text.proofs.NameLemmas.{IsAscii-name}
use Rattle.np_text.proofs.law.a_name_is_ascii.Goals as goal

pub returns : goal.returns
returns c = IsAscii-name
