use Rattle.np_config_text.proofs.Short.{canonical-short}
use Rattle.np_config_text.proofs.law.a_canonical_text_is_short.Goals as goal

pub returns : goal.returns
returns c = canonical-short
