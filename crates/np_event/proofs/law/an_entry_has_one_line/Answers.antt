use Rattle.np_event.proofs.Lines.{entry_in-line, entry_in-told, entry_line-injective, reply_line-told}
use Rattle.np_event.proofs.law.an_entry_has_one_line.Goals as goal

pub returns : goal.returns
returns c = record {
  reads_back = entry_in-line;
  spelled = λ line e answer. let known = entry_in-told line e answer in (known.has, known.says, known.told);
  apart = entry_line-injective;
  told = reply_line-told;
}
