use Rattle.np_lookups.proofs.Prelude.{arith, change_at-past, sym}
use Rattle.np_lookups.proofs.QueueLemmas.{set-changed}
use Rattle.np_lookups.proofs.lists.take_back_at.Goals as goal

pub returns-then-at-len : goal.returns-then-at-len
returns-then-at-len g c = sym (change_at-past _ _ _ (omega (arith, c.len.ensures)))

pub returns : goal.returns
returns g c = set-changed _ _ _ _ (omega (arith, c.len.ensures)) c.index_mut-table.ensures.value _ c.take_back.ensures
