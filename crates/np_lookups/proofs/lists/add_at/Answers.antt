use Rattle.np_lookups.proofs.Prelude.{arith, change_at-past, sym}
use Rattle.np_lookups.proofs.QueueLemmas.{set-back, set-changed}
use Rattle.np_lookups.proofs.lists.add_at.Goals as goal

pub returns-then-at-len-clause-ok : goal.returns-then-at-len-clause-ok
returns-then-at-len-clause-ok g c = sym (change_at-past _ _ _ (omega (arith, c.len.ensures)))

pub returns-then-at-len-clause-undo : goal.returns-then-at-len-clause-undo
returns-then-at-len-clause-undo g c = change_at-past _ _ _ (omega (arith, c.len.ensures))

pub returns-clause-ok : goal.returns-clause-ok
returns-clause-ok g c = set-changed _ _ _ _ (omega (arith, c.len.ensures)) c.index_mut-table.ensures.value _ c.in_ok-added.ensures.ok

pub returns-clause-undo : goal.returns-clause-undo
returns-clause-undo g c = set-back _ _ _ _ (omega (arith, c.len.ensures)) c.index_mut-table.ensures.value _ c.in_ok-added.ensures.undo
