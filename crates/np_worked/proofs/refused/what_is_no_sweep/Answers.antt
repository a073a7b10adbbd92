use Rattle.np_worked.proofs.Prelude.{inl, node, refl, session}
use Rattle.np_worked.proofs.refused.what_is_no_sweep.Goals as goal

pub returns-clause-named : goal.returns-clause-named
returns-clause-named c = record {
  session = session 1;
  pool = record { 0 = 0 };
  number = node 0;
  server = 7;
  event = refl;
  removed = refl;
  current = refl;
  named = inl (record { session = session 2; attempt = 1; event = refl });
  unswept = refl;
}
