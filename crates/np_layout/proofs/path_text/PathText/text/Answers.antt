use Rattle.np_layout.proofs.Prelude.{IsUtf8, IsUtf8-from_ascii, subst, sym}
use Rattle.np_layout.proofs.path_text.PathText.text.Goals as goal

pub unreachable-requires : goal.unreachable-requires
unreachable-requires c = c.in-Err.ensures.cases.0 (subst IsUtf8 (sym c.bytes.ensures) (IsUtf8-from_ascii _ c.self.invariant))
