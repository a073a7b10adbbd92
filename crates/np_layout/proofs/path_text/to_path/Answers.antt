use Rattle.np_layout.proofs.Prelude.{◌∙◌}
use Rattle.np_layout.proofs.Names.{never_bad}
use Rattle.np_layout.proofs.path_text.to_path.Goals as goal

pub unreachable-requires : goal.unreachable-requires
unreachable-requires c =
    let told = rw c.in-Err-Bad.field-0-is at c.in-Err-Bad.ensures in
    never_bad c.args.place c.text.result.now c.in-Err-Bad.field-0-0 c.requires (c.text.ensures ∙ c.of.ensures) told
