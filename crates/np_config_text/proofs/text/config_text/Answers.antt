use Rattle.np_config_text.proofs.Prelude.{Data, Some, ap, canonical, compact_text, configuration_data, depth, has_float, read, subst, sym, view, ◌∙◌, ◌≡◌, ◌≤◌}
use Rattle.np_config_text.proofs.Values.{configuration-plain, configuration-depth}
use Rattle.np_config_text.proofs.AgainWhole.{reads-again}
use Rattle.np_config_text.proofs.text.config_text.Goals as goal

pub returns : goal.returns
unfolding canonical
returns c =
    let value : view c.in_ok-config_value.field-0 ≡ configuration_data c.args.config.now = c.in_ok-config_value.ensures in
    let text : c.in_ok-to_vec.field-0.items ≡ compact_text (configuration_data c.args.config.now) = c.in_ok-to_vec.ensures.text (ap has_float value ∙ configuration-plain c.args.config.now) ∙ ap compact_text value in
    let shallow : depth (view c.in_ok-config_value.field-0) ≤ 127 = subst (λ (d : Data). depth d ≤ 127) (sym value) (configuration-depth c.args.config.now) in
    let back : read c.in_ok-to_vec.field-0.items ≡ Some (configuration_data c.args.config.now) = c.in_ok-to_vec.ensures.reads_back shallow ∙ ap (λ (d : Data). Some d) value in
    record { text = text; again = reads-again c.args.config.now c.in_ok-to_vec.field-0.items c.know_soundness.ensures c.in_ok-to_vec.ensures.utf8 back }
