use Rattle.std.proofs.Common.{ap, sym, subst, map, ◌++◌, ◌∙◌}
use Rattle.std.proofs.lemmas.Result.{IfOk-weaker}
use Rattle.rb_base.specs.Names.{name_at}
use Rattle.image_model.specs.Image.{ImageOf}
use Rattle.query_model.specs.Lines.{Text}
use Rattle.class_table.specs.View.{image_of, number_image}
use Rattle.refusal_witnesses.specs.Lines.{AreLines}
use Rattle.refusal_witnesses.specs.ParameterWitnesses.{too_high}
use Rattle.witness_lists.specs.Views.{shown}
use Rattle.witness_numbers.specs.MappedWitnesses.{map_witness}
use Rattle.explained_scripts.proofs.RuleReasons.{high-lines, high-text}
use Rattle.explained_scripts.proofs.rules.high_lines.Goals as goal

pub returns : goal.returns
returns g c =
    let s = c.rewrite_image.new.image in
    IfOk-weaker c.witness_lines.result _ _
    (λ lines are i.
    subst (λ (k : ImageOf Text). AreLines i (too_high k) lines.items) c.in_ok-rewrite_image.ensures.image
    (high-lines (image_of s) i (image_of s) lines.items
    (subst (λ ws. AreLines (image_of s) ws lines.items)
    (ap (λ ws. map (map_witness (name_at s.names)) (shown s ws)) c.as_slice.ensures.value ∙ ap (map (map_witness (name_at s.names))) (c.in_ok-too_high.ensures ∙ ap (λ ws. shown s ws ++ too_high (number_image s)) c.new-found.ensures.items) ∙ sym (high-text s)) are)))
    c.witness_lines.ensures
