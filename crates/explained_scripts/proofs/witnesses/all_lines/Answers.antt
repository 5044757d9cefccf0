use Rattle.std.proofs.Common.{List, ◌++◌, map, ap, subst, ◌∙◌}
use Rattle.rb_base.specs.Names.{name_at}
use Rattle.query_model.specs.Lines.{Text}
use Rattle.class_table.specs.View.{image_of}
use Rattle.commands.specs.Views.{command_of, condition_of}
use Rattle.refusal_witnesses.specs.Lines.{AreLines}
use Rattle.witness_lists.specs.Views.{shown}
use Rattle.witness_numbers.specs.MappedWitnesses.{map_witness}
use Rattle.explained_scripts.specs.Brought.{brought_after, brought_before}
use Rattle.explained_scripts.specs.Families.{standing}
use Rattle.explained_scripts.proofs.BroughtLines.{three-lined}
use Rattle.explained_scripts.proofs.witnesses.all_lines.Goals as goal

pub returns : goal.returns
returns g c =
    let s = c.args.image.now in
    let command = command_of c.args.command.now in
    let condition = condition_of c.args.condition.now in
    three-lined (image_of s) s.names (brought_before s command condition) (standing s command condition) (brought_after s command condition) c.in_ok-before.before.items c.in_ok-there.there.items c.in_ok-after.after.items c.in_ok-all.all.items
    (c.in_ok-before.ensures (image_of s))
    (subst (λ ws. AreLines (image_of s) (map (map_witness (name_at s.names)) ws) c.in_ok-there.there.items) (ap (shown s) c.as_slice.ensures.value ∙ c.in_ok-found.ensures) c.in_ok-there.ensures)
    (c.in_ok-after.ensures (image_of s))
    (c.in_ok-all.ensures ∙ ap (λ (xs : List Text). xs ++ c.in_ok-after.after.items) c.in_ok-first.ensures)
