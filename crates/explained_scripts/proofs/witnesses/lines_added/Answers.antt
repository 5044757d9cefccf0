use Rattle.std.proofs.Common.{ℕ, List, [], map, sym, ap, subst, ◌∙◌}
use Rattle.std.specs.List.{flat_map}
use Rattle.std.proofs.lemmas.List.{append-nil}
use Rattle.std.proofs.lemmas.Result.{IfOk-weaker}
use Rattle.rb_base.specs.Names.{name_at}
use Rattle.commands.specs.Views.{asked_by, command_of}
use Rattle.commands.specs.declared.command.Command.{Command}
use Rattle.refusal_witnesses.specs.Lines.{AreLines, no_lines}
use Rattle.refusal_witnesses.specs.NameWitnesses.{reflections_in}
use Rattle.refusal_witnesses.specs.Witnesses.{WitnessOf}
use Rattle.witness_numbers.specs.MappedWitnesses.{map_witness}
use Rattle.explained_scripts.specs.Brought.{brought_reflections}
use Rattle.explained_scripts.proofs.Unmoved.{none-added}
use Rattle.explained_scripts.proofs.witnesses.lines_added.Goals as goal

pub returns-in-AddMethod : goal.returns-in-AddMethod
returns-in-AddMethod c =
    let s = c.args.image.now in
    IfOk-weaker c.added_lines.result _ _
    (λ lines are i. subst (λ (ws : List (WitnessOf ℕ)). AreLines i (map (map_witness (name_at s.names)) ws) lines.items)
    (sym (append-nil _) ∙ ap (λ (x : Command). brought_reflections s (command_of x)) (sym c.in-AddMethod.is)) (are i)) c.added_lines.ensures

pub returns-in_default : goal.returns-in_default
returns-in_default c =
    let s = c.args.image.now in
    λ i. subst (λ (ws : List (WitnessOf ℕ)). AreLines i (map (map_witness (name_at s.names)) ws) c.new.result.items)
    (ap (flat_map (reflections_in (asked_by s.names).command_words)) (none-added c.args.command.now c.in_default.not-AddMethod))
    (subst (AreLines i []) (sym c.new.ensures.items) no_lines)
