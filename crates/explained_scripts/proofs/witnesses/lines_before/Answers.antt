use Rattle.std.proofs.Common.{ℕ, List, [], map, sym, subst}
use Rattle.std.proofs.lemmas.Result.{IfOk-weaker}
use Rattle.rb_base.specs.Names.{name_at}
use Rattle.commands.specs.Views.{command_of, condition_of}
use Rattle.commands.specs.declared.condition.Condition.{Condition}
use Rattle.refusal_witnesses.specs.Lines.{AreLines, no_lines}
use Rattle.refusal_witnesses.specs.Witnesses.{WitnessOf}
use Rattle.witness_numbers.specs.MappedWitnesses.{map_witness}
use Rattle.explained_scripts.specs.Brought.{brought_before}
use Rattle.explained_scripts.proofs.Unmoved.{none-before}
use Rattle.explained_scripts.proofs.witnesses.lines_before.Goals as goal

pub returns-in-Shallow : goal.returns-in-Shallow
returns-in-Shallow g c =
    let s = c.args.image.now in
    IfOk-weaker c.lines_high.result _ _
    (λ lines are i. subst (λ (q : Condition). AreLines i (map (map_witness (name_at s.names)) (brought_before s (command_of c.args.command.now) (condition_of q))) lines.items) (sym c.in-Shallow.is) (are i)) c.lines_high.ensures

pub returns-in_default : goal.returns-in_default
returns-in_default g c =
    let s = c.args.image.now in
    λ i. subst (λ (ws : List (WitnessOf ℕ)). AreLines i (map (map_witness (name_at s.names)) ws) c.new.result.items)
    (none-before s (command_of c.args.command.now) c.args.condition.now c.in_default.not-Shallow)
    (subst (AreLines i []) (sym c.new.ensures.items) no_lines)
