use Rattle.std.proofs.Common.{◌≡◌, ℕ, true, not, List, [], ◌∷◌, ◌++◌, map, sym, ap, subst, ◌∙◌}
use Rattle.std.specs.Prelude.{codes}
use Rattle.rb_base.specs.Names.{name_at}
use Rattle.query_model.specs.Lines.{Text}
use Rattle.scope_model.specs.Control.{is_empty}
use Rattle.class_table.specs.View.{number_image}
use Rattle.commands.specs.Views.{asked_by, command_of}
use Rattle.commands.specs.declared.command.CodeMove.{CodeMove}
use Rattle.commands.specs.declared.command.CodeMove.TheVariants as code
use Rattle.commands.specs.declared.command.Command.{Command}
use Rattle.commands.specs.declared.command.Command.TheVariants as command
use Rattle.refusal_witnesses.specs.Lines.{line_of, AreLines, no_lines}
use Rattle.refusal_witnesses.specs.Witnesses.{WitnessOf}
use Rattle.witness_numbers.specs.MappedWitnesses.{map_witness}
use Rattle.use_witnesses.specs.Brought.{brought_heights}
use Rattle.explained_scripts.proofs.BroughtLines.{none-there, high-line}
use Rattle.explained_scripts.proofs.witnesses.lines_high.Goals as goal

pub returns-then-not-branch : goal.returns-then-not-branch
returns-then-not-branch g c = λ i.
    subst (λ (ws : List (WitnessOf ℕ)). AreLines i (map (map_witness (name_at c.args.image.now.names)) ws) c.new-lines.result.items) (sym (none-there _ (sym c.in_ok-is_brought_high.ensures ∙ c.if-not-branch.true)))
    (subst (AreLines i []) (sym c.new-lines.ensures.items) no_lines)

pub returns : goal.returns
returns g c =
    let s = c.args.image.now in
    let p = c.in-ExtractMethod.part in
    let t = c.in-ExtractMethod.to in
    let is : c.args.command.now ≡ command.MoveCode (code.ExtractMethod p t) = c.in-MoveCode.is ∙ ap (λ (m : CodeMove). command.MoveCode m) c.in-ExtractMethod.is in
    let high = subst (λ (x : Command). not (is_empty (brought_heights (asked_by s.names) (number_image s) (command_of x))) ≡ true) is (sym c.in_ok-is_brought_high.ensures ∙ c.if-not-branch.false) in
    let line = c.in_ok-line.ensures ∙ ap (λ (title : Text). line_of (codes "method " ++ title)) (c.as_slice.ensures ∙ c.in_ok-title.ensures) in
    let items = c.in_ok-push.ensures.items ∙ ap (λ (ts : List Text). ts ++ c.in_ok-line.line ∷ []) c.new-lines.ensures.items in
    λ i. subst (λ (x : Command). AreLines i (map (map_witness (name_at s.names)) (brought_heights (asked_by s.names) (number_image s) (command_of x))) c.push.new.self.items) (sym is)
    (subst (AreLines i (map (map_witness (name_at s.names)) (brought_heights (asked_by s.names) (number_image s) (command_of (command.MoveCode (code.ExtractMethod p t)))))) (sym items)
    (high-line i s p.method.class p.method.meta p.method.selector p.from p.to t high c.in_ok-line.line line))
