use Rattle.std.proofs.Common.{◌≡◌, ℕ, Bool, sym, ap, ◌∙◌}
use Rattle.std.proofs.lemmas.Result.{IfOk-weaker}
use Rattle.class_table.specs.View.{number_image}
use Rattle.command_model.specs.Asked.{no_parts}
use Rattle.command_model.specs.LetConditions.{is_let_form}
use Rattle.command_model.specs.Numbers.{number_asked}
use Rattle.commands.specs.Views.{self_in}
use Rattle.commands.specs.declared.condition.Condition.{Condition}
use Rattle.let_code.specs.Lets.{let_as}
use Rattle.part_questions.specs.Codes.{entry_of}
use Rattle.code_conditions.specs.Passes.{let_passes}
use Rattle.code_conditions.proofs.lets.let_passes.Goals as goal

pub returns-in-LetForm : goal.returns-in-LetForm
returns-in-LetForm c =
    let s = c.args.image.now in
    let q = c.args.question.now in
    IfOk-weaker {X = Bool} c.is_let_form.result (λ is. is ≡ is_let_form (number_asked s.names c.self_name.result no_parts) (number_image s) (entry_of s q.code) q.variable (let_as q.assignment.now))
    (λ is. is ≡ let_passes s q.variable c.args.condition.now (entry_of s q.code) (let_as q.assignment.now))
    (λ is e. e
    ∙ ap (λ (n : ℕ). is_let_form (number_asked s.names n no_parts) (number_image s) (entry_of s q.code) q.variable (let_as q.assignment.now)) (c.self_name.ensures ∙ ap self_in c.names.ensures)
    ∙ ap (λ (k : Condition). let_passes s q.variable k (entry_of s q.code) (let_as q.assignment.now)) (sym c.in-LetForm.is)) c.is_let_form.ensures
