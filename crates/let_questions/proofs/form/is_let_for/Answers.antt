use Rattle.std.proofs.Common.{◌≡◌, ℕ, ◌&&◌, true, List, length, sym, ap, ◌∙◌}
use Rattle.std.specs.Prelude.{nat_eq}
use Rattle.std.proofs.lemmas.Bool.{eq-eqb}
use Rattle.std.proofs.lemmas.Result.{IfOk-weaker}
use Rattle.st_tree.specs.View.{method_of}
use Rattle.class_table.specs.View.{number_image}
use Rattle.command_model.specs.Asked.{no_parts}
use Rattle.command_model.specs.Numbers.{number_asked}
use Rattle.command_model.specs.Parts.{Expression}
use Rattle.command_model.specs.Places.{innermost}
use Rattle.command_model.specs.PartConditions.{is_first_evaluated}
use Rattle.let_code.specs.Lets.{let_as}
use Rattle.part_questions.specs.Codes.{entry_of}
use Rattle.let_questions.specs.Places.{is_in_next}
use Rattle.let_questions.proofs.form.is_let_for.Goals as goal

pub returns : goal.returns
returns c =
    let s = c.args.image.now in
    let it = c.args.question.now in
    let read = c.args.read.now in
    let first = λ (path : List ℕ). is_first_evaluated (number_asked s.names c.args.self_name no_parts) (number_image s) (entry_of s it.code) (Expression path) in
    let round : nat_eq (innermost (method_of it.code.tree.now) read) (length it.assignment.now.sequence) ≡ true =
    eq-eqb (innermost (method_of it.code.tree.now) read) (length it.assignment.now.sequence) (sym c.innermost-scope.ensures ∙ c.if-scope-len.false ∙ c.len.ensures) in
    let next : is_in_next (let_as it.assignment.now) read ≡ true = sym c.is_in_next.ensures ∙ c.if-not-is_in_next.false in
    IfOk-weaker c.is_first_evaluated.result _ _ (λ is e. e ∙ ap first c.in_ok-path.ensures ∙ sym (λ j. (round j && next j) && first read)) c.is_first_evaluated.ensures
