use Rattle.std.proofs.Common.{◌≡◌, Bool, ◌∙◌}
use Rattle.std.specs.Prelude.{nat_eq}
use Rattle.std.proofs.lemmas.Result.{IfOk-weaker}
use Rattle.class_table.specs.View.{number_image}
use Rattle.rename_model.specs.Conditions as conditions
use Rattle.code_questions.specs.declared.question.Way.TheVariants as way
use Rattle.code_questions.specs.declared.question.Whose.TheVariants as whose
use Rattle.code_questions.specs.Questions.{is_found}
use Rattle.conditions.proofs.CodeAsked.{users-have}
use Rattle.conditions.proofs.code.is_known_selector.Goals as goal

pub returns : goal.returns
returns g c =
    let i = number_image c.args.image.now in
    let s = c.args.selector in
    IfOk-weaker c.is_found.result (λ (is : Bool). is ≡ is_found i (record { whose = whose.Users; what = way.Selector; name = s })) (λ (is : Bool). is ≡ conditions.is_known_selector nat_eq i s)
    (λ is e. e ∙ users-have i s) c.is_found.ensures
