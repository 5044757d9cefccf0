use Rattle.std.proofs.Common.{◌≡◌, Bool, not}
use Rattle.std.proofs.lemmas.Result.{IfOk-weaker}
use Rattle.scope_model.specs.Control.{is_empty}
use Rattle.image_model.specs.Words.{number_words}
use Rattle.image_model.specs.Uses.{class_uses}
use Rattle.class_table.specs.View.{number_image}
use Rattle.use_questions.specs.declared.question.Meant.TheVariants as meant
use Rattle.use_questions.specs.declared.question.Whose.TheVariants as whose
use Rattle.use_questions.specs.Questions.{is_found}
use Rattle.use_questions.proofs.Answered.{used}
use Rattle.use_questions.proofs.answers.is_class_used.Goals as goal

pub returns : goal.returns
returns g c =
    let s = c.args.image.now in
    let class = c.args.class in
    IfOk-weaker c.is_found.result (λ (is : Bool). is ≡ is_found s (record { whose = whose.Everyone; what = meant.Class class })) (λ (is : Bool). is ≡ not (is_empty (class_uses (number_words s.names) (number_image s) class)))
    (λ is e. used s is class e) c.is_found.ensures
