use Rattle.std.proofs.Common.{refl}
use Rattle.class_table.specs.View.{image_of}
use Rattle.strip_model.specs.Reach.{reach}
use Rattle.image_model.specs.Words.{text_words}
use Rattle.image_forms.specs.Answers.{NoStart, Stripped}
use Rattle.image_forms.proofs.Refusing.{fault_told}
use Rattle.image_forms.proofs.stripping.strip_expression.Goals as goal

pub returns-in_ok-print_left-in-Ok : goal.returns-in_ok-print_left-in-Ok
returns-in_ok-print_left-in-Ok c =
    let left = c.in-Ok.ensures.left in
    Stripped left.later left.added refl (c.in_ok-print_left-in-Ok.ensures (reach text_words left.later) (image_of c.args.image.now) left.left)

pub returns-in_ok-push_expression_refusal-in-Err : goal.returns-in_ok-push_expression_refusal-in-Err
returns-in_ok-push_expression_refusal-in-Err c =
    let told = fault_told c.args.expression.now c.in-Err.fault c.push_expression_refusal.new.out c.in-Err.ensures.fault c.in_ok-push_expression_refusal-in-Err.ensures in
    NoStart told.0 told.1 refl told.2
