use Rattle.std.proofs.Common.{ℕ, List, ◌++◌, refl, ap, subst, ◌∙◌}
use Rattle.std.proofs.lemmas.Result.{IfOk-weaker}
use Rattle.grammar_model.specs.Whole.{DoIt}
use Rattle.st_faults.specs.Faults.{IsRefused}
use Rattle.class_table.specs.Slots.{Slots}
use Rattle.class_table.specs.View.{image_of}
use Rattle.image_doits.specs.Added.{IsWithDoIt}
use Rattle.image_maker.specs.Generated.{expression_text}
use Rattle.image_forms.specs.Answers.{ChangesIn, NoExpression, Shown}
use Rattle.image_forms.proofs.Refusing.{fault_told}
use Rattle.browse.proofs.demo.demo_image.Goals as goal

pub returns-in-Ok : goal.returns-in-Ok
returns-in-Ok c =
    IfOk-weaker c.demo_change.result _ _
    (λ status changes. Shown (image_of c.add_doit.new.image)
    (subst (λ (t : List ℕ). IsWithDoIt t (image_of c.args.image.now) (image_of c.add_doit.new.image)) (c.as_slice.ensures ∙ c.in_ok-make_expression.ensures.made ∙ ap (λ (t : List ℕ). t ++ expression_text c.args.classes) c.new-expression.ensures) c.in-Ok.ensures.added)
    (subst (λ (s : Slots). ChangesIn c.args.classes (image_of s) status c.demo_change.new.out) c.last_line.ensures.same changes)) c.demo_change.ensures

pub returns : goal.returns
returns c =
    let refused = subst (λ (t : List ℕ). IsRefused DoIt t c.in-Err.fault) (c.as_slice.ensures ∙ c.in_ok-make_expression.ensures.made ∙ ap (λ (t : List ℕ). t ++ expression_text c.args.classes) c.new-expression.ensures) c.in-Err.ensures.fault in
    let told = fault_told _ c.in-Err.fault c.push_expression_refusal.new.out refused c.in_ok-push_expression_refusal-in-Err.ensures in
    NoExpression told.0 told.1 refl told.2
