use Rattle.std.proofs.Common.{◌≡◌, ◌&&◌, Bool, is_some, sym, ap, ◌∙◌}
use Rattle.std.specs.Prelude.{nat_eq}
use Rattle.std.proofs.lemmas.Result.{IfOk-weaker}
use Rattle.image_model.specs.Words.{number_words}
use Rattle.class_table.specs.View.{number_image}
use Rattle.command_model.specs.MethodConditions as model
use Rattle.command_model.specs.MethodEffects.{method_pushed_up}
use Rattle.commands.specs.Views.{asked_by}
use Rattle.method_questions.specs.Unreached.{is_unreached}
use Rattle.method_questions.proofs.MayMove.{is_up_there}
use Rattle.method_questions.proofs.MovedImages.{unreached-told}
use Rattle.method_questions.proofs.unreached.is_unreached_up.Goals as goal

pub returns-in-None : goal.returns-in-None
returns-in-None g c =
    let s = c.args.image.now in
    let m = c.args.method in
    let may = model.is_unreached (number_words s.names) (asked_by s.names).is_super (number_image s) (method_pushed_up nat_eq m.class m.meta m.selector (number_image s)) m.meta m.selector in
    ap (λ (b : Bool). b && may) (sym (ap is_some c.in-None.is) ∙ c.moved_up.ensures.there)

pub returns-in-Some : goal.returns-in-Some
returns-in-Some g c =
    let s = c.args.image.now in
    let m = c.args.method in
    let moved = c.in-Some.moved in
    let after = method_pushed_up nat_eq m.class m.meta m.selector (number_image s) in
    let may = model.is_unreached (number_words s.names) (asked_by s.names).is_super (number_image s) after m.meta m.selector in
    IfOk-weaker c.is_unreached.result (λ (is : Bool). is ≡ is_unreached s moved) (λ (is : Bool). is ≡ (is_up_there s c.requires.orderly m.class m.meta m.selector && may))
    (λ is h.
    h ∙ unreached-told s moved after m.meta m.selector (c.moved_up.ensures.moved moved c.in-Some.is) ∙ ap (λ (b : Bool). b && may) (sym (ap is_some c.in-Some.is) ∙ c.moved_up.ensures.there))
    c.is_unreached.ensures
