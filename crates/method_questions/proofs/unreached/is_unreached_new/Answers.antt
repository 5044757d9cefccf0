use Rattle.std.proofs.Common.{◌≡◌, ◌&&◌, Bool, is_some, sym, ap, ◌∙◌}
use Rattle.std.specs.Prelude.{nat_eq}
use Rattle.std.proofs.lemmas.Result.{IfOk-weaker}
use Rattle.image_model.specs.Words.{number_words}
use Rattle.st_tree.specs.View.{method_of}
use Rattle.class_table.specs.View.{number_image}
use Rattle.command_model.specs.Hierarchy.{is_class}
use Rattle.command_model.specs.MethodConditions as model
use Rattle.command_model.specs.MethodEffects.{method_added}
use Rattle.commands.specs.Views.{asked_by}
use Rattle.method_questions.specs.Unreached.{is_unreached}
use Rattle.method_questions.proofs.MovedImages.{unreached-told}
use Rattle.method_questions.proofs.unreached.is_unreached_new.Goals as goal

pub returns-in-None : goal.returns-in-None
returns-in-None g c =
    let s = c.args.image.now in
    let m = c.args.new.now in
    let may = model.is_unreached (number_words s.names) (asked_by s.names).is_super (number_image s) (method_added m.class m.meta m.protocol m.source (method_of m.tree) (number_image s)) m.meta m.tree.selector in
    ap (λ (b : Bool). b && may) (sym (ap is_some c.in-None.is) ∙ c.moved_new.ensures.there)

pub returns-in-Some : goal.returns-in-Some
returns-in-Some g c =
    let s = c.args.image.now in
    let m = c.args.new.now in
    let moved = c.in-Some.moved in
    let after = method_added m.class m.meta m.protocol m.source (method_of m.tree) (number_image s) in
    let may = model.is_unreached (number_words s.names) (asked_by s.names).is_super (number_image s) after m.meta m.tree.selector in
    IfOk-weaker c.is_unreached.result (λ (is : Bool). is ≡ is_unreached s moved) (λ (is : Bool). is ≡ (is_class nat_eq (number_image s) m.class && may))
    (λ is h.
    h ∙ unreached-told s moved after m.meta m.tree.selector (c.moved_new.ensures.moved moved c.in-Some.is) ∙ ap (λ (b : Bool). b && may) (sym (ap is_some c.in-Some.is) ∙ c.moved_new.ensures.there))
    c.is_unreached.ensures
