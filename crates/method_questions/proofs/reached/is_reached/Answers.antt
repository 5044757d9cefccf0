use Rattle.std.proofs.Common.{◌≡◌, Bool, sym, ◌∙◌}
use Rattle.std.specs.List.{list_any}
use Rattle.std.proofs.lemmas.Result.{IfOk-weaker}
use Rattle.image_model.specs.Words.{number_words}
use Rattle.class_table.specs.View.{number_image}
use Rattle.command_model.specs.MethodConditions as model
use Rattle.commands.specs.Views.{asked_by}
use Rattle.method_questions.specs.Reached.{begins_at}
use Rattle.method_questions.proofs.Reaching.{reached-told}
use Rattle.method_questions.proofs.reached.is_reached.Goals as goal

pub returns : goal.returns
returns g c =
    let s = c.args.image.now in
    let places = c.listed.result.now in
    IfOk-weaker c.begins_at.result (λ (is : Bool). is ≡ list_any (begins_at s c.args.name c.args.selector) places)
    (λ (is : Bool). is ≡ model.is_reached (number_words s.names) (asked_by s.names).is_super (number_image s) c.args.name c.args.selector)
    (λ is h. h ∙ reached-told s c.args.name c.args.selector c.requires.orderly c.args.index.now places c.requires.index c.listed.ensures (sym c.in_ok-is_class_used.ensures ∙ c.if-branch.false))
    c.begins_at.ensures
