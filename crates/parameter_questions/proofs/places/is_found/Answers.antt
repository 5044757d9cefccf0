use Rattle.std.proofs.Common.{◌≡◌, Bool, ◌∙◌}
use Rattle.std.specs.List.{list_any}
use Rattle.std.proofs.lemmas.Result.{IfOk-weaker}
use Rattle.code_questions.proofs.AtPlaces.{listed-any}
use Rattle.parameter_questions.specs.Questions.{is_method_found, in_doit, is_place_found, is_found}
use Rattle.parameter_questions.proofs.Answered.{only-methods, only-doits}
use Rattle.parameter_questions.proofs.places.is_found.Goals as goal

pub returns : goal.returns
returns g c =
    let s = c.args.image.now in
    let n = c.args.question.now.selector in
    let f = c.args.question.now.fault in
    let places = c.listed.result.now in
    IfOk-weaker c.is_found_at.result (λ (is : Bool). is ≡ list_any (is_place_found s n f) places) (λ (is : Bool). is ≡ is_found s n f)
    (λ is e. e ∙ listed-any (is_method_found s n f) (in_doit s n f) s n (only-methods s n f) (only-doits s n f) c.args.index.now places c.requires.index c.listed.ensures)
    c.is_found_at.ensures
