use Rattle.std.proofs.Common.{◌≡◌, Bool, ◌∙◌}
use Rattle.std.specs.List.{list_any}
use Rattle.std.proofs.lemmas.Result.{IfOk-weaker}
use Rattle.class_table.specs.View.{number_image}
use Rattle.code_questions.specs.Questions.{is_method_found, is_doit_found, is_found}
use Rattle.code_questions.specs.Places.{is_place_found}
use Rattle.code_questions.proofs.AtPlaces.{listed-any}
use Rattle.code_questions.proofs.Mentioning.{found-method, found-doit}
use Rattle.code_questions.proofs.places.is_found.Goals as goal

pub returns : goal.returns
returns g c =
    let s = c.args.image.now in
    let q = c.args.question.now in
    let places = c.listed.result.now in
    IfOk-weaker c.is_found_at.result (λ (is : Bool). is ≡ list_any (is_place_found s q) places) (λ (is : Bool). is ≡ is_found (number_image s) q)
    (λ is e. e ∙ listed-any (is_method_found (number_image s) q) (is_doit_found q) s q.name (found-method (number_image s) q) (found-doit q) c.args.index.now places c.requires.index c.listed.ensures)
    c.is_found_at.ensures
