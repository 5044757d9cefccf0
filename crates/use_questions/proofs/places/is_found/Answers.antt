use Rattle.std.proofs.Common.{◌≡◌, ℕ, Bool, subst, ◌∙◌}
use Rattle.std.specs.List.{list_any}
use Rattle.std.proofs.lemmas.Bool.{and_parts}
use Rattle.std.proofs.lemmas.Result.{IfOk-weaker}
use Rattle.class_table.specs.View.{number_image}
use Rattle.reference_index.specs.Mentioned.{ListsPlaces}
use Rattle.code_questions.proofs.AtPlaces.{listed-any}
use Rattle.use_questions.specs.Questions.{name_of, is_asked, are_doits_asked, in_method, in_doit, is_method_found, is_doit_found, is_place_found, is_found}
use Rattle.use_questions.proofs.Uses.{method-mentions, doit-mentions}
use Rattle.use_questions.proofs.places.is_found.Goals as goal

pub returns : goal.returns
returns g c =
    let s = c.args.image.now in
    let q = c.args.question.now in
    let places = c.listed.result.now in
    let lists : ListsPlaces c.args.index.now (name_of q.what) places = subst (λ (n : ℕ). ListsPlaces c.args.index.now n places) c.name.ensures c.listed.ensures in
    IfOk-weaker c.is_found_at.result (λ (is : Bool). is ≡ list_any (is_place_found s q) places) (λ (is : Bool). is ≡ is_found s q)
    (λ is e. e ∙ listed-any (is_method_found s q) (is_doit_found s q) s (name_of q.what)
    (λ m h. method-mentions s q.what m (and_parts (is_asked (number_image s) q.whose m) (in_method s q.what m) h).1)
    (λ d h. doit-mentions s q.what d (and_parts (are_doits_asked q.whose) (in_doit s q.what d) h).1)
    c.args.index.now places c.requires.index lists)
    c.is_found_at.ensures
