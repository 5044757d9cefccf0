use Rattle.std.proofs.Common.{◌≡◌, Bool, sym, ap, ◌∙◌}
use Rattle.std.specs.Prelude.{slice_get}
use Rattle.std.proofs.lemmas.Result.{IfOk-weaker}
use Rattle.class_table.specs.View.{live_at}
use Rattle.parameter_questions.specs.declared.code.Code.TheVariants as code
use Rattle.parameter_questions.specs.Questions.{in_method, in_code, is_place_found}
use Rattle.parameter_questions.proofs.AtSlots.{bare, slot-same, code-same, doit-same}
use Rattle.parameter_questions.proofs.places.is_place_found.Goals as goal

pub returns-in-Some-open_body : goal.returns-in-Some-open_body
returns-in-Some-open_body g c =
    let s = c.args.image.now in
    let q = c.args.question.now in
    let slot = c.in-Method.slot in
    let x = c.in-Some.info in
    let tree = c.in-Some-open_body.tree.now in
    IfOk-weaker c.in_method.result (λ (is : Bool). is ≡ in_method s q.selector q.fault (bare s q.selector x.class x.meta tree)) (λ (is : Bool). is ≡ is_place_found s q.selector q.fault c.args.place)
    (λ is e. e ∙ slot-same s q.selector q.fault x (live_at s.methods s.method_order slot) tree c.in-Some.ensures c.in-Some-open_body.ensures.tree (sym c.is_asked.ensures ∙ c.if-not-is_asked.false) ∙ ap (is_place_found s q.selector q.fault) (sym c.in-Method.is))
    c.in_method.ensures

pub returns-in-Some-open_doit : goal.returns-in-Some-open_doit
returns-in-Some-open_doit g c =
    let s = c.args.image.now in
    let q = c.args.question.now in
    let number = c.in-DoIt.number in
    let body = c.in-Some-open_doit.body in
    IfOk-weaker c.in_code.result (λ (is : Bool). is ≡ in_code s q.selector q.fault (code.DoIt body)) (λ (is : Bool). is ≡ is_place_found s q.selector q.fault c.args.place)
    (λ is e. e ∙ code-same s q.selector q.fault body ∙ doit-same s q.selector q.fault (slice_get s.doits number) body.now c.in-Some-open_doit.ensures.body ∙ ap (is_place_found s q.selector q.fault) (sym c.in-DoIt.is)) c.in_code.ensures
