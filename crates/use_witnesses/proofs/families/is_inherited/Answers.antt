use Rattle.std.proofs.Common.{◌≡◌, ℕ, Bool, Option, sym, ap, ◌∙◌}
use Rattle.std.specs.Option.{option_and_then}
use Rattle.std.proofs.lemmas.Result.{IfOk-weaker}
use Rattle.method_questions.specs.Found.{are_same, opened_at}
use Rattle.method_questions.proofs.MayGo.{nothing}
use Rattle.use_witnesses.specs.Inherited.{is_inherited}
use Rattle.use_witnesses.proofs.families.is_inherited.Goals as goal

pub returns-in-None : goal.returns-in-None
returns-in-None g c =
    let s = c.args.image.now in
    let m = c.args.method.now in
    let k = c.args.slot in
    sym (ap (λ (o : Option ℕ). are_same s (opened_at s k) (option_and_then (opened_at s) o)) (sym c.inherited_slot.ensures ∙ c.in-None.is)
    ∙ nothing s c.requires m.class m.meta m.selector (opened_at s k))

pub returns-in-Some : goal.returns-in-Some
returns-in-Some g c =
    let s = c.args.image.now in
    let k = c.args.slot in
    IfOk-weaker c.are_same.result (λ (is : Bool). is ≡ are_same s (opened_at s k) (opened_at s c.in-Some.other)) (λ (is : Bool). is ≡ is_inherited s k c.args.method.now)
    (λ is h. h ∙ sym (ap (λ (o : Option ℕ). are_same s (opened_at s k) (option_and_then (opened_at s) o)) (sym c.inherited_slot.ensures ∙ c.in-Some.is)))
    c.are_same.ensures
