use Rattle.std.proofs.Common.{◌≤◌, true, ◌∷◌, length, map, Result, Ok, ap, sym, subst, ◌∙◌, arith}
use Rattle.std.proofs.lemmas.Result.{err_from_is_err_and}
use Rattle.script_lang.specs.declared.verb.Verb.TheVariants as verb
use Rattle.rb_base.specs.Names.{name_at}
use Rattle.session_model.specs.Scripts.{Request}
use Rattle.script_model.specs.Commands.{Cause}
use Rattle.script_lang.specs.Shown.{texts}
use Rattle.script_lang.proofs.Named.{new_class-asked, unspelled, two-front, three-at-least, least, least-two, making, new_class-said, new_class-few}
use Rattle.script_lang.proofs.requests.new_class.Goals as goal

pub returns-in_err-ids-clause-wrong : goal.returns-in_err-ids-clause-wrong
returns-in_err-ids-clause-wrong c =
    let p = err_from_is_err_and c.from_residual.result c.from_residual.ensures.1 in
    rw (p.1, p.2) (λ e. unspelled (verb.NewClass c.args.verb) (least c.args.verb) true (new_class-asked c.args.verb) (texts c.args.words.now) (c.in_err-ids.ensures.wrong e))

pub returns-in_default-clause-wrong : goal.returns-in_default-clause-wrong
returns-in_default-clause-wrong c = λ _.
    new_class-few c.in_ok-ids.ensures.said c.args.verb (omega (arith, c.in_default.len_below, ap length c.as_slice.ensures, least-two c.args.verb))

pub returns-in-Add-clause-said : goal.returns-in-Add-clause-said
returns-in-Add-clause-said c =
    new_class-said c.in_ok-ids.ensures.said c.args.verb c.name-item.result c.superclass-item.result c.from_vec.result
    (sym c.as_slice.ensures ∙ two-front c.as_slice.result.now c.name-item.result c.superclass-item.result c.in-len2-up.len_at_least c.name-item.is c.superclass-item.is ∙ ap (λ us. c.name-item.result ∷ c.superclass-item.result ∷ us) (sym (c.from_vec.ensures ∙ c.in_ok-from_slice.ensures.items)))
    (subst (λ v. least v ≤ length c.in_ok-ids.ids) (sym c.in-Add.is) (omega (arith, c.in-len2-up.len_at_least, ap length c.as_slice.ensures)))
    ∙ ap (λ v. let r : Result Request Cause = Ok (making v (name_at c.identifiers.new.names c.name-item.result) (name_at c.identifiers.new.names c.superclass-item.result) (map (name_at c.identifiers.new.names) c.from_vec.result)) in r) c.in-Add.is

pub returns-clause-said : goal.returns-clause-said
returns-clause-said c =
    new_class-said c.in_ok-ids.ensures.said c.args.verb c.name-item.result c.superclass-item.result c.from_vec.result
    (sym c.as_slice.ensures ∙ two-front c.as_slice.result.now c.name-item.result c.superclass-item.result c.in-len2-up.len_at_least c.name-item.is c.superclass-item.is ∙ ap (λ us. c.name-item.result ∷ c.superclass-item.result ∷ us) (sym (c.from_vec.ensures ∙ c.in_ok-from_slice.ensures.items)))
    (subst (λ v. least v ≤ length c.in_ok-ids.ids) (sym c.in-Extract.is) (omega (arith, three-at-least c.as_slice.result.now (sym c.is_empty.ensures ∙ c.if-is_empty.false), ap length c.as_slice.ensures)))
    ∙ ap (λ v. let r : Result Request Cause = Ok (making v (name_at c.identifiers.new.names c.name-item.result) (name_at c.identifiers.new.names c.superclass-item.result) (map (name_at c.identifiers.new.names) c.from_vec.result)) in r) c.in-Extract.is
