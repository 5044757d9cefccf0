use Rattle.std.proofs.Common.{◌≡◌, ◌∙◌, ap, subst, IfOk, find, option_map, unwrap_or}
use Rattle.run_model.specs.Values.{Value, nil_value}
use Rattle.run_model.specs.Store.{same_pair}
use Rattle.st_meaning.proofs.variables.Variables.value.Goals as goal

pub returns-in-Some : goal.returns-in-Some
returns-in-Some c =
    subst (λ (u : Value). IfOk c.share.result (λ v. v ≡ u))
    (c.value.ensures ∙ ap (λ o. unwrap_or (option_map (λ e. e.1) o) nil_value) (c.in-Some.ensures ∙ ap (find (λ e. same_pair (c.args.class.now, c.args.name.now) e.0)) (c.deref.ensures.value ∙ c.self.view_is)))
    c.share.ensures
