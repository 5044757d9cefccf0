use Rattle.std.proofs.Common.{◌≡◌, ◌∙◌, ap, subst, IfOk, find, option_map, unwrap_or}
use Rattle.rb_base.specs.Names.{text_eq}
use Rattle.run_model.specs.Values.{Value, nil_value}
use Rattle.run_model.specs.Store.{Object}
use Rattle.st_meaning.proofs.object.Object.field.Goals as goal

pub returns-in-Some : goal.returns-in-Some
returns-in-Some c =
    subst (λ (u : Value). IfOk c.share.result (λ v. v ≡ u))
    (c.value.ensures ∙ ap (λ o. unwrap_or (option_map (λ e. e.1) o) nil_value) (c.in-Some.ensures ∙ ap (find (λ e. text_eq c.args.name.now e.0)) (c.deref.ensures.value ∙ ap (λ (o : Object). o.fields) c.self.view_is)))
    c.share.ensures
