use Rattle.std.proofs.Common.{◌≡◌, ap, sym, subst}
use Rattle.std.specs.Prelude.{false, []}
use Rattle.std.specs.List.{AllByRecursion}
use Rattle.rb_base.specs.Names.{text_eq}
use Rattle.image_model.specs.Image.{ClassOf, ImageOf}
use Rattle.run_model.specs.Values.{Name}
use Rattle.moved_code_laws.specs.VariableAbstracted.{accessors_gone}
use Rattle.moved_code_laws.proofs.AccessedImage.{accessed-becomes}
use Rattle.moved_code_laws.proofs.laws.law_variable_abstracted.Goals as goal

pub returns : goal.returns
returns g = λ i j named h.
    let c = subst (λ cs. AllByRecursion (λ (c : ClassOf Name). text_eq [] c.name ≡ false) cs) (sym (ap (λ (x : ImageOf Name). x.classes) h.after)) named in
    let matched = g.law_inlined_values.ensures.matched j i (accessors_gone h.variable h.writer) c (accessed-becomes i j h) in
    (matched.1, matched.0)
