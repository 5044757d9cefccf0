use Rattle.std.proofs.Common.{◌∙◌, ap, subst, option_map}
use Rattle.std.proofs.lemmas.Result.{IfOk-weaker}
use Rattle.rb_base.specs.Names.{name_at}
use Rattle.class_table.specs.Slots.{Slots}
use Rattle.class_table.specs.Valid.{IsOrderly}
use Rattle.st_program.specs.Found.{bare}
use Rattle.st_program.proofs.LookedUp.{super_found}
use Rattle.st_program.proofs.program.Program.super_method_for.Goals as goal

pub returns : goal.returns
returns c =
    let text = c.as_slice-text.ensures ∙ ap (λ z. name_at z c.args.selector) c.self.invariant.names ∙ ap (λ (s : Slots). name_at s.names c.args.selector) c.self.view_is in
    IfOk-weaker c.found_at.result _ _
    (λ found h. h ∙ ap (option_map bare) (super_found c.args.self.now (subst IsOrderly c.self.view_is c.self.invariant.orderly) c.args.context.now.home.class c.args.context.now.home.meta _ _ _ _ _ c.above-above.ensures c.meta.ensures text c.slot_from.ensures))
    c.found_at.ensures
