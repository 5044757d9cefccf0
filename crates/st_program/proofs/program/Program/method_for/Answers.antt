use Rattle.std.proofs.Common.{◌∙◌, ap, subst, option_map}
use Rattle.std.proofs.lemmas.Result.{IfOk-weaker}
use Rattle.rb_base.specs.Names.{name_at}
use Rattle.class_table.specs.Slots.{Slots}
use Rattle.class_table.specs.Valid.{IsOrderly}
use Rattle.st_program.specs.Found.{bare}
use Rattle.st_program.proofs.LookedUp.{method_found}
use Rattle.st_program.proofs.program.Program.method_for.Goals as goal

pub returns : goal.returns
returns c =
    let text = c.as_slice-text.ensures ∙ ap (λ z. name_at z c.args.selector) c.self.invariant.names ∙ ap (λ (s : Slots). name_at s.names c.args.selector) c.self.view_is in
    IfOk-weaker c.found_at.result _ _
    (λ found h. h ∙ ap (option_map bare) (method_found c.args.self.now (subst IsOrderly c.self.view_is c.self.invariant.orderly) c.args.class.now c.args.meta _ _ _ _ c.class_slot.ensures text c.slot_from.ensures))
    c.found_at.ensures
