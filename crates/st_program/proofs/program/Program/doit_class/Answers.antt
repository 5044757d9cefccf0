use Rattle.std.proofs.Common.{◌∙◌, ap, sym, subst, refl, ℕ, Some, option_map}
use Rattle.std.specs.Prelude.{codes}
use Rattle.class_table.specs.Valid.{IsOrderly}
use Rattle.st_program.proofs.Meant.{doit_class_found}
use Rattle.st_program.proofs.program.Program.doit_class.Goals as goal

pub returns-in_ok-from_slice-in-Some : goal.returns-in_ok-from_slice-in-Some
returns-in_ok-from_slice-in-Some c =
    let t = codes "UndefinedObject" in
    ap Some c.in_ok-from_slice-in-Some.ensures ∙ sym (ap (option_map (λ (k : ℕ). t)) (sym c.class_slot.ensures ∙ c.in-Some.is))
    ∙ doit_class_found c.args.self.now (subst IsOrderly c.self.view_is c.self.invariant.orderly) t refl

pub returns-in-None : goal.returns-in-None
returns-in-None c =
    let t = codes "UndefinedObject" in
    sym (ap (option_map (λ (k : ℕ). t)) (sym c.class_slot.ensures ∙ c.in-None.is)) ∙ doit_class_found c.args.self.now (subst IsOrderly c.self.view_is c.self.invariant.orderly) t refl
