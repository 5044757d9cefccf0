use Rattle.std.proofs.Common.{◌≡◌, ℕ, List, ◌∷◌, map, subst}
use Rattle.std.specs.Prelude.{IfOk}
use Rattle.command_model.specs.Conditions.{of_methods, ConditionOf, NoReflection, IsUserClass, GoodName, NotKernelSelector, Implements, PartIs, NoReturn, AssignsNoOuter, TempsSteady, ValueUnused}
use Rattle.commands.specs.Views.{condition_of}
use Rattle.conditions.proofs.Messages.{counted-needs}
use Rattle.conditions.proofs.moves.needs_of_method_extraction.Goals as goal

pub returns : goal.returns
returns g c =
    let p = c.args.part.now in
    subst (λ (cs : List (ConditionOf ℕ)). IfOk c.needs_of_new_method_of.result (λ found. map condition_of found.items
    ≡ NoReflection ∷ IsUserClass p.method.class ∷ Implements p.method.class p.method.meta p.method.selector ∷ PartIs p.method.class p.method.meta p.method.selector p.from p.to
    ∷ NoReturn p.method.class p.method.meta p.method.selector p.from p.to ∷ AssignsNoOuter p.method.class p.method.meta p.method.selector p.from p.to ∷ TempsSteady p.method.class p.method.meta p.method.selector p.from p.to
    ∷ ValueUnused p.method.class p.method.meta p.method.selector p.from p.to ∷ GoodName c.args.to of_methods ∷ NotKernelSelector c.args.to ∷ cs))
    (counted-needs c.args.image.now p c.args.to c.in_ok-count.count c.in_ok-count.ensures) c.needs_of_new_method_of.ensures
