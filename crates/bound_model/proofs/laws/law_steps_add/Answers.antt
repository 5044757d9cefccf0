use Rattle.std.proofs.Common.{◌≡◌, ◌+◌, List, [], ◌∷◌, ◌++◌, arith}
use Rattle.image_model.specs.Image.{ImageOf}
use Rattle.rename_model.specs.ClassRenamed.{WritingOf}
use Rattle.command_model.specs.Asked.{AskedOf}
use Rattle.command_model.specs.Commands.{CommandOf}
use Rattle.command_model.specs.Effects.{effect}
use Rattle.bound_model.specs.Bounds.{image_after, steps_bound}
use Rattle.bound_model.proofs.laws.law_steps_add.Goals as goal

steps-add : {N : Type 0} (a : AskedOf N) (writing : WritingOf N) (i : ImageOf N) (first second : List (CommandOf N))
    → steps_bound a writing i (first ++ second) ≡ steps_bound a writing i first + steps_bound a writing (image_after a writing i first) second
steps-add a writing i [] second = omega arith
steps-add a writing i (c ∷ cs) second = omega (arith, steps-add a writing (effect a writing c i) cs second)

pub returns-clause-add : goal.returns-clause-add
returns-clause-add g c = λ a writing i first second. steps-add a writing i first second
