-- What is in the way where code is put, by the place.
use Rattle.std.proofs.Common.{◌≡◌, ℕ, refl}
use Rattle.class_table.specs.Slots.{Slots}
use Rattle.command_model.specs.Commands.{CommandOf}
use Rattle.command_model.specs.Conditions.{NoCapture, NoNewControl}
use Rattle.commands.specs.Views.{spot_of}
use Rattle.commands.specs.declared.command.MethodName.{MethodName}
use Rattle.commands.specs.declared.condition.Condition.TheVariants as condition
use Rattle.commands.specs.declared.condition.Spot.{Spot}
use Rattle.commands.specs.declared.condition.Spot.TheVariants as spot
use Rattle.explained_scripts.specs.Families.{at_spot, of_code}

module _ (s : Slots) (command : CommandOf ℕ) (m : MethodName) where
  pub captured-there : (p : Spot) → at_spot s m p (condition.NoCapture m p) ≡ of_code s command (NoCapture m.class m.meta m.selector (spot_of p))
  captured-there (spot.Part from to) = refl
  captured-there (spot.Name x) = refl

  pub control-there : (p : Spot) → at_spot s m p (condition.NoNewControl m p) ≡ of_code s command (NoNewControl m.class m.meta m.selector (spot_of p))
  control-there (spot.Part from to) = refl
  control-there (spot.Name x) = refl
