-- Bounds that grow.
use Rattle.std.proofs.Common.{◌≤◌, ◌+◌, ◌*◌, ℕ, length, Bool, true, false, if◌then◌else◌, arith}
use Rattle.image_model.specs.Image.{ImageOf}
use Rattle.rename_model.specs.ClassRenamed.{WritingOf}
use Rattle.command_model.specs.Asked.{AskedOf}
use Rattle.command_model.specs.Commands.{CommandOf}
use Rattle.command_model.specs.Conditions.{ConditionOf}
use Rattle.command_model.specs.Effects.{effect}
use Rattle.command_model.specs.Needs.{needs}
use Rattle.bound_model.specs.Listed.{listed}
use Rattle.bound_model.specs.Touched.{touched}
use Rattle.bound_model.specs.Bounds.{looks_through, asked_for, condition_bound, command_bound}

either-grows : (b : Bool) (m n : ℕ) → m ≤ n → (if b then 4 * m else 4) ≤ (if b then 4 * n else 4)
either-grows true m n h = omega (arith, h)
either-grows false m n h = omega arith

either-least : (b : Bool) (m : ℕ) → 2 ≤ m → 4 ≤ (if b then 4 * m else 4)
either-least true m h = omega (arith, h)
either-least false m h = omega arith

either-most : (b : Bool) (m : ℕ) → 2 ≤ m → (if b then 4 * m else 4) ≤ 4 * m
either-most true m h = omega arith
either-most false m h = omega (arith, h)

-- a sum grows with its parts
sum-grows : (j k l m : ℕ) → j ≤ l → k ≤ m → j + k + 2 ≤ l + m + 2
sum-grows j k l m h g = omega (arith, h, g)

least-sum : (j k : ℕ) → 2 ≤ j + k + 2
least-sum j k = omega arith

whole-grows : (j k l m : ℕ) → j ≤ l → k ≤ m → 40 * (j + k) ≤ 40 * (l + m)
whole-grows j k l m h g = omega (arith, h, g)

module _ {N : Type 0} (a : AskedOf N) (i j : ImageOf N) (command other : CommandOf N) (more : listed a i command ≤ listed a j other) (conditions : length (needs a i command) ≤ length (needs a j other)) where
  asked-grows : asked_for a i command ≤ asked_for a j other
  asked-grows = sum-grows (listed a i command) (length (needs a i command)) (listed a j other) (length (needs a j other)) more conditions

  pub condition-grows : (condition : ConditionOf N) → condition_bound a i command condition ≤ condition_bound a j other condition
  condition-grows condition = either-grows (looks_through condition) (asked_for a i command) (asked_for a j other) asked-grows

  pub command-grows : (writing : WritingOf N) → touched i (effect a writing command i) ≤ touched j (effect a writing other j) → command_bound a i writing command ≤ command_bound a j writing other
  command-grows writing touches =
      whole-grows (asked_for a i command) (touched i (effect a writing command i)) (asked_for a j other) (touched j (effect a writing other j)) asked-grows touches

pub condition-least : {N : Type 0} (a : AskedOf N) (i : ImageOf N) (command : CommandOf N) (condition : ConditionOf N) → 4 ≤ condition_bound a i command condition
condition-least a i command condition = either-least (looks_through condition) (asked_for a i command) (least-sum (listed a i command) (length (needs a i command)))

pub condition-most : {N : Type 0} (a : AskedOf N) (i : ImageOf N) (command : CommandOf N) (condition : ConditionOf N) → condition_bound a i command condition ≤ 4 * asked_for a i command
condition-most a i command condition = either-most (looks_through condition) (asked_for a i command) (least-sum (listed a i command) (length (needs a i command)))
