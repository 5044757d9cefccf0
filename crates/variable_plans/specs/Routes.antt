-- Which classes a variable leaves, and to which it comes.
use Rattle.std.specs.Prelude.{ℕ, Bool, false, not, ◌&&◌, nat_eq, Option, Some, option_map}
use Rattle.std.specs.Option.{option_and_then, option_map_or}
use Rattle.class_table.specs.declared.record.ClassRec.{ClassRec}
use Rattle.class_table.specs.Slots.{Slots}
use Rattle.class_table.specs.Finding.{named_in}
use Rattle.class_table.specs.View.{live_at}
use Rattle.commands.specs.declared.command.VariableMove.{VariableMove}
use Rattle.commands.specs.declared.command.VariableMove.TheVariants as move
use Rattle.name_meanings.specs.declared.meaning.VariableKind.TheVariants as kind
use Rattle.variable_plans.specs.declared.route.Classes.{Classes}
use Rattle.variable_plans.specs.declared.route.Classes.TheVariants as classes
use Rattle.variable_plans.specs.declared.route.Route.{Route}

-- whether a class, by its name and that of its superclass, is one of these
abbrev pub is_among : Classes → ℕ → Option ℕ → Bool
is_among classes.Nowhere n above = false
is_among (classes.Named c) n above = nat_eq c n
is_among (classes.Below c) n above = not (nat_eq c n) && option_map_or (nat_eq c) above false

module _ (s : Slots) where
  -- the name of the live superclass of a class
  abbrev pub name_above : ClassRec → Option ℕ
  name_above r = option_and_then (λ k. option_map (λ (c : ClassRec). c.name) (live_at s.classes s.class_order k)) r.superclass

  -- the name of the superclass of the class of a name
  abbrev pub superclass_name : ℕ → Option ℕ
  superclass_name c = option_and_then name_above (option_and_then (live_at s.classes s.class_order) (named_in s.classes s.class_order c))

  -- the way of the variable; none where it is to go up and the class has no superclass
  abbrev pub route_of : VariableMove → Option Route
  route_of (move.Add kind c x) = Some (record { kind = kind; variable = x; leaves = classes.Nowhere; enters = classes.Named c })
  route_of (move.Remove kind c x) = Some (record { kind = kind; variable = x; leaves = classes.Named c; enters = classes.Nowhere })
  route_of (move.InstanceUp c x) = option_map (λ p. record { kind = kind.Instance; variable = x; leaves = classes.Below p; enters = classes.Named p }) (superclass_name c)
  route_of (move.InstanceDown c x) = Some (record { kind = kind.Instance; variable = x; leaves = classes.Named c; enters = classes.Below c })
  route_of (move.SharedUp c x) = option_map (λ p. record { kind = kind.Shared; variable = x; leaves = classes.Named c; enters = classes.Named p }) (superclass_name c)
  route_of (move.SharedDown c x d) = Some (record { kind = kind.Shared; variable = x; leaves = classes.Named c; enters = classes.Named d })
