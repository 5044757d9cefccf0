use Rattle.std.proofs.Common.{◌≡◌, [], find, List}
use Rattle.std.specs.List.{flat_map}
use Rattle.std.specs.Option.{option_map_or}
use Rattle.rb_base.specs.Names.{text_eq}
use Rattle.run_model.specs.Store.{Slot}
use Rattle.st_meaning.proofs.context.Context.binding.Given as goal

abbrev pub invariant-loop-at : goal.invariant-loop-at
invariant-loop-at l =
    find (λ (e : Slot). text_eq l.name e.name) l.self.slots
    ≡ find (λ (e : Slot). text_eq l.name e.name) (flat_map (λ (s : List Slot). s) (option_map_or (λ r. r.value) l.at []))
