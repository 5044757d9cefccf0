use Rattle.std.proofs.Common.{◌≡◌, false, drop}
use Rattle.std.specs.Prelude.{nat_eq}
use Rattle.std.specs.List.{list_any}
use Rattle.std.specs.Option.{option_map_or}
use Rattle.image_model.specs.Uses.{name_used}
use Rattle.mentions.specs.Listing.{pointed}
use Rattle.parameter_questions.proofs.temporaries.is_any_use.Given as goal

abbrev pub invariant-loop-node : goal.invariant-loop-node
invariant-loop-node l =
    list_any (λ t. option_map_or (nat_eq l.name) (name_used t) false) (pointed (drop l.node-index l.nodes))
    ≡ list_any (λ t. option_map_or (nat_eq l.name) (name_used t) false) (pointed l.nodes)
