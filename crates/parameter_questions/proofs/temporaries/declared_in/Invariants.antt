use Rattle.std.proofs.Common.{◌≡◌, ◌++◌, drop}
use Rattle.std.specs.List.{flat_map}
use Rattle.mentions.specs.Listing.{pointed}
use Rattle.rename_model.specs.NamesThere.{declared_by}
use Rattle.parameter_questions.proofs.temporaries.declared_in.Given as goal

abbrev pub invariant-loop-node : goal.invariant-loop-node
invariant-loop-node l = l.declared ++ flat_map declared_by (pointed (drop l.node-index l.nodes)) ≡ l.initial.declared ++ flat_map declared_by (pointed l.nodes)
