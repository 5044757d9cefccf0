use Rattle.std.proofs.Common.{nat_eq, option_copied, []}
use Rattle.std.specs.List.{flat_map}
use Rattle.image_model.specs.Upwards.{upwards}
use Rattle.image_model.specs.Chain.{superclass_of}
use Rattle.image_model.specs.Means as means
use Rattle.file_model.specs.Hierarchy as hierarchy
use Rattle.image_draft.specs.Kinds.{kind_of}
use Rattle.image_draft.specs.NameSets.{has}
use Rattle.image_draft.proofs.NameTests.{IsNotedFrom}
use Rattle.image_draft.proofs.hierarchy.chain_names.Given as goal

abbrev pub invariant-loop-left : goal.invariant-loop-left
invariant-loop-left l =
    IsNotedFrom (has []) (hierarchy.chain_variables nat_eq l.classes (kind_of l.kind) l.fn.class) l.names (flat_map (means.variables (kind_of l.kind)) (upwards (superclass_of nat_eq l.classes) l.left (option_copied l.at)))

abbrev pub decreases-loop-left : goal.decreases-loop-left
decreases-loop-left l = l.left
