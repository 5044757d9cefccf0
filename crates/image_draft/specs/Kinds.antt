-- The kinds of variables that stand once on a chain.
use Rattle.image_model.specs.Means.{VariableKind, of_instance, of_class_side}
use Rattle.image_draft.specs.declared.hierarchy.ChainKind.{ChainKind}
use Rattle.image_draft.specs.declared.hierarchy.ChainKind.TheVariants as kind

-- the kind for which one of the program stands
abbrev pub kind_of : ChainKind → VariableKind
kind_of kind.Instance = of_instance
kind_of kind.ClassSide = of_class_side
