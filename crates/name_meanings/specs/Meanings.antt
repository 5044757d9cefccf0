-- What names stand for, as the program tells it.
use Rattle.std.specs.Prelude.{ℕ}
use Rattle.image_model.specs.Means.{MeaningOf, pseudo, argument, temporary, variable, a_class, transcript, undeclared}
use Rattle.image_model.specs.Means as means
use Rattle.name_meanings.specs.declared.meaning.VariableKind.{VariableKind}
use Rattle.name_meanings.specs.declared.meaning.VariableKind.TheVariants as kind
use Rattle.name_meanings.specs.declared.meaning.Meaning.{Meaning}
use Rattle.name_meanings.specs.declared.meaning.Meaning.TheVariants as meaning

-- the kind of variables
abbrev pub kind_of : VariableKind → means.VariableKind
kind_of kind.Instance = means.of_instance
kind_of kind.ClassSide = means.of_class_side
kind_of kind.Shared = means.of_class

-- what the name stands for, over the numbers of names
abbrev pub meaning_of : Meaning → MeaningOf ℕ
meaning_of meaning.Pseudo = pseudo
meaning_of (meaning.Argument scope) = argument scope
meaning_of (meaning.Temporary scope) = temporary scope
meaning_of (meaning.Variable kind definer) = variable (kind_of kind) definer
meaning_of (meaning.Class name) = a_class name
meaning_of meaning.Transcript = transcript
meaning_of meaning.Undeclared = undeclared
