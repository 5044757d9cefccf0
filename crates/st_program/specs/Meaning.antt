-- What a name stands for outside the environment, as the program tells it.
use Rattle.image_model.specs.Means.{of_instance, of_class_side, of_class, MeaningOf, variable, a_class, transcript, undeclared}
use Rattle.run_model.specs.Values.{Name}
use Rattle.st_program.specs.declared.meaning.Meaning.{Meaning}
use Rattle.st_program.specs.declared.meaning.Meaning.TheVariants as kind

-- the meaning of runs
abbrev pub meaning_from : Meaning → MeaningOf Name
meaning_from (kind.Instance c) = variable of_instance c
meaning_from (kind.ClassSide c) = variable of_class_side c
meaning_from (kind.Shared c) = variable of_class c
meaning_from (kind.Class c) = a_class c
meaning_from kind.Transcript = transcript
meaning_from kind.Undeclared = undeclared
