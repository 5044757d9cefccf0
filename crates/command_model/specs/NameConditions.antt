-- The conditions of a command's own text and of the names that it gives.
use Rattle.std.specs.Prelude.{Bool, true, not, ◌&&◌}
use Rattle.image_model.specs.Image.{ImageOf}
use Rattle.rename_model.specs.CommandWords.{CommandWordsOf}
use Rattle.rename_model.specs.Conditions.{method_reflects, has_no_reflection}
use Rattle.command_model.specs.Commands.{CommandOf, AddMethod}
use Rattle.command_model.specs.Conditions.{NameKind, of_a_class, of_a_class_variable, of_another_variable, of_methods}
use Rattle.command_model.specs.MethodEffects.{new_method}

-- a method that a command adds is not reflective
abbrev pub adds_no_reflection : {N : Type 0} → CommandWordsOf N → CommandOf N → Bool
adds_no_reflection v (AddMethod c meta protocol text tree) = not (method_reflects v (new_method c meta protocol text tree))
adds_no_reflection v command = true

-- no code of a user is reflective, and neither is that of the command
abbrev pub is_without_reflection : {N : Type 0} → CommandWordsOf N → ImageOf N → CommandOf N → Bool
is_without_reflection v i command = has_no_reflection v i && adds_no_reflection v command

-- such a thing may be given the name
abbrev pub is_good_name : {N : Type 0} → CommandWordsOf N → N → NameKind → Bool
is_good_name v n of_a_class = v.is_good_class_name n
is_good_name v n of_a_class_variable = v.is_good_class_name n
is_good_name v n of_another_variable = v.is_good_variable_name n
is_good_name v n of_methods = v.is_good_selector n
