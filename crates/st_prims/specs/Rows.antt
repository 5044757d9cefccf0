-- What each primitive does.
use Rattle.run_model.specs.Calls.{Call, PrimResult}
use Rattle.run_model.specs.ObjectPrimitives.{is_same, gives_class, is_kind_of, copies, raises_error, is_reflective, gives_instance, enters_closure, counts_parameters, shows, prints}
use Rattle.run_model.specs.IntegerPrimitives.{two_integers, prints_integer, gives_character, gives_byte, string_of_character, prints_character}
use Rattle.run_model.specs.SequencePrimitives.{gives_length, gives_item, stores_item, joins, gives_part, is_text_before, symbol_of_string, string_of_symbol, prints_string, prints_symbol, gives_array}
use Rattle.integer_prims.specs.Operations.{applied}
use Rattle.st_prims.specs.declared.numbers.Primitive.{Primitive}
use Rattle.st_prims.specs.declared.numbers.Primitive.TheVariants as primitive

-- what a primitive comes to
abbrev pub row_of : Primitive → Call → PrimResult
row_of primitive.Same = is_same
row_of primitive.Class = gives_class
row_of primitive.KindOf = is_kind_of
row_of primitive.Copy = copies
row_of primitive.Error = raises_error
row_of primitive.Reflective = is_reflective
row_of primitive.New = gives_instance
row_of (primitive.OnIntegers o) = λ c. two_integers c (applied o c)
row_of primitive.PrintInteger = prints_integer
row_of primitive.AsCharacter = gives_character
row_of primitive.Size = gives_length
row_of primitive.At = gives_item
row_of primitive.AtPut = stores_item
row_of primitive.Join = joins
row_of primitive.Part = gives_part
row_of primitive.Before = is_text_before
row_of primitive.AsSymbol = symbol_of_string
row_of primitive.PrintString = prints_string
row_of primitive.AsString = string_of_symbol
row_of primitive.PrintSymbol = prints_symbol
row_of primitive.NewArray = gives_array
row_of primitive.AsByte = gives_byte
row_of primitive.CharacterString = string_of_character
row_of primitive.PrintCharacter = prints_character
row_of primitive.Enter = enters_closure
row_of primitive.CountParameters = counts_parameters
row_of primitive.Show = shows
row_of primitive.Print = prints
