-- The primitives by their numbers.
use Rattle.std.specs.Prelude.{ℕ, ◌==◌, List, [], ◌∷◌, find}
use Rattle.std.specs.Option.{option_map_or}
use Rattle.run_model.specs.Values.{bad_argument}
use Rattle.run_model.specs.Calls.{Call, PrimResult, faults}
use Rattle.run_model.specs.ObjectPrimitives.{is_same, gives_class, is_kind_of, copies, raises_error, is_reflective, gives_instance, enters_closure, counts_parameters, shows, prints}
use Rattle.run_model.specs.IntegerPrimitives.{adds, subtracts, multiplies, divides_down, gives_remainder, divides_exactly, is_less, bits_in_both, bits_in_any, shifts, prints_integer, gives_character, gives_byte, string_of_character, prints_character}
use Rattle.run_model.specs.SequencePrimitives.{gives_length, gives_item, stores_item, joins, gives_part, is_text_before, symbol_of_string, string_of_symbol, prints_string, prints_symbol, gives_array}

-- what each primitive does
abbrev pub rows : List (ℕ × (Call → PrimResult))
rows =
    (1, is_same) ∷ (2, gives_class) ∷ (3, is_kind_of) ∷ (4, copies) ∷ (5, raises_error) ∷ (6, is_reflective) ∷ (7, gives_instance)
    ∷ (10, adds) ∷ (11, subtracts) ∷ (12, multiplies) ∷ (13, divides_down) ∷ (14, gives_remainder) ∷ (15, divides_exactly) ∷ (16, is_less)
    ∷ (18, bits_in_both) ∷ (19, bits_in_any) ∷ (20, shifts) ∷ (21, prints_integer) ∷ (22, gives_character)
    ∷ (30, gives_length) ∷ (31, gives_item) ∷ (32, stores_item) ∷ (33, joins) ∷ (34, gives_part) ∷ (35, is_text_before)
    ∷ (36, symbol_of_string) ∷ (37, prints_string) ∷ (38, string_of_symbol) ∷ (39, prints_symbol) ∷ (40, gives_array)
    ∷ (41, gives_byte) ∷ (42, string_of_character) ∷ (43, prints_character)
    ∷ (50, enters_closure) ∷ (51, enters_closure) ∷ (52, enters_closure) ∷ (53, enters_closure) ∷ (54, counts_parameters)
    ∷ (60, shows) ∷ (61, prints) ∷ []

-- what the primitive of the call's number does; there is none of any other number
unfoldable pub primitive : Call → PrimResult
primitive c = option_map_or (λ row. row.1 c) (find (λ row. row.0 == c.number) rows) (faults (bad_argument c.number))
