-- What stands behind the word of a command (Roberts 1999): which words a command takes, and what they say.
use Rattle.std.specs.Prelude.{ℕ, Bool, true, false, if◌then◌else◌, List, [], ◌∷◌, Option, Some, None, codes}
use Rattle.std.specs.Option.{option_map, option_map_or}
use Rattle.rb_base.specs.Names.{text_eq}
use Rattle.text_model.specs.Literals.{is_identifier, is_selector}
use Rattle.command_words.specs.Spelling as decimal

-- what a word behind that of a command is
pub data Place : Type 0 where
  -- an identifier: the name of a class, or of a variable
  a_class : Place
  a_variable : Place
  -- spelled as a selector is
  a_selector : Place
  -- `instance` or `class`
  a_side : Place
  -- a decimal number
  a_number : Place

-- what a command takes: a word for each place, and then, of some, names of classes, any number of them
pub record Form : Type 0 where
  pub places : List Place
  pub classes_behind : Bool

abbrev pub takes : List Place → Form
takes ps = record { places = ps; classes_behind = false }

abbrev pub takes_classes_behind : List Place → Form
takes_classes_behind ps = record { places = ps; classes_behind = true }

-- the places of a method: its class, its side and its selector; and of a part of it, from an offset to another one
abbrev pub method_and : List Place → List Place
method_and ps = a_class ∷ a_side ∷ a_selector ∷ ps

abbrev pub part_and : List Place → List Place
part_and ps = method_and (a_number ∷ a_number ∷ ps)

-- what is said at a place: a name, which is a class, a variable or a selector; whether it is the class side; a number
pub data Argument : Type 0 where
  name : List ℕ → Argument
  side : Bool → Argument
  number : ℕ → Argument

-- a decimal number of at most nine digits without a leading zero
abbrev pub number_of : List ℕ → Option ℕ
number_of w = if text_eq w (codes "0") then Some 0 else decimal.number_of 999999999 w

abbrev pub side_of : List ℕ → Option Bool
side_of w = if text_eq w (codes "instance") then Some false else (if text_eq w (codes "class") then Some true else None)

-- what a word says at a place
abbrev pub argument : Place → List ℕ → Option Argument
argument a_class w = if is_identifier w then Some (name w) else None
argument a_variable w = if is_identifier w then Some (name w) else None
argument a_selector w = if is_selector w then Some (name w) else None
argument a_side w = option_map side (side_of w)
argument a_number w = option_map number (number_of w)

-- one in front of others, where both are there
abbrev pub in_front : {X : Type 0} → Option X → Option (List X) → Option (List X)
in_front None xs = None
in_front (Some x) None = None
in_front (Some x) (Some xs) = Some (x ∷ xs)

-- the place of the next word, and what is taken behind it
abbrev pub next_place : Form → Option (Place × Form)
next_place f = by f.places
  where
    by : List Place → Option (Place × Form)
    by [] = if f.classes_behind then Some (a_class, f) else None
    by (p ∷ ps) = Some (p, record { places = ps; classes_behind = f.classes_behind })

-- what no words say
abbrev pub no_arguments : List Place → Option (List Argument)
no_arguments [] = Some []
no_arguments (p ∷ ps) = None

-- what words say, each at its place
abbrev pub arguments_of : Form → List (List ℕ) → Option (List Argument)
arguments_of f [] = no_arguments f.places
arguments_of f (w ∷ ws) = option_map_or (λ (n : Place × Form). in_front (argument n.0 w) (arguments_of n.1 ws)) (next_place f) None
