-- What the arguments of a command ask for.
use Rattle.std.specs.Prelude.{ℕ, Bool, List, [], ◌∷◌, Option, Some, None}
use Rattle.std.specs.Option.{option_map}
use Rattle.command_model.specs.Commands.{CommandOf}
use Rattle.history_model.specs.Rules.{Perform}
use Rattle.session_model.specs.Actions.{Single}
use Rattle.session_model.specs.Scripts.{Request}
use Rattle.script_model.specs.Arguments.{Argument, name, side, number}

-- texts as names
abbrev pub Text : Type 0
Text = List ℕ

-- what arguments make, if they are of the right kinds
abbrev pub Maker : Type 0
Maker = List Argument → Option Request

abbrev pub single : CommandOf Text → Request
single c = Perform (Single c)

-- nothing
abbrev pub of_none : Request → Maker
of_none r [] = Some r
of_none r arguments = None

-- one name, two or three of them
abbrev pub of_one : (Text → Request) → Maker
of_one f (name c ∷ []) = Some (f c)
of_one f arguments = None

abbrev pub of_two : (Text → Text → Request) → Maker
of_two f (name c ∷ name x ∷ []) = Some (f c x)
of_two f arguments = None

abbrev pub of_three : (Text → Text → Text → Request) → Maker
of_three f (name c ∷ name x ∷ name y ∷ []) = Some (f c x y)
of_three f arguments = None

-- names alone
abbrev pub names_in : List Argument → Option (List Text)
names_in [] = Some []
names_in (name n ∷ rest) = option_map (λ ns. n ∷ ns) (names_in rest)
names_in (side meta ∷ rest) = None
names_in (number k ∷ rest) = None

-- two names and then any number of them
abbrev pub of_classes : (Text → Text → List Text → Request) → Maker
of_classes f (name d ∷ name p ∷ rest) = option_map (f d p) (names_in rest)
of_classes f arguments = None

-- a selector, a number and another selector
abbrev pub of_parameter : (Text → ℕ → Text → Request) → Maker
of_parameter f (name s ∷ number k ∷ name t ∷ []) = Some (f s k t)
of_parameter f arguments = None

-- a class, a side and a selector
abbrev pub of_method : (Text → Bool → Text → Request) → Maker
of_method f (name c ∷ side meta ∷ name s ∷ []) = Some (f c meta s)
of_method f arguments = None

-- a method and a name in it, or two names
abbrev pub of_local : (Text → Bool → Text → Text → Request) → Maker
of_local f (name c ∷ side meta ∷ name s ∷ name x ∷ []) = Some (f c meta s x)
of_local f arguments = None

abbrev pub of_local_to : (Text → Bool → Text → Text → Text → Request) → Maker
of_local_to f (name c ∷ side meta ∷ name s ∷ name x ∷ name y ∷ []) = Some (f c meta s x y)
of_local_to f arguments = None

-- a part of a method, and such a part and a name
abbrev pub of_part : (Text → Bool → Text → ℕ → ℕ → Request) → Maker
of_part f (name c ∷ side meta ∷ name s ∷ number from ∷ number to ∷ []) = Some (f c meta s from to)
of_part f arguments = None

abbrev pub of_part_to : (Text → Bool → Text → ℕ → ℕ → Text → Request) → Maker
of_part_to f (name c ∷ side meta ∷ name s ∷ number from ∷ number to ∷ name t ∷ []) = Some (f c meta s from to t)
of_part_to f arguments = None
