-- Messages by which Squeak, Pharo and VisualWorks file out, and what they say here.
use Rattle.std.specs.Prelude.{List, [], ◌∷◌, ◌++◌, Bool, ◌||◌, if◌then◌else◌, codes, Option, Some, None}
use Rattle.std.specs.Option.{option_map}
use Rattle.rb_base.specs.Names.{text_eq}
use Rattle.file_model.specs.Causes.{Cause}
use Rattle.file_model.specs.Filing.{Text}
use Rattle.file_model.specs.Forms.{Form, Evaluates, Changes, Opens, OpensAt, Settles, Refuses, Argument, Symbol, String, Other, DefinitionStrings}

-- whether a selector opens a run of methods and tells who wrote them, or what they replace
abbrev pub opens_stamped : Text → Bool
opens_stamped s =
    text_eq s (codes "methodsFor:stamp:") || (text_eq s (codes "methodsFor:prior:") || text_eq s (codes "methodsFor:stamp:prior:"))

-- whether a selector announces the comment of a class, which is the next chunk
abbrev pub announces_comment : Text → Bool
announces_comment s = text_eq s (codes "commentStamp:prior:")

-- the first of the arguments
abbrev pub first_argument : List Argument → Argument
first_argument [] = Other
first_argument (x ∷ xs) = x

-- a package as a category, with its tag behind a dash if it has one
abbrev pub tagged : Text → Text → Text
tagged base [] = base
tagged base (b ∷ tag) = base ++ 45 ∷ b ∷ tag

-- the pool dictionaries of a definition, and its category
pub record Ending : Type 0 where
  pub pools : Text
  pub category : Text

-- the ending of a definition, by its selector and what follows the class variables: a category or a package; a package and its tag; or pool dictionaries and a package
abbrev pub ending_of : Text → Text → List Argument → Option Ending
ending_of s k [] =
    if text_eq s (codes "subclass:instanceVariableNames:classVariableNames:category:")
    || text_eq s (codes "subclass:instanceVariableNames:classVariableNames:package:")
    then Some (record { pools = []; category = k }) else None
ending_of s k (String t ∷ []) =
    if text_eq s (codes "subclass:instanceVariableNames:classVariableNames:package:tag:") then Some (record { pools = []; category = tagged k t })
    else if text_eq s (codes "subclass:instanceVariableNames:classVariableNames:poolDictionaries:package:") then Some (record { pools = k; category = t })
    else None
ending_of s k xs = None

-- the strings of a definition that has a package, or no pool dictionaries
abbrev pub foreign_strings : Text → List Argument → Option DefinitionStrings
foreign_strings s (Symbol n ∷ String i ∷ String v ∷ String k ∷ xs) =
    option_map (λ (e : Ending). record { name = n; instance = i; shared = v; pools = e.pools; category = e.category }) (ending_of s k xs)
foreign_strings s xs = None

-- the cause for which a form is refused, if it is
abbrev pub cause_in : Form → Option Cause
cause_in Evaluates = None
cause_in (Changes c) = None
cause_in (Opens r) = None
cause_in (OpensAt r k) = None
cause_in Settles = None
cause_in (Refuses cause) = Some cause
