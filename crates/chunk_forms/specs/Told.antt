-- The program's messages and forms as those of the definitions.
use Rattle.std.specs.Prelude.{◌≡◌, ℕ, List, [], ◌∷◌, Option, Some, None, option_map}
use Rattle.rb_base.specs.Names.{name_at}
use Rattle.tree_model.specs.Tree.{TreeOf, trees_of, map_trees}
use Rattle.file_model.specs.Causes.{PoolsNotEmpty, UnknownDefinition}
use Rattle.file_model.specs.Numerals.{place_in}
use Rattle.file_model.specs.Changes.{DefinitionOf, Define, DefineAt, Comment, SetClassSide, RemoveMethod, RemoveClass}
use Rattle.file_model.specs.Words.{words_of}
use Rattle.file_model.specs.Forms as forms
use Rattle.file_model.specs.Forms.{Form, Evaluates, Changes, Opens, OpensAt, Settles, Refuses, arguments_of}
use Rattle.chunk_forms.specs.declared.sent.Argument.{Argument}
use Rattle.chunk_forms.specs.declared.sent.Argument.TheVariants as argument
use Rattle.chunk_forms.specs.declared.sent.Receiver.{Receiver}
use Rattle.chunk_forms.specs.declared.sent.Sent.{Sent}
use Rattle.chunk_forms.specs.declared.arguments.FirstText.{FirstText}
use Rattle.chunk_forms.specs.declared.definitions.DefinitionStrings.{DefinitionStrings}
use Rattle.chunk_forms.specs.declared.definitions.FirstStrings.{FirstStrings}
use Rattle.chunk_forms.specs.declared.definitions.PlacedStrings.{PlacedStrings}
use Rattle.chunk_forms.specs.declared.replacements.Replacement.{Replacement}
use Rattle.chunk_forms.specs.declared.form.ClassDefinition.{ClassDefinition}
use Rattle.chunk_forms.specs.declared.form.ChunkForm.{ChunkForm}
use Rattle.chunk_forms.specs.declared.form.ChunkForm.TheVariants as form

-- an argument
abbrev pub argument_text : Argument → forms.Argument
argument_text (argument.Symbol t) = forms.Symbol t.now
argument_text (argument.String t) = forms.String t.now
argument_text (argument.Numeral t) = forms.Numeral t.now
argument_text argument.Other = forms.Other

-- a receiver, by the texts of names
abbrev pub receiver_text : List (List ℕ) → Receiver → forms.Receiver
receiver_text names r = record { class = name_at names r.class; meta = r.meta }

-- a message, by the texts of names
abbrev pub sent_text : List (List ℕ) → Sent → forms.Sent
sent_text names m = record {
  class = name_at names m.class;
  meta = m.meta;
  selector = name_at names m.selector;
  arguments = arguments_of (map_trees (name_at names) (trees_of m.arguments.now));
}

-- a symbol or a string is the one argument; anything else says that there is no such one
abbrev pub HasOneArgument : List (TreeOf ℕ) → Argument → Type 0
HasOneArgument ts a = (f : ℕ → List ℕ) → forms.the_argument (arguments_of (map_trees f (trees_of ts))) ≡ argument_text a

-- the definition of a class, by the texts of names
abbrev pub definition_text : List (List ℕ) → ClassDefinition → DefinitionOf (List ℕ)
definition_text names d = record {
  name = d.name.now;
  superclass = option_map (name_at names) d.superclass;
  instance = words_of d.instance.now;
  shared = words_of d.shared.now;
  category = d.category.now;
}

-- what a chunk says, by the texts of names
abbrev pub form_text : List (List ℕ) → ChunkForm → Form
form_text names form.Evaluates = Evaluates
form_text names (form.Defines d) = Changes (Define (definition_text names d))
form_text names (form.DefinesAt d k) = Changes (DefineAt (definition_text names d) k)
form_text names (form.Comments class text) = Changes (Comment (name_at names class) text.now)
form_text names (form.SetsClassSide class vars) = Changes (SetClassSide (name_at names class) (words_of vars.now))
form_text names (form.Opens class meta protocol) = Opens (record { class = name_at names class; meta = meta; protocol = protocol.now })
form_text names (form.OpensAt class meta protocol k) = OpensAt (record { class = name_at names class; meta = meta; protocol = protocol.now }) k
form_text names form.Settles = Settles
form_text names (form.RemovesMethod class meta selector) = Changes (RemoveMethod (name_at names class) meta selector.now)
form_text names (form.RemovesClass name) = Changes (RemoveClass name.now)
form_text names form.HasPools = Refuses PoolsNotEmpty
form_text names form.IsUnknown = Refuses UnknownDefinition

-- the strings of a definition
abbrev pub strings_text : DefinitionStrings → forms.DefinitionStrings
strings_text d = record { name = d.name.now; instance = d.instance.now; shared = d.shared.now; pools = d.pools.now; category = d.category.now }

-- the text of an argument and the arguments behind it
pub record FirstOf : Type 0 where
  pub text : List ℕ
  pub others : List forms.Argument

-- those of the program, by the texts of names
abbrev pub first_text : (ℕ → List ℕ) → FirstText → FirstOf
first_text f x = record { text = x.text.now; others = arguments_of (map_trees f (trees_of x.others.now)) }

-- the symbol with which arguments begin
abbrev pub symbol_first : List forms.Argument → Option FirstOf
symbol_first (forms.Symbol t ∷ xs) = Some (record { text = t; others = xs })
symbol_first xs = None

-- the string with which arguments begin
abbrev pub string_first : List forms.Argument → Option FirstOf
string_first (forms.String t ∷ xs) = Some (record { text = t; others = xs })
string_first xs = None

-- the numeral with which arguments begin
abbrev pub numeral_first : List forms.Argument → Option FirstOf
numeral_first (forms.Numeral t ∷ xs) = Some (record { text = t; others = xs })
numeral_first xs = None

-- the place that the one argument states
abbrev pub one_place : List forms.Argument → Option ℕ
one_place (forms.Numeral t ∷ []) = place_in t
one_place xs = None

-- the strings of a definition and the arguments behind them
pub record FirstStringsOf : Type 0 where
  pub strings : forms.DefinitionStrings
  pub others : List forms.Argument

-- those of the program, by the texts of names
abbrev pub first_strings_text : (ℕ → List ℕ) → FirstStrings → FirstStringsOf
first_strings_text f x = record { strings = strings_text x.strings; others = arguments_of (map_trees f (trees_of x.others.now)) }

-- the symbol and the four strings with which arguments begin
abbrev pub strings_first : List forms.Argument → Option FirstStringsOf
strings_first (forms.Symbol n ∷ forms.String i ∷ forms.String s ∷ forms.String p ∷ forms.String k ∷ xs) =
    Some (record { strings = record { name = n; instance = i; shared = s; pools = p; category = k }; others = xs })
strings_first xs = None

-- the strings of a definition and the numeral behind them
abbrev pub placed_text : PlacedStrings → forms.PlacedStrings
placed_text x = record { strings = strings_text x.strings; numeral = x.numeral.now }

-- a replacement of a do-it
abbrev pub replacement_text : Replacement → forms.Replacement
replacement_text r = record { numeral = r.numeral.now; source = r.source.now }

-- what a chunk says, with the place that may be stated for the class that it defines
abbrev pub at_stated : Option ℕ → Form → Form
at_stated None x = x
at_stated (Some k) x = forms.at_place k x
