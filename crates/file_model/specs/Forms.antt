-- What a chunk outside a run of methods says, judged by the tree that it spells.
use Rattle.std.specs.Prelude.{ℕ, List, [], ◌∷◌, Bool, true, false, not, nat_eq, ◌&&◌, if◌then◌else◌, codes, Option, Some, None}
use Rattle.std.specs.List.{starts_with}
use Rattle.std.specs.Option.{option_map, option_map_or, option_and_then}
use Rattle.rb_base.specs.Names.{text_eq}
use Rattle.token_model.specs.declared.kind.Dialect.{Dialect}
use Rattle.token_model.specs.declared.kind.Dialect.TheVariants.{First, Second}
use Rattle.tree_model.specs.Tree.{LiteralOf, number, str, symbol, char, array, bytes, word, TreeOf, var, literal, send, cascade, assign, block, brace, return, TreesOf, no_trees, more_trees, StatementsOf, no_statements, more_statements, SequenceOf}
use Rattle.run_model.specs.Numbers.{numeral_integer}
use Rattle.st_kernel.specs.Selectors.{is_reserved_selector}
use Rattle.file_model.specs.Words.{words_of, may_name, may_name_all, is_blank_string}
use Rattle.file_model.specs.Causes.{Cause, PoolsNotEmpty, UnknownDefinition, when, first_cause}
use Rattle.file_model.specs.Changes.{ChangeOf, Define, Comment, SetClassSide, RemoveMethod, RemoveClass, stated_at, RunOf}
use Rattle.file_model.specs.Numerals.{place_in}

-- What a chunk says.
pub data Form : Type 0 where
  -- it is a do-it
  Evaluates : Form
  -- it changes classes or methods
  Changes : ChangeOf (List ℕ) → Form
  -- methods follow
  Opens : RunOf (List ℕ) → Form
  -- methods follow, and a place is stated for the first of them
  OpensAt : RunOf (List ℕ) → ℕ → Form
  -- methods and classes go to the places that were stated for them
  Settles : Form
  -- it is refused, whatever was read before
  Refuses : Cause → Form

-- An argument of a message: a symbol, a string, a numeral, or anything else.
pub data Argument : Type 0 where
  Symbol : List ℕ → Argument
  String : List ℕ → Argument
  Numeral : List ℕ → Argument
  Other : Argument

-- a literal as an argument
abbrev pub argument_of_literal : LiteralOf (List ℕ) → Argument
argument_of_literal (number t) = Numeral t
argument_of_literal (str t) = String t
argument_of_literal (symbol t) = Symbol t
argument_of_literal (char b) = Other
argument_of_literal (array ls) = Other
argument_of_literal (bytes ls) = Other
argument_of_literal (word n) = Other

-- a tree as an argument
abbrev pub argument_of : TreeOf (List ℕ) → Argument
argument_of (var n) = Other
argument_of (literal l) = argument_of_literal l
argument_of (send r s xs) = Other
argument_of (cascade r ms) = Other
argument_of (assign n t) = Other
argument_of (block ps ts ss e) = Other
argument_of (brace ts) = Other
argument_of (return t) = Other

-- trees as arguments
abbrev pub arguments_of : TreesOf (List ℕ) → List Argument
arguments_of no_trees = []
arguments_of (more_trees t ts) = argument_of t ∷ arguments_of ts

-- a class as it is named by a receiver: by its name, or by the message `class` to its name, which is its class side
pub record Receiver : Type 0 where
  pub class : List ℕ
  pub meta : Bool

-- the name that a tree is
abbrev pub name_in : TreeOf (List ℕ) → Option (List ℕ)
name_in (var n) = Some n
name_in (literal l) = None
name_in (send r s xs) = None
name_in (cascade r ms) = None
name_in (assign n t) = None
name_in (block ps ts ss e) = None
name_in (brace ts) = None
name_in (return t) = None

-- the receiver whose class side is named, if the tree is a message `class` to a name
abbrev pub side_in : TreeOf (List ℕ) → List ℕ → Option Receiver
side_in r s = if text_eq s (codes "class") then option_map (λ n. record { class = n; meta = true }) (name_in r) else None

-- the class that a tree names as a receiver
abbrev pub receiver_of : TreeOf (List ℕ) → Option Receiver
receiver_of (var n) = Some (record { class = n; meta = false })
receiver_of (literal l) = None
receiver_of (send r s xs) = side_in r s
receiver_of (cascade r ms) = None
receiver_of (assign n t) = None
receiver_of (block ps ts ss e) = None
receiver_of (brace ts) = None
receiver_of (return t) = None

-- a message to a name, or to the class side of a name
pub record Sent : Type 0 where
  pub class : List ℕ
  pub meta : Bool
  pub selector : List ℕ
  pub arguments : List Argument

-- the message that a tree is, if it is one
abbrev pub sent_by : TreeOf (List ℕ) → Option Sent
sent_by (var n) = None
sent_by (literal l) = None
sent_by (send r s xs) = option_map (λ (c : Receiver). record { class = c.class; meta = c.meta; selector = s; arguments = arguments_of xs }) (receiver_of r)
sent_by (cascade r ms) = None
sent_by (assign n t) = None
sent_by (block ps ts ss e) = None
sent_by (brace ts) = None
sent_by (return t) = None

-- the message of statements that are one statement
abbrev pub sent_in_statements : StatementsOf (List ℕ) → Option Sent
sent_in_statements no_statements = None
sent_in_statements (more_statements c t no_statements) = sent_by t
sent_in_statements (more_statements c t (more_statements d u ss)) = None

-- the message that a chunk is: it has no temporaries and this one statement
abbrev pub sent_of : SequenceOf (List ℕ) → List (List ℕ) → Option Sent
sent_of b [] = sent_in_statements b.statements
sent_of b (t ∷ ts) = None

-- a message that is in no form
abbrev pub no_form : Form
no_form = Refuses UnknownDefinition

-- the superclass that a definition names: in the text of the kernel `nil` stands for none
abbrev pub superclass_named : Bool → List ℕ → Option (List ℕ)
superclass_named kernel p = if kernel && text_eq p (codes "nil") then None else Some p

-- the strings of a definition: a symbol, and four strings
pub record DefinitionStrings : Type 0 where
  pub name : List ℕ
  pub instance : List ℕ
  pub shared : List ℕ
  pub pools : List ℕ
  pub category : List ℕ

-- the strings of a definition, where the arguments are such
abbrev pub definition_strings : List Argument → Option DefinitionStrings
definition_strings (Symbol n ∷ String i ∷ String s ∷ String p ∷ String k ∷ []) =
    Some (record { name = n; instance = i; shared = s; pools = p; category = k })
definition_strings xs = None

-- the argument, where there is one
abbrev pub the_argument : List Argument → Argument
the_argument [] = Other
the_argument (x ∷ []) = x
the_argument (x ∷ y ∷ xs) = Other

-- a definition of a class under another
abbrev pub definition_form : Bool → List ℕ → DefinitionStrings → Form
definition_form kernel p d =
    option_map_or Refuses (first_cause
    (when (not (may_name d.name && (may_name_all d.instance && may_name_all d.shared))) UnknownDefinition
    ∷ when (not (is_blank_string d.pools)) PoolsNotEmpty ∷ []))
    (Changes (Define (record {
      name = d.name;
      superclass = superclass_named kernel p;
      instance = words_of d.instance;
      shared = words_of d.shared;
      category = d.category;
    })))

-- `P subclass: #N instanceVariableNames: '..' classVariableNames: '..' poolDictionaries: '..' category: '..'`
abbrev pub subclass_form : Bool → List ℕ → Bool → Option DefinitionStrings → Form
subclass_form kernel p false (Some d) = definition_form kernel p d
subclass_form kernel p meta o = no_form

-- the strings of a definition and the numeral behind them
pub record PlacedStrings : Type 0 where
  pub strings : DefinitionStrings
  pub numeral : List ℕ

-- those of the arguments, where they are such
abbrev pub placed_strings : List Argument → Option PlacedStrings
placed_strings (Symbol n ∷ String i ∷ String s ∷ String p ∷ String k ∷ Numeral t ∷ []) =
    Some (record { strings = record { name = n; instance = i; shared = s; pools = p; category = k }; numeral = t })
placed_strings xs = None

-- a place is stated for the class that is defined
abbrev pub at_place : ℕ → Form → Form
at_place k Evaluates = Evaluates
at_place k (Changes c) = Changes (stated_at k c)
at_place k (Opens r) = Opens r
at_place k (OpensAt r j) = OpensAt r j
at_place k Settles = Settles
at_place k (Refuses cause) = Refuses cause

-- a definition of a class under another at the place that a numeral states
abbrev pub placed_form : Bool → List ℕ → PlacedStrings → Form
placed_form kernel p x = option_map_or (λ k. at_place k (definition_form kernel p x.strings)) (place_in x.numeral) no_form

-- `P subclass: #N instanceVariableNames: '..' classVariableNames: '..' poolDictionaries: '..' category: '..' at: n`
abbrev pub placed_subclass_form : Bool → List ℕ → Bool → Option PlacedStrings → Form
placed_subclass_form kernel p false (Some x) = placed_form kernel p x
placed_subclass_form kernel p meta o = no_form

-- `N comment: '..'`
abbrev pub comment_form : List ℕ → Bool → Argument → Form
comment_form n false (String t) = Changes (Comment n t)
comment_form n meta x = no_form

-- `N methodsFor: '..'` and `N class methodsFor: '..'`
abbrev pub run_form : List ℕ → Bool → Argument → Form
run_form n meta (String t) = Opens (record { class = n; meta = meta; protocol = t })
run_form n meta x = no_form

-- `N methodsFor: '..' at: n` and `N class methodsFor: '..' at: n`
abbrev pub placed_run_form : List ℕ → Bool → List Argument → Form
placed_run_form n meta (String t ∷ Numeral k ∷ []) = option_map_or (OpensAt (record { class = n; meta = meta; protocol = t })) (place_in k) no_form
placed_run_form n meta xs = no_form

-- `N removeSelector: #s` and `N class removeSelector: #s`
abbrev pub removal_form : List ℕ → Bool → Argument → Form
removal_form n meta (Symbol s) = Changes (RemoveMethod n meta s)
removal_form n meta x = no_form

-- `Smalltalk removeClassNamed: #N`
abbrev pub class_removal_form : List ℕ → Bool → Argument → Form
class_removal_form n false (Symbol c) = if text_eq n (codes "Smalltalk") then Changes (RemoveClass c) else no_form
class_removal_form n meta x = no_form

-- whether a dialect has class-instance variables of the names in a string; the first one has none
abbrev pub has_class_side : Dialect → List ℕ → Bool
has_class_side First s = is_blank_string s
has_class_side Second s = may_name_all s

-- `N class instanceVariableNames: '..'`
abbrev pub class_side_form : Dialect → List ℕ → Bool → Argument → Form
class_side_form d n true (String s) = if has_class_side d s then Changes (SetClassSide n (words_of s)) else no_form
class_side_form d n meta x = no_form

-- the selector of the definition of a class
abbrev pub definition_selector : List ℕ
definition_selector = codes "subclass:instanceVariableNames:classVariableNames:poolDictionaries:category:"

-- what a message to a class says that neither defines a class nor sets variables; with any other reserved selector it is in no form
abbrev pub other_form : List ℕ → Bool → List ℕ → Argument → Form
other_form n meta s x =
    if text_eq s (codes "comment:") then comment_form n meta x
    else if text_eq s (codes "methodsFor:") then run_form n meta x
    else if text_eq s (codes "removeSelector:") then removal_form n meta x
    else if text_eq s (codes "removeClassNamed:") then class_removal_form n meta x
    else if is_reserved_selector s then no_form
    else Evaluates

-- the selector of a definition with a place
abbrev pub placed_definition_selector : List ℕ
placed_definition_selector = codes "subclass:instanceVariableNames:classVariableNames:poolDictionaries:category:at:"

-- whether a message is one to `Smalltalk`
abbrev pub is_to_system : Sent → Bool
is_to_system m = not m.meta && text_eq m.class (codes "Smalltalk")

-- whether a message is one to `Smalltalk` by which a do-it is replaced, by its first keyword
abbrev pub replaces_doit : Sent → Bool
replaces_doit m = is_to_system m && starts_with nat_eq m.selector (codes "replaceDoIt:")

-- what a message says that neither defines a class without a place nor sets variables; a do-it is not replaced by what it says but as a chunk, so here such a message is in no form
abbrev pub further_form : Bool → Sent → Form
further_form kernel m =
    if text_eq m.selector placed_definition_selector then placed_subclass_form kernel m.class m.meta (placed_strings m.arguments)
    else if text_eq m.selector (codes "methodsFor:at:") then placed_run_form m.class m.meta m.arguments
    else if is_to_system m && text_eq m.selector (codes "settlePlaces") then Settles
    else if replaces_doit m then no_form
    else other_form m.class m.meta m.selector (the_argument m.arguments)

-- what a message to a class says
abbrev pub sent_form : Dialect → Bool → Sent → Form
sent_form d kernel m =
    if text_eq m.selector definition_selector then subclass_form kernel m.class m.meta (definition_strings m.arguments)
    else if text_eq m.selector (codes "instanceVariableNames:") then class_side_form d m.class m.meta (the_argument m.arguments)
    else further_form kernel m

-- what a chunk says that spells this tree, in the text of the kernel or in a user's; what is no such message is a do-it
abbrev pub form_of : Dialect → Bool → SequenceOf (List ℕ) → Form
form_of d kernel b = option_map_or (sent_form d kernel) (sent_of b b.temporaries) Evaluates

-- the do-it of a number, counted from 1 and spelled by a numeral, gets another source
pub record Replacement : Type 0 where
  pub numeral : List ℕ
  pub source : List ℕ

-- the replacement that arguments state: an integer and a string
abbrev pub stated_replacement : List Argument → Option Replacement
stated_replacement (Numeral t ∷ String s ∷ []) = option_map (λ z. record { numeral = t; source = s }) (numeral_integer t)
stated_replacement xs = None

-- the replacement that a message to `Smalltalk` states
abbrev pub replacement_sent : Sent → Option Replacement
replacement_sent m =
    if is_to_system m && text_eq m.selector (codes "replaceDoIt:with:") then stated_replacement m.arguments else None

-- `Smalltalk replaceDoIt: n with: '..'`
abbrev pub replacement_in : SequenceOf (List ℕ) → Option Replacement
replacement_in b = option_and_then replacement_sent (sent_of b b.temporaries)

-- whether a chunk that says this is a do-it
abbrev pub is_doit : Form → Bool
is_doit Evaluates = true
is_doit (Changes c) = false
is_doit (Opens r) = false
is_doit (OpensAt r k) = false
is_doit Settles = false
is_doit (Refuses cause) = false
