-- Requests and faults of the program in the words of the definitions.
use Rattle.std.specs.Prelude.{◌≡◌, ℕ, ◌==◌, ◌<◌, not, true, filter, find, List, [], ◌∷◌, length, map, Option, Some, None, Result}
use Rattle.std.specs.List.{AllByRecursion, list_all}
use Rattle.std.specs.Option.{option_map}
use Rattle.std.specs.Borrow.{Bor}
use Rattle.rb_base.specs.Names.{text_eq, name_at}
use Rattle.text_model.specs.Literals.{is_identifier}
use Rattle.session_model.specs.Scripts.{Request as Asked}
use Rattle.name_meanings.specs.declared.meaning.VariableKind.{VariableKind}
use Rattle.name_meanings.specs.declared.meaning.VariableKind.TheVariants as kind
use Rattle.commands.specs.declared.command.MethodName.{MethodName}
use Rattle.commands.specs.declared.command.MethodPart.{MethodPart}
use Rattle.commands.specs.Views.{request_in, IsKnownRequest}
use Rattle.script_model.specs.Words.{add_class, rename_class, remove_class, add_inst_var, rename_inst_var, remove_inst_var, push_up_inst_var, push_down_inst_var, add_class_var, rename_class_var, remove_class_var, push_up_class_var, push_down_class_var, add_class_side_var, rename_class_side_var, remove_class_side_var, rename_selector, remove_method, push_up_method, push_down_method, remove_parameter, rename_temp, abstract_inst_var, extract_method, inline_method, extract_temp, inline_temp, create_accessors, extract_superclass, push_up_with_methods, undo, redo}
use Rattle.script_model.specs.Arguments.{a_class, a_selector, argument, name, side_of, number_of, arguments_of, takes, method_and, part_and}
use Rattle.script_model.specs.Commands as script
use Rattle.script_model.specs.Additions as added
use Rattle.history_model.specs.Rules.{Perform}
use Rattle.ruled_model.specs.RuledScripts.{Line, Applies, as_line}
use Rattle.certificates.specs.Asked.{command_in, IsKnownRule}
use Rattle.script_lang.specs.declared.asked.ScriptLine.{ScriptLine}
use Rattle.script_lang.specs.declared.asked.ScriptLine.TheVariants as script_line
use Rattle.script_lang.specs.declared.verb.Verb.{Verb}
use Rattle.script_lang.specs.declared.verb.Verb.TheVariants as verb
use Rattle.script_lang.specs.declared.verb.PairVerb.{PairVerb}
use Rattle.script_lang.specs.declared.verb.PairVerb.TheVariants as pair
use Rattle.script_lang.specs.declared.verb.TripleVerb.{TripleVerb}
use Rattle.script_lang.specs.declared.verb.TripleVerb.TheVariants as triple
use Rattle.script_lang.specs.declared.verb.NewClassVerb.{NewClassVerb}
use Rattle.script_lang.specs.declared.verb.NewClassVerb.TheVariants as new_class
use Rattle.script_lang.specs.declared.verb.MethodVerb.{MethodVerb}
use Rattle.script_lang.specs.declared.verb.MethodVerb.TheVariants as method
use Rattle.script_lang.specs.declared.verb.AccessorVerb.{AccessorVerb}
use Rattle.script_lang.specs.declared.verb.AccessorVerb.TheVariants as accessor
use Rattle.script_lang.specs.declared.verb.ExtractVerb.{ExtractVerb}
use Rattle.script_lang.specs.declared.verb.ExtractVerb.TheVariants as extract
use Rattle.script_lang.specs.declared.additions.Addition.{Addition}
use Rattle.script_lang.specs.declared.fault.ScriptFault.{ScriptFault}
use Rattle.script_lang.specs.declared.fault.ScriptFault.TheVariants as fault

-- the words of the commands of a variable of a kind
abbrev pub add_word : VariableKind → List ℕ
add_word kind.Instance = add_inst_var
add_word kind.ClassSide = add_class_side_var
add_word kind.Shared = add_class_var

abbrev pub rename_word : VariableKind → List ℕ
rename_word kind.Instance = rename_inst_var
rename_word kind.ClassSide = rename_class_side_var
rename_word kind.Shared = rename_class_var

abbrev pub remove_word : VariableKind → List ℕ
remove_word kind.Instance = remove_inst_var
remove_word kind.ClassSide = remove_class_side_var
remove_word kind.Shared = remove_class_var

-- the word of a command of a class and another name, of three names, of a new class and of a method
abbrev pub pair_word : PairVerb → List ℕ
pair_word pair.RenameClass = rename_class
pair_word (pair.AddVariable k) = add_word k
pair_word (pair.RemoveVariable k) = remove_word k
pair_word pair.InstanceUp = push_up_inst_var
pair_word pair.InstanceDown = push_down_inst_var
pair_word pair.SharedUp = push_up_class_var
pair_word pair.UpWithMethods = push_up_with_methods

abbrev pub triple_word : TripleVerb → List ℕ
triple_word (triple.RenameVariable k) = rename_word k
triple_word triple.SharedDown = push_down_class_var

abbrev pub new_class_word : NewClassVerb → List ℕ
new_class_word new_class.Add = add_class
new_class_word new_class.Extract = extract_superclass

abbrev pub method_word : MethodVerb → List ℕ
method_word method.Remove = remove_method
method_word method.PushUp = push_up_method
method_word method.PushDown = push_down_method

-- the word of a command of a getter and a setter, and of one that puts a part of a method elsewhere
abbrev pub accessor_word : AccessorVerb → List ℕ
accessor_word accessor.Create = create_accessors
accessor_word accessor.Abstract = abstract_inst_var

abbrev pub extract_word : ExtractVerb → List ℕ
extract_word extract.Method = extract_method
extract_word extract.Temporary = extract_temp

-- the word of a command
abbrev pub word_of : Verb → List ℕ
word_of verb.RemoveClass = remove_class
word_of (verb.Pair v) = pair_word v
word_of (verb.Triple v) = triple_word v
word_of (verb.NewClass v) = new_class_word v
word_of (verb.Accessors v) = accessor_word v
word_of verb.RenameSelector = rename_selector
word_of (verb.Method v) = method_word v
word_of verb.RemoveParameter = remove_parameter
word_of verb.RenameTemporary = rename_temp
word_of (verb.Extract v) = extract_word v
word_of verb.InlineMethod = inline_method
word_of verb.InlineTemporary = inline_temp
word_of verb.Undo = undo
word_of verb.Redo = redo

-- the command of the first row that has the word
pub record FindsVerb (w : List ℕ) (rows : List (Bor (List ℕ) × Verb)) (found : Option Verb) : Type 0 where
  pub is : found ≡ option_map (λ (r : Bor (List ℕ) × Verb). r.1) (find (λ (r : Bor (List ℕ) × Verb). text_eq w r.0.now) rows)

-- what a command asks for with the words behind its own one
abbrev pub asked : Verb → List (List ℕ) → Result Asked script.Cause
asked v ws = script.said_by (word_of v ∷ ws)

-- what a line asks for over the texts of its names, and that their numbers have texts
abbrev pub line_in : List (List ℕ) → ScriptLine → Line
line_in names (script_line.Request r) = as_line (request_in names r)
line_in names (script_line.Rule r) = Perform (Applies (command_in names r))

abbrev pub IsKnownLine : List (List ℕ) → ScriptLine → Type 0
IsKnownLine names (script_line.Request r) = IsKnownRequest names r
IsKnownLine names (script_line.Rule r) = IsKnownRule names r

-- the same of lines
abbrev pub lines_in : List (List ℕ) → List ScriptLine → List Line
lines_in names asked = map (line_in names) asked

abbrev pub AreKnown : List (List ℕ) → List ScriptLine → Type 0
AreKnown names asked = AllByRecursion (IsKnownLine names) asked

-- the texts of words
abbrev pub texts : List (Bor (List ℕ)) → List (List ℕ)
texts ws = map (λ (w : Bor (List ℕ)). w.now) ws

-- those that are not empty
abbrev pub filled : List (List ℕ) → List (List ℕ)
filled ws = filter (λ (w : List ℕ). not (length w == 0)) ws

-- the words are names of the table, by these numbers
pub record AreNames (names : List (List ℕ)) (ids : List ℕ) (words : List (List ℕ)) : Type 0 where
  pub spelled : list_all is_identifier words ≡ true
  pub texts : words ≡ map (name_at names) ids
  pub known : AllByRecursion (λ n. n < length names) ids

-- three words name a method
pub record IsMethodNamed (names : List (List ℕ)) (m : MethodName) (class side selector : List ℕ) : Type 0 where
  pub class_is : argument a_class class ≡ Some (name (name_at names m.class))
  pub side_is : side_of side ≡ Some m.meta
  pub selector_is : argument a_selector selector ≡ Some (name (name_at names m.selector))

-- they name none
abbrev pub NamesNoMethod : (class side selector : List ℕ) → Type 0
NamesNoMethod class side selector = arguments_of (takes (method_and [])) (class ∷ side ∷ selector ∷ []) ≡ None

-- five words name a part of a method
pub record IsPartNamed (names : List (List ℕ)) (p : MethodPart) (class side selector from to : List ℕ) : Type 0 where
  pub method_is : IsMethodNamed names p.method class side selector
  pub from_is : number_of from ≡ Some p.from
  pub to_is : number_of to ≡ Some p.to

-- they name none
abbrev pub NamesNoPart : (class side selector from to : List ℕ) → Type 0
NamesNoPart class side selector from to = arguments_of (takes (part_and [])) (class ∷ side ∷ selector ∷ from ∷ to ∷ []) ≡ None

-- the parts of a method that is to be added
abbrev pub addition_shown : Option Addition → Option added.Addition
addition_shown o = option_map (λ (a : Addition). record { class = a.class.now; meta = a.meta; protocol = a.protocol.now; text = a.source.now }) o

-- the line and the cause that a fault tells; want of memory tells none
abbrev pub fault_shown : ScriptFault → Option (ℕ × script.Cause)
fault_shown (fault.UnknownCommand line) = Some (line, script.UnknownCommand)
fault_shown (fault.BadArgument line) = Some (line, script.BadArgument)
fault_shown (fault.TooMany line) = Some (line, script.TooMany)
fault_shown fault.Memory = None
