-- What `find` asks of an image.
use Rattle.std.specs.Prelude.{ℕ, ◌==◌, Bool, ◌&&◌, if◌then◌else◌, Option, Some, None, option_and_then, List, codes}
use Rattle.std.specs.List.{before_first, after_first}
use Rattle.std.specs.Str.{bytes_eq}
use Rattle.text_model.specs.Literals.{is_identifier}
use Rattle.image_model.specs.Means.{VariableKind, of_instance, of_class_side}
use Rattle.image_model.specs.Means as means
use Rattle.query_model.specs.Queries.{QueryOf, of_senders, of_implementors, of_class, of_variable}
use Rattle.command_words.specs.declared.questions.VariableKind.{VariableKind as KindShown}
use Rattle.command_words.specs.declared.questions.VariableKind.TheVariants as kind
use Rattle.command_words.specs.declared.questions.Question.{Question}
use Rattle.command_words.specs.declared.questions.Question.TheVariants as question

abbrev pub is_period : ℕ → Bool
is_period b = b == 46

-- what stands before the first period of a word, and what behind it
abbrev pub class_part : List ℕ → List ℕ
class_part word = before_first is_period word

abbrev pub variable_part : List ℕ → List ℕ
variable_part word = after_first is_period word

-- a variable of a class: two identifiers with a period between them
abbrev pub is_member : List ℕ → Bool
is_member word = is_identifier (class_part word) && is_identifier (variable_part word)

-- the words of the kinds of variables: instance variables, class variables and class-instance variables
abbrev pub kind_of : List ℕ → Option VariableKind
kind_of word =
    if bytes_eq word (codes "inst") then Some of_instance else
    (if bytes_eq word (codes "shared") then Some means.of_class else
    (if bytes_eq word (codes "classInst") then Some of_class_side else None))

-- which nodes mean the variable of a kind that is spelled with its class
abbrev pub variable_question : List ℕ → VariableKind → Option (QueryOf (List ℕ))
variable_question name k = if is_member name then Some (of_variable k (class_part name) (variable_part name)) else None

-- what a word and a name ask for; a selector or a class may be asked for by any name
abbrev pub question_of : List ℕ → List ℕ → Option (QueryOf (List ℕ))
question_of word name =
    if bytes_eq word (codes "senders") then Some (of_senders name) else
    (if bytes_eq word (codes "implementors") then Some (of_implementors name) else
    (if bytes_eq word (codes "class") then Some (of_class name) else
    option_and_then (variable_question name) (kind_of word)))

-- the kind that the program sees
abbrev pub kind_shown : KindShown → VariableKind
kind_shown kind.Instance = of_instance
kind_shown kind.ClassSide = of_class_side
kind_shown kind.Shared = means.of_class

-- the question that the program sees
abbrev pub asks : Question → QueryOf (List ℕ)
asks (question.Senders selector) = of_senders selector.now
asks (question.Implementors selector) = of_implementors selector.now
asks (question.Class name) = of_class name.now
asks (question.Variable k class name) = of_variable (kind_shown k) class.now name.now
