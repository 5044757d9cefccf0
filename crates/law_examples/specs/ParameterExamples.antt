-- Small images in which a parameter goes, or may not go.
use Rattle.std.specs.Prelude.{◌≡◌, List, [], ◌∷◌, Option, Some, None, true, false, codes}
use Rattle.rb_base.specs.Names.{text_eq}
use Rattle.tree_model.specs.Tree.{TreeOf, var, literal, number, word, send, assign, return, TreesOf, no_trees, more_trees, no_statements, more_statements, SequenceOf}
use Rattle.image_model.specs.Image.{ClassOf, EntryOf, ImageOf}
use Rattle.run_model.specs.Values.{Name}
use Rattle.rename_model.specs.ClassRenamed.{WritingOf}
use Rattle.rename_model.specs.CommandWords.{text_command_words}
use Rattle.rename_model.specs.Conditions.{has_no_reflection, is_selector_fresh, is_no_kernel_selector}
use Rattle.command_model.specs.Asked.{text_asked}
use Rattle.command_model.specs.Commands.{CommandOf, AddParameter, RemoveParameter}
use Rattle.command_model.specs.Conditions.{NotIn}
use Rattle.command_model.specs.Effects.{effect}
use Rattle.command_model.specs.Holds.{holds}
use Rattle.command_model.specs.ParameterConditions.{are_arguments_plain, is_parameter_unused}

-- a class of the user
abbrev pub class_of : Name → Option Name → ClassOf Name
class_of n above = record { name = n; superclass = above; instance = []; shared = []; class_side = []; category = []; comment = []; kernel = false }

-- `note: x at: t  ^x` of A, with these arguments
abbrev pub note : Name → List Name → EntryOf Name
note s args = record {
  class = Some (codes "A");
  meta = false;
  protocol = [];
  source = [];
  tree = record { selector = s; arguments = args; head = []; primitive = None; body = record { temporaries = []; statements = more_statements [] (return (var (codes "x"))) no_statements; tail = [] } };
  kernel = false;
}

-- an image with A and this do-it
abbrev pub image_with : EntryOf Name → SequenceOf Name → ImageOf Name
image_with m b = record { classes = class_of (codes "Object") None ∷ class_of (codes "A") (Some (codes "Object")) ∷ []; methods = m ∷ []; doits = record { source = []; body = b } ∷ []; heads = 0 }

-- `A new`, and with a message of these arguments
abbrev pub a_new : TreeOf Name
a_new = send (var (codes "A")) (codes "new") no_trees

abbrev pub told : Name → TreesOf Name → TreeOf Name
told s args = send a_new s args

abbrev pub one : TreeOf Name
one = literal (number (codes "1"))

-- `A new note: 1 at: A new`
abbrev pub with_message : ImageOf Name
with_message = image_with (note (codes "note:at:") (codes "x" ∷ codes "t" ∷ [])) (record { temporaries = []; statements = more_statements [] (told (codes "note:at:") (more_trees one (more_trees a_new no_trees))) no_statements; tail = [] })

-- `| k | k := 2. A new note: 1 at: k`
abbrev pub set_two : TreeOf Name
set_two = assign (codes "k") (literal (number (codes "2")))

abbrev pub with_name : ImageOf Name
with_name =
    image_with (note (codes "note:at:") (codes "x" ∷ codes "t" ∷ []))
    (record { temporaries = codes "k" ∷ []; statements = more_statements [] set_two (more_statements [] (told (codes "note:at:") (more_trees one (more_trees (var (codes "k")) no_trees))) no_statements); tail = [] })

-- the same without the second argument
abbrev pub without_it : ImageOf Name
without_it =
    image_with (note (codes "note:") (codes "x" ∷ []))
    (record { temporaries = codes "k" ∷ []; statements = more_statements [] set_two (more_statements [] (told (codes "note:") (more_trees one no_trees)) no_statements); tail = [] })

-- how nothing is written
abbrev pub silent : WritingOf Name
silent = record { method_text = λ m. []; doit_text = λ b. [] }

-- `A new note: 1 at: nil`
abbrev pub with_nil : ImageOf Name
with_nil =
    image_with (note (codes "note:at:") (codes "x" ∷ codes "t" ∷ []))
    (record { temporaries = codes "k" ∷ []; statements = more_statements [] set_two (more_statements [] (told (codes "note:at:") (more_trees one (more_trees (var (codes "nil")) no_trees))) no_statements); tail = [] })

-- A message that is passed is not plain, and a temporary is.
abbrev pub ArePlain : Type 0
ArePlain = (are_arguments_plain text_asked with_message (codes "note:at:") 2 ≡ false) × (are_arguments_plain text_asked with_name (codes "note:at:") 2 ≡ true)

-- The second argument is not read, the first is, and there is no third; arguments are counted from 1.
abbrev pub AreUnread : Type 0
AreUnread =
    (is_parameter_unused text_asked with_name (codes "note:at:") 2 ≡ true)
    × (is_parameter_unused text_asked with_name (codes "note:at:") 1 ≡ false)
    × (is_parameter_unused text_asked with_name (codes "note:at:") 3 ≡ false)
    × (is_parameter_unused text_asked with_name (codes "note:at:") 0 ≡ false)

-- The parameter that comes is passed as `nil`.
abbrev pub adding : CommandOf Name
adding = AddParameter (codes "note:") (codes "note:at:") (codes "t") (word (codes "nil"))

-- The other conditions hold.
abbrev pub OthersHold : Type 0
OthersHold =
    (has_no_reflection text_command_words with_name ≡ true) × (is_selector_fresh text_eq with_name (codes "note:") ≡ true)
    × (is_no_kernel_selector text_eq text_command_words with_name (codes "note:at:") ≡ true) × (holds text_asked without_it adding (NotIn (codes "A") false (codes "note:") (codes "t")) ≡ true)

-- What is made of them.
abbrev pub AreMade : Type 0
AreMade = (effect text_asked silent (RemoveParameter (codes "note:at:") 2 (codes "note:")) with_name ≡ without_it) × (effect text_asked silent adding without_it ≡ with_nil)
