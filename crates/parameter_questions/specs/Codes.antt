-- What code passes for an argument of a selector.
use Rattle.std.specs.Prelude.{ℕ, Bool, true, false, not, nat_eq, ◌&&◌, ◌||◌, List, []}
use Rattle.std.specs.List.{list_all}
use Rattle.std.specs.Option.{option_map_or}
use Rattle.tree_model.specs.Tree.{TreeOf, var, literal, send, cascade, TreesOf, MessagesOf, no_messages, more_messages, SequenceOf}
use Rattle.tree_model.specs.Path.{nth}
use Rattle.tree_model.specs.Nodes.{Placed, nodes}
use Rattle.image_model.specs.Image.{EntryOf, DoItOf}
use Rattle.image_model.specs.Words.{number_words}
use Rattle.image_model.specs.Means as image
use Rattle.image_model.specs.Means.{MeaningOf}
use Rattle.st_tree.specs.View.{method_of, sequence_of}
use Rattle.class_table.specs.Slots.{Slots}
use Rattle.class_table.specs.Valid.{IsLive}
use Rattle.class_table.specs.View.{class_name, number_image}
use Rattle.command_model.specs.Plain.{is_atom_literal}
use Rattle.command_model.specs.ParameterConditions.{is_declared}
use Rattle.parameter_questions.specs.declared.code.Code.{Code}
use Rattle.parameter_questions.specs.declared.code.Code.TheVariants as code

-- the class of the code is live
abbrev pub IsOfLiveClass : Slots → Code → Type 0
IsOfLiveClass s (code.Method class meta tree) = IsLive s.class_order class
IsOfLiveClass s (code.DoIt body) = Unit {0}

-- the body of the code
abbrev pub body_of : Code → SequenceOf ℕ
body_of (code.Method class meta tree) = sequence_of tree.now.body
body_of (code.DoIt body) = sequence_of body.now

-- what names stand for at places of a method, and of a do-it
abbrev pub means_in_method : Slots → EntryOf ℕ → List ℕ → ℕ → MeaningOf ℕ
means_in_method s m path n = image.means (number_words s.names) (number_image s) m path n

abbrev pub means_in_doit : Slots → DoItOf ℕ → List ℕ → ℕ → MeaningOf ℕ
means_in_doit s d path n = image.means_in_doit (number_words s.names) (number_image s) d path n

-- what they stand for at places of the code
abbrev pub means_in : Slots → Code → List ℕ → ℕ → MeaningOf ℕ
means_in s (code.Method class meta tree) = means_in_method s (record { class = class_name s.classes class; meta = meta; protocol = []; source = []; tree = method_of tree.now; kernel = false })
means_in s (code.DoIt body) = means_in_doit s (record { source = []; body = sequence_of body.now })

-- whether an argument of a message is an atom, or a name that is declared, where names stand for this
abbrev pub may_be_dropped : (ℕ → MeaningOf ℕ) → TreeOf ℕ → Bool
may_be_dropped meaning (var n) = is_declared (meaning n)
may_be_dropped meaning (literal l) = is_atom_literal l
may_be_dropped meaning t = false

-- whether the argument of a number, counted from 0, is there and is such
abbrev pub is_dropped : (ℕ → MeaningOf ℕ) → ℕ → TreesOf ℕ → Bool
is_dropped meaning k args = option_map_or (may_be_dropped meaning) (nth args k) false

-- whether it is in each of the messages that have a selector
abbrev pub all_dropped : (ℕ → MeaningOf ℕ) → ℕ → ℕ → MessagesOf ℕ → Bool
all_dropped meaning s k no_messages = true
all_dropped meaning s k (more_messages t args ms) = (not (nat_eq s t) || is_dropped meaning k args) && all_dropped meaning s k ms

-- whether it is in each message of a selector that a node sends
abbrev pub are_dropped : (List ℕ → ℕ → MeaningOf ℕ) → ℕ → ℕ → Placed ℕ → Bool
are_dropped meaning s k (path, send r t args) = not (nat_eq s t) || is_dropped (meaning path) k args
are_dropped meaning s k (path, cascade r ms) = all_dropped (meaning path) s k ms
are_dropped meaning s k (path, t) = true

-- whether some message of the selector in a sequence passes something else
abbrev pub passes_other : (List ℕ → ℕ → MeaningOf ℕ) → ℕ → ℕ → SequenceOf ℕ → Bool
passes_other meaning s k b = not (list_all (are_dropped meaning s k) (nodes b))
