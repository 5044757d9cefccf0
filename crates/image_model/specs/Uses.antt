-- The uses of selectors, variables, classes and identifiers in an image.
use Rattle.std.specs.Prelude.{ℕ, List, [], ◌∷◌, ◌++◌, map, filter, Bool, true, false, ◌&&◌, ◌||◌, if◌then◌else◌, Option, Some, None}
use Rattle.std.specs.List.{list_any, flat_map, enumerate_from}
use Rattle.std.specs.Option.{option_map_or}
use Rattle.tree_model.specs.Tree.{TreeOf, var, literal, send, cascade, assign, block, brace, return, MessagesOf, no_messages, more_messages, SequenceOf}
use Rattle.image_model.specs.Image.{ImageOf}
use Rattle.image_model.specs.Words.{WordsOf}
use Rattle.image_model.specs.Means.{VariableKind, of_instance, of_class_side, of_class, MeaningOf, pseudo, argument, temporary, variable, a_class, transcript, undeclared}
use Rattle.image_model.specs.Nodes.{Place, in_method, in_doit, Use, NodeOf, nodes_of, image_nodes, means_in}

-- whether one of the messages has the selector
abbrev pub has_message : {N : Type 0} → (N → N → Bool) → N → MessagesOf N → Bool
has_message same s no_messages = false
has_message same s (more_messages t args ms) = same s t || has_message same s ms

-- whether a node sends a selector: a send of it, and a cascade with a message of it
abbrev pub is_sender : {N : Type 0} → (N → N → Bool) → N → TreeOf N → Bool
is_sender same s (var n) = false
is_sender same s (literal l) = false
is_sender same s (send r t args) = same s t
is_sender same s (cascade r ms) = has_message same s ms
is_sender same s (assign n t) = false
is_sender same s (block ps ts ss e) = false
is_sender same s (brace ts) = false
is_sender same s (return t) = false

-- the name that a node reads or assigns
abbrev pub name_used : {N : Type 0} → TreeOf N → Option N
name_used (var n) = Some n
name_used (literal l) = None
name_used (send r s args) = None
name_used (cascade r ms) = None
name_used (assign n t) = Some n
name_used (block ps ts ss e) = None
name_used (brace ts) = None
name_used (return t) = None

-- whether a node declares a name: a block of which it is a parameter or a temporary
abbrev pub is_declarer : {N : Type 0} → (N → N → Bool) → N → TreeOf N → Bool
is_declarer same n (var m) = false
is_declarer same n (literal l) = false
is_declarer same n (send r s args) = false
is_declarer same n (cascade r ms) = false
is_declarer same n (assign m t) = false
is_declarer same n (block ps ts ss e) = list_any (same n) ps || list_any (same n) ts
is_declarer same n (brace ts) = false
is_declarer same n (return t) = false

-- whether two kinds are one
abbrev pub same_kind : VariableKind → VariableKind → Bool
same_kind of_instance of_instance = true
same_kind of_class_side of_class_side = true
same_kind of_class of_class = true
same_kind j k = false

-- whether a meaning is the variable of a kind that a class defines
abbrev pub is_variable : {N : Type 0} → (N → N → Bool) → VariableKind → N → MeaningOf N → Bool
is_variable same k c pseudo = false
is_variable same k c (argument scope) = false
is_variable same k c (temporary scope) = false
is_variable same k c (variable j d) = same_kind k j && same c d
is_variable same k c (a_class d) = false
is_variable same k c transcript = false
is_variable same k c undeclared = false

-- whether a meaning is a class
abbrev pub is_that_class : {N : Type 0} → (N → N → Bool) → N → MeaningOf N → Bool
is_that_class same c pseudo = false
is_that_class same c (argument scope) = false
is_that_class same c (temporary scope) = false
is_that_class same c (variable j d) = false
is_that_class same c (a_class d) = same c d
is_that_class same c transcript = false
is_that_class same c undeclared = false

-- whether a test holds of the name that a node uses and of what the name stands for there
abbrev pub uses : {N : Type 0} → WordsOf N → ImageOf N → (N → MeaningOf N → Bool) → NodeOf N → Bool
uses w i test e = option_map_or (λ n. test n (means_in w i e.use_of.place e.use_of.path n)) (name_used e.tree) false

-- where the nodes of a list stand
abbrev pub places : {N : Type 0} → List (NodeOf N) → List Use
places es = map (λ (e : NodeOf _). e.use_of) es

-- the nodes that send a selector; a cascade is one of them, however often it sends it
abbrev pub senders : {N : Type 0} → WordsOf N → ImageOf N → N → List Use
senders w i s = places (filter (λ (e : NodeOf _). is_sender w.tests.same s e.tree) (image_nodes i))

-- the numbers of the methods of a selector
abbrev pub implementors : {N : Type 0} → WordsOf N → ImageOf N → N → List ℕ
implementors w i s = map (λ e. e.0) (filter (λ e. w.tests.same s e.1.tree.selector) (enumerate_from 0 i.methods))

-- the nodes that mean the variable of a kind and a name that a class defines; an assignment is a use of what it assigns
abbrev pub variable_uses : {N : Type 0} → WordsOf N → ImageOf N → N → N → VariableKind → List Use
variable_uses w i c n kind =
    places (filter (uses w i (λ m meaning. w.tests.same n m && is_variable w.tests.same kind c meaning)) (image_nodes i))

-- the nodes that mean a class
abbrev pub class_uses : {N : Type 0} → WordsOf N → ImageOf N → N → List Use
class_uses w i c = places (filter (uses w i (λ m meaning. is_that_class w.tests.same c meaning)) (image_nodes i))

-- whether a node names or declares a name
abbrev pub is_identifier_use : {N : Type 0} → (N → N → Bool) → N → TreeOf N → Bool
is_identifier_use same n t = option_map_or (same n) (name_used t) false || is_declarer same n t

-- the method or do-it itself, by the empty path, where it declares a name among these, and then the nodes in it that name or declare the name
abbrev pub identifier_uses_in : {N : Type 0} → (N → N → Bool) → N → Place → List N → SequenceOf N → List Use
identifier_uses_in same n place declared b =
    (if list_any (same n) declared then record { place = place; path = [] } ∷ [] else [])
    ++ places (filter (λ (e : NodeOf _). is_identifier_use same n e.tree) (nodes_of place b))

-- each node that names a name, and each place that declares it
abbrev pub identifier_uses : {N : Type 0} → WordsOf N → ImageOf N → N → List Use
identifier_uses w i n =
    flat_map (λ e. identifier_uses_in w.tests.same n (in_method e.0) (e.1.tree.arguments ++ e.1.tree.body.temporaries) e.1.tree.body) (enumerate_from 0 i.methods)
    ++ flat_map (λ e. identifier_uses_in w.tests.same n (in_doit e.0) e.1.body.temporaries e.1.body) (enumerate_from 0 i.doits)
