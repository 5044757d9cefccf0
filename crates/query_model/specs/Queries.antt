-- What is asked of an image: who sends or implements a selector, and which nodes mean a class or a variable.
use Rattle.std.specs.Prelude.{List, [], filter, Bool, true, not, ◌&&◌}
use Rattle.std.specs.Option.{option_map_or}
use Rattle.std.specs.Prelude.{slice_get, false}
use Rattle.image_model.specs.Image.{EntryOf, ImageOf}
use Rattle.image_model.specs.Words.{WordsOf}
use Rattle.image_model.specs.Means.{VariableKind}
use Rattle.image_model.specs.Nodes.{Place, in_method, in_doit, Use}
use Rattle.image_model.specs.Uses.{senders, class_uses, variable_uses}

-- A variable is asked for by its kind, the class that defines it, and its name.
pub data QueryOf (N : Type 0) : Type 0 where
  of_senders : N → QueryOf N
  of_implementors : N → QueryOf N
  of_class : N → QueryOf N
  of_variable : VariableKind → N → N → QueryOf N

-- the same question with each name changed
abbrev pub map_query : {M N : Type 0} → (M → N) → QueryOf M → QueryOf N
map_query f (of_senders s) = of_senders (f s)
map_query f (of_implementors s) = of_implementors (f s)
map_query f (of_class c) = of_class (f c)
map_query f (of_variable kind c n) = of_variable kind (f c) (f n)

-- the nodes that are asked for, in the order of the image; those who implement a selector are methods and no nodes
abbrev pub nodes_asked : {N : Type 0} → WordsOf N → ImageOf N → QueryOf N → List Use
nodes_asked w i (of_senders s) = senders w i s
nodes_asked w i (of_implementors s) = []
nodes_asked w i (of_class c) = class_uses w i c
nodes_asked w i (of_variable kind c n) = variable_uses w i c n kind

-- whether a method is a user's and implements the selector that is asked for
abbrev pub is_asked : {N : Type 0} → WordsOf N → QueryOf N → EntryOf N → Bool
is_asked w (of_senders s) m = false
is_asked w (of_implementors s) m = not m.kernel && w.tests.same s m.tree.selector
is_asked w (of_class c) m = false
is_asked w (of_variable kind c n) m = false

-- the methods that are asked for, in the order of the image
abbrev pub methods_asked : {N : Type 0} → WordsOf N → ImageOf N → QueryOf N → List (EntryOf N)
methods_asked w i q = filter (is_asked w q) i.methods

-- whether a place is a user's: it is in none of the kernel's methods
abbrev pub is_users : {N : Type 0} → ImageOf N → Place → Bool
is_users i (in_method k) = option_map_or (λ (m : EntryOf _). not m.kernel) (slice_get i.methods k) false
is_users i (in_doit k) = true

-- the users' nodes that are asked for
abbrev pub users_nodes : {N : Type 0} → WordsOf N → ImageOf N → QueryOf N → List Use
users_nodes w i q = filter (λ (u : Use). is_users i u.place) (nodes_asked w i q)
