-- The names in an image: those of its classes and variables, those that its code declares, and those that its nodes read or assign.
use Rattle.std.specs.Prelude.{List, [], ◌++◌, Bool, false, ◌||◌}
use Rattle.std.specs.List.{list_any}
use Rattle.std.specs.Option.{option_map_or}
use Rattle.tree_model.specs.Tree.{TreeOf, var, literal, send, cascade, assign, block, brace, return, SequenceOf}
use Rattle.tree_model.specs.Nodes.{nodes}
use Rattle.image_model.specs.Image.{ClassOf, EntryOf, DoItOf, ImageOf}
use Rattle.image_model.specs.Uses.{name_used}

-- the names that a node declares
abbrev pub declared_by : {N : Type 0} → TreeOf N → List N
declared_by (var n) = []
declared_by (literal l) = []
declared_by (send r s args) = []
declared_by (cascade r ms) = []
declared_by (assign n t) = []
declared_by (block ps ts ss e) = ps ++ ts
declared_by (brace ts) = []
declared_by (return t) = []

-- whether a name is read, assigned or declared by a node
abbrev pub is_named_by : {N : Type 0} → (N → N → Bool) → N → TreeOf N → Bool
is_named_by same n t = option_map_or (same n) (name_used t) false || list_any (same n) (declared_by t)

-- whether a name is read, assigned or declared in a sequence
abbrev pub is_named_in : {N : Type 0} → (N → N → Bool) → N → SequenceOf N → Bool
is_named_in same n b = list_any (same n) b.temporaries || list_any (λ e. is_named_by same n e.1) (nodes b)

-- whether it is in a method
abbrev pub is_named_in_method : {N : Type 0} → (N → N → Bool) → N → EntryOf N → Bool
is_named_in_method same n m = list_any (same n) m.tree.arguments || is_named_in same n m.tree.body

-- whether a class or one of its variables has the name
abbrev pub is_named_by_class : {N : Type 0} → (N → N → Bool) → N → ClassOf N → Bool
is_named_by_class same n c = same n c.name || (list_any (same n) c.instance || (list_any (same n) c.shared || list_any (same n) c.class_side))

-- whether anything in the image has the name: a class, a variable, what code declares, or a name that a node reads or assigns
abbrev pub is_named : {N : Type 0} → (N → N → Bool) → ImageOf N → N → Bool
is_named same i n =
    list_any (is_named_by_class same n) i.classes
    || (list_any (is_named_in_method same n) i.methods
    || list_any (λ (d : DoItOf _). is_named_in same n d.body) i.doits)
