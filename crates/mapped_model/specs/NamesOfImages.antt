-- The names in use in an image: those of its classes and methods, those in its code, those of its variables by class, and those of which the language itself speaks.
use Rattle.std.specs.Prelude.{◌≡◌, ◌≢◌, List, [], ◌∷◌, ◌++◌, map, flat_map, Option, Some, None}
use Rattle.std.specs.List.{AllByRecursion}
use Rattle.rb_base.specs.Names.{text_eq}
use Rattle.scope_model.specs.SpecialNames.{one_block_selectors, two_block_selectors, loop_selectors}
use Rattle.image_model.specs.Image.{ClassOf, ImageOf}
use Rattle.image_model.specs.Chain.{chain}
use Rattle.image_model.specs.Means.{VariableKind, of_instance, of_class_side, variables}
use Rattle.image_model.specs.Valid.{HasNoRepeat, class_names, SuperclassesStandBefore}
use Rattle.run_model.specs.Values.{Name}
use Rattle.run_model.specs.ObjectPrimitives.{value_classes}
use Rattle.run_model.specs.Renamings.{OfClass}
use Rattle.resolved_model.specs.ResolvedTrees.{Reference, of_word, of_local, of_instance_variable, of_class_side_variable, of_class_variable, of_named_class, of_transcript, of_nothing, Target, to_temporary, to_instance_variable, to_class_side_variable, to_class_variable, to_fixed, to_nothing, ResolvedTree, reading, constant, sending, cascading, assigning, block_of, brace_of, returning, ResolvedTrees, no_nodes, more_nodes, ResolvedMessages, no_sends, more_sends, ResolvedStatements, no_lines, more_lines, ResolvedCode}
use Rattle.resolved_model.specs.ResolvedImages.{Doing, by_primitive, by_code, ResolvedMethod, ResolvedImage, resolved_image}
use Rattle.mapped_model.specs.NameMaps.{NameMaps}
use Rattle.mapped_model.specs.NamesInUse.{NamesInUse, IsAmong}

-- a name that is used: of a class, a selector, or of a class variable and its definer
pub data UsedName : Type 0 where
  class_name : Name → UsedName
  selector_name : Name → UsedName
  shared_name : OfClass → UsedName

-- the names in what is read
abbrev pub used_by_reference : Reference → List UsedName
used_by_reference (of_word n) = []
used_by_reference (of_local k) = []
used_by_reference (of_instance_variable n) = []
used_by_reference (of_class_side_variable n) = []
used_by_reference (of_class_variable c n) = shared_name (c, n) ∷ []
used_by_reference (of_named_class c) = class_name c ∷ []
used_by_reference of_transcript = []
used_by_reference (of_nothing n) = []

-- the names in what is assigned; the name of what is not assignable is that of a class
abbrev pub used_by_target : Target → List UsedName
used_by_target (to_temporary k) = []
used_by_target (to_instance_variable n) = []
used_by_target (to_class_side_variable n) = []
used_by_target (to_class_variable c n) = shared_name (c, n) ∷ []
used_by_target (to_fixed n) = class_name n ∷ []
used_by_target (to_nothing n) = []

-- the names in a node
abbrev mutual
  pub used_by_tree : ResolvedTree → List UsedName
  used_by_tree (reading r) = used_by_reference r
  used_by_tree (constant l) = []
  used_by_tree (sending r s args) = used_by_tree r ++ selector_name s ∷ used_by_trees args
  used_by_tree (cascading r ms) = used_by_tree r ++ used_by_messages ms
  used_by_tree (assigning n t) = used_by_target n ++ used_by_tree t
  used_by_tree (block_of ps ts ss) = used_by_statements ss
  used_by_tree (brace_of ts) = used_by_trees ts
  used_by_tree (returning t) = used_by_tree t

  pub used_by_trees : ResolvedTrees → List UsedName
  used_by_trees no_nodes = []
  used_by_trees (more_nodes t ts) = used_by_tree t ++ used_by_trees ts

  pub used_by_messages : ResolvedMessages → List UsedName
  used_by_messages no_sends = []
  used_by_messages (more_sends s args ms) = selector_name s ∷ (used_by_trees args ++ used_by_messages ms)

  pub used_by_statements : ResolvedStatements → List UsedName
  used_by_statements no_lines = []
  used_by_statements (more_lines t ss) = used_by_tree t ++ used_by_statements ss

-- the names in what a method does
abbrev pub used_by_doing : Doing → List UsedName
used_by_doing (by_primitive n) = []
used_by_doing (by_code c) = used_by_statements c.statements

-- the name of a class that there may be
abbrev pub used_if_any : Option Name → List UsedName
used_if_any (Some c) = class_name c ∷ []
used_if_any None = []

-- the names of a class and its superclass
abbrev pub used_by_class : ClassOf Name → List UsedName
used_by_class c = class_name c.name ∷ used_if_any c.superclass

-- the names of a method
abbrev pub used_by_method : ResolvedMethod → List UsedName
used_by_method m = used_if_any m.class ++ selector_name m.selector ∷ used_by_doing m.doing

-- the names in a do-it
abbrev pub used_by_doit : ResolvedCode → List UsedName
used_by_doit c = used_by_statements c.statements

-- the names in a resolved image
abbrev pub used_in : ResolvedImage → List UsedName
used_in i = flat_map used_by_class i.classes ++ (flat_map used_by_method i.methods ++ flat_map used_by_doit i.doits)

-- those of each kind
abbrev pub as_class : UsedName → List Name
as_class (class_name n) = n ∷ []
as_class (selector_name s) = []
as_class (shared_name k) = []

abbrev pub as_selector : UsedName → List Name
as_selector (class_name n) = []
as_selector (selector_name s) = s ∷ []
as_selector (shared_name k) = []

abbrev pub as_shared : UsedName → List OfClass
as_shared (class_name n) = []
as_shared (selector_name s) = []
as_shared (shared_name k) = k ∷ []

-- the variables of a kind that the class of a name has: its own and those that it inherits
abbrev pub variables_along : ImageOf Name → VariableKind → Name → List Name
variables_along i kind c = flat_map (variables kind) (chain text_eq i.classes (Some c))

-- the variables of a kind of a class, with its name
abbrev pub variables_with : ImageOf Name → VariableKind → ClassOf Name → List OfClass
variables_with i kind c = map (λ n. (c.name, n)) (variables_along i kind c.name)

-- the variables of a kind of each class
abbrev pub variables_of : ImageOf Name → VariableKind → List OfClass
variables_of i kind = flat_map (variables_with i kind) i.classes

-- the names in use in an image
abbrev pub names_in : ImageOf Name → NamesInUse
names_in i = record {
  classes = [] ∷ (value_classes ++ flat_map as_class (used_in (resolved_image i)));
  selectors = one_block_selectors ++ (two_block_selectors ++ (loop_selectors ++ flat_map as_selector (used_in (resolved_image i))));
  shared = flat_map as_shared (used_in (resolved_image i));
  instance = variables_of i of_instance;
  class_side = variables_of i of_class_side;
}

-- a class calls the variables that its superclass has as that does, after
pub record CallsAsAbove (i : ImageOf Name) (f : NameMaps) (c : ClassOf Name) : Type 0 where
  pub instance : (d n : Name) → c.superclass ≡ Some d → IsAmong (variables_along i of_instance d) n → f.instance (d, n) ≡ f.instance (c.name, n)
  pub class_side : (d n : Name) → c.superclass ≡ Some d → IsAmong (variables_along i of_class_side d) n → f.class_side (d, n) ≡ f.class_side (c.name, n)

-- the classes of an image have names of their own that are not empty, and each superclass stands before its subclasses
pub record HasOrderedClasses (i : ImageOf Name) : Type 0 where
  pub named : AllByRecursion (λ (c : ClassOf Name). c.name ≢ []) i.classes
  pub distinct : HasNoRepeat (class_names i.classes)
  pub before : SuperclassesStandBefore i.classes
