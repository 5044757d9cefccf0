-- The image that a chunk makes of another, over any type of names.
use Rattle.std.specs.Prelude.{ℕ, List, [], ◌∷◌, ◌++◌, map, filter, Bool, false, not, if◌then◌else◌, Some, Result}
use Rattle.std.specs.Option.{option_map_or}
use Rattle.tree_model.specs.Tree.{MethodOf}
use Rattle.image_model.specs.Image.{ClassOf, EntryOf, ImageOf}
use Rattle.image_model.specs.Lookup.{is_method}
use Rattle.file_model.specs.Causes.{Cause, unless}
use Rattle.file_model.specs.Changes.{DefinitionOf, ChangeOf, Define, DefineAt, Comment, SetClassSide, RemoveMethod, RemoveClass, RunOf}
use Rattle.file_model.specs.Hierarchy.{has_class, settled}
use Rattle.file_model.specs.Refusals.{has_method, definition_refusals, comment_refusals, class_side_refusals, removal_refusals, class_removal_refusals, method_refusals}

-- the class of a definition for the first time, of the kernel or not: it has no comment and no class-instance variables
abbrev pub new_class : {N : Type 0} → Bool → DefinitionOf N → ClassOf N
new_class kernel d = record {
  name = d.name;
  superclass = d.superclass;
  instance = d.instance;
  shared = d.shared;
  class_side = [];
  category = d.category;
  comment = [];
  kernel = kernel;
}

-- a class that is defined again keeps its comment and its class-instance variables
abbrev pub class_again : {N : Type 0} → DefinitionOf N → ClassOf N → ClassOf N
class_again d c = record c { superclass = d.superclass; instance = d.instance; shared = d.shared; category = d.category }

-- the classes with another class for that of a name
abbrev pub changed_class : {N : Type 0} → (N → N → Bool) → N → (ClassOf N → ClassOf N) → List (ClassOf N) → List (ClassOf N)
changed_class same n f classes = map (λ (c : ClassOf _). if same n c.name then f c else c) classes

-- the classes with a definition in place of the former one, or last
abbrev pub with_definition : {N : Type 0} → (N → N → Bool) → Bool → DefinitionOf N → List (ClassOf N) → List (ClassOf N)
with_definition same kernel d classes =
    if has_class same classes d.name then changed_class same d.name (class_again d) classes else classes ++ new_class kernel d ∷ []

-- the same classes in order; they are in order where the class is new, since its superclass was there
abbrev pub defined : {N : Type 0} → (N → N → Bool) → Bool → DefinitionOf N → List (ClassOf N) → List (ClassOf N)
defined same kernel d classes =
    if has_class same classes d.name then settled same (with_definition same kernel d classes) else with_definition same kernel d classes

-- the classes with other class-instance variables of the class of a name
abbrev pub with_class_side : {N : Type 0} → (N → N → Bool) → N → List N → List (ClassOf N) → List (ClassOf N)
with_class_side same n names classes = changed_class same n (λ (c : ClassOf _). record c { class_side = names }) classes

-- the classes with another comment of the class of a name
abbrev pub with_comment : {N : Type 0} → (N → N → Bool) → N → List ℕ → List (ClassOf N) → List (ClassOf N)
with_comment same n text classes = changed_class same n (λ (c : ClassOf _). record c { comment = text }) classes

-- whether it is a method of the class of a name, on either side
abbrev pub is_of_class : {N : Type 0} → (N → N → Bool) → N → EntryOf N → Bool
is_of_class same n m = option_map_or (same n) m.class false

-- the image without the class of a name and its methods
abbrev pub without_class : {N : Type 0} → (N → N → Bool) → N → ImageOf N → ImageOf N
without_class same n i = record i {
  classes = filter (λ (c : ClassOf _). not (same n c.name)) i.classes;
  methods = filter (λ m. not (is_of_class same n m)) i.methods;
}

-- the image without the method of a class, a side and a selector
abbrev pub without_method : {N : Type 0} → (N → N → Bool) → N → Bool → N → ImageOf N → ImageOf N
without_method same c meta s i = record i { methods = filter (λ m. not (is_method same c meta s m)) i.methods }

-- the image that a change makes, or the cause of its refusal
abbrev pub changed : {N : Type 0} → (N → N → Bool) → Bool → ChangeOf N → ImageOf N → Result (ImageOf N) Cause
changed same kernel (Define d) i =
    unless (definition_refusals same i.classes d (with_definition same kernel d i.classes))
    (record i { classes = defined same kernel d i.classes })
changed same kernel (DefineAt d k) i =
    unless (definition_refusals same i.classes d (with_definition same kernel d i.classes))
    (record i { classes = with_definition same kernel d i.classes })
changed same kernel (Comment n text) i =
    unless (comment_refusals same i.classes n) (record i { classes = with_comment same n text i.classes })
changed same kernel (SetClassSide n names) i =
    unless (class_side_refusals same i.classes n names (with_class_side same n names i.classes))
    (record i { classes = with_class_side same n names i.classes })
changed same kernel (RemoveMethod c meta s) i = unless (removal_refusals same i c meta s) (without_method same c meta s i)
changed same kernel (RemoveClass n) i = unless (class_removal_refusals same i.classes n) (without_class same n i)

-- a method of a run, of the kernel or not
abbrev pub entry_in : {N : Type 0} → Bool → RunOf N → List ℕ → MethodOf N → EntryOf N
entry_in kernel r source m =
    record { class = Some r.class; meta = r.meta; protocol = r.protocol; source = source; tree = m; kernel = kernel }

-- the methods with one in place of the former one of its class, side and selector, or last
abbrev pub with_method : {N : Type 0} → (N → N → Bool) → Bool → RunOf N → List ℕ → MethodOf N → List (EntryOf N) → List (EntryOf N)
with_method same kernel r source m methods =
    if has_method same methods r.class r.meta m.selector
    then map (λ e. if is_method same r.class r.meta m.selector e then entry_in kernel r source m else e) methods
    else methods ++ entry_in kernel r source m ∷ []

-- the image with a method of a run, or the cause of its refusal
abbrev pub method_added : {N : Type 0} → (N → N → Bool) → Bool → RunOf N → List ℕ → MethodOf N → ImageOf N → Result (ImageOf N) Cause
method_added same kernel r source m i =
    unless (method_refusals same i.methods r m.selector)
    (record i { methods = with_method same kernel r source m i.methods })
