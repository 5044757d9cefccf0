-- Names that are in use in a resolved image, and maps that are one to one on them.
use Rattle.std.specs.Prelude.{◌≡◌, ◌≢◌, Bool, false, List, [], IsTrue, Option, Some, None}
use Rattle.std.specs.List.{AllByRecursion, list_any}
use Rattle.rb_base.specs.Names.{text_eq}
use Rattle.image_model.specs.Image.{ClassOf}
use Rattle.run_model.specs.Values.{Name}
use Rattle.run_model.specs.Store.{same_pair}
use Rattle.run_model.specs.ObjectPrimitives.{value_classes}
use Rattle.run_model.specs.Renamings.{OfClass}
use Rattle.scope_model.specs.SpecialNames.{one_block_selectors, two_block_selectors, loop_selectors}
use Rattle.resolved_model.specs.ResolvedTrees.{Reference, of_word, of_local, of_instance_variable, of_class_side_variable, of_class_variable, of_named_class, of_transcript, of_nothing, Target, to_temporary, to_instance_variable, to_class_side_variable, to_class_variable, to_fixed, to_nothing, ResolvedTree, reading, constant, sending, cascading, assigning, block_of, brace_of, returning, ResolvedTrees, no_nodes, more_nodes, ResolvedMessages, no_sends, more_sends, ResolvedStatements, no_lines, more_lines, ResolvedCode}
use Rattle.resolved_model.specs.ResolvedImages.{Doing, by_primitive, by_code, ResolvedMethod, ResolvedImage, class_of_doits}
use Rattle.mapped_model.specs.NameMaps.{NameMaps}
use Rattle.mapped_model.specs.MappedImages.{class_or_none}
use Rattle.mapped_model.specs.OwnVariables.{OwnDoing, OwnStatements}

-- names of each kind, and those of variables with a class: of a class variable the one that defines it, of the others each that has it
pub record NamesInUse : Type 0 where
  pub classes : List Name
  pub selectors : List Name
  pub shared : List OfClass
  pub instance : List OfClass
  pub class_side : List OfClass

-- the name is one of these
abbrev pub IsAmong : List Name → Name → Type 0
IsAmong ns n = IsTrue (list_any (text_eq n) ns)

-- the name of a variable of a class is one of these
abbrev pub IsAmongPairs : List OfClass → OfClass → Type 0
IsAmongPairs ks k = IsTrue (list_any (same_pair k) ks)

-- no two of the names are called the same after, and no two variables of a class
pub record IsOneToOneOn (u : NamesInUse) (f : NameMaps) : Type 0 where
  pub class : (c d : Name) → IsAmong u.classes c → IsAmong u.classes d → f.class c ≡ f.class d → c ≡ d
  pub selector : (s t : Name) → IsAmong u.selectors s → IsAmong u.selectors t → f.selector s ≡ f.selector t → s ≡ t
  pub shared : (k l : OfClass) → IsAmongPairs u.shared k → IsAmongPairs u.shared l → f.shared k ≡ f.shared l → k ≡ l
  pub instance : (c n m : Name) → IsAmongPairs u.instance (c, n) → IsAmongPairs u.instance (c, m) → f.instance (c, n) ≡ f.instance (c, m) → n ≡ m
  pub class_side : (c n m : Name) → IsAmongPairs u.class_side (c, n) → IsAmongPairs u.class_side (c, m) → f.class_side (c, n) ≡ f.class_side (c, m) → n ≡ m

-- no two variables of different names are called the same after, of whatever classes
pub record IsOneToOneAcross (u : NamesInUse) (f : NameMaps) : Type 0 where
  pub instance : (k l : OfClass) → IsAmongPairs u.instance k → IsAmongPairs u.instance l → f.instance k ≡ f.instance l → k.1 ≡ l.1
  pub class_side : (k l : OfClass) → IsAmongPairs u.class_side k → IsAmongPairs u.class_side l → f.class_side k ≡ f.class_side l → k.1 ≡ l.1

-- the names of which the language speaks are among those in use; so is the empty name, which stands for no class
pub record HasWords (u : NamesInUse) : Type 0 where
  pub nothing : IsAmong u.classes []
  pub classes : AllByRecursion (IsAmong u.classes) value_classes
  pub one_block : AllByRecursion (IsAmong u.selectors) one_block_selectors
  pub two_blocks : AllByRecursion (IsAmong u.selectors) two_block_selectors
  pub loops : AllByRecursion (IsAmong u.selectors) loop_selectors

module _ (u : NamesInUse) where
  -- a name that there may be is one of the classes
  abbrev pub IsAnyAmong : Option Name → Type 0
  IsAnyAmong (Some c) = IsAmong u.classes c
  IsAnyAmong None = Unit {0}

  -- what is read has names in use; variables that belong to the class of the code are apart
  abbrev pub UsesReference : Reference → Type 0
  UsesReference (of_word n) = Unit {0}
  UsesReference (of_local k) = Unit {0}
  UsesReference (of_instance_variable n) = Unit {0}
  UsesReference (of_class_side_variable n) = Unit {0}
  UsesReference (of_class_variable c n) = IsAmongPairs u.shared (c, n)
  UsesReference (of_named_class c) = IsAmong u.classes c
  UsesReference of_transcript = Unit {0}
  UsesReference (of_nothing n) = Unit {0}

  -- what is assigned has names in use
  abbrev pub UsesTarget : Target → Type 0
  UsesTarget (to_temporary k) = Unit {0}
  UsesTarget (to_instance_variable n) = Unit {0}
  UsesTarget (to_class_side_variable n) = Unit {0}
  UsesTarget (to_class_variable c n) = IsAmongPairs u.shared (c, n)
  UsesTarget (to_fixed n) = IsAmong u.classes n
  UsesTarget (to_nothing n) = Unit {0}

  -- a node has names in use
  abbrev mutual
    pub UsesTree : ResolvedTree → Type 0
    UsesTree (reading r) = UsesReference r
    UsesTree (constant l) = Unit {0}
    UsesTree (sending r s args) = UsesTree r × IsAmong u.selectors s × UsesTrees args
    UsesTree (cascading r ms) = UsesTree r × UsesMessages ms
    UsesTree (assigning n t) = UsesTarget n × UsesTree t
    UsesTree (block_of ps ts ss) = UsesStatements ss
    UsesTree (brace_of ts) = UsesTrees ts
    UsesTree (returning t) = UsesTree t

    pub UsesTrees : ResolvedTrees → Type 0
    UsesTrees no_nodes = Unit {0}
    UsesTrees (more_nodes t ts) = UsesTree t × UsesTrees ts

    pub UsesMessages : ResolvedMessages → Type 0
    UsesMessages no_sends = Unit {0}
    UsesMessages (more_sends s args ms) = IsAmong u.selectors s × UsesTrees args × UsesMessages ms

    pub UsesStatements : ResolvedStatements → Type 0
    UsesStatements no_lines = Unit {0}
    UsesStatements (more_lines t ss) = UsesTree t × UsesStatements ss

  -- what a method does has names in use
  abbrev pub UsesDoing : Doing → Type 0
  UsesDoing (by_primitive n) = Unit {0}
  UsesDoing (by_code c) = UsesStatements c.statements

  -- a name is an instance variable of a class
  abbrev pub HasInstance : Name → Name → Type 0
  HasInstance c n = IsAmongPairs u.instance (c, n)

  -- a name is a class-instance variable of a class, in code of its class side; no other code has any
  abbrev pub HasClassSide : Name → Bool → Name → Type 0
  HasClassSide c meta n = IsTrue meta × IsAmongPairs u.class_side (c, n)

  -- a method has names in use
  pub record UsesMethod (m : ResolvedMethod) : Type 0 where
    pub class : IsAnyAmong m.class
    pub selector : IsAmong u.selectors m.selector
    pub doing : UsesDoing m.doing
    pub own : OwnDoing (HasInstance (class_or_none m.class)) (HasClassSide (class_or_none m.class) m.meta) m.doing

  -- a do-it of a class has names in use
  pub record UsesDoIt (c : Name) (d : ResolvedCode) : Type 0 where
    pub statements : UsesStatements d.statements
    pub own : OwnStatements (HasInstance c) (HasClassSide c false) d.statements

  -- a class has names in use
  pub record UsesClass (c : ClassOf Name) : Type 0 where
    pub name : IsAmong u.classes c.name
    pub superclass : IsAnyAmong c.superclass

  -- an image has no names but those in use
  pub record UsesOnly (i : ResolvedImage) : Type 0 where
    pub classes : AllByRecursion UsesClass i.classes
    pub methods : AllByRecursion UsesMethod i.methods
    pub doits : AllByRecursion (UsesDoIt (class_or_none (class_of_doits i))) i.doits

  module _ (f : NameMaps) where
    -- a class has the variables of another, and calls them the same after
    pub record Inherits (c d : Name) : Type 0 where
      pub instance : (n : Name) → HasInstance d n → HasInstance c n × (f.instance (d, n) ≡ f.instance (c, n))
      pub class_side : (n : Name) → IsAmongPairs u.class_side (d, n) → IsAmongPairs u.class_side (c, n) × (f.class_side (d, n) ≡ f.class_side (c, n))

    -- each class has a name, and has the variables of its superclass, which it calls the same after
    pub record IsInherited (c : ClassOf Name) : Type 0 where
      pub named : c.name ≢ []
      pub superclass : (d : Name) → c.superclass ≡ Some d → Inherits c.name d

    -- so it is with all classes of an image
    abbrev pub AreInherited : ResolvedImage → Type 0
    AreInherited i = AllByRecursion IsInherited i.classes
