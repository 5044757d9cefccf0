-- The commands (Roberts 1999).
use Rattle.std.specs.Prelude.{ℕ, List, Bool}
use Rattle.tree_model.specs.Tree.{LiteralOf, MethodOf}
use Rattle.image_model.specs.Means.{VariableKind, of_instance, of_class_side, of_class}

-- A command and the words behind its own, in their order. C, D, P and the classes of a list are names of classes, x and y of variables, s and t selectors; a side is whether it is the class side; a part stands from one place of a method's source up to another.
pub data CommandOf (N : Type 0) : Type 0 where
  -- C is called D
  RenameClass : (c d : N) → CommandOf N
  -- D comes under P, and each class of the list under D
  AddClass : (d p : N) → (under : List N) → CommandOf N
  -- C goes with its methods
  RemoveClass : (c : N) → CommandOf N
  -- C has one more instance variable x
  AddInstVar : (c x : N) → CommandOf N
  -- the instance variable x of C is called y
  RenameInstVar : (c x y : N) → CommandOf N
  -- the instance variable x of C goes
  RemoveInstVar : (c x : N) → CommandOf N
  -- the instance variable x of C goes up to the superclass
  PushUpInstVar : (c x : N) → CommandOf N
  -- the instance variable x of C goes down to the direct subclasses
  PushDownInstVar : (c x : N) → CommandOf N
  -- C has one more class variable x
  AddClassVar : (c x : N) → CommandOf N
  -- the class variable x of C is called y
  RenameClassVar : (c x y : N) → CommandOf N
  -- the class variable x of C goes
  RemoveClassVar : (c x : N) → CommandOf N
  -- the class variable x of C goes up to the superclass
  PushUpClassVar : (c x : N) → CommandOf N
  -- the class variable x of C goes down to its direct subclass D
  PushDownClassVar : (c x d : N) → CommandOf N
  -- C has one more class-instance variable x
  AddClassSideVar : (c x : N) → CommandOf N
  -- the class-instance variable x of C is called y
  RenameClassSideVar : (c x y : N) → CommandOf N
  -- the class-instance variable x of C goes
  RemoveClassSideVar : (c x : N) → CommandOf N
  -- the selector s becomes t in each method that has it and each message of it
  RenameSelector : (s t : N) → CommandOf N
  -- C has one more method on a side: its protocol, its text and the tree of that text
  AddMethod : (c : N) → (meta : Bool) → (protocol text : List ℕ) → (tree : MethodOf N) → CommandOf N
  -- the method of C, a side and s goes
  RemoveMethod : (c : N) → (meta : Bool) → (s : N) → CommandOf N
  -- it goes up to the superclass
  PushUpMethod : (c : N) → (meta : Bool) → (s : N) → CommandOf N
  -- it goes down to the direct subclasses
  PushDownMethod : (c : N) → (meta : Bool) → (s : N) → CommandOf N
  -- each method of s has a last argument x and the selector t, and each message of s passes the literal
  AddParameter : (s t x : N) → (passed : LiteralOf N) → CommandOf N
  -- the k-th argument of s goes, counted from 1, and the selector is t
  RemoveParameter : (s : N) → (k : ℕ) → (t : N) → CommandOf N
  -- the instance variable x of C is read and assigned by messages; with the setter's selector and its argument
  AbstractInstVar : (c x setter given : N) → CommandOf N
  -- a part of a method of C becomes a message of t, and a method
  ExtractMethod : (c : N) → (meta : Bool) → (s : N) → (from to : ℕ) → (t : N) → CommandOf N
  -- a message in a method of C becomes the body of the method that it finds
  InlineMethod : (c : N) → (meta : Bool) → (s : N) → (from to : ℕ) → CommandOf N
  -- a part of a method of C becomes a temporary x
  ExtractTemp : (c : N) → (meta : Bool) → (s : N) → (from to : ℕ) → (x : N) → CommandOf N
  -- a temporary x of a method of C becomes what is assigned to it
  InlineTemp : (c : N) → (meta : Bool) → (s x : N) → CommandOf N
  -- an argument, parameter or temporary x of a method of C is called y
  RenameTemp : (c : N) → (meta : Bool) → (s x y : N) → CommandOf N

-- whether a command keeps the shape of code: it changes no more of a tree than names and selectors, and none that a method declares
abbrev pub KeepsShape : {N : Type 0} → CommandOf N → Type 0
KeepsShape (AddParameter s t x passed) = ⊥
KeepsShape (RemoveParameter s k t) = ⊥
KeepsShape (AbstractInstVar c x setter given) = ⊥
KeepsShape (ExtractMethod c meta s from to t) = ⊥
KeepsShape (InlineMethod c meta s from to) = ⊥
KeepsShape (ExtractTemp c meta s from to x) = ⊥
KeepsShape (InlineTemp c meta s x) = ⊥
KeepsShape (RenameTemp c meta s x y) = ⊥
KeepsShape command = Unit {0}

-- whether a command moves no code: what it changes of trees are names, selectors, arguments and what messages pass
abbrev pub MovesNoCode : {N : Type 0} → CommandOf N → Type 0
MovesNoCode (AbstractInstVar c x setter given) = ⊥
MovesNoCode (ExtractMethod c meta s from to t) = ⊥
MovesNoCode (InlineMethod c meta s from to) = ⊥
MovesNoCode (ExtractTemp c meta s from to x) = ⊥
MovesNoCode (InlineTemp c meta s x) = ⊥
MovesNoCode command = Unit {0}

-- the kind of the variables of which a command speaks; of commands that speak of none it says nothing
abbrev pub kind_of : {N : Type 0} → CommandOf N → VariableKind
kind_of (AddClassVar c x) = of_class
kind_of (RenameClassVar c x y) = of_class
kind_of (RemoveClassVar c x) = of_class
kind_of (PushUpClassVar c x) = of_class
kind_of (PushDownClassVar c x d) = of_class
kind_of (AddClassSideVar c x) = of_class_side
kind_of (RenameClassSideVar c x y) = of_class_side
kind_of (RemoveClassSideVar c x) = of_class_side
kind_of command = of_instance
