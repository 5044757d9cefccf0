-- The conditions of commands, with what is printed of them.
use Rattle.std.specs.Prelude.{ℕ, Bool}

-- what a new name is to be that of; of classes and class variables it begins upper case, of other variables lower case
pub data NameKind : Type 0 where
  of_a_class : NameKind
  of_a_class_variable : NameKind
  of_another_variable : NameKind
  of_methods : NameKind

-- where names or blocks are moved: from one place of a method's source up to another, or at the uses of a name
pub data SpotOf (N : Type 0) : Type 0 where
  AtPart : (from to : ℕ) → SpotOf N
  AtName : (x : N) → SpotOf N

-- A condition of a command. A method is its class, its side and its selector; a part is that and its places in the source. Which kind a variable has, and which classes and methods are looked at, the command says.
pub data ConditionOf (N : Type 0) : Type 0 where
  -- C1: no code of a user looks at the program itself
  NoReflection : ConditionOf N
  -- C2: the class is one of the user
  IsUserClass : (c : N) → ConditionOf N
  -- C3: the name may be given to such a thing; the kind is not printed
  GoodName : (n : N) → NameKind → ConditionOf N
  -- C4: no class and no variable has the name, and no code reads, assigns or declares it
  NameUnused : (n : N) → ConditionOf N
  -- C5: no method has the selector, and no code sends it
  SelectorFresh : (s : N) → ConditionOf N
  -- C6: the kernel does not speak of the selector, and it has no meaning of its own
  NotKernelSelector : (s : N) → ConditionOf N
  -- C7: the selector takes so many arguments
  Arity : (t : N) → (count : ℕ) → ConditionOf N
  -- C8: the user has the method
  Implements : (c : N) → (meta : Bool) → (s : N) → ConditionOf N
  -- C9: there is no such method
  NotImplements : (c : N) → (meta : Bool) → (s : N) → ConditionOf N
  -- C10: the method may go
  Removable : (c : N) → (meta : Bool) → (s : N) → ConditionOf N
  -- C11: no class is under the class
  NoSubclasses : (c : N) → ConditionOf N
  -- C12: nothing but its own methods means the class
  NotReferenced : (c : N) → ConditionOf N
  -- C13: the class itself defines the variable
  HasVariable : (c x : N) → ConditionOf N
  -- C14: the variable can come into the class
  VariableFree : (c x : N) → ConditionOf N
  -- C15: the methods that are looked at do not mean the variable
  VariableUnused : (c x : N) → ConditionOf N
  -- C16: the superclass of the class is one of the user
  ParentIsUser : (c : N) → ConditionOf N
  -- C17: the method does not name `super`
  NoSuper : (c : N) → (meta : Bool) → (s : N) → ConditionOf N
  -- C18: each name in the method means the same in the class d
  MeansSame : (c : N) → (meta : Bool) → (s d : N) → ConditionOf N
  -- C19: the selector is sent nowhere, or no class that finds another method for it than before is reached
  Unreached : (s : N) → ConditionOf N
  -- C20: the selector has a k-th argument, and no method of it by the user reads it
  ParameterUnused : (s : N) → (k : ℕ) → ConditionOf N
  -- C21: the k-th argument of each message of the selector may be left out
  PlainArguments : (s : N) → (k : ℕ) → ConditionOf N
  -- C22: the literal that is passed is an atom
  AtomLiteral : ConditionOf N
  -- C23: the part may be taken out
  PartIs : (c : N) → (meta : Bool) → (s : N) → (from to : ℕ) → ConditionOf N
  -- C24: nothing is answered from inside the part
  NoReturn : (c : N) → (meta : Bool) → (s : N) → (from to : ℕ) → ConditionOf N
  -- C25: the part assigns nothing that is declared outside it
  AssignsNoOuter : (c : N) → (meta : Bool) → (s : N) → (from to : ℕ) → ConditionOf N
  -- C26: what the part reads may be passed by value
  TempsSteady : (c : N) → (meta : Bool) → (s : N) → (from to : ℕ) → ConditionOf N
  -- C27: the value of the part is its own, or nothing asks for it
  ValueUnused : (c : N) → (meta : Bool) → (s : N) → (from to : ℕ) → ConditionOf N
  -- C28: the part is a message to `self`
  SelfSend : (c : N) → (meta : Bool) → (s : N) → (from to : ℕ) → ConditionOf N
  -- C29: each class at and below C finds one and the same method of the user
  OneTarget : (c : N) → (meta : Bool) → (s : N) → ConditionOf N
  -- C30: the method that a message runs has a body that may stand in its place
  Inlinable : (c : N) → (meta : Bool) → (s : N) → ConditionOf N
  -- C31: what is passed may stand in place of the arguments
  PlainActuals : (c : N) → (meta : Bool) → (s : N) → (from to : ℕ) → ConditionOf N
  -- C32: each free name that is moved means the same at each new place
  NoCapture : (c : N) → (meta : Bool) → (s : N) → SpotOf N → ConditionOf N
  -- C33: no block that is moved makes a control send
  NoNewControl : (c : N) → (meta : Bool) → (s : N) → SpotOf N → ConditionOf N
  -- C34: exactly one place of the method declares the name
  Declared : (c : N) → (meta : Bool) → (s x : N) → ConditionOf N
  -- C35: the method neither declares nor uses the name
  NotIn : (c : N) → (meta : Bool) → (s x : N) → ConditionOf N
  -- C36: the temporary may be replaced by what is assigned to it
  LetForm : (c : N) → (meta : Bool) → (s x : N) → ConditionOf N
  -- C37: nothing that matters is evaluated before the part
  FirstEvaluated : (c : N) → (meta : Bool) → (s : N) → (from to : ℕ) → ConditionOf N
  -- C38: no tree is too high afterwards
  Shallow : ConditionOf N
  -- C39: there is such a class
  IsClass : (c : N) → ConditionOf N
  -- C40: d is a class of the user directly under c
  ChildOf : (d c : N) → ConditionOf N
  -- C41: the class itself defines no variable of the name, of any kind
  LacksVariable : (c x : N) → ConditionOf N
  -- C42: the user has a method of the selector
  KnownSelector : (s : N) → ConditionOf N
  -- C43, C44: the history has something to undo, or to redo; they are false of an image alone
  UndoLeft : ConditionOf N
  RedoLeft : ConditionOf N

-- all conditions but those that only commands which move code have
abbrev pub IsOfNoMove : {N : Type 0} → ConditionOf N → Type 0
IsOfNoMove (PartIs c meta s from to) = ⊥
IsOfNoMove (NoReturn c meta s from to) = ⊥
IsOfNoMove (AssignsNoOuter c meta s from to) = ⊥
IsOfNoMove (TempsSteady c meta s from to) = ⊥
IsOfNoMove (ValueUnused c meta s from to) = ⊥
IsOfNoMove (SelfSend c meta s from to) = ⊥
IsOfNoMove (OneTarget c meta s) = ⊥
IsOfNoMove (Inlinable c meta s) = ⊥
IsOfNoMove (PlainActuals c meta s from to) = ⊥
IsOfNoMove (NoCapture c meta s spot) = ⊥
IsOfNoMove (NoNewControl c meta s spot) = ⊥
IsOfNoMove (LetForm c meta s x) = ⊥
IsOfNoMove (FirstEvaluated c meta s from to) = ⊥
IsOfNoMove condition = Unit {0}
