-- What a chunk outside a run of methods does to an image, over any type of names.
use Rattle.std.specs.Prelude.{ℕ, List, map, Bool, Option}
use Rattle.std.specs.Option.{option_map}

-- a definition of a class: its name, its superclass, its instance variables, its class variables and its category; only the text of the kernel names a class without a superclass
pub record DefinitionOf (N : Type 0) : Type 0 where
  pub name : N
  pub superclass : Option N
  pub instance : List N
  pub shared : List N
  pub category : List ℕ

-- A change of the classes or the methods of an image.
pub data ChangeOf (N : Type 0) : Type 0 where
  -- a class is defined, for the first time or again
  Define : DefinitionOf N → ChangeOf N
  -- a class is defined, for the first time or again, and a place is stated for it; the order of classes stays
  DefineAt : DefinitionOf N → ℕ → ChangeOf N
  -- a class has another comment
  Comment : N → List ℕ → ChangeOf N
  -- a class has other class-instance variables
  SetClassSide : N → List N → ChangeOf N
  -- the method of a class, a side and a selector is removed, if it is there
  RemoveMethod : N → Bool → N → ChangeOf N
  -- a class is removed with its methods
  RemoveClass : N → ChangeOf N

-- the same change, with a place stated for the class that it defines
abbrev pub stated_at : {N : Type 0} → ℕ → ChangeOf N → ChangeOf N
stated_at k (Define d) = DefineAt d k
stated_at k (DefineAt d j) = DefineAt d k
stated_at k (Comment n t) = Comment n t
stated_at k (SetClassSide n ns) = SetClassSide n ns
stated_at k (RemoveMethod c meta s) = RemoveMethod c meta s
stated_at k (RemoveClass n) = RemoveClass n

-- the methods that follow are of this class, this side and this protocol
pub record RunOf (N : Type 0) : Type 0 where
  pub class : N
  pub meta : Bool
  pub protocol : List ℕ

-- the same definition with each name changed
abbrev pub map_definition : {M N : Type 0} → (M → N) → DefinitionOf M → DefinitionOf N
map_definition f d = record {
  name = f d.name;
  superclass = option_map f d.superclass;
  instance = map f d.instance;
  shared = map f d.shared;
  category = d.category;
}

-- the same change with each name changed
abbrev pub map_change : {M N : Type 0} → (M → N) → ChangeOf M → ChangeOf N
map_change f (Define d) = Define (map_definition f d)
map_change f (DefineAt d k) = DefineAt (map_definition f d) k
map_change f (Comment c t) = Comment (f c) t
map_change f (SetClassSide c ns) = SetClassSide (f c) (map f ns)
map_change f (RemoveMethod c meta s) = RemoveMethod (f c) meta (f s)
map_change f (RemoveClass c) = RemoveClass (f c)

-- the same run with each name changed
abbrev pub map_run : {M N : Type 0} → (M → N) → RunOf M → RunOf N
map_run f r = record { class = f r.class; meta = r.meta; protocol = r.protocol }
