-- What is in the way of a condition that is false, and how lists of it are made.
use Rattle.std.specs.Prelude.{ℕ, Bool, if◌then◌else◌, List, [], ◌∷◌, map, filter}
use Rattle.std.specs.List.{flat_map, enumerate_from}
use Rattle.tree_model.specs.Tree.{SequenceOf}
use Rattle.tree_model.specs.Nodes.{Placed, nodes}
use Rattle.image_model.specs.Image.{ClassOf, EntryOf, ImageOf}
use Rattle.image_model.specs.Means.{MeaningOf}
use Rattle.image_model.specs.Nodes.{Place, in_doit, Use}
use Rattle.command_model.specs.Parts.{Part, Expression}

-- where a witness stands: in the method or do-it at a place of the image, or in a method, which may be one that a command adds
pub data OwnerOf (N : Type 0) : Type 0 where
  AtPlace : Place → OwnerOf N
  InMethod : EntryOf N → OwnerOf N

-- What is in the way: a part of a method or do-it, which is a node or neighbouring statements; a whole method or do-it; a class; a selector with a meaning of its own; a name at a node, with what it means at one place and at another; or a step of a certificate, by its number from 1.
pub data WitnessOf (N : Type 0) : Type 0 where
  APart : OwnerOf N → Part → WitnessOf N
  AWhole : OwnerOf N → WitnessOf N
  AClass : N → WitnessOf N
  ASelector : N → WitnessOf N
  AStep : ℕ → WitnessOf N
  TwoMeanings : OwnerOf N → (path : List ℕ) → (n : N) → (one other : MeaningOf N) → WitnessOf N

-- a node by its path
abbrev pub a_node : {N : Type 0} → OwnerOf N → List ℕ → WitnessOf N
a_node owner path = APart owner (Expression path)

-- where something is used in the image
abbrev pub a_use : {N : Type 0} → Use → WitnessOf N
a_use u = a_node (AtPlace u.place) u.path

-- a whole method
abbrev pub a_method : {N : Type 0} → EntryOf N → WitnessOf N
a_method m = AWhole (InMethod m)

-- a class by its name
abbrev pub a_class_of : {N : Type 0} → ClassOf N → WitnessOf N
a_class_of c = AClass c.name

-- the witness if a test is true, and else none
abbrev pub where_true : {N : Type 0} → Bool → WitnessOf N → List (WitnessOf N)
where_true test witness = if test then witness ∷ [] else []

-- the nodes of a sequence that pass a test
abbrev pub nodes_that : {N : Type 0} → (Placed N → Bool) → OwnerOf N → SequenceOf N → List (WitnessOf N)
nodes_that test owner b = map (λ e. a_node owner e.0) (filter test (nodes b))

-- what stands in the do-its of the image, in their order
abbrev pub in_doits : {N : Type 0} → (OwnerOf N → SequenceOf N → List (WitnessOf N)) → ImageOf N → List (WitnessOf N)
in_doits standing i = flat_map (λ e. standing (AtPlace (in_doit e.0)) e.1.body) (enumerate_from 0 i.doits)
