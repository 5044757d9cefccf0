-- All nodes of an image with their places.
use Rattle.std.specs.Prelude.{ℕ, List, ◌++◌, map, slice_get}
use Rattle.std.specs.List.{flat_map, enumerate_from}
use Rattle.std.specs.Option.{option_map_or}
use Rattle.tree_model.specs.Tree.{TreeOf, SequenceOf}
use Rattle.tree_model.specs.Nodes.{nodes}
use Rattle.image_model.specs.Image.{EntryOf, DoItOf, ImageOf}
use Rattle.image_model.specs.Words.{WordsOf}
use Rattle.image_model.specs.Means.{MeaningOf, undeclared, means, means_in_doit}

-- a method by its number among the methods of the image, or a do-it by its number among the do-its, both from 0
pub data Place : Type 0 where
  in_method : ℕ → Place
  in_doit : ℕ → Place

-- where something is used: the method or do-it, and the path of the node there
pub record Use : Type 0 where
  pub place : Place
  pub path : List ℕ

-- a node and where it stands
pub record NodeOf (N : Type 0) : Type 0 where
  pub use_of : Use
  pub tree : TreeOf N

-- the nodes of a sequence, each before the nodes below it
abbrev pub nodes_of : {N : Type 0} → Place → SequenceOf N → List (NodeOf N)
nodes_of place b = map (λ e. record { use_of = record { place = place; path = e.0 }; tree = e.1 }) (nodes b)

-- the nodes of all methods in order, and then of all do-its
abbrev pub image_nodes : {N : Type 0} → ImageOf N → List (NodeOf N)
image_nodes i =
    flat_map (λ e. nodes_of (in_method e.0) e.1.tree.body) (enumerate_from 0 i.methods)
    ++ flat_map (λ e. nodes_of (in_doit e.0) e.1.body) (enumerate_from 0 i.doits)

-- what a name stands for at a place of the image, and nothing where there is no such method or do-it
abbrev pub means_in : {N : Type 0} → WordsOf N → ImageOf N → Place → List ℕ → N → MeaningOf N
means_in w i (in_method k) path n = option_map_or (λ (m : EntryOf _). means w i m path n) (slice_get i.methods k) undeclared
means_in w i (in_doit k) path n = option_map_or (λ (d : DoItOf _). means_in_doit w i d path n) (slice_get i.doits k) undeclared
