-- The code at a place of an image, and the same code with another node in it.
use Rattle.std.specs.Prelude.{ℕ, List, slice_get, Option, option_map, option_and_then}
use Rattle.tree_model.specs.Tree.{TreeOf}
use Rattle.tree_model.specs.Path.{part_in, replaced_in}
use Rattle.st_tree.specs.View.{sequence_of, sequence_from}
use Rattle.st_tree.specs.declared.tree.Sequence.{Sequence}
use Rattle.class_table.specs.declared.record.MethodRec.{MethodRec}
use Rattle.class_table.specs.declared.record.DoIt.{DoIt}
use Rattle.class_table.specs.declared.record.Place.{Place}
use Rattle.class_table.specs.declared.record.Place.TheVariants as place
use Rattle.class_table.specs.Changing.{changed_at}
use Rattle.class_table.specs.Slots.{Slots}
use Rattle.class_table.specs.View.{live_at}

-- the body at a place, which is that of a live method or of a do-it
abbrev pub body_in : Slots → Place → Option Sequence
body_in s (place.Method k) = option_map (λ (m : MethodRec). m.tree.body) (live_at s.methods s.method_order k)
body_in s (place.DoIt n) = option_map (λ (d : DoIt). d.body) (slice_get s.doits n)

-- the node where a path into a body leads
abbrev pub node_of : List ℕ → Sequence → Option (TreeOf ℕ)
node_of path b = part_in (sequence_of b) path

-- the node where a path into the body at a place leads
abbrev pub node_in : Slots → Place → List ℕ → Option (TreeOf ℕ)
node_in s at path = option_and_then (node_of path) (body_in s at)

-- a body with another node where a path leads
abbrev pub with_node : List ℕ → TreeOf ℕ → Sequence → Sequence
with_node path t b = sequence_from (replaced_in (sequence_of b) path t)

-- a method with another node in its body, and a do-it
abbrev pub method_with : List ℕ → TreeOf ℕ → MethodRec → MethodRec
method_with path t m = record m { tree = record m.tree { body = with_node path t m.tree.body } }

abbrev pub doit_with : List ℕ → TreeOf ℕ → DoIt → DoIt
doit_with path t d = record d { body = with_node path t d.body }

-- the slots with another node where a path into the body at a place leads
abbrev pub with_part : Slots → Place → List ℕ → TreeOf ℕ → Slots
with_part s (place.Method k) path t = record s { methods = changed_at (method_with path t) s.methods k }
with_part s (place.DoIt n) path t = record s { doits = changed_at (doit_with path t) s.doits n }
