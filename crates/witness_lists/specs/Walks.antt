-- What is sought in the methods and the do-its of an image.
use Rattle.std.specs.Prelude.{ℕ, List, [], ◌++◌, Bool, true, not, if◌then◌else◌, slice_get}
use Rattle.std.specs.List.{flat_map}
use Rattle.std.specs.Option.{option_map_or}
use Rattle.tree_model.specs.Tree.{SequenceOf, MethodOf}
use Rattle.image_model.specs.Image.{EntryOf, DoItOf}
use Rattle.image_model.specs.Nodes.{in_doit}
use Rattle.class_table.specs.declared.record.MethodRec.{MethodRec}
use Rattle.class_table.specs.declared.record.DoIt.{DoIt}
use Rattle.class_table.specs.Slots.{Slots}
use Rattle.class_table.specs.View.{entry_of, doit_of, live_at, number_image}
use Rattle.refusal_witnesses.specs.Witnesses.{OwnerOf, AtPlace, InMethod, WitnessOf, AWhole, where_true, nodes_that, in_doits}
use Rattle.witness_lists.specs.declared.code.Whose.{Whose}
use Rattle.witness_lists.specs.declared.code.Whose.TheVariants as whose
use Rattle.witness_lists.specs.declared.nodes.Sought.{Sought}
use Rattle.witness_lists.specs.Sought.{passes, heads_method, heads_doit}

-- whether something is sought in a method
abbrev pub is_looked_in : Whose → (kernel : Bool) → Bool
is_looked_in whose.Everyone kernel = true
is_looked_in whose.Users kernel = not kernel
is_looked_in whose.Kernel kernel = kernel

-- what is sought in the method of an owner: the whole, and nodes
abbrev pub standing_in : List (List ℕ) → Sought → OwnerOf ℕ → MethodOf ℕ → List (WitnessOf ℕ)
standing_in names x owner tree = where_true (heads_method names x tree) (AWhole owner) ++ nodes_that (λ e. passes names x e.1) owner tree.body

-- what is sought in the do-it of an owner
abbrev pub doit_standing : List (List ℕ) → Sought → OwnerOf ℕ → SequenceOf ℕ → List (WitnessOf ℕ)
doit_standing names x owner b = where_true (heads_doit x b) (AWhole owner) ++ nodes_that (λ e. passes names x e.1) owner b

-- what is sought in a method, if it is one of those
abbrev pub method_found : List (List ℕ) → Whose → Sought → EntryOf ℕ → List (WitnessOf ℕ)
method_found names whose.Everyone x m = standing_in names x (InMethod m) m.tree
method_found names whose.Users x m = if m.kernel then [] else standing_in names x (InMethod m) m.tree
method_found names whose.Kernel x m = if m.kernel then standing_in names x (InMethod m) m.tree else []

-- the same of the method in a slot, if the slot is live
abbrev pub slot_found : Slots → Whose → Sought → ℕ → List (WitnessOf ℕ)
slot_found s w x k = option_map_or (λ (m : MethodRec). method_found s.names w x (entry_of s.classes m)) (live_at s.methods s.method_order k) []

-- what is sought in a do-it with its number
abbrev pub numbered_found : List (List ℕ) → Sought → ℕ × DoItOf ℕ → List (WitnessOf ℕ)
numbered_found names x e = doit_standing names x (AtPlace (in_doit e.0)) e.1.body

-- what is sought in the do-it of a number, if there are so many
abbrev pub doit_found : Slots → Sought → ℕ → List (WitnessOf ℕ)
doit_found s x k = option_map_or (λ (d : DoIt). numbered_found s.names x (k, doit_of d)) (slice_get s.doits k) []

-- what is sought in the methods and the do-its of the image
abbrev pub code_found : Slots → Whose → Sought → List (WitnessOf ℕ)
code_found s w x = flat_map (method_found s.names w x) (number_image s).methods ++ in_doits (doit_standing s.names x) (number_image s)
