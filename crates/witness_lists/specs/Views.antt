-- What the witnesses of the program stand for.
use Rattle.std.specs.Prelude.{ℕ, List, map}
use Rattle.std.specs.Option.{option_map_or}
use Rattle.image_model.specs.Nodes.{in_method, in_doit}
use Rattle.class_table.specs.Slots.{Slots}
use Rattle.class_table.specs.View.{entry_at}
use Rattle.command_model.specs.Parts.{Run}
use Rattle.name_meanings.specs.Meanings.{meaning_of}
use Rattle.refusal_witnesses.specs.Witnesses.{OwnerOf, AtPlace, InMethod, WitnessOf, APart, AWhole, AClass, ASelector, AStep, TwoMeanings, a_node}
use Rattle.witness_lists.specs.declared.witness.Owner.{Owner}
use Rattle.witness_lists.specs.declared.witness.Owner.TheVariants as owner
use Rattle.witness_lists.specs.declared.witness.Witness.{Witness}
use Rattle.witness_lists.specs.declared.witness.Witness.TheVariants as witness

-- where a witness stands: in the method that a slot holds, or at a place of the image
abbrev pub owner_of : Slots → Owner → OwnerOf ℕ
owner_of s (owner.Method k) = option_map_or InMethod (entry_at s k) (AtPlace (in_method k))
owner_of s (owner.Numbered k) = AtPlace (in_method k)
owner_of s (owner.DoIt k) = AtPlace (in_doit k)

-- what is in the way
abbrev pub witness_of : Slots → Witness → WitnessOf ℕ
witness_of s (witness.Node o path) = a_node (owner_of s o) path
witness_of s (witness.Statements o path first count span) = APart (owner_of s o) (Run path first count)
witness_of s (witness.Whole o) = AWhole (owner_of s o)
witness_of s (witness.Class c) = AClass c
witness_of s (witness.Selector n) = ASelector n
witness_of s (witness.Step k) = AStep k
witness_of s (witness.Meanings o path n one other) = TwoMeanings (owner_of s o) path n (meaning_of one) (meaning_of other)

-- all of a list
abbrev pub shown : Slots → List Witness → List (WitnessOf ℕ)
shown s ws = map (witness_of s) ws
