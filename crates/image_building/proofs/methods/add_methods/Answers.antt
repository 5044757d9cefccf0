use Rattle.std.proofs.Common.{ℕ, ◌<◌, List, length, sym, ap, subst, ◌∙◌}
use Rattle.std.specs.Prelude.{nat_eq}
use Rattle.tree_model.specs.AllNames.{MethodNames}
use Rattle.st_tree.specs.View.{method_of}
use Rattle.image_model.specs.ImageNames.{EntryNames}
use Rattle.image_model.specs.Valid.{HasClass}
use Rattle.class_table.specs.Slots.{Slots}
use Rattle.class_table.specs.View.{number_image}
use Rattle.file_model.specs.Hierarchy.{has_class}
use Rattle.image_building.proofs.Turns.{all_next_slot, class_of_next}
use Rattle.image_building.proofs.methods.add_methods.Goals as goal

pub add_method-requires-clause-known : goal.add_method-requires-clause-known
add_method-requires-clause-known c =
    let names = ap (λ (s : Slots). s.names) c.loop-slot.invariant.rest in
    let known = all_next_slot (EntryNames (λ n. n < length c.args.image.now.names)) (number_image c.loop-slot.image).methods c.args.methods.items c.loop-slot.slot-iterator.rest.items c.next.new.self.rest.items c.in-Some.slot c.in-Some-slot.method c.loop-slot.invariant.methods c.in-Some.ensures.steps.0 c.in-Some-slot.is c.requires.known in
    subst (λ (ns : List (List ℕ)). MethodNames (λ n. n < length ns) (method_of c.in-Some-slot.method.tree)) (sym names) known.tree

pub add_method-requires-clause-class_there : goal.add_method-requires-clause-class_there
add_method-requires-clause-class_there c =
    let classes = ap (λ (s : Slots). (number_image s).classes) c.loop-slot.invariant.rest in
    let there = all_next_slot (HasClass (number_image c.args.image.now).classes) (number_image c.loop-slot.image).methods c.args.methods.items c.loop-slot.slot-iterator.rest.items c.next.new.self.rest.items c.in-Some.slot c.in-Some-slot.method c.loop-slot.invariant.methods c.in-Some.ensures.steps.0 c.in-Some-slot.is c.requires.classes_there in
    ap (λ (cs : List _). has_class nat_eq cs c.in-Some-slot.method.class) classes ∙ class_of_next (number_image c.args.image.now).classes c.in-Some-slot.method there
