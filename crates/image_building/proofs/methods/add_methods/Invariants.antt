use Rattle.std.proofs.Common.{◌≡◌, ◌++◌, map}
use Rattle.class_table.specs.View.{number_image}
use Rattle.image_draft.specs.Entries.{entry_of}
use Rattle.image_draft.specs.MethodSlots.{those_there}
use Rattle.image_building.specs.Built.{IsBuilt}
use Rattle.image_building.proofs.methods.add_methods.Given as goal

abbrev pub invariant-loop-slot : goal.invariant-loop-slot
invariant-loop-slot l = record {
  built : IsBuilt l.table l.image;
  methods : (number_image l.image).methods ++ map entry_of (those_there l.slot-iterator.rest.items) ≡ map entry_of (those_there l.fn.methods.items);
  rest : l.image ≡ record l.initial.image { methods = l.image.methods; method_order = l.image.method_order };
}
