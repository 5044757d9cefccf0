use Rattle.std.proofs.Common.{◌≡◌}
use Rattle.class_table.specs.View.{number_image}
use Rattle.image_building.specs.Built.{IsBuilt}
use Rattle.image_building.proofs.classes.add_classes.Given as goal

abbrev pub invariant-loop-class : goal.invariant-loop-class
invariant-loop-class l = record {
  built : IsBuilt l.table l.image;
  classes : (number_image l.image).classes ≡ l.yielded;
  rest : l.image ≡ record l.initial.image { classes = l.image.classes; class_order = l.image.class_order };
}
