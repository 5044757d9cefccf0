use Rattle.std.proofs.Common.{◌≡◌, ◌∷◌, [], ◌++◌}
use Rattle.class_table.specs.View.{number_image}
use Rattle.image_draft.specs.Entries.{entry_of}
use Rattle.image_building.specs.Built.{IsBuilt}
use Rattle.image_building.proofs.Added.{method_image_added, method_built}
use Rattle.image_building.proofs.Found.{table_has}
use Rattle.image_building.proofs.Outcomes.{on_ok}
use Rattle.image_building.proofs.methods.add_method.Goals as goal
use Rattle.image_building.proofs.methods.add_method.Goals.{in-Err, in-Ok}

pub slot_of-requires : goal.slot_of-requires
slot_of-requires c = table_has c.args.table.now c.args.image.now c.requires.built c.args.method.class c.requires.class_there

pub returns-clause-method : goal.returns-clause-method
returns-clause-method c =
    elim c.match-add_method.branch [
      | in-Err w ↦ rw w.result-is tt
      | in-Ok w ↦
          on_ok c.match-add_method.result ((number_image c.add_method.new.self).methods ≡ (number_image c.args.image.now).methods ++ entry_of c.args.method ∷ [])
          (method_image_added c.args.table.now c.args.image.now c.requires.built c.args.method c.slot_of.result c.slot_of.ensures c.add_method.new.self w.in-Ok.ensures.ok)
    ]

pub returns-clause-built : goal.returns-clause-built
returns-clause-built c =
    elim c.match-add_method.branch [
      | in-Err w ↦ rw w.result-is tt
      | in-Ok w ↦
          on_ok c.match-add_method.result (IsBuilt c.args.table.now c.add_method.new.self)
          (method_built c.args.table.now c.args.image.now c.requires.built c.args.method c.slot_of.result c.slot_of.ensures c.add_method.new.self w.in-Ok.ensures.ok c.requires.known)
    ]
