use Rattle.std.proofs.Common.{◌≡◌, ℕ, ◌∷◌, [], ◌++◌, Some, Result, sym, ap, subst}
use Rattle.std.specs.Prelude.{nat_eq, if◌then◌else◌, OnOk}
use Rattle.std.specs.HashMap.{get}
use Rattle.image_model.specs.Image.{ClassOf}
use Rattle.rb_base.specs.declared.memory.Memory.{Memory}
use Rattle.class_table.specs.View.{number_image}
use Rattle.image_building.specs.Built.{ClassTable, IsBuilt}
use Rattle.image_building.proofs.Added.{class_image_added, class_built}
use Rattle.image_building.proofs.Outcomes.{on_ok, on_ok_from}
use Rattle.image_building.proofs.classes.add_class.Goals as goal
use Rattle.image_building.proofs.classes.add_class.Goals.{in-Err, in-Ok}

pub returns-clause-class : goal.returns-clause-class
returns-clause-class c =
    elim c.match-add_class.branch [
      | in-Err w ↦ rw w.result-is tt
      | in-Ok w ↦
          on_ok c.match-add_class.result ((number_image c.add_class.new.self).classes ≡ (number_image c.args.image.now).classes ++ c.args.class ∷ [])
          (class_image_added c.args.table.now c.args.image.now c.requires.built c.args.class c.requires.known c.requires.name_is_new c.requires.superclass_there c.add_class.new.self c.class_rec.result w.in-Ok.ensures.ok c.class_rec.ensures)
    ]

pub returns-clause-built : goal.returns-clause-built
returns-clause-built c =
    elim c.match-add_class.branch [
      | in-Err w ↦ rw w.result-is tt
      | in-Ok w ↦
          subst (λ (r : Result (Unit {0}) Memory). OnOk r (IsBuilt c.match-add_class.table c.add_class.new.self)) (sym w.result-is)
          (on_ok_from w.note.result ((other : ℕ) → get nat_eq w.note.new.table other ≡ (if nat_eq c.args.class.name other then Some w.in-Ok.slot else get nat_eq c.args.table.now other)) (IsBuilt c.match-add_class.table c.add_class.new.self)
          (λ noted.
          subst (λ (t : ClassTable). IsBuilt t c.add_class.new.self) (sym w.table-is)
          (class_built c.args.table.now c.args.image.now c.requires.built c.args.class c.requires.known c.requires.name_is_new c.requires.superclass_there c.add_class.new.self c.class_rec.result w.in-Ok.ensures.ok c.class_rec.ensures w.in-Ok.slot w.note.new.table w.in-Ok.ensures.slot noted))
          (subst (λ (n : ℕ). OnOk w.note.result ((other : ℕ) → get nat_eq w.note.new.table other ≡ (if nat_eq n other then Some w.in-Ok.slot else get nat_eq c.args.table.now other))) (ap (λ (x : ClassOf ℕ). x.name) c.class.view_is) w.note.ensures))
    ]
