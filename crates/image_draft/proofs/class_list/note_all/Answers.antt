use Rattle.std.proofs.Common.{ℕ, ◌+◌, ap, subst}
use Rattle.image_draft.specs.Table.{IsNoted}
use Rattle.image_draft.proofs.ClassPlaces.{table_taken}
use Rattle.image_draft.proofs.class_list.note_all.Goals as goal

pub loop-class-preserved : goal.loop-class-preserved
loop-class-preserved c = (
  ap (λ n. n + 1) c.loop-class.invariant.0,
  table_taken c.loop-class.table c.note.new.self c.args.classes.now c.loop-class.class-index c.loop-class.place c.class-item.result c.loop-class.invariant.1
      (subst (λ (n : ℕ). IsNoted c.loop-class.table c.note.new.self n c.loop-class.place) c.name.ensures c.in_ok-note.ensures)
      c.loop-class.invariant.0 c.loop-class-test.true c.class-item.is,
)
