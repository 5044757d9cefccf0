use Rattle.class_table.specs.declared.record.Place.TheVariants as place
use Rattle.reference_index.proofs.rows.Rows.kept.Goals as goal

pub returns-in-Method-clause-rise : goal.returns-in-Method-clause-rise
returns-in-Method-clause-rise c = rw (c.row.ensures, c.deref.ensures.value) (c.self.invariant (place.Method c.slot.inside.0))

pub returns-in-DoIt-clause-rise : goal.returns-in-DoIt-clause-rise
returns-in-DoIt-clause-rise c = rw (c.row-in-DoIt.ensures, c.deref-in-DoIt.ensures.value) (c.self.invariant (place.DoIt c.in-DoIt.number))
