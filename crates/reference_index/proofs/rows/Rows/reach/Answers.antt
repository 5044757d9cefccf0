use Rattle.class_table.specs.declared.record.Place.TheVariants as place
use Rattle.reference_index.proofs.RowLemmas.{methods-rise, doits-rise}
use Rattle.reference_index.proofs.rows.Rows.reach.Goals as goal

pub invariant_of-self : goal.invariant_of-self
invariant_of-self c =
    methods-rise c.self.inside.methods.items c.lengthen.new.rows.items c.self.inside.doits.items
    (λ k. rw (c.lengthen.ensures.same k) (c.self.invariant (place.Method k)))
    c.self.invariant

pub invariant_of-self-in-DoIt : goal.invariant_of-self-in-DoIt
invariant_of-self-in-DoIt c =
    doits-rise c.self.inside.methods.items c.self.inside.doits.items c.lengthen-in-DoIt.new.rows.items
    (λ n. rw (c.lengthen-in-DoIt.ensures.same n) (c.self.invariant (place.DoIt n)))
    c.self.invariant
