use Rattle.std.proofs.Common.{nat_eq}
use Rattle.class_table.specs.declared.record.Place.TheVariants as place
use Rattle.reference_index.proofs.RowLemmas.{methods-rise, doits-rise, either-rises}
use Rattle.reference_index.proofs.rows.Rows.set.Goals as goal

pub invariant_of-self : goal.invariant_of-self
invariant_of-self c =
    methods-rise c.self.inside.methods.items c.set_row.new.rows.items c.self.inside.doits.items
    (λ k. rw (c.set_row.ensures.rows k) (either-rises (nat_eq c.slot.inside.0 k) c.args.names _ c.requires.rise (c.self.invariant (place.Method k))))
    c.self.invariant

pub invariant_of-self-in-DoIt : goal.invariant_of-self-in-DoIt
invariant_of-self-in-DoIt c =
    doits-rise c.self.inside.methods.items c.self.inside.doits.items c.set_row-in-DoIt.new.rows.items
    (λ n. rw (c.set_row-in-DoIt.ensures.rows n) (either-rises (nat_eq c.in-DoIt.number n) c.args.names _ c.requires.rise (c.self.invariant (place.DoIt n))))
    c.self.invariant
