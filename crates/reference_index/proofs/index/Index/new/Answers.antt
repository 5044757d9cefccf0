use Rattle.reference_index.proofs.IndexLemmas.{lists-of-nothing}
use Rattle.reference_index.proofs.index.Index.new.Goals as goal

pub invariant_of-result : goal.invariant_of-result
invariant_of-result c = rw (c.new.ensures, c.new-2.ensures.items) lists-of-nothing
