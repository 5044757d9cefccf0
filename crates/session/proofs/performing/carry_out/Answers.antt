use Rattle.std.proofs.Common.{◌≡◌, subst}
use Rattle.reference_index.specs.Mentioned.{DiffersAtMost}
use Rattle.session.proofs.performing.carry_out.Goals as goal

pub returns-clause-index : goal.returns-clause-index
returns-clause-index g c = λ s index differs.
    let same : c.args.planned.touched.items ≡ c.deref.result.now = cc in
    c.in_ok-do_one.ensures.index s index (subst (DiffersAtMost s c.do_one.new.image) same differs)
