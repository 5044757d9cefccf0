use Rattle.std.proofs.Common.{ap, ◌∙◌}
use Rattle.pattern_model.specs.Spelled.{begins}
use Rattle.pattern_trees.proofs.Growing.{numbered}
use Rattle.pattern_trees.proofs.metas.meta_of.Goals as goal

pub returns-clause-read : goal.returns-clause-read
returns-clause-read c = λ final g.
    let n = numbered c.intern.new.self c.in_ok-name.name c.args.name.now c.in_ok-name.ensures.number final g in
    record { same = λ i. record { kind = c.args.kind; name = n.0 i; doubled = (c.begins.ensures ∙ ap (begins 96) c.behind.ensures) i }; known = n.1 }
