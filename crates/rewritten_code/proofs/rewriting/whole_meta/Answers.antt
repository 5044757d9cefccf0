use Rattle.std.proofs.Common.{sym, ap, ◌∙◌}
use Rattle.patterns.specs.View.{pattern_from}
use Rattle.rewritten_code.specs.Changed.{is_whole}
use Rattle.rewritten_code.proofs.Matching.{not_whole}
use Rattle.rewritten_code.proofs.rewriting.whole_meta.Goals as goal

pub returns-then-meta : goal.returns-then-meta
returns-then-meta c = record { same = sym c.pattern.view_is ∙ ap pattern_from c.in-Meta.is; doubled = c.if-meta.true }

pub returns-else-meta : goal.returns-else-meta
returns-else-meta c = ap is_whole (sym c.pattern.view_is ∙ ap pattern_from c.in-Meta.is) ∙ c.if-meta.false

pub returns-in_default : goal.returns-in_default
returns-in_default c = ap (is_whole {N = _}) (sym c.pattern.view_is) ∙ not_whole c.pattern.inside.kind c.in_default.not-Meta
