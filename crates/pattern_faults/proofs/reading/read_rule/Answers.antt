-- The pattern of the rule stays what it was when the replacement adds names.
use Rattle.std.proofs.Common.{sym, subst}
use Rattle.grammar_model.specs.Terminal.{Text}
use Rattle.pattern_model.specs.Patterns.{PatternOf}
use Rattle.rewrite_model.specs.Saying.{SaysPattern}
use Rattle.pattern_faults.proofs.Said.{pattern_kept, pattern_known}
use Rattle.pattern_faults.proofs.reading.read_rule.Goals as goal

pub returns-in-Ok-read_replacement-clause-pattern : goal.returns-in-Ok-read_replacement-clause-pattern
returns-in-Ok-read_replacement-clause-pattern c =
    subst (λ (r : PatternOf Text). SaysPattern c.args.pattern.now r) (sym (pattern_kept c.read_replacement.ensures.grows c.in-Ok.pattern c.in-Ok.ensures.known)) c.in-Ok.ensures.said

pub returns-in-Ok-read_replacement-clause-known_pattern : goal.returns-in-Ok-read_replacement-clause-known_pattern
returns-in-Ok-read_replacement-clause-known_pattern c = pattern_known c.read_replacement.ensures.grows c.in-Ok.pattern c.in-Ok.ensures.known
