-- The metavariables of a replacement are judged by those of the pattern, which the new names leave as it was.
use Rattle.std.proofs.Common.{subst}
use Rattle.std.specs.Prelude.{MatchOption}
use Rattle.std.proofs.lemmas.Result.{err_from_is_err_and}
use Rattle.rb_base.specs.Names.{name_at}
use Rattle.grammar_model.specs.Terminal.{Text}
use Rattle.pattern_model.specs.Patterns.{PatternOf}
use Rattle.pattern_model.specs.Named.{map_pattern}
use Rattle.rewrite_model.specs.Saying.{IsRefusedReplacement}
use Rattle.pattern_faults.specs.Told.{cause_of}
use Rattle.pattern_faults.proofs.Said.{replacement_told, pattern_kept, pattern_known}
use Rattle.pattern_faults.proofs.reading.read_replacement.Goals as goal

pub returns-in_err-replacement-clause-fault : goal.returns-in_err-replacement-clause-fault
returns-in_err-replacement-clause-fault c =
    let p = err_from_is_err_and c.from_residual.result c.from_residual.ensures.1 in
    rw (p.1, p.2) (replacement_told (map_pattern (name_at c.args.names.now) c.args.pattern.now) c.args.text.now (cause_of c.in_err-replacement.field-0.0) c.in_err-replacement.ensures.fault)

pub judge_metas-requires-clause-pattern : goal.judge_metas-requires-clause-pattern
judge_metas-requires-clause-pattern c = pattern_known c.read_pattern.ensures.grows c.args.pattern.now c.requires

pub returns-in_err-judge_metas-clause-fault : goal.returns-in_err-judge_metas-clause-fault
returns-in_err-judge_metas-clause-fault c =
    let p = err_from_is_err_and c.from_residual-in_err-judge_metas.result c.from_residual-in_err-judge_metas.ensures.1 in
    rw (p.1, p.2)
    (subst (λ (r : PatternOf Text). MatchOption (cause_of c.in_err-judge_metas.field-0.0) (Unit {0}) (IsRefusedReplacement r c.args.text.now)) (pattern_kept c.read_pattern.ensures.grows c.args.pattern.now c.requires)
    c.in_err-judge_metas.ensures.fault)
