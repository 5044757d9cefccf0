use Rattle.std.proofs.Common.{◌+◌, sym, ◌∙◌, arith}
use Rattle.token_model.proofs.Strings.{IsPaired-none, IsPaired-byte, IsPaired-pair, IsString-open}
use Rattle.st_lexer.proofs.quotes.string_end.Goals as goal

pub loop-at-init : goal.loop-at-init
loop-at-init c = record { low = omega arith; inside = IsPaired-none c.args.text.now (c.args.from + 1) }

pub loop-at-preserved-then-text-at-ne39 : goal.loop-at-preserved-then-text-at-ne39
loop-at-preserved-then-text-at-ne39 c = record { low = omega arith; inside = IsPaired-byte c.args.text.now (c.args.from + 1) c.loop-at.at (omega arith) c.loop-at-test.true c.if-text-at-ne39.true c.loop-at.invariant.inside }

pub loop-at-preserved : goal.loop-at-preserved
loop-at-preserved c = record { low = omega arith; inside = IsPaired-pair c.args.text.now (c.args.from + 1) c.loop-at.at (omega arith) c.if-text-at-ne39.false (sym c.byte_at.ensures ∙ c.if-byte_at-eq39.true) c.loop-at.invariant.inside }

pub returns-clause-none : goal.returns-clause-none
returns-clause-none c = IsString-open c.args.text.now c.args.from c.loop-at.at (omega arith) c.loop-at.invariant.inside
