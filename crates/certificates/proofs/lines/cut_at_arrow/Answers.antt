use Rattle.std.proofs.Common.{◌≤◌, length, arith}
use Rattle.certificates.proofs.Arrows.{one_further, none_at_all}
use Rattle.certificates.proofs.lines.cut_at_arrow.Goals as goal

pub loop-at-preserved : goal.loop-at-preserved
loop-at-preserved c = one_further c.args.text.now c.split_at.result.1.now c.loop-at.at c.split_at.ensures.back c.in_default.ensures c.loop-at.invariant

pub returns : goal.returns
returns c = let all : length c.args.text.now ≤ c.loop-at.at = omega arith in none_at_all c.args.text.now c.loop-at.at all c.loop-at.invariant
