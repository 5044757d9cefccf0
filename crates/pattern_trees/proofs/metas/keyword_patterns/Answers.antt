use Rattle.std.proofs.Common.{rules}
use Rattle.event_trees.proofs.Known.{Grows-twice}
use Rattle.pattern_trees.proofs.Read.{keywords_more, keywords_all}
use Rattle.pattern_trees.proofs.metas.keyword_patterns.Goals as goal

pub loop-keyword-preserved : goal.loop-keyword-preserved
loop-keyword-preserved c =
    let l = c.loop-keyword in
    record {
      read = λ final g.
          keywords_more final c.args.keywords.now l.keyword-index c.keyword-item.result c.loop-keyword-test.true c.keyword-item.is l.patterns.items c.push.new.self.items c.in_ok-keyword_pattern.field-0 (search rules) (l.invariant.read final (Grows-twice c.in_ok-keyword_pattern.ensures.grows g))
          (c.in_ok-keyword_pattern.ensures.read final g);
      grows = Grows-twice l.invariant.grows c.in_ok-keyword_pattern.ensures.grows;
    }

pub returns-clause-read : goal.returns-clause-read
returns-clause-read c = λ final g. keywords_all final c.args.keywords.now c.loop-keyword.keyword-index c.loop-keyword.patterns.items c.loop-keyword-test.false (c.loop-keyword.invariant.read final g)
