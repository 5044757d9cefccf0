use Rattle.std.proofs.Common.{rules, arith, sym, ◌∙◌}
use Rattle.pattern_match.proofs.Keywords.{colon_found, more_cut}
use Rattle.pattern_trees.proofs.Cut.{ends_empty, ends_open}
use Rattle.pattern_trees.proofs.spelling.keywords_of.Goals as goal

pub split_at-requires : goal.split_at-requires
split_at-requires c = omega (arith, (colon_found c.loop-at.rest.now c.in-Some.at (sym c.in-Some.is ∙ c.colon_in.ensures.at)).1)

pub loop-at-preserved : goal.loop-at-preserved
loop-at-preserved c =
    let cut = c.split_at.ensures in
    more_cut c.args.selector.now c.loop-at.rest.now c.loop-at.keywords.items c.loop-at.invariant c.in-Some.at (sym c.in-Some.is ∙ c.colon_in.ensures.at) c.split_at.result.0.now c.split_at.result.1.now cut.front cut.back c.push.new.self.items (search rules)

pub returns-then-is_empty : goal.returns-then-is_empty
returns-then-is_empty c = ends_empty c.args.selector.now c.loop-at.rest.now c.loop-at.keywords.items c.loop-at.invariant (search rules)

pub returns : goal.returns
returns c = ends_open c.args.selector.now c.loop-at.rest.now c.loop-at.keywords.items c.loop-at.invariant (search rules) (sym c.in_default.is ∙ c.colon_in.ensures.at) c.push-2.new.self.items (search rules)
