use Rattle.std.proofs.Common.{rules, arith, sym, ◌∙◌}
use Rattle.pattern_match.proofs.Keywords.{colon_found, more_cut, more_keywords, stops, ends_row, ends_empty, ends_open}
use Rattle.pattern_match.proofs.words.keywords_in.Goals as goal
use Rattle.pattern_match.proofs.words.keywords_in.Goals.{else-is_empty-via-then-is_empty+else-not-is_empty, else-is_empty-via-else-is_empty}

pub split_at-requires : goal.split_at-requires
split_at-requires c = omega (arith, (colon_found c.loop-at.rest.now c.in-Some.at (sym c.in-Some.is ∙ c.colon_in.ensures.at)).1)

pub loop-at-preserved : goal.loop-at-preserved
loop-at-preserved c =
    let at = sym c.in-Some.is ∙ c.colon_in.ensures.at in
    let cut = c.split_at.ensures in
    record {
      cut = more_cut c.args.text.now c.loop-at.rest.now c.loop-at.keywords.items c.loop-at.invariant.cut c.in-Some.at at c.split_at.result.0.now c.split_at.result.1.now cut.front cut.back c.push.new.self.items (search rules);
      keywords =
          more_keywords c.args.text.now c.loop-at.rest.now c.loop-at.keywords.items c.loop-at.invariant.cut c.in-Some.at at c.split_at.result.0.now cut.front (sym c.is_identifier.ensures ∙ c.if-not-is_identifier.false) c.push.new.self.items (search rules) c.loop-at.invariant.keywords;
    }

pub returns-then-not-is_identifier : goal.returns-then-not-is_identifier
returns-then-not-is_identifier c =
    stops c.args.text.now c.loop-at.rest.now c.loop-at.keywords.items c.loop-at.invariant.cut c.in-Some.at (sym c.in-Some.is ∙ c.colon_in.ensures.at) (sym c.is_identifier.ensures ∙ c.if-not-is_identifier.true)

pub returns-else-is_empty : goal.returns-else-is_empty
returns-else-is_empty c =
    elim c.else-is_empty.branch [
      | else-is_empty-via-then-is_empty+else-not-is_empty w ↦ ends_empty c.args.text.now c.loop-at.rest.now c.loop-at.keywords.items c.loop-at.invariant.cut (search rules) (search rules)
      | else-is_empty-via-else-is_empty w ↦ ends_open c.args.text.now c.loop-at.rest.now c.loop-at.keywords.items c.loop-at.invariant.cut (sym c.in_default.is ∙ c.colon_in.ensures.at) (search rules)
    ]

pub returns-then-not-is_empty : goal.returns-then-not-is_empty
returns-then-not-is_empty c =
    ends_row c.args.text.now c.loop-at.rest.now c.loop-at.keywords.items c.loop-at.invariant.cut (search rules) (search rules) c.loop-at.invariant.keywords

pub loop-at-smaller : goal.loop-at-smaller
loop-at-smaller c = search (rules, arith)
