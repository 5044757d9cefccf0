use Rattle.std.proofs.Common.{map, ap, ◌++◌, List, ℕ}
use Rattle.std.specs.List.{concat}
use Rattle.patterns.specs.View.{keyword_of}
use Rattle.filled_patterns.specs.Filling.{keyword_text}
use Rattle.filled_patterns.proofs.Chosen.{keyword_more, keywords_joined}
use Rattle.filled_patterns.proofs.standing.joined_text.Goals as goal

pub loop-keyword-init : goal.loop-keyword-init
loop-keyword-init c = λ bs h. ap (λ (t : List ℕ). t ++ concat (map (keyword_text bs) (map keyword_of c.args.keywords.now))) c.new-text.ensures

pub loop-keyword-preserved : goal.loop-keyword-preserved
loop-keyword-preserved c = λ bs h.
    let l = c.loop-keyword in
    keyword_more bs c.args.keywords.now l.keyword-index c.keyword-item.result c.loop-keyword-test.true c.keyword-item.is l.text c.push_slice.new.self c.in_ok-keyword_for.field-0.now
    (concat (map (keyword_text bs) (map keyword_of c.args.keywords.now))) c.in_ok-push_slice.ensures.ok (c.in_ok-keyword_for.ensures bs h) (l.invariant bs h)

pub returns : goal.returns
returns c = λ bs h.
    let l = c.loop-keyword in
    keywords_joined bs c.args.keywords.now l.keyword-index c.loop-keyword-test.false l.text (concat (map (keyword_text bs) (map keyword_of c.args.keywords.now))) (l.invariant bs h)
