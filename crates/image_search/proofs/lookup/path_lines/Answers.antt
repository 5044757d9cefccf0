use Rattle.std.proofs.Common.{ℕ, List, get_or, refl}
use Rattle.event_spans.specs.Answers.{of_span}
use Rattle.query_model.specs.Lines.{node_line}
use Rattle.image_queries.proofs.Texts.{item_at, text_more, texts_end}
use Rattle.image_search.specs.Parts.{StandsAmong, IsNodeLine}
use Rattle.image_search.proofs.Standing.{line_told}
use Rattle.image_search.proofs.lookup.path_lines.Goals as goal

pub loop-path-preserved : goal.loop-path-preserved
loop-path-preserved c =
    let owner = c.args.owner.now in
    let nodes = c.args.nodes.now in
    let items = c.args.paths.now in
    let e = c.index-nodes-found.result in
    let line = node_line owner (of_span (get_or nodes c.in-Some.found e).span) in
    text_more (λ (place : ℕ) (path line : List ℕ). IsNodeLine owner (StandsAmong nodes) path line) items c.loop-path.path-index c.loop-path.text c.loop-path.invariant
    c.path-item.result line c.write_line.new.out (item_at items c.loop-path.path-index c.path-item.result c.loop-path-test.true c.path-item.is)
    (line_told owner nodes c.in-Some.found e c.path-item.result line c.in-Some.ensures.within c.index-nodes-found.is c.in-Some.ensures.path refl)
    c.in_ok-write_line.ensures

pub returns : goal.returns
returns c =
    texts_end (λ (place : ℕ) (path line : List ℕ). IsNodeLine c.args.owner.now (StandsAmong c.args.nodes.now) path line) c.args.paths.now c.loop-path.path-index c.loop-path.text c.loop-path.invariant c.loop-path-test.false
