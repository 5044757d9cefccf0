use Rattle.std.proofs.Common.{ℕ, List, [], ◌++◌, ap, ◌∙◌}
use Rattle.tree_model.specs.Tree.{TreeOf}
use Rattle.tree_model.specs.Path.{statement_trees}
use Rattle.st_tree.specs.View.{statements_of}
use Rattle.pattern_model.specs.MatchTree.{numbered}
use Rattle.pattern_model.specs.Search.{found_among, found}
use Rattle.pattern_match.specs.declared.standing.Part.{Part}
use Rattle.pattern_match.specs.Words.{number_words}
use Rattle.pattern_match.specs.Gathering.{parts_from}
use Rattle.pattern_match.specs.Parts.{onward}
use Rattle.pattern_match.proofs.Searched.{body_found}
use Rattle.pattern_match.proofs.searching.all_matches.Goals as goal

pub returns-clause-matches : goal.returns-clause-matches
returns-clause-matches c =
    let f : TreeOf ℕ → List (List ℕ) = found (number_words c.args.names.now) c.args.pattern.now in
    let old : List (List ℕ) = c.args.out.now.items in
    let more : List (List ℕ) = onward [] (found_among f (parts_from c.deref.result.now)) in
    body_found f old c.append.new.self.items (statements_of c.args.body.now.statements) (parts_from c.deref.result.now)
    (ap (λ (ps : List Part). parts_from ps) c.deref.ensures.value ∙ c.in_ok-put_statements.ensures ∙ (λ i. parts_from (c.new-parts.ensures.items i) ++ numbered 0 (statement_trees (statements_of (c.as_slice.ensures i)))))
    (c.in_ok-append.ensures.items ∙ ap (λ (ps : List (List ℕ)). old ++ ps) (c.in_ok-search_parts.ensures ∙ ap (λ (ps : List (List ℕ)). ps ++ more) c.new-paths.ensures.items))
