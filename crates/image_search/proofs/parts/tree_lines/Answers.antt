use Rattle.std.proofs.Common.{◌≡◌, ◌∙◌, length, sym}
use Rattle.std.proofs.lemmas.Bool.{eqb-true}
use Rattle.std.proofs.lemmas.Result.{IfOk-weaker}
use Rattle.st_tree.specs.View.{sequence_of}
use Rattle.pattern_model.specs.Search.{all_matches}
use Rattle.pattern_match.specs.Words.{number_words}
use Rattle.image_queries.specs.Parts.{title_of}
use Rattle.image_search.specs.Parts.{StandsInMethodText}
use Rattle.image_search.proofs.Standing.{method_stand, lines_same, paths_found, no_paths_told}
use Rattle.image_search.proofs.parts.tree_lines.Goals as goal

pub returns-then-is_empty : goal.returns-then-is_empty
returns-then-is_empty c =
    let s = c.args.image.now in
    let p = c.args.pattern.now in
    let b = sequence_of c.args.tree.now.body in
    let paths = c.as_slice-found.result.now in
    let none : length paths ≡ 0 = eqb-true (length paths) 0 (sym c.if-is_empty.ensures) in
    no_paths_told (title_of s.names s.classes c.args.info.now.class c.args.info.now.meta c.args.info.now.selector) (StandsInMethodText c.args.info.now.source.now) paths (all_matches (number_words s.names) p b) c.new.result
    (paths_found p b paths c.all_matches.new.out.items c.new-paths.result.items c.names.result.now s.names c.as_slice-found.ensures.value c.in_ok-all_matches.ensures.matches c.new-paths.ensures.items c.names.ensures)
    none c.new.ensures

pub returns : goal.returns
returns c =
    let s = c.args.image.now in
    let p = c.args.pattern.now in
    let b = sequence_of c.args.tree.now.body in
    let paths = c.as_slice-found.result.now in
    let nodes = c.in_ok-nodes.nodes in
    IfOk-weaker c.path_lines.result _ _
    (λ text lines.
    method_stand (title_of s.names s.classes c.args.info.now.class c.args.info.now.meta c.args.info.now.selector) c.args.info.now.source.now nodes (all_matches (number_words s.names) p b) text c.in_ok-nodes.ensures
    (lines_same c.as_slice.result.now (title_of s.names s.classes c.args.info.now.class c.args.info.now.meta c.args.info.now.selector) c.as_slice-2.result.now nodes paths (all_matches (number_words s.names) p b) text
    (c.as_slice.ensures ∙ c.in_ok-title.ensures) c.as_slice-2.ensures
    (paths_found p b paths c.all_matches.new.out.items c.new-paths.result.items c.names.result.now s.names c.as_slice-found.ensures.value c.in_ok-all_matches.ensures.matches c.new-paths.ensures.items c.names.ensures)
    lines))
    c.path_lines.ensures
