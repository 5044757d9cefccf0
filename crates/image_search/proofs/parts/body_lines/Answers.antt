use Rattle.std.proofs.Common.{◌≡◌, ◌+◌, ◌++◌, ◌∙◌, length, sym}
use Rattle.std.specs.Prelude.{codes}
use Rattle.std.specs.Fmt.{decimal}
use Rattle.std.proofs.lemmas.Bool.{eqb-true}
use Rattle.std.proofs.lemmas.Result.{IfOk-weaker}
use Rattle.st_tree.specs.View.{sequence_of}
use Rattle.pattern_model.specs.Search.{all_matches}
use Rattle.pattern_match.specs.Words.{number_words}
use Rattle.image_search.specs.Parts.{StandsInDoItText}
use Rattle.image_search.proofs.Standing.{doit_stand, lines_same, paths_found, no_paths_told}
use Rattle.image_search.proofs.parts.body_lines.Goals as goal

pub returns-then-is_empty : goal.returns-then-is_empty
returns-then-is_empty c =
    let s = c.args.image.now in
    let p = c.args.pattern.now in
    let b = sequence_of c.args.body.now in
    let paths = c.as_slice-found.result.now in
    let none : length paths ≡ 0 = eqb-true (length paths) 0 (sym c.if-is_empty.ensures) in
    no_paths_told (codes "doit " ++ decimal (c.args.number + 1)) (StandsInDoItText c.args.source.now) paths (all_matches (number_words s.names) p b) c.new.result
    (paths_found p b paths c.all_matches.new.out.items c.new-paths.result.items c.names.result.now s.names c.as_slice-found.ensures.value c.in_ok-all_matches.ensures.matches c.new-paths.ensures.items c.names.ensures)
    none c.new.ensures

pub returns : goal.returns
returns c =
    let s = c.args.image.now in
    let p = c.args.pattern.now in
    let b = sequence_of c.args.body.now in
    let paths = c.as_slice-found.result.now in
    let nodes = c.in_ok-nodes.nodes in
    IfOk-weaker c.path_lines.result _ _
    (λ text lines.
    doit_stand (codes "doit " ++ decimal (c.args.number + 1)) c.args.source.now nodes (all_matches (number_words s.names) p b) text c.in_ok-nodes.ensures
    (lines_same c.as_slice.result.now (codes "doit " ++ decimal (c.args.number + 1)) c.as_slice-2.result.now nodes paths (all_matches (number_words s.names) p b) text
    (c.as_slice.ensures ∙ c.in_ok-title.ensures) c.as_slice-2.ensures
    (paths_found p b paths c.all_matches.new.out.items c.new-paths.result.items c.names.result.now s.names c.as_slice-found.ensures.value c.in_ok-all_matches.ensures.matches c.new-paths.ensures.items c.names.ensures)
    lines))
    c.path_lines.ensures
