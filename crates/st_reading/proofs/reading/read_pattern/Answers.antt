-- The tree of a read pattern is judged.
use Rattle.std.proofs.Common.{[]}
use Rattle.std.proofs.lemmas.Result.{err_from_is_err_and}
use Rattle.grammar_model.specs.Whole.{alone}
use Rattle.st_reading.proofs.Judged.{pattern_refused}
use Rattle.st_reading.proofs.reading.read_pattern.Goals as goal

pub returns-in_err-check_tree-clause-fault : goal.returns-in_err-check_tree-clause-fault
returns-in_err-check_tree-clause-fault c =
    let r = rw c.in-Some.is at c.in_ok-found.ensures.read in
    let all = rw c.in-Some.is at c.in_ok-found.ensures.found in
    let same = all r.tokens r.grammar.0 r.lexed r.grammar.1 in
    let p = err_from_is_err_and c.from_residual-in_err-check_tree.result c.from_residual-in_err-check_tree.ensures.1 in
    rw (p.1, p.2) (pattern_refused c.args.text.now r c.in_err-check_tree.field-0.0 (c.in_err-check_tree.ensures.fault [] (alone r.tokens r.grammar.0) c.new-arguments.ensures same))

pub returns-clause-found : goal.returns-clause-found
returns-clause-found c =
    let r = rw c.in-Some.is at c.in_ok-found.ensures.read in
    let all = rw c.in-Some.is at c.in_ok-found.ensures.found in
    let same = all r.tokens r.grammar.0 r.lexed r.grammar.1 in
    record {
      tree = r.grammar.0;
      spells = record { tokens = r.tokens; lexed = r.lexed; shallow = r.shallow; grammar = r.grammar.1; sound = c.in_ok-check_tree.ensures.sound [] (alone r.tokens r.grammar.0) c.new-arguments.ensures same };
      same = same;
    }
