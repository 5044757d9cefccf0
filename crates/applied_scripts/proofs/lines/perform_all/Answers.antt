use Rattle.std.proofs.Common.{◌≡◌, List, [], length, sym, ap, subst, rules, arith}
use Rattle.std.specs.Vec.Iter.{into_iter_items}
use Rattle.std.proofs.lemmas.Result.{err_from_is_err_and}
use Rattle.event_trees.proofs.Known.{Grows-none, Grows-twice}
use Rattle.script_lang.specs.Shown.{lines_in, AreKnown}
use Rattle.script_lang.specs.declared.asked.ScriptLine.{ScriptLine}
use Rattle.script_lang.proofs.Growing.{line_known-grown}
use Rattle.session.specs.History.{history_of}
use Rattle.session.proofs.SelfGrown.{self-grown}
use Rattle.applied_scripts.specs.Changed.{IsAfterLines}
use Rattle.applied_scripts.specs.Refused.{StopsAt}
use Rattle.applied_scripts.proofs.Performed.{no-items, front-none, front-all, front-part, stops-judged, next-known, next-done, next-refused}
use Rattle.applied_scripts.proofs.lines.perform_all.Goals as goal

pub loop-line-init : goal.loop-line-init
loop-line-init g c =
    let first = c.args.image.now.names in
    let same : into_iter_items c.into_iter-line-iterator.result ≡ c.args.lines.items = search rules in
    record {
      log = c.requires.log;
      self_known = c.requires.self_known;
      grown = Grows-none first;
      number = omega (arith, ap length same);
      known = subst (AreKnown first) (sym same) c.requires.known;
      front = front-none (history_of c.args.image.now c.args.session.now) (lines_in first c.args.lines.items) (lines_in first (into_iter_items c.into_iter-line-iterator.result)) (ap (lines_in first) same);
    }

pub perform_line-requires-clause-known : goal.perform_line-requires-clause-known
perform_line-requires-clause-known g c =
    line_known-grown c.loop-line.invariant.grown c.in-Some.line (subst (AreKnown c.args.image.now.names) c.in-Some.ensures.steps.0 c.loop-line.invariant.known).0

pub loop-line-preserved : goal.loop-line-preserved
loop-line-preserved g c =
    let at = c.loop-line.invariant in
    let begin = history_of c.args.image.now c.args.session.now in
    let before = history_of c.loop-line.image c.loop-line.session in
    let after = history_of c.perform_line.new.image c.perform_line.new.session in
    let all = lines_in c.args.image.now.names c.args.lines.items in
    let left = into_iter_items c.loop-line.line-iterator in
    let rest = into_iter_items c.next.new.self in
    let next = c.in-Some.ensures.steps.0 in
    let made = c.in_ok-perform_line.ensures in
    record {
      log = made.log;
      self_known = self-grown c.loop-line.image.names c.perform_line.new.image.names at.self_known made.names;
      grown = Grows-twice at.grown made.names;
      number = omega (arith, at.number, ap length next);
      known = (next-known at.grown left rest c.in-Some.line next at.known begin before all c.loop-line.number at.front).1;
      front = next-done at.grown left rest c.in-Some.line next at.known begin before all c.loop-line.number at.front after made.done;
    }

pub returns-in_err-perform_line-clause-names : goal.returns-in_err-perform_line-clause-names
returns-in_err-perform_line-clause-names g c = Grows-twice c.loop-line.invariant.grown c.perform_line.ensures.names

pub returns-in_err-perform_line-clause-self_known : goal.returns-in_err-perform_line-clause-self_known
returns-in_err-perform_line-clause-self_known g c = self-grown c.loop-line.image.names c.perform_line.new.image.names c.loop-line.invariant.self_known c.perform_line.ensures.names

pub returns-in_err-perform_line-clause-part : goal.returns-in_err-perform_line-clause-part
returns-in_err-perform_line-clause-part g c =
    let first = c.args.image.now.names in
    let begin = history_of c.args.image.now c.args.session.now in
    let all = lines_in first c.args.lines.items in
    subst (IsAfterLines begin all) (sym c.in_err-perform_line.ensures.same)
    (front-part begin all (lines_in first (into_iter_items c.loop-line.line-iterator)) c.loop-line.number (history_of c.loop-line.image c.loop-line.session) c.loop-line.invariant.front)

pub returns-in_err-perform_line-clause-reached : goal.returns-in_err-perform_line-clause-reached
returns-in_err-perform_line-clause-reached g c =
    let p = err_from_is_err_and c.from_residual.result c.from_residual.ensures.1 in
    rw (p.1, p.2) (λ r e.
    let at = c.loop-line.invariant in
    let begin = history_of c.args.image.now c.args.session.now in
    let all = lines_in c.args.image.now.names c.args.lines.items in
    let told = c.in_err-perform_line.ensures.stopped r e in
    subst (StopsAt begin all r) (sym c.in_err-perform_line.ensures.same)
    (next-refused at.grown (into_iter_items c.loop-line.line-iterator) (into_iter_items c.next.new.self) c.in-Some.line c.in-Some.ensures.steps.0 at.known begin (history_of c.loop-line.image c.loop-line.session) all c.loop-line.number at.front r told.0 told.1))

pub returns-in_err-perform_line-clause-stopped : goal.returns-in_err-perform_line-clause-stopped
returns-in_err-perform_line-clause-stopped g c =
    let p = err_from_is_err_and c.from_residual.result c.from_residual.ensures.1 in
    rw (p.1, p.2) (λ r e.
    let at = c.loop-line.invariant in
    let begin = history_of c.args.image.now c.args.session.now in
    let before = history_of c.loop-line.image c.loop-line.session in
    let all = lines_in c.args.image.now.names c.args.lines.items in
    let told = c.in_err-perform_line.ensures.stopped r e in
    stops-judged begin all r before
    (next-refused at.grown (into_iter_items c.loop-line.line-iterator) (into_iter_items c.next.new.self) c.in-Some.line c.in-Some.ensures.steps.0 at.known begin before all c.loop-line.number at.front r told.0 told.1))

pub returns-clause-part : goal.returns-clause-part
returns-clause-part g c =
    let first = c.args.image.now.names in
    front-part (history_of c.args.image.now c.args.session.now) (lines_in first c.args.lines.items) (lines_in first (into_iter_items c.loop-line.line-iterator)) c.loop-line.number (history_of c.loop-line.image c.loop-line.session) c.loop-line.invariant.front

pub returns-clause-done : goal.returns-clause-done
returns-clause-done g c =
    let first = c.args.image.now.names in
    let none : into_iter_items c.loop-line.line-iterator ≡ [] = no-items (into_iter_items c.loop-line.line-iterator) (search rules) in
    front-all (history_of c.args.image.now c.args.session.now) (lines_in first c.args.lines.items) (lines_in first (into_iter_items c.loop-line.line-iterator)) c.loop-line.number (history_of c.loop-line.image c.loop-line.session) (ap (lines_in first) none) c.loop-line.invariant.front
