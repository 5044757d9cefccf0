use Rattle.std.proofs.Common.{◌≡◌, ◌<◌, true, false, List, ℕ, length, sym, subst, rules}
use Rattle.tree_model.specs.AllNames.{SequenceNames}
use Rattle.st_tree.specs.View.{sequence_of}
use Rattle.parameter_plans.proofs.Made.{doit-none, doit-known, doit-some}
use Rattle.parameter_plans.proofs.code.doit_change.Goals as goal

pub returns-then-not-sent : goal.returns-then-not-sent
returns-then-not-sent g c =
    let none : c.in_ok-sent.sent ≡ false = search rules in
    doit-none c.args.image c.args.parameter.now c.args.number c.in-Some.body c.in-Some.ensures.body c.selector.result c.in_ok-sent.sent c.selector.ensures c.in_ok-sent.ensures none

pub format_doit-requires : goal.format_doit-requires
format_doit-requires g c =
    let sent : c.in_ok-sent.sent ≡ true = search rules in
    subst (λ (names : List (List ℕ)). SequenceNames (λ n. n < length names) (sequence_of c.remake_doit.new.body)) (sym c.names.ensures)
    (doit-known c.args.image c.args.parameter.now c.args.number c.in-Some.body c.in-Some.ensures.body c.selector.result c.in_ok-sent.sent c.selector.ensures c.in_ok-sent.ensures
    c.in_ok-body.body c.remake_doit.new.body sent c.in_ok-body.ensures c.in_ok-remake_doit.ensures
    (c.law_known.ensures c.args.image.now c.args.parameter.now c.requires.orderly c.requires.known))

pub returns : goal.returns
returns g c =
    let sent : c.in_ok-sent.sent ≡ true = search rules in
    doit-some c.args.image c.args.parameter.now c.args.number c.in-Some.body c.in-Some.ensures.body c.selector.result c.in_ok-sent.sent c.selector.ensures c.in_ok-sent.ensures
    c.in_ok-body.body c.remake_doit.new.body sent c.in_ok-body.ensures c.in_ok-remake_doit.ensures
    c.format_doit.new.out c.new-source.result c.names.result.now c.new-source.ensures c.names.ensures c.in_ok-format_doit.ensures.ok
