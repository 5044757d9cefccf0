use Rattle.std.proofs.Common.{List, [], ◌++◌, sym, ap, ◌∙◌}
use Rattle.std.specs.Borrow.{Bor}
use Rattle.grammar_model.specs.Terminal.{Text}
use Rattle.grammar_model.specs.Checks.{known_of}
use Rattle.event_checks.specs.Lists.{declared, names_of}
use Rattle.event_checks.specs.FixedNames.{texts, parameters_in}
use Rattle.event_checks.proofs.NoneFixed.{no_targets, none_assigned}
use Rattle.event_checks.proofs.fixed_names.may_assign_fixed.Goals as goal

pub returns-then-not-has_target : goal.returns-then-not-has_target
returns-then-not-has_target c = λ e ds.
    no_targets (record { now = known_of (declared c.args.arguments.now) (declared ds); outer = [] }) c.args.events.now (sym c.if-not-has_target.ensures)

pub returns : goal.returns
returns c = λ e ds.
    let ps = c.args.arguments.now in
    let es = c.args.events.now in
    none_assigned (texts c.as_slice.result.now) ps ds es
    (ap texts c.as_slice.ensures.value ∙
    c.in_ok-put_all_parameters.ensures c.if-not-branch.false ∙
    ap (λ (ns : List Text). ns ++ parameters_in es) (c.in_ok-put_names.ensures ∙ ap (λ (ns : List (Bor Text)). texts ns ++ names_of ps) c.new-names.ensures.items))
    (sym c.assigns_in.ensures ∙ e)
