use Rattle.std.proofs.Common.{[], ◌++◌, List, sym, ap, ◌∙◌}
use Rattle.std.proofs.lemmas.Result.{IfOk-weaker}
use Rattle.std.proofs.lemmas.List.{append-nil}
use Rattle.grammar_model.specs.Checks.{Known, known_of, fixed_in_statements}
use Rattle.event_checks.specs.Lists.{declared}
use Rattle.event_checks.specs.Scopes.{Scoped, first_fixed_in}
use Rattle.event_checks.proofs.Lists.{known_is}
use Rattle.event_checks.proofs.Assigned.{assigns_all}
use Rattle.event_checks.proofs.assignments.first_fixed.Goals as goal

pub returns-then-not-branch : goal.returns-then-not-branch
returns-then-not-branch c = λ ps ds ss e f g.
    let start : Scoped = record { now = known_of (declared c.args.arguments.now) (declared c.args.temporaries.now); outer = [] } in
    sym (c.in_ok-may_assign_fixed.ensures c.if-not-branch.true c.args.temporaries.now) ∙ ap (first_fixed_in start) g ∙ assigns_all start ss ∙
    ap (λ (ks : List Known). fixed_in_statements ks ss) (known_is c.args.arguments.now c.args.temporaries.now ps ds e f)

pub returns : goal.returns
returns c =
    let known = known_of (declared c.args.arguments.now) (declared c.args.temporaries.now) in
    let start : Scoped = record { now = known ++ []; outer = [] } in
    IfOk-weaker c.fixed_in_events.result _ _
    (λ b h. λ ps ds ss e f g.
    h start (c.in_ok-declare_list.ensures [] [] c.new-scopes.ensures) ∙ ap (first_fixed_in start) g ∙ assigns_all start ss ∙
    ap (λ (ks : List Known). fixed_in_statements ks ss) (append-nil known ∙ known_is c.args.arguments.now c.args.temporaries.now ps ds e f))
    c.fixed_in_events.ensures
