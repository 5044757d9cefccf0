use Rattle.std.proofs.Common.{◌≡◌, ℕ, ◌<◌, List, length, Option, None, Some, option_map, sym, ap, subst, ◌∙◌}
use Rattle.std.specs.Option.{option_copied}
use Rattle.std.specs.Borrow.{Bor}
use Rattle.std.proofs.lemmas.Result.{IfOk-weaker}
use Rattle.tree_model.specs.AllNames.{MethodNames}
use Rattle.st_tree.specs.View.{method_of}
use Rattle.st_tree.specs.declared.tree.Method.{Method}
use Rattle.command_model.specs.Asked.{no_parts}
use Rattle.command_model.specs.Commands.{CommandOf, InlineTemp}
use Rattle.command_model.specs.Numbers.{number_asked}
use Rattle.command_model.specs.Temporaries.{let_of}
use Rattle.plans.specs.declared.plan.Plan.{Plan}
use Rattle.plans.specs.Plan.{IsPlan}
use Rattle.let_code.specs.declared.assignment.Let.{Let}
use Rattle.let_code.specs.Lets.{let_as}
use Rattle.temporary_plans.specs.Retold.{Retells}
use Rattle.code_plans.proofs.LetInlined.{inlined-nobody, inlined-nowhere, inlined-told, own-known}
use Rattle.code_plans.proofs.lets.plan_inlined_temporary.Goals as goal

pub returns-in_default : goal.returns-in_default
returns-in_default g c =
    inlined-nobody c.args.image.now c.requires.orderly c.args.method c.args.variable c.no_changes.result.changes c.no_changes.result.touched.items c.no_changes.ensures.changes c.no_changes.ensures.touched
    (sym (ap (λ (q : Option (Bor Method)). option_map method_of (option_copied q)) c.in_default.is) ∙ c.users_method.ensures)

pub returns-in_default-2 : goal.returns-in_default-2
returns-in_default-2 g c =
    let plan = c.no_changes-in_default-2 in
    let none : None ≡ let_of (number_asked c.names-names.result.now 0 no_parts) (method_of c.in-Some.tree.now) c.args.variable =
    sym (ap (λ (q : Option Let). option_map let_as q) c.in_default-2.is) ∙ c.in_ok-assignment.ensures.found in
    inlined-nowhere c.args.image.now c.requires.orderly c.args.method c.args.variable (method_of c.in-Some.tree.now) c.in-Some.ensures c.names-names.result.now c.names-names.ensures plan.result.changes plan.result.touched.items
    plan.ensures.changes plan.ensures.touched none

pub plan_retold-requires-clause-known : goal.plan_retold-requires-clause-known
plan_retold-requires-clause-known g c =
    let t = method_of c.in-Some.tree.now in
    let known : MethodNames (λ n. n < length c.names-names.result.now) t =
    subst (λ (ns : List (List ℕ)). MethodNames (λ n. n < length ns) t) (sym c.names-names.ensures) (own-known c.args.image.now c.requires.orderly c.args.method c.args.variable t c.in-Some.ensures) in
    subst (λ (ns : List (List ℕ)). MethodNames (λ n. n < length ns) (method_of c.in_ok-after.after)) c.names-names.ensures
    (c.in_ok-after.ensures.known known (c.in_ok-assignment.ensures.known known c.in-Some-2.assignment c.in-Some-2.is))

pub returns : goal.returns
returns g c =
    let s = c.args.image.now in
    let m = c.args.method in
    let command : CommandOf ℕ = InlineTemp m.class m.meta m.selector c.args.variable in
    let some : Some (let_as c.in-Some-2.assignment) ≡ let_of (number_asked c.names-names.result.now 0 no_parts) (method_of c.in-Some.tree.now) c.args.variable =
    sym (ap (λ (q : Option Let). option_map let_as q) c.in-Some-2.is) ∙ c.in_ok-assignment.ensures.found in
    let told : Retells s m c.in_ok-after.after command =
    inlined-told s c.requires.orderly m c.args.variable (method_of c.in-Some.tree.now) c.in-Some.ensures c.names-names.result.now c.names-names.ensures (let_as c.in-Some-2.assignment) c.in_ok-after.after some c.in_ok-after.ensures.tree in
    IfOk-weaker c.plan_retold.result _ (λ (plan : Plan). IsPlan s command plan.changes plan.touched.items) (λ found makes. makes command told) c.plan_retold.ensures
