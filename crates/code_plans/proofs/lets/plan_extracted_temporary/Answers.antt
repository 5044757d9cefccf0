use Rattle.std.proofs.Common.{ℕ, length, Option, option_map, sym, ap, ◌∙◌}
use Rattle.std.specs.Option.{option_copied}
use Rattle.std.specs.Borrow.{Bor}
use Rattle.std.proofs.lemmas.Result.{IfOk-weaker}
use Rattle.st_tree.specs.View.{method_of}
use Rattle.st_tree.specs.declared.tree.Method.{Method}
use Rattle.command_model.specs.Commands.{CommandOf, ExtractTemp}
use Rattle.commands.specs.Views.{asked_by}
use Rattle.part_questions.specs.Parts.{part_of}
use Rattle.plans.specs.declared.plan.Plan.{Plan}
use Rattle.plans.specs.Plan.{IsPlan}
use Rattle.temporary_plans.specs.Retold.{Retells}
use Rattle.code_plans.proofs.LetExtracted.{extracted-nobody, extracted-run, extracted-nowhere, extracted-told}
use Rattle.code_plans.proofs.LetInlined.{own-known}
use Rattle.code_plans.proofs.lets.plan_extracted_temporary.Goals as goal

pub returns-in-Run : goal.returns-in-Run
returns-in-Run g c =
    let plan = c.no_changes in
    extracted-run c.args.image.now c.requires.orderly c.args.part c.args.variable (part_of c.args.found.now) c.requires.found _ _ _ plan.result.changes plan.result.touched.items plan.ensures.changes plan.ensures.touched
    (ap part_of c.in-Run.is)

pub returns-in_default : goal.returns-in_default
returns-in_default g c =
    extracted-nobody c.args.image.now c.requires.orderly c.args.part c.args.variable c.no_changes-in_default.result.changes c.no_changes-in_default.result.touched.items c.no_changes-in_default.ensures.changes c.no_changes-in_default.ensures.touched
    (sym (ap (λ (q : Option (Bor Method)). option_map method_of (option_copied q)) c.in_default.is) ∙ c.users_method.ensures)

pub returns-in_default-2 : goal.returns-in_default-2
returns-in_default-2 g c =
    let s = c.args.image.now in
    let plan = c.no_changes-in_default-2 in
    extracted-nowhere s c.requires.orderly c.args.part c.args.variable (part_of c.args.found.now) c.requires.found c.in-Expression.path (ap part_of c.in-Expression.is) (method_of c.in-Some.tree.now) c.in-Some.ensures
    plan.result.changes plan.result.touched.items plan.ensures.changes plan.ensures.touched
    (sym (ap (λ (q : Option Method). option_map method_of q) c.in_default-2.is) ∙ c.in_ok-after.ensures.tree (asked_by s.names))

pub plan_retold-requires-clause-known : goal.plan_retold-requires-clause-known
plan_retold-requires-clause-known g c =
    let s = c.args.image.now in
    c.in_ok-after.ensures.known (length s.names) c.requires.known (own-known s c.requires.orderly c.args.part.method c.args.variable (method_of c.in-Some.tree.now) c.in-Some.ensures) c.in-Some-2.after c.in-Some-2.is

pub returns : goal.returns
returns g c =
    let s = c.args.image.now in
    let p = c.args.part in
    let command : CommandOf ℕ = ExtractTemp p.method.class p.method.meta p.method.selector p.from p.to c.args.variable in
    let told : Retells s p.method c.in-Some-2.after command =
    extracted-told s c.requires.orderly p c.args.variable (part_of c.args.found.now) c.requires.found c.in-Expression.path (ap part_of c.in-Expression.is) (method_of c.in-Some.tree.now) c.in-Some.ensures c.in-Some-2.after
    (sym (ap (λ (q : Option Method). option_map method_of q) c.in-Some-2.is) ∙ c.in_ok-after.ensures.tree (asked_by s.names)) in
    IfOk-weaker c.plan_retold.result _ (λ (plan : Plan). IsPlan s command plan.changes plan.touched.items) (λ found makes. makes command told) c.plan_retold.ensures
