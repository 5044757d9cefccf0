use Rattle.std.proofs.Common.{◌≡◌, ℕ, Some, Option, option_map, sym, ap, ◌∙◌}
use Rattle.std.specs.Prelude.{nat_eq}
use Rattle.std.proofs.lemmas.Result.{IfOk-weaker}
use Rattle.command_model.specs.Commands.{CommandOf, RenameTemp}
use Rattle.command_model.specs.Places.{users_method}
use Rattle.command_model.proofs.Held.{all-hold}
use Rattle.class_table.specs.View.{number_image}
use Rattle.commands.specs.Views.{asked_by}
use Rattle.plans.specs.declared.plan.Plan.{Plan}
use Rattle.plans.specs.Plan.{IsPlan}
use Rattle.users_methods.specs.declared.methods.UsersMethod.{UsersMethod}
use Rattle.users_methods.specs.Users.{entry_in}
use Rattle.temporary_plans.specs.Retold.{Retells}
use Rattle.temporary_plans.proofs.First.{IsUsers, users-there, users-told}
use Rattle.temporary_plans.proofs.Renamed.{renames, renamed-known}
use Rattle.temporary_plans.proofs.planning.plan_temporary.Goals as goal

pub returns-in_default : goal.returns-in_default
returns-in_default g c =
    let s = c.args.image.now in
    let m = c.args.method in
    let has = (all-hold (asked_by s.names) (number_image s) (RenameTemp m.class m.meta m.selector c.args.variable c.args.to) c.requires.holds).has_method in
    absurd (users-there s m has (sym (ap (λ (q : Option UsersMethod). option_map (entry_in s.classes) q) c.in_default.is) ∙ c.users_method.ensures.method))

pub plan_retold-requires-clause-known : goal.plan_retold-requires-clause-known
plan_retold-requires-clause-known g c =
    let s = c.args.image.now in
    let m = c.args.method in
    let users : IsUsers s m c.in-Some.old.tree.now = users-told s c.requires.orderly m c.in-Some.old (sym (ap (λ (q : Option UsersMethod). option_map (entry_in s.classes) q) c.in-Some.is) ∙ c.users_method.ensures.method) in
    renamed-known s m c.args.variable c.args.to c.names.result.now c.names.ensures c.in-Some.old.tree.now c.in_ok-tree.tree users c.requires.known.3 c.in_ok-tree.ensures.known

pub returns : goal.returns
returns g c =
    let s = c.args.image.now in
    let m = c.args.method in
    let command : CommandOf ℕ = RenameTemp m.class m.meta m.selector c.args.variable c.args.to in
    let users : IsUsers s m c.in-Some.old.tree.now = users-told s c.requires.orderly m c.in-Some.old (sym (ap (λ (q : Option UsersMethod). option_map (entry_in s.classes) q) c.in-Some.is) ∙ c.users_method.ensures.method) in
    let told : Retells s m c.in_ok-tree.tree command = renames s m c.args.variable c.args.to c.names.result.now c.names.ensures c.in-Some.old.tree.now c.in_ok-tree.tree users c.in_ok-tree.ensures.tree in
    IfOk-weaker c.plan_retold.result _ (λ (found : Plan). IsPlan s command found.changes found.touched.items) (λ found makes. makes command told) c.plan_retold.ensures
