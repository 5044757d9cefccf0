use Rattle.std.proofs.Common.{◌≡◌, ℕ, Option, None, Some, option_map, sym, ap, ◌∙◌}
use Rattle.std.proofs.lemmas.Result.{IfOk-weaker}
use Rattle.tree_model.specs.Normal.{normal}
use Rattle.st_tree.specs.View.{method_of}
use Rattle.st_tree.specs.declared.tree.Method.{Method}
use Rattle.image_model.specs.Image.{EntryOf}
use Rattle.command_model.specs.CodeEffects.{part_at}
use Rattle.command_model.specs.Commands.{CommandOf, InlineMethod}
use Rattle.command_model.specs.Parts.{Part}
use Rattle.class_table.specs.View.{number_image}
use Rattle.commands.specs.Views.{asked_by}
use Rattle.part_lookup.specs.declared.lookup.UsersPart.{UsersPart}
use Rattle.part_lookup.specs.Found.{found_in}
use Rattle.plans.specs.declared.plan.Plan.{Plan}
use Rattle.plans.specs.Plan.{IsPlan}
use Rattle.temporary_plans.specs.Retold.{Retells}
use Rattle.code_plans.specs.Inlined.{inlined_at}
use Rattle.code_plans.proofs.BodiesPlanned.{nowhere, made-known, told}
use Rattle.code_plans.proofs.inlining.plan_inlined_message.Goals as goal

pub returns-in_default-2 : goal.returns-in_default-2
returns-in_default-2 g c =
    let s = c.args.image.now in
    let p = c.args.part.now in
    let e : EntryOf ℕ × Part = found_in s.classes c.in-Some.found in
    let there : Some e ≡ part_at (asked_by s.names) (number_image s) p.method.class p.method.meta p.method.selector p.from p.to =
    sym (ap (λ (q : Option UsersPart). option_map (found_in s.classes) q) c.in-Some.is) ∙ c.in_ok-found.ensures.part in
    let none : None ≡ option_map normal (inlined_at s p.method.class p.method.meta e.0.tree e.1) =
    sym (ap (λ (q : Option Method). option_map method_of q) c.in_default-2.is) ∙ c.in_ok-after.ensures p.method.class (c.in_ok-found.ensures.named c.in-Some.found c.in-Some.is) in
    let plan = c.no_changes-in_default-2 in
    nowhere s c.requires.orderly p e there plan.result.changes plan.result.touched.items plan.ensures.changes plan.ensures.touched none

pub plan_retold-requires-clause-known : goal.plan_retold-requires-clause-known
plan_retold-requires-clause-known g c =
    let s = c.args.image.now in
    let p = c.args.part.now in
    let e : EntryOf ℕ × Part = found_in s.classes c.in-Some.found in
    let there : Some e ≡ part_at (asked_by s.names) (number_image s) p.method.class p.method.meta p.method.selector p.from p.to =
    sym (ap (λ (q : Option UsersPart). option_map (found_in s.classes) q) c.in-Some.is) ∙ c.in_ok-found.ensures.part in
    let is : Some (method_of c.in-Some-2.after) ≡ option_map normal (inlined_at s p.method.class p.method.meta e.0.tree e.1) =
    sym (ap (λ (q : Option Method). option_map method_of q) c.in-Some-2.is) ∙ c.in_ok-after.ensures p.method.class (c.in_ok-found.ensures.named c.in-Some.found c.in-Some.is) in
    made-known s c.requires.orderly p e there c.in-Some-2.after is

pub returns : goal.returns
returns g c =
    let s = c.args.image.now in
    let p = c.args.part.now in
    let command : CommandOf ℕ = InlineMethod p.method.class p.method.meta p.method.selector p.from p.to in
    let e : EntryOf ℕ × Part = found_in s.classes c.in-Some.found in
    let there : Some e ≡ part_at (asked_by s.names) (number_image s) p.method.class p.method.meta p.method.selector p.from p.to =
    sym (ap (λ (q : Option UsersPart). option_map (found_in s.classes) q) c.in-Some.is) ∙ c.in_ok-found.ensures.part in
    let is : Some (method_of c.in-Some-2.after) ≡ option_map normal (inlined_at s p.method.class p.method.meta e.0.tree e.1) =
    sym (ap (λ (q : Option Method). option_map method_of q) c.in-Some-2.is) ∙ c.in_ok-after.ensures p.method.class (c.in_ok-found.ensures.named c.in-Some.found c.in-Some.is) in
    let makes : Retells s p.method c.in-Some-2.after command = told s c.requires.orderly p e there c.in-Some-2.after is in
    IfOk-weaker c.plan_retold.result _ (λ (plan : Plan). IsPlan s command plan.changes plan.touched.items) (λ found leads. leads command makes) c.plan_retold.ensures
