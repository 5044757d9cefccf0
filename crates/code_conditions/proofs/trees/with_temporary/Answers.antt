use Rattle.std.proofs.Common.{◌≡◌, ℕ, Option, Some, option_map, sym, ap, ◌∙◌}
use Rattle.std.proofs.lemmas.Result.{IfOk-weaker}
use Rattle.tree_model.specs.Normal.{normal}
use Rattle.image_model.specs.Image.{EntryOf}
use Rattle.st_tree.specs.View.{method_of}
use Rattle.st_tree.specs.declared.tree.Method.{Method}
use Rattle.command_model.specs.Parts.{Part}
use Rattle.users_methods.specs.Users.{entry_in}
use Rattle.part_lookup.specs.declared.lookup.UsersPart.{UsersPart}
use Rattle.part_lookup.specs.Found.{found_in}
use Rattle.command_model.specs.Temporaries.{temporary_extracted}
use Rattle.code_conditions.specs.Trees.{asked, users_part, with_temporary}
use Rattle.code_conditions.proofs.Found.{temporary_none, temporary_at}
use Rattle.code_conditions.proofs.trees.with_temporary.Goals as goal

pub returns-in_default : goal.returns-in_default
returns-in_default g c =
    let s = c.args.image.now in
    temporary_none s c.args.part.now c.args.variable (sym (ap (λ (q : Option UsersPart). option_map (found_in s.classes) q) c.in_default.is) ∙ c.in_ok-found.ensures.part)

pub returns-in-Run : goal.returns-in-Run
returns-in-Run g c =
    let s = c.args.image.now in
    let f = c.in-Some.found in
    let there : ◌≡◌ {A = Option (EntryOf ℕ × Part)} (Some (found_in s.classes f)) (users_part s c.args.part.now) = sym (ap (λ (q : Option UsersPart). option_map (found_in s.classes) q) c.in-Some.is) ∙ c.in_ok-found.ensures.part in
    temporary_at s c.args.part.now c.args.variable (entry_in s.classes f.method) f.part _ there c.in-Run.is

pub returns : goal.returns
returns g c =
    let s = c.args.image.now in
    let f = c.in-Some.found in
    let x = c.args.variable in
    let there : ◌≡◌ {A = Option (EntryOf ℕ × Part)} (Some (found_in s.classes f)) (users_part s c.args.part.now) = sym (ap (λ (q : Option UsersPart). option_map (found_in s.classes) q) c.in-Some.is) ∙ c.in_ok-found.ensures.part in
    IfOk-weaker {X = Option Method} c.temporary_extracted.result (λ tree. option_map method_of tree ≡ option_map normal (temporary_extracted (asked s) (method_of f.method.tree.now) c.in-Expression.path x))
    (λ tree. option_map method_of tree ≡ option_map normal (with_temporary s c.args.part.now x))
    (λ tree h. h ∙ temporary_at s c.args.part.now x (entry_in s.classes f.method) f.part _ there c.in-Expression.is) (c.temporary_extracted.ensures.tree (asked s))
