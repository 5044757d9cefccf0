use Rattle.std.proofs.Common.{◌≡◌, ℕ, Option, Some, option_map, sym, ap, ◌∙◌}
use Rattle.std.proofs.lemmas.Result.{IfOk-weaker}
use Rattle.tree_model.specs.Normal.{normal}
use Rattle.image_model.specs.Image.{EntryOf}
use Rattle.st_tree.specs.View.{method_of}
use Rattle.st_tree.specs.declared.tree.Method.{Method}
use Rattle.command_model.specs.Parts.{Part}
use Rattle.part_questions.specs.Parts.{part_of}
use Rattle.users_methods.specs.Users.{entry_in}
use Rattle.part_lookup.specs.declared.lookup.UsersPart.{UsersPart}
use Rattle.part_lookup.specs.Found.{found_in}
use Rattle.code_conditions.specs.Trees.{users_part, inlined_at, with_body}
use Rattle.code_conditions.proofs.Found.{body_none, body_at}
use Rattle.code_conditions.proofs.trees.with_body.Goals as goal

pub returns-in_default : goal.returns-in_default
returns-in_default g c =
    let s = c.args.image.now in
    body_none s c.args.part.now (sym (ap (λ (q : Option UsersPart). option_map (found_in s.classes) q) c.in_default.is) ∙ c.in_ok-found.ensures.part)

pub returns : goal.returns
returns g c =
    let s = c.args.image.now in
    let p = c.args.part.now in
    let f = c.in-Some.found in
    let there : ◌≡◌ {A = Option (EntryOf ℕ × Part)} (Some (found_in s.classes f)) (users_part s p) = sym (ap (λ (q : Option UsersPart). option_map (found_in s.classes) q) c.in-Some.is) ∙ c.in_ok-found.ensures.part in
    IfOk-weaker {X = Option Method} c.inlined_at.result (λ tree. option_map method_of tree ≡ option_map normal (inlined_at s p.method.class p.method.meta (method_of f.method.tree.now) (part_of f.part)))
    (λ tree. option_map method_of tree ≡ option_map normal (with_body s p))
    (λ tree h. h ∙ body_at s p (entry_in s.classes f.method) (part_of f.part) there) (c.inlined_at.ensures p.method.class (c.in_ok-found.ensures.named f c.in-Some.is))
