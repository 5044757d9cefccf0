use Rattle.std.proofs.Common.{List, ℕ, None, Some, option_map, sym, ap, ◌∙◌}
use Rattle.tree_model.specs.Normal.{normal}
use Rattle.st_tree.specs.View.{method_of}
use Rattle.command_model.specs.Asked.{no_parts}
use Rattle.command_model.specs.Numbers.{number_asked}
use Rattle.command_model.specs.Temporaries.{let_of, temporary_inlined}
use Rattle.let_code.specs.Lets.{let_as}
use Rattle.users_methods.specs.Users.{entry_in}
use Rattle.code_conditions.proofs.Found.{let_at}
use Rattle.code_conditions.proofs.trees.with_value.Goals as goal

pub returns-in_default-2 : goal.returns-in_default-2
returns-in_default-2 g c =
    let s = c.args.image.now in
    let m = c.in-Some.found in
    let_at s c.args.method.now c.args.variable (entry_in s.classes m) None c.in-Some.ensures.method
    (sym (ap (option_map let_as) c.in_default-2.is) ∙ c.in_ok-assignment.ensures.found ∙ ap (λ (ns : List (List ℕ)). let_of (number_asked ns 0 no_parts) (method_of m.tree.now) c.args.variable) c.names-names.ensures)

pub returns : goal.returns
returns g c =
    let s = c.args.image.now in
    let m = c.in-Some.found in
    let x = c.args.variable in
    ap Some (c.in_ok-tree.ensures.tree ∙ ap (λ (ns : List (List ℕ)). normal (temporary_inlined (number_asked ns 0 no_parts) (method_of m.tree.now) x (let_as c.in-Some-2.assignment))) c.names-names.ensures)
    ∙ let_at s c.args.method.now x (entry_in s.classes m) (Some (let_as c.in-Some-2.assignment)) c.in-Some.ensures.method
    (sym (ap (option_map let_as) c.in-Some-2.is) ∙ c.in_ok-assignment.ensures.found ∙ ap (λ (ns : List (List ℕ)). let_of (number_asked ns 0 no_parts) (method_of m.tree.now) x) c.names-names.ensures)
