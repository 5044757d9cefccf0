use Rattle.std.proofs.Common.{◌≡◌, ℕ, List, length, Some, sym, ap, ◌∙◌, rules}
use Rattle.tree_model.specs.Tree.{assign}
use Rattle.let_code.specs.Uses.{let_at}
use Rattle.let_code.proofs.Put.{let-there}
use Rattle.let_code.proofs.assignment.let_at.Goals as goal

pub returns : goal.returns
returns c =
    let path = c.args.placed.now.path in
    let before : c.from_vec.result ≡ c.in-Some.before.now = c.from_vec.ensures ∙ c.in_ok-from_slice.ensures.items in
    let ends : length c.in-Some.before.now ≡ c.args.scope = first_of (search rules, cc) in
    let node : c.args.placed.now.node.now ≡ assign c.in-Assign.name c.in-Assign.value.value = first_of (search rules, cc) in
    (λ j. Some (record { sequence = before j; number = c.in-Some.last.now; value = c.deref.ensures j }))
    ∙ sym (let-there path c.in-Some.before.now c.in-Some.last.now c.in-Assign.name c.args.scope c.in-Assign.value.value (sym c.as_slice.ensures ∙ c.in-Some.ensures.cases.0) ends)
    ∙ (λ j. let_at (path, sym node j) c.args.scope)
