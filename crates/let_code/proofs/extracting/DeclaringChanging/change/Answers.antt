use Rattle.std.proofs.Common.{◌≡◌, ℕ, List, [], length, sym, ap, ◌∙◌, arith, rules}
use Rattle.std.proofs.lemmas.Grind.{common_steps}
use Rattle.tree_model.specs.Tree.{assign, more_statements}
use Rattle.scope_model.specs.FreeNames.{take_statements, drop_statements}
use Rattle.st_tree.specs.View.{statements_of}
use Rattle.st_tree.specs.declared.tree.Statement.{Statement}
use Rattle.command_model.specs.Sequences.{joined}
use Rattle.let_code.proofs.Put.{statement-in}
use Rattle.let_code.proofs.extracting.DeclaringChanging.change.Goals as goal

pub returns : goal.returns
returns c =
    let it = c.args.self.now in
    let n = it.number in
    let ss = c.args.body.now.statements in
    let items : c.into_vec-items.result.items ≡ ss = c.into_vec-items.ensures ∙ c.replace.ensures.value in
    let x : Statement = record { comments = c.new.result; node = c.in_ok-assignment.field-0 } in
    let long : c.len.result ≡ length c.into_vec-items.result.items = first_of (search rules, grind (arith, common_steps), cc) in
    let put : statements_of c.from_vec.result ≡ joined (take_statements n (statements_of ss)) (more_statements [] (assign it.variable it.value.now) (drop_statements n (statements_of ss))) =
    ap statements_of (c.from_vec.ensures ∙ c.in_ok-insert.ensures.items)
    ∙ statement-in c.into_vec-items.result.items n c.min-at.result c.len.result x c.min-at.ensures long
    ∙ (λ j. joined (take_statements n (statements_of (items j))) (more_statements (c.new.ensures j) (c.in_ok-assignment.ensures j) (drop_statements n (statements_of (items j))))) in
    λ i. record { temporaries = c.in_ok-push.ensures.ok i; statements = put i; tail = c.args.body.now.tail }
