use Rattle.std.proofs.Common.{ℕ, List, ◌++◌, ap, ◌∙◌}
use Rattle.std.specs.Prelude.{nat_eq}
use Rattle.scope_model.specs.NameTests.{is_pseudo_in}
use Rattle.scope_model.specs.FreeNames.{free_names_of_run, run_of, statements_at}
use Rattle.st_tree.specs.View.{method_of}
use Rattle.method_questions.proofs.MeansSame.{whole-run}
use Rattle.method_questions.proofs.meanings.free_names_of.Goals as goal

pub returns : goal.returns
returns c =
    let body = (method_of c.args.tree.now).body in
    let free = free_names_of_run nat_eq (is_pseudo_in c.args.names.now) in
    c.in_ok-free_names.ensures.ok
    ∙ ap (λ (ns : List ℕ). ns ++ free (run_of (statements_at body c.new.result) 0 c.len.result)) c.new-found.ensures
    ∙ (λ i. free (run_of (statements_at body (c.new.ensures i)) 0 (c.len.ensures i)))
    ∙ ap free (whole-run c.args.tree.now.body.statements)
