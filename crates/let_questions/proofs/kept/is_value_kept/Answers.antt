use Rattle.std.proofs.Common.{◌≡◌, ℕ, List, sym, ap, ◌∙◌}
use Rattle.std.specs.Prelude.{nat_eq}
use Rattle.std.specs.List.{list_all}
use Rattle.scope_model.specs.FreeNames.{free_names}
use Rattle.scope_model.specs.NameTests.{is_pseudo_in}
use Rattle.st_tree.specs.View.{method_of}
use Rattle.command_model.specs.Asked.{no_parts}
use Rattle.command_model.specs.Numbers.{number_asked}
use Rattle.command_model.specs.Temporaries.{reads_of}
use Rattle.let_questions.specs.Places.{are_names_kept}
use Rattle.let_questions.proofs.kept.is_value_kept.Goals as goal

pub returns : goal.returns
returns c =
    let s = c.args.image.now in
    let it = c.args.question.now in
    let table = c.names-names.ensures in
    let reads : c.as_slice.result.now ≡ reads_of (number_asked s.names 0 no_parts) (method_of it.code.tree.now) it.variable =
    c.as_slice.ensures.value ∙ c.in_ok-reads.ensures ∙ ap (λ (ns : List (List ℕ)). reads_of (number_asked ns 0 no_parts) (method_of it.code.tree.now) it.variable) table in
    let free : c.as_slice-2.result.now ≡ free_names nat_eq (is_pseudo_in s.names) it.assignment.now.value.now =
    c.as_slice-2.ensures ∙ c.in_ok-free.ensures ∙ ap (λ (ns : List (List ℕ)). free_names nat_eq (is_pseudo_in ns) it.assignment.now.value.now) table in
    c.is_kept_at.ensures ∙ (λ j. list_all (are_names_kept s it (free j)) (reads j))
