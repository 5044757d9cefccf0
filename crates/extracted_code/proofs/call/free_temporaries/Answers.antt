use Rattle.std.proofs.Common.{ℕ, Bool, ◌++◌, ap, ◌∙◌}
use Rattle.std.specs.Prelude.{nat_eq, filter}
use Rattle.scope_model.specs.NameTests.{is_pseudo_in}
use Rattle.scope_model.specs.Scope.{local_in}
use Rattle.st_scope.specs.Parts.{free_names_of_part}
use Rattle.st_tree.specs.View.{method_of}
use Rattle.command_model.specs.Parts.{beginning}
use Rattle.command_model.specs.Places.{is_local}
use Rattle.part_questions.specs.Parts.{part_of}
use Rattle.extracted_code.proofs.Named.{names_found}
use Rattle.extracted_code.proofs.call.free_temporaries.Goals as goal

pub returns : goal.returns
returns c =
    let names = c.args.names.now in
    let m = method_of c.args.method.now in
    let part = c.args.part.now in
    let there : ℕ → Bool = λ n. is_local (local_in nat_eq (is_pseudo_in names) m (beginning (part_of part)) n) in
    c.in_ok-found.ensures
    ∙ (λ j. filter (λ n. is_local (local_in nat_eq (is_pseudo_in names) m (c.in_ok-path.ensures j) n)) c.as_slice.result.now)
    ∙ ap (filter there)
    (c.as_slice.ensures ∙ c.in_ok-free_names.ensures.ok ∙ (λ j. c.new-all.ensures j ++ free_names_of_part nat_eq (is_pseudo_in names) m.body part) ∙ names_found names m part)
