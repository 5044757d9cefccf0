use Rattle.std.proofs.Common.{◌≡◌, ℕ, false, List, ap, ◌∙◌}
use Rattle.std.specs.List.{list_all, enumerate_from}
use Rattle.std.specs.Option.{option_map_or}
use Rattle.std.proofs.lemmas.Result.{IfOk-weaker}
use Rattle.tree_model.specs.Tree.{TreeOf, trees_of}
use Rattle.tree_model.specs.Path.{nth}
use Rattle.inline_questions.specs.Actuals.{is_actual_plain, all_passed}
use Rattle.inline_questions.proofs.Passed.{by-number}
use Rattle.inline_questions.proofs.actuals.are_actuals_plain.Goals as goal

pub returns : goal.returns
returns c =
    let s = c.args.image.now in
    let call = c.args.call.now in
    let xs : List ℕ = call.target.code.tree.now.arguments in
    let ts : List (TreeOf ℕ) = call.sent.arguments.now in
    let same : all_passed (is_actual_plain s call c.args.self_name) c.as_slice-formals.result.now (trees_of c.as_slice-passed.result.now) ≡ all_passed (is_actual_plain s call c.args.self_name) xs (trees_of ts) =
    λ i. all_passed (is_actual_plain s call c.args.self_name) (c.as_slice-formals.ensures i) (trees_of (c.as_slice-passed.ensures i)) in
    IfOk-weaker c.are_plain.result _ _
    (λ is e. e ∙ same ∙ by-number (is_actual_plain s call c.args.self_name) xs (trees_of ts)
    ∙ ap (λ (n : ℕ). list_all (λ (x : ℕ × ℕ). option_map_or (is_actual_plain s call n x.1) (nth (trees_of ts) x.0) false) (enumerate_from 0 xs)) c.requires.self_name)
    c.are_plain.ensures
