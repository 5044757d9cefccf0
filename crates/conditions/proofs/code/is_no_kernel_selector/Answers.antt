use Rattle.std.proofs.Common.{ℕ, List, [], ◌||◌, not, ◌∙◌, sym, ap}
use Rattle.std.specs.Prelude.{slice_get, unwrap_or, Option}
use Rattle.rename_model.specs.CommandWords.{has_own_meaning}
use Rattle.class_table.specs.View.{number_image}
use Rattle.command_model.specs.Numbers.{number_command_words}
use Rattle.conditions.proofs.CodeAsked.{kernel-speaks}
use Rattle.conditions.proofs.code.is_no_kernel_selector.Goals as goal

pub returns-then-found : goal.returns-then-found
returns-then-found g c =
    let s = c.args.image.now in
    let found = sym c.if-found.true ∙ c.in_ok-found.ensures ∙ kernel-speaks (number_image s) c.args.selector in
    λ j. not (found j || (number_command_words s.names).has_own_meaning c.args.selector)

pub returns : goal.returns
returns g c =
    let s = c.args.image.now in
    let found = sym c.if-found.false ∙ c.in_ok-found.ensures ∙ kernel-speaks (number_image s) c.args.selector in
    let meaning = c.has_own_meaning-meaning.ensures ∙ ap (λ (o : Option (List ℕ)). has_own_meaning (unwrap_or o [])) (c.text_of.ensures ∙ ap (λ (names : List (List ℕ)). slice_get names c.args.selector) c.names.ensures) in
    λ j. not (found j || meaning j)
