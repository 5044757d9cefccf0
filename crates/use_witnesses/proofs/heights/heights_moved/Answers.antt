use Rattle.std.proofs.Common.{◌≡◌, ◌++◌, ℕ, List, OnOk, option_map, sym, ap, subst, ◌∙◌}
use Rattle.tree_model.specs.Normal.{normal}
use Rattle.class_table.specs.View.{number_image}
use Rattle.abstracted_code.specs.declared.abstraction.Abstraction.{Abstraction}
use Rattle.command_model.specs.CodeEffects.{tree_extracting, tree_inlining, tree_without}
use Rattle.commands.specs.Views.{asked_by, code_command, self_in}
use Rattle.commands.specs.declared.command.CodeMove.{CodeMove}
use Rattle.code_conditions.proofs.Retreed.{temporary-extracted, message-inlined, temporary-inlined}
use Rattle.refusal_witnesses.specs.Witnesses.{WitnessOf}
use Rattle.witness_lists.specs.Views.{shown}
use Rattle.use_witnesses.specs.Brought.{heights_there}
use Rattle.use_witnesses.proofs.Highs.{abstracted-told, taken, taken-made, taken-there}
use Rattle.use_witnesses.proofs.heights.heights_moved.Goals as goal

pub returns-in-AbstractVariable : goal.returns-in-AbstractVariable
returns-in-AbstractVariable g c =
    let s = c.args.image.now in
    let a : Abstraction = record {
      class = c.in-AbstractVariable.class;
      variable = c.in-AbstractVariable.variable;
      setter = c.in-AbstractVariable.setter;
      parameter = c.in-AbstractVariable.parameter;
      self_name = c.self_name.result;
    } in
    subst (λ (ws : List (WitnessOf ℕ)). OnOk c.high_there.result (shown s c.high_there.new.found.items ≡ shown s c.args.found.now.items ++ ws))
    (abstracted-told s a (c.self_name.ensures ∙ ap self_in c.names.ensures) ∙ ap (λ (m : CodeMove). heights_there (asked_by s.names) (number_image s) (code_command m)) (sym c.in-AbstractVariable.is))
    c.high_there.ensures

pub returns-in_ok-tree-in-ExtractMethod : goal.returns-in_ok-tree-in-ExtractMethod
returns-in_ok-tree-in-ExtractMethod g c =
    let s = c.args.image.now in
    let p = c.in-ExtractMethod.part in
    let t = c.in-ExtractMethod.to in
    subst (λ (ws : List (WitnessOf ℕ)). OnOk c.too_high_made.result (shown s c.too_high_made.new.found.items ≡ shown s c.args.found.now.items ++ ws))
    (taken-there s p t ∙ ap (λ (m : CodeMove). heights_there (asked_by s.names) (number_image s) (code_command m)) (sym c.in-ExtractMethod.is))
    (c.too_high_made.ensures (taken s p t) (c.in_ok-tree-in-ExtractMethod.ensures ∙ taken-made s p t))

pub returns-in_ok-tree-in-InlineMethod : goal.returns-in_ok-tree-in-InlineMethod
returns-in_ok-tree-in-InlineMethod g c =
    let s = c.args.image.now in
    let p = c.in-InlineMethod.part in
    subst (λ (ws : List (WitnessOf ℕ)). OnOk c.too_high_made-in-InlineMethod.result (shown s c.too_high_made-in-InlineMethod.new.found.items ≡ shown s c.args.found.now.items ++ ws))
    (ap (λ (m : CodeMove). heights_there (asked_by s.names) (number_image s) (code_command m)) (sym c.in-InlineMethod.is))
    (c.too_high_made-in-InlineMethod.ensures (tree_inlining (asked_by s.names) (number_image s) p.method.class p.method.meta p.method.selector p.from p.to)
    (c.in_ok-tree-in-InlineMethod.ensures ∙ ap (option_map normal) (message-inlined s p)))

pub returns-in_ok-tree-in-ExtractTemporary : goal.returns-in_ok-tree-in-ExtractTemporary
returns-in_ok-tree-in-ExtractTemporary g c =
    let s = c.args.image.now in
    let p = c.in-ExtractTemporary.part in
    let x = c.in-ExtractTemporary.variable in
    subst (λ (ws : List (WitnessOf ℕ)). OnOk c.too_high_made-in-ExtractTemporary.result (shown s c.too_high_made-in-ExtractTemporary.new.found.items ≡ shown s c.args.found.now.items ++ ws))
    (ap (λ (m : CodeMove). heights_there (asked_by s.names) (number_image s) (code_command m)) (sym c.in-ExtractTemporary.is))
    (c.too_high_made-in-ExtractTemporary.ensures (tree_extracting (asked_by s.names) (number_image s) p.from p.to x)
    (c.in_ok-tree-in-ExtractTemporary.ensures ∙ ap (option_map normal) (temporary-extracted s p x)))

pub returns-in_ok-tree-in-InlineTemporary : goal.returns-in_ok-tree-in-InlineTemporary
returns-in_ok-tree-in-InlineTemporary g c =
    let s = c.args.image.now in
    let n = c.in-InlineTemporary.method in
    let x = c.in-InlineTemporary.variable in
    subst (λ (ws : List (WitnessOf ℕ)). OnOk c.too_high_made-in-InlineTemporary.result (shown s c.too_high_made-in-InlineTemporary.new.found.items ≡ shown s c.args.found.now.items ++ ws))
    (ap (λ (m : CodeMove). heights_there (asked_by s.names) (number_image s) (code_command m)) (sym c.in-InlineTemporary.is))
    (c.too_high_made-in-InlineTemporary.ensures (tree_without (asked_by s.names) (number_image s) x)
    (c.in_ok-tree-in-InlineTemporary.ensures ∙ ap (option_map normal) (temporary-inlined s n x)))
