use Rattle.std.proofs.Common.{◌≡◌, ◌++◌, Bool, List, append_assoc, ap, ◌∙◌}
use Rattle.std.specs.Prelude.{ℕ}
use Rattle.std.specs.List.{flat_map}
use Rattle.std.proofs.lemmas.Result.{on_ok_weaker}
use Rattle.rb_base.specs.Names.{name_at}
use Rattle.rename_model.specs.CommandWords.{has_own_meaning}
use Rattle.class_table.specs.View.{number_image}
use Rattle.refusal_witnesses.specs.Witnesses.{WitnessOf, ASelector, where_true}
use Rattle.witness_lists.specs.declared.code.Whose.TheVariants as whose
use Rattle.witness_lists.specs.declared.nodes.Sought.TheVariants as sought
use Rattle.witness_lists.specs.Views.{shown}
use Rattle.witness_lists.specs.Walks.{method_found}
use Rattle.name_witnesses.proofs.names.kernel_speakings.Goals as goal

pub returns : goal.returns
returns g c =
    let s = c.args.image.now in
    let n = c.args.selector in
    let old = shown s c.args.found.now.items in
    let mine = flat_map (method_found s.names whose.Kernel (sought.Selector n)) (number_image s).methods in
    let last = where_true c.has_own_meaning-has_meaning.result (ASelector n) in
    let has : c.has_own_meaning-has_meaning.result ≡ has_own_meaning (name_at s.names n) =
    c.has_own_meaning-has_meaning.ensures ∙ ap has_own_meaning (c.text_of.ensures ∙ ap (λ (names : List (List ℕ)). name_at names n) c.names.ensures) in
    on_ok_weaker c.push_if.result
    (λ e. e ∙ ap (λ (ws : List (WitnessOf ℕ)). ws ++ last) c.in_ok-sought_in_methods.ensures ∙ append_assoc old mine last
    ∙ ap (λ (b : Bool). old ++ (mine ++ where_true b (ASelector n))) has)
    (c.push_if.ensures s)
