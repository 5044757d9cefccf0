use Rattle.std.proofs.Common.{◌≡◌, ◌++◌, ℕ, Bool, List, OnOk, option_map, sym, ap, subst, ◌∙◌}
use Rattle.std.proofs.lemmas.List.{append-nil}
use Rattle.st_tree.specs.View.{method_of}
use Rattle.refusal_witnesses.specs.Witnesses.{WitnessOf, AWhole, where_true}
use Rattle.witness_lists.specs.declared.witness.Owner.TheVariants as owner
use Rattle.witness_lists.specs.Views.{owner_of, shown}
use Rattle.use_witnesses.proofs.Highs.{none-made, unmade, made-told}
use Rattle.use_witnesses.proofs.heights.too_high_made.Goals as goal

pub returns-in_default : goal.returns-in_default
returns-in_default c =
    let s = c.args.image.now in
    let m = c.args.method in
    let old = shown s c.args.found.now.items in
    λ change e. sym (append-nil old)
    ∙ ap (λ (ws : List (WitnessOf ℕ)). old ++ ws) (none-made s c.requires m.class m.meta m.selector change (sym (ap (option_map method_of) c.in_default.is) ∙ e))

pub returns-in-None : goal.returns-in-None
returns-in-None c =
    let s = c.args.image.now in
    let m = c.args.method in
    let old = shown s c.args.found.now.items in
    λ change e. sym (append-nil old) ∙ ap (λ (ws : List (WitnessOf ℕ)). old ++ ws) (unmade s c.requires m.class m.meta m.selector change (sym c.own_method.ensures ∙ c.in-None.is))

pub returns-in-Some-own_method : goal.returns-in-Some-own_method
returns-in-Some-own_method c =
    let s = c.args.image.now in
    let m = c.args.method in
    let tree = c.in-Some.tree in
    λ change e. subst (λ (ws : List (WitnessOf ℕ)). OnOk c.push_if.result (shown s c.push_if.new.found.items ≡ shown s c.args.found.now.items ++ ws))
    (ap (λ (b : Bool). where_true b (AWhole (owner_of s (owner.Method c.in-Some-own_method.slot)))) c.is_high.ensures
    ∙ made-told s c.requires m.class m.meta m.selector change c.in-Some-own_method.slot (sym c.own_method.ensures ∙ c.in-Some-own_method.is) tree (sym (ap (option_map method_of) c.in-Some.is) ∙ e))
    (c.push_if.ensures s)
