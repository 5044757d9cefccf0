use Rattle.std.proofs.Common.{◌≡◌, ◌++◌, ℕ, Bool, List, length, append_assoc, ap, ◌∙◌}
use Rattle.std.specs.Prelude.{codes}
use Rattle.std.proofs.lemmas.Result.{on_ok_weaker}
use Rattle.rb_base.specs.Names.{name_at, text_eq}
use Rattle.image_model.specs.Nodes.{in_method}
use Rattle.st_tree.specs.View.{method_of}
use Rattle.refusal_witnesses.specs.Witnesses.{AtPlace, WitnessOf, AWhole, nodes_that, where_true}
use Rattle.witness_lists.specs.declared.nodes.Sought.TheVariants as sought
use Rattle.witness_lists.specs.Sought.{passes}
use Rattle.witness_lists.specs.Views.{shown}
use Rattle.use_witnesses.proofs.brought.reflections_brought.Goals as goal

pub returns : goal.returns
returns c =
    let s = c.args.image.now in
    let m = method_of c.args.new.now.tree in
    let old = shown s c.args.found.now.items in
    let n = length c.methods.result.now in
    let last : ℕ → List (WitnessOf ℕ) = λ k. nodes_that (λ e. passes s.names sought.Reflection e.1) (AtPlace (in_method k)) m.body in
    let whole : Bool → ℕ → List (WitnessOf ℕ) = λ b k. where_true b (AWhole (AtPlace (in_method k))) in
    let is : c.is_not_understood-is_whole.result ≡ text_eq (codes "doesNotUnderstand:") (name_at s.names m.selector) =
    c.is_not_understood-is_whole.ensures ∙ ap (text_eq (codes "doesNotUnderstand:")) (c.text_of.ensures ∙ ap (λ (names : List (List ℕ)). name_at names m.selector) c.names.ensures) in
    let count : n ≡ length s.method_order = ap length c.methods.ensures.value in
    on_ok_weaker c.nodes_that.result
    (λ e. e ∙ ap (λ (ws : List (WitnessOf ℕ)). ws ++ last n) (c.in_ok-push_if.ensures s)
    ∙ append_assoc old (whole c.is_not_understood-is_whole.result n) (last n)
    ∙ (λ i. old ++ (whole (is i) (count i) ++ last (count i))))
    c.nodes_that.ensures
