use Rattle.std.proofs.Common.{◌≡◌, ◌≤◌, ℕ, Bool, List, ◌++◌, length, map, ap, ◌∙◌, arith}
use Rattle.std.specs.Prelude.{filter}
use Rattle.scope_model.specs.NameTests.{form_in}
use Rattle.st_tree.specs.View.{method_of}
use Rattle.command_model.specs.Asked.{no_parts}
use Rattle.command_model.specs.InlineConditions.{makes_control}
use Rattle.command_model.specs.Numbers.{number_asked}
use Rattle.command_model.specs.Temporaries.{reads_of}
use Rattle.commands.specs.Views.{asked_by}
use Rattle.refusal_witnesses.specs.InlineWitnesses.{above}
use Rattle.refusal_witnesses.specs.Witnesses.{WitnessOf, a_node, where_true}
use Rattle.witness_lists.specs.declared.witness.Owner.TheVariants as owner
use Rattle.witness_lists.specs.Views.{owner_of, shown}
use Rattle.witness_lists.proofs.Lists.{where-filter}
use Rattle.part_witnesses.proofs.Pushed.{taken-all}
use Rattle.part_witnesses.proofs.lets.new_controls.Goals as goal

pub returns : goal.returns
returns c =
    let s = c.args.image.now in
    let o = owner_of s (owner.Method c.args.method.now.slot) in
    let items = c.as_slice-read-items.result.now in
    let reads : c.as_slice-read-items.result.now ≡ reads_of (asked_by s.names) (method_of c.args.method.now.tree.now) c.args.variable =
    c.as_slice-read-items.ensures.value ∙ c.in_ok-reads.ensures ∙ ap (λ (ns : List (List ℕ)). reads_of (number_asked ns 0 no_parts) (method_of c.args.method.now.tree.now) c.args.variable) c.names-names.ensures in
    let over : length items ≤ c.loop-read.read-index = omega (arith, c.loop-read-test.false) in
    let makes : List ℕ → Bool = λ r. makes_control (form_in s.names) (method_of c.args.method.now.tree.now) r c.args.assignment.now.value.now in
    taken-all (λ (r : List ℕ). where_true (makes r) (a_node o (above r))) items c.loop-read.read-index over _ _ c.loop-read.invariant
    ∙ ap (λ (ws : List (WitnessOf ℕ)). shown s c.args.found.now.items ++ ws)
    (where-filter makes (λ r. a_node o (above r)) items ∙ (λ j. map (λ r. a_node (c.requires.owner j) (above r)) (filter makes (reads j))))
