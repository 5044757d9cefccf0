use Rattle.std.proofs.Common.{◌≡◌, ℕ, List, ◌++◌, map, take, sym, ap, ◌∙◌, arith, rules}
use Rattle.std.proofs.lemmas.Grind.{common_steps}
use Rattle.std.proofs.lemmas.Result.{on_ok_weaker}
use Rattle.image_model.specs.Image.{EntryOf}
use Rattle.class_table.specs.View.{number_image}
use Rattle.commands.specs.Views.{asked_by}
use Rattle.refusal_witnesses.specs.Witnesses.{a_node}
use Rattle.witness_lists.specs.declared.witness.Owner.TheVariants as owner
use Rattle.witness_lists.specs.Views.{owner_of, shown}
use Rattle.part_witnesses.specs.Held.{held_as}
use Rattle.part_witnesses.proofs.Evaluated.{expression-none, expression-return, expression-lost}
use Rattle.part_witnesses.proofs.first.push_before_expression.Goals as goal

pub returns-in-None : goal.returns-in-None
returns-in-None c =
    let s = c.args.image.now in
    let m : EntryOf ℕ = held_as s.classes c.args.method.now in
    let o = owner_of s (owner.Method c.args.method.now.slot) in
    let path = c.args.path.now in
    on_ok_weaker c.push_node_if.result
    (λ e. e ∙ ap (λ (ps : List (List ℕ)). shown s c.args.found.now.items ++ map (a_node o) ps) (expression-none (asked_by s.names) (number_image s) m path c.in-None.ensures))
    (c.push_node_if.ensures s)

pub returns-then-is_return : goal.returns-then-is_return
returns-then-is_return c =
    let s = c.args.image.now in
    let m : EntryOf ℕ = held_as s.classes c.args.method.now in
    let o = owner_of s (owner.Method c.args.method.now.slot) in
    on_ok_weaker c.push_node_if-then-is_return.result
    (λ e. e ∙ ap (λ (ps : List (List ℕ)). shown s c.args.found.now.items ++ map (a_node o) ps)
    (expression-return (asked_by s.names) (number_image s) m c.args.path.now c.in-Some.node.now c.in-Some.ensures (sym c.if-is_return.true ∙ c.is_return.ensures)))
    (c.push_node_if-then-is_return.ensures s)

pub returns-in-None-part_at : goal.returns-in-None-part_at
returns-in-None-part_at c =
    let s = c.args.image.now in
    let m : EntryOf ℕ = held_as s.classes c.args.method.now in
    let o = owner_of s (owner.Method c.args.method.now.slot) in
    let path = c.args.path.now in
    let front : c.from_vec-way.result ≡ take c.steps_to_statement.result path = first_of (search rules, grind (arith, common_steps)) in
    on_ok_weaker c.push_node_if-in-None-part_at.result
    (λ e. e ∙ ap (λ (ps : List (List ℕ)). shown s c.args.found.now.items ++ map (a_node o) ps)
    (expression-lost (asked_by s.names) (number_image s) m path c.in-Some.node.now c.in-Some.ensures (sym c.if-is_return.false ∙ c.is_return.ensures) c.from_vec-way.result (front ∙ c.steps_to_statement.ensures.way) c.in-None-part_at.ensures))
    (c.push_node_if-in-None-part_at.ensures s)
