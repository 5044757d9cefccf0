use Rattle.std.proofs.Common.{◌≡◌, ℕ, Bool, List, ap, sym, ◌∙◌}
use Rattle.std.specs.Prelude.{nat_eq}
use Rattle.std.specs.List.{list_any}
use Rattle.std.proofs.lemmas.Result.{IfOk-weaker}
use Rattle.tree_model.specs.Nodes.{Placed, nodes}
use Rattle.st_tree.specs.View.{method_of}
use Rattle.class_table.specs.declared.record.Place.TheVariants as place
use Rattle.command_model.specs.SameMethods.{is_super_sender}
use Rattle.commands.specs.Views.{asked_by}
use Rattle.method_questions.specs.Reached.{begins_at}
use Rattle.method_questions.proofs.Reaching.{begins-told}
use Rattle.method_questions.proofs.reached.begins_in.Goals as goal

pub returns-in-Some-open_body : goal.returns-in-Some-open_body
returns-in-Some-open_body g c =
    let s = c.args.image.now in
    let tree = c.in-Some-open_body.tree.now in
    let sends = λ (names : List (List ℕ)). list_any (λ (e : Placed ℕ). is_super_sender (asked_by names).is_super nat_eq c.args.selector e.1) (nodes (method_of tree).body) in
    IfOk-weaker c.stands_in.result (λ (is : Bool). is ≡ sends c.names.result.now) (λ (is : Bool). is ≡ begins_at s c.args.name c.args.selector (place.Method c.args.slot))
    (λ is h. h ∙ (ap sends c.names.ensures ∙ begins-told s c.args.name c.args.selector c.args.slot c.in-Some.info tree c.in-Some.ensures c.in-Some-open_body.ensures.tree (sym c.is_child.ensures ∙ c.if-not-is_child.false)))
    c.stands_in.ensures
