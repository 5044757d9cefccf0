use Rattle.std.proofs.Common.{◌≡◌, ℕ, suc, ◌+◌, not, List, [], ◌∷◌, ◌++◌, Option, Some, None, length, refl, sym, ap, ◌∙◌, arith}
use Rattle.std.specs.Option.{option_map_or}
use Rattle.std.proofs.lemmas.Result.{on_ok_weaker}
use Rattle.tree_model.specs.Tree.{TreeOf, trees_of}
use Rattle.tree_model.specs.Path.{nth}
use Rattle.st_tree.proofs.Putting.{nth_here, nth_past}
use Rattle.image_model.specs.Image.{EntryOf}
use Rattle.class_table.specs.View.{number_image}
use Rattle.command_model.specs.Places.{SendOf}
use Rattle.commands.specs.Views.{asked_by, self_in}
use Rattle.inlined_code.specs.Sending.{send_of}
use Rattle.inline_questions.specs.Actuals as actuals
use Rattle.refusal_witnesses.specs.InlineWitnesses.{is_actual_plain}
use Rattle.refusal_witnesses.specs.Witnesses.{InMethod, a_node, where_true}
use Rattle.witness_lists.specs.Views.{shown}
use Rattle.part_witnesses.specs.Held.{held_as}
use Rattle.part_witnesses.proofs.actuals.other_actual.Goals as goal

pub returns-in_default : goal.returns-in_default
returns-in_default c =
    let s = c.args.image.now in
    let it = c.args.sending.now in
    let m : EntryOf ℕ = held_as s.classes it.method.now in
    let t : EntryOf ℕ = held_as s.classes it.target.now in
    let e : SendOf ℕ = send_of it.call.sent in
    let k = c.args.number in
    let old = shown s c.args.found.now.items in
    let ts : List (TreeOf ℕ) = it.call.sent.arguments.now in
    let none : None ≡ nth (trees_of ts) k = sym (nth_past c.as_slice.result.now ts k (length c.as_slice.result.now) c.as_slice.ensures refl (omega (arith, c.in_default.ensures.lookup.3))) in
    on_ok_weaker c.push_node_if.result
    (λ q. q
    ∙ (λ j. old ++ a_node (c.requires.sending.method.owner j) e.path ∷ [])
    ∙ ap (λ (o : Option (TreeOf ℕ)). old ++ option_map_or (λ (x : TreeOf ℕ). where_true (not (is_actual_plain (asked_by s.names) (number_image s) m e t c.args.formal x)) (a_node (InMethod m) (e.path ++ suc k ∷ []))) o (a_node (InMethod m) e.path ∷ [])) none)
    (c.push_node_if.ensures s)

pub returns : goal.returns
returns c =
    let s = c.args.image.now in
    let it = c.args.sending.now in
    let m : EntryOf ℕ = held_as s.classes it.method.now in
    let t : EntryOf ℕ = held_as s.classes it.target.now in
    let e : SendOf ℕ = send_of it.call.sent in
    let k = c.args.number in
    let old = shown s c.args.found.now.items in
    let ts : List (TreeOf ℕ) = it.call.sent.arguments.now in
    let x : TreeOf ℕ = c.in-Some.node.now in
    let one : k + 1 ≡ suc k = omega arith in
    let some : Some x ≡ nth (trees_of ts) k = sym (nth_here c.as_slice.result.now ts k (length c.as_slice.result.now) x c.as_slice.ensures refl c.in-Some.ensures.lookup.3.0 c.in-Some.ensures.lookup.1) in
    let plain : c.in_ok-plain.plain ≡ is_actual_plain (asked_by s.names) (number_image s) m e t c.args.formal x =
    c.in_ok-plain.ensures ∙ (λ j. actuals.is_actual_plain s (c.requires.sending.same j) ((c.self_name-self_name.ensures ∙ ap self_in c.names.ensures) j) c.args.formal x) in
    on_ok_weaker c.push_child_if.result
    (λ q. q
    ∙ (λ j. old ++ where_true (not (plain j)) (a_node (c.requires.sending.method.owner j) (e.path ++ one j ∷ [])))
    ∙ ap (λ (o : Option (TreeOf ℕ)). old ++ option_map_or (λ (x : TreeOf ℕ). where_true (not (is_actual_plain (asked_by s.names) (number_image s) m e t c.args.formal x)) (a_node (InMethod m) (e.path ++ suc k ∷ []))) o (a_node (InMethod m) e.path ∷ [])) some)
    (c.push_child_if.ensures s)
