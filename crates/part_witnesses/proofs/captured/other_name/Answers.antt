use Rattle.std.proofs.Common.{◌≡◌, ℕ, ◌||◌, Bool, not, List, ◌++◌, OnOk, sym, ap, subst, ◌∙◌}
use Rattle.std.specs.Prelude.{nat_eq}
use Rattle.scope_model.specs.NameTests.{is_pseudo_in}
use Rattle.scope_model.specs.Scope.{local_in}
use Rattle.st_tree.specs.View.{method_of}
use Rattle.command_model.specs.Places.{is_of_block}
use Rattle.command_model.specs.SameMethods.{same_meaning}
use Rattle.refusal_witnesses.specs.Witnesses.{InMethod, WitnessOf, TwoMeanings, where_true}
use Rattle.witness_lists.specs.Views.{shown}
use Rattle.part_witnesses.specs.Held.{held_as}
use Rattle.part_witnesses.specs.Sending.{here, there}
use Rattle.part_witnesses.proofs.Pushed.{nothing}
use Rattle.part_witnesses.proofs.captured.other_name.Goals as goal

pub returns-then-is_of_block : goal.returns-then-is_of_block
returns-then-is_of_block c =
    let s = c.args.image.now in
    let it = c.args.sending.now in
    let path = c.args.path.now in
    let n = c.args.name in
    let declared : c.is_of_block.result ≡ is_of_block (local_in nat_eq (is_pseudo_in s.names) (method_of it.target.now.tree.now) path n) =
    c.is_of_block.ensures ∙ ap is_of_block (c.local_at-local.ensures ∙ ap (λ (ns : List (List ℕ)). local_in nat_eq (is_pseudo_in ns) (method_of it.target.now.tree.now) path n) c.names.ensures) in
    nothing (shown s c.args.found.now.items) _
    (ap (λ (b : Bool). where_true (not (b || same_meaning nat_eq (there s it path n) (here s it n))) (TwoMeanings (InMethod (held_as s.classes it.target.now)) path n (there s it path n) (here s it n))) (sym c.if-is_of_block.true ∙ declared))

pub returns : goal.returns
returns c =
    let s = c.args.image.now in
    let it = c.args.sending.now in
    let path = c.args.path.now in
    let n = c.args.name in
    let declared : c.is_of_block.result ≡ is_of_block (local_in nat_eq (is_pseudo_in s.names) (method_of it.target.now.tree.now) path n) =
    c.is_of_block.ensures ∙ ap is_of_block (c.local_at-local.ensures ∙ ap (λ (ns : List (List ℕ)). local_in nat_eq (is_pseudo_in ns) (method_of it.target.now.tree.now) path n) c.names.ensures) in
    let same : c.means_same-same.result ≡ same_meaning nat_eq (there s it path n) (here s it n) = c.means_same-same.ensures in
    subst (λ (ws : List (WitnessOf ℕ)). OnOk c.push_meanings_if.result (shown s c.push_meanings_if.new.found.items ≡ shown s c.args.found.now.items ++ ws))
    ((λ j. where_true (not (same j)) (TwoMeanings (c.requires.sending.target.owner j) path n (c.meaning_in-there.ensures j) (c.meaning_in-here.ensures j)))
    ∙ ap (λ (b : Bool). where_true (not (b || same_meaning nat_eq (there s it path n) (here s it n))) (TwoMeanings (InMethod (held_as s.classes it.target.now)) path n (there s it path n) (here s it n))) (sym c.if-is_of_block.false ∙ declared))
    (c.push_meanings_if.ensures s)
