use Rattle.std.proofs.Common.{◌≡◌, ℕ, Bool, true, false, List, [], ◌++◌, OnOk, ap, sym, subst, ◌∙◌}
use Rattle.std.specs.Prelude.{nat_eq, if◌then◌else◌}
use Rattle.command_model.specs.Hierarchy.{is_method_of}
use Rattle.command_model.specs.SameMethods.{is_super_node}
use Rattle.commands.specs.Views.{asked_by}
use Rattle.part_questions.specs.Codes.{entry_of}
use Rattle.refusal_witnesses.specs.Witnesses.{InMethod, WitnessOf, nodes_that}
use Rattle.witness_lists.specs.Views.{shown}
use Rattle.part_witnesses.specs.Held.{held_as}
use Rattle.part_witnesses.proofs.Pushed.{nothing}
use Rattle.part_witnesses.proofs.inlinable.supers_elsewhere.Goals as goal

pub returns-then-is_method_of : goal.returns-then-is_method_of
returns-then-is_method_of c =
    let s = c.args.image.now in
    let m = held_as s.classes c.args.method.now in
    let all : List (WitnessOf ℕ) = nodes_that (λ x. is_super_node (asked_by s.names).is_super x.1) (InMethod m) m.tree.body in
    let is : is_method_of nat_eq c.args.class m ≡ true =
    sym (c.is_method_of.ensures ∙ (λ j. is_method_of nat_eq c.args.class (entry_of s (c.code_of.ensures j)))) ∙ c.if-is_method_of.true in
    nothing (shown s c.args.found.now.items) _ (ap (λ (b : Bool). if b then [] else all) (sym is))

pub returns : goal.returns
returns c =
    let s = c.args.image.now in
    let m = held_as s.classes c.args.method.now in
    let all : List (WitnessOf ℕ) = nodes_that (λ x. is_super_node (asked_by s.names).is_super x.1) (InMethod m) m.tree.body in
    let is : is_method_of nat_eq c.args.class m ≡ false =
    sym (c.is_method_of.ensures ∙ (λ j. is_method_of nat_eq c.args.class (entry_of s (c.code_of.ensures j)))) ∙ c.if-is_method_of.false in
    subst (λ (ws : List (WitnessOf ℕ)). OnOk c.nodes_that.result (shown s c.nodes_that.new.found.items ≡ shown s c.args.found.now.items ++ ws))
    (ap (λ o. nodes_that (λ x. is_super_node (asked_by s.names).is_super x.1) o m.tree.body) c.requires.held.owner ∙ ap (λ (b : Bool). if b then [] else all) (sym is))
    c.nodes_that.ensures
