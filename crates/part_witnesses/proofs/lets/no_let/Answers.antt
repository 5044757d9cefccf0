use Rattle.std.proofs.Common.{◌≡◌, ℕ, true, false, List, [], ◌∷◌, ◌++◌, None, Some, map, option_map, sym, ap, ◌∙◌}
use Rattle.std.proofs.lemmas.Result.{on_ok_weaker}
use Rattle.class_table.specs.View.{number_image}
use Rattle.command_model.specs.Asked.{no_parts}
use Rattle.command_model.specs.LetConditions.{is_let_form}
use Rattle.command_model.specs.Numbers.{number_asked}
use Rattle.command_model.specs.Temporaries.{LetOf, let_of, reads_of}
use Rattle.commands.specs.Views.{asked_by, self_in}
use Rattle.let_code.specs.Lets.{let_as}
use Rattle.part_questions.specs.Codes.{entry_of}
use Rattle.refusal_witnesses.specs.TemporaryWitnesses.{declarations, is_assignment_of}
use Rattle.refusal_witnesses.specs.Witnesses.{WitnessOf, a_node, nodes_that}
use Rattle.witness_lists.specs.declared.witness.Owner.TheVariants as owner
use Rattle.witness_lists.specs.Views.{owner_of, shown}
use Rattle.part_witnesses.specs.Held.{held_as}
use Rattle.part_witnesses.proofs.Assigned.{unassigned, assigned}
use Rattle.part_witnesses.proofs.Pushed.{further, nothing}
use Rattle.part_witnesses.proofs.lets.no_let.Goals as goal

pub returns-in_default : goal.returns-in_default
returns-in_default c =
    let s = c.args.image.now in
    let m = held_as s.classes c.args.method.now in
    let x = c.args.variable in
    let old = shown s c.args.found.now.items in
    let none : None ≡ let_of (asked_by s.names) m.tree x =
    sym (ap (option_map let_as) c.in_default.is) ∙ c.in_ok-assignment.ensures.found ∙ ap (λ (ns : List (List ℕ)). let_of (number_asked ns 0 no_parts) m.tree x) c.names-names.ensures in
    on_ok_weaker c.assignments_to.result
    (λ e. e
    ∙ further (shown s c.declarations.new.found.items) old (declarations (asked_by s.names) m x) _ c.in_ok-declarations.ensures
    ∙ ap (λ o. old ++ (declarations (asked_by s.names) m x ++ nodes_that (is_assignment_of (asked_by s.names) x) o m.tree.body)) c.requires.held.owner
    ∙ ap (λ (ws : List (WitnessOf ℕ)). old ++ ws) (unassigned s m x none))
    c.assignments_to.ensures

pub returns-then-branch : goal.returns-then-branch
returns-then-branch c =
    let s = c.args.image.now in
    let m = held_as s.classes c.args.method.now in
    let x = c.args.variable in
    let e : LetOf ℕ = let_as c.in-Some.assignment in
    let one : Some e ≡ let_of (asked_by s.names) m.tree x =
    sym (ap (option_map let_as) c.in-Some.is) ∙ c.in_ok-assignment.ensures.found ∙ ap (λ (ns : List (List ℕ)). let_of (number_asked ns 0 no_parts) m.tree x) c.names-names.ensures in
    let form : true ≡ is_let_form (asked_by s.names) (number_image s) m x e =
    sym c.if-branch.true ∙ c.in_ok-is_let_form.ensures
    ∙ (λ j. is_let_form (number_asked s.names ((c.self_name.ensures ∙ ap self_in c.names-names.ensures) j) no_parts) (number_image s) (entry_of s (c.code_of.ensures j)) x e) in
    nothing (shown s c.args.found.now.items) _ (assigned s m x e true one form)

pub returns : goal.returns
returns c =
    let s = c.args.image.now in
    let m = held_as s.classes c.args.method.now in
    let x = c.args.variable in
    let old = shown s c.args.found.now.items in
    let e : LetOf ℕ = let_as c.in-Some.assignment in
    let one : Some e ≡ let_of (asked_by s.names) m.tree x =
    sym (ap (option_map let_as) c.in-Some.is) ∙ c.in_ok-assignment.ensures.found ∙ ap (λ (ns : List (List ℕ)). let_of (number_asked ns 0 no_parts) m.tree x) c.names-names.ensures in
    let form : false ≡ is_let_form (asked_by s.names) (number_image s) m x e =
    sym c.if-branch.false ∙ c.in_ok-is_let_form.ensures
    ∙ (λ j. is_let_form (number_asked s.names ((c.self_name.ensures ∙ ap self_in c.names-names.ensures) j) no_parts) (number_image s) (entry_of s (c.code_of.ensures j)) x e) in
    let o = owner_of s (owner.Method c.args.method.now.slot) in
    let reads : List (WitnessOf ℕ) = map (a_node o) (reads_of (asked_by s.names) m.tree x) in
    on_ok_weaker c.reads.result
    (λ q. q
    ∙ further (shown s c.push_node_if.new.found.items) old (a_node o c.in_ok-path.path ∷ []) reads (c.in_ok-push_node_if.ensures s)
    ∙ (λ j. old ++ (a_node (c.requires.held.owner j) (c.in_ok-path.ensures j) ∷ map (a_node (c.requires.held.owner j)) (reads_of (asked_by s.names) m.tree x)))
    ∙ ap (λ (ws : List (WitnessOf ℕ)). old ++ ws) (assigned s m x e false one form))
    c.reads.ensures
