use Rattle.std.proofs.Common.{◌≡◌, ℕ, List, [], ◌++◌, OnOk, Some, None, option_map, sym, ap, subst, ◌∙◌, arith, rules}
use Rattle.std.proofs.lemmas.Grind.{common_steps}
use Rattle.image_model.specs.Image.{EntryOf}
use Rattle.command_model.specs.Asked.{no_parts}
use Rattle.command_model.specs.Numbers.{number_asked}
use Rattle.command_model.specs.Temporaries.{LetOf, let_of}
use Rattle.commands.specs.Views.{asked_by}
use Rattle.commands.specs.declared.condition.Condition.{Condition}
use Rattle.let_code.specs.Lets.{let_as}
use Rattle.refusal_witnesses.specs.Witnesses.{WitnessOf}
use Rattle.witness_lists.specs.Views.{shown}
use Rattle.part_witnesses.specs.Held.{held_as}
use Rattle.part_witnesses.specs.Standing.{let_standing}
use Rattle.part_witnesses.proofs.Assigned.{no-let, one-let}
use Rattle.part_witnesses.proofs.Pushed.{nothing}
use Rattle.part_witnesses.proofs.temporaries.assigned_standing.Goals as goal

pub returns-in_default : goal.returns-in_default
returns-in_default c =
    let s = c.args.image.now in
    let m : EntryOf ℕ = held_as s.classes c.args.method.now in
    let x = c.args.variable in
    let none : None ≡ let_of (asked_by s.names) m.tree x =
    sym (ap (option_map let_as) c.in_default.is) ∙ c.in_ok-assignment.ensures.found ∙ ap (λ (ns : List (List ℕ)). let_of (number_asked ns 0 no_parts) m.tree x) c.names.ensures in
    nothing (shown s c.args.found.now.items) _ (no-let s m x c.args.condition.now none)

pub returns-in-NoCapture : goal.returns-in-NoCapture
returns-in-NoCapture c =
    let s = c.args.image.now in
    let m : EntryOf ℕ = held_as s.classes c.args.method.now in
    let x = c.args.variable in
    let e : LetOf ℕ = let_as c.in-Some.assignment in
    let one : Some e ≡ let_of (asked_by s.names) m.tree x =
    sym (ap (option_map let_as) c.in-Some.is) ∙ c.in_ok-assignment.ensures.found ∙ ap (λ (ns : List (List ℕ)). let_of (number_asked ns 0 no_parts) m.tree x) c.names.ensures in
    subst (λ (ws : List (WitnessOf ℕ)). OnOk c.changed_names.result (shown s c.changed_names.new.found.items ≡ shown s c.args.found.now.items ++ ws))
    (ap (λ (q : Condition). let_standing s q x m e) (sym c.in-NoCapture.is) ∙ one-let s m x c.args.condition.now e one)
    c.changed_names.ensures

pub returns-in-NoNewControl : goal.returns-in-NoNewControl
returns-in-NoNewControl c =
    let s = c.args.image.now in
    let m : EntryOf ℕ = held_as s.classes c.args.method.now in
    let x = c.args.variable in
    let e : LetOf ℕ = let_as c.in-Some.assignment in
    let one : Some e ≡ let_of (asked_by s.names) m.tree x =
    sym (ap (option_map let_as) c.in-Some.is) ∙ c.in_ok-assignment.ensures.found ∙ ap (λ (ns : List (List ℕ)). let_of (number_asked ns 0 no_parts) m.tree x) c.names.ensures in
    subst (λ (ws : List (WitnessOf ℕ)). OnOk c.new_controls.result (shown s c.new_controls.new.found.items ≡ shown s c.args.found.now.items ++ ws))
    (ap (λ (q : Condition). let_standing s q x m e) (sym c.in-NoNewControl.is) ∙ one-let s m x c.args.condition.now e one)
    c.new_controls.ensures

pub returns : goal.returns
returns c =
    let s = c.args.image.now in
    let m : EntryOf ℕ = held_as s.classes c.args.method.now in
    let x = c.args.variable in
    let e : LetOf ℕ = let_as c.in-Some.assignment in
    let one : Some e ≡ let_of (asked_by s.names) m.tree x =
    sym (ap (option_map let_as) c.in-Some.is) ∙ c.in_ok-assignment.ensures.found ∙ ap (λ (ns : List (List ℕ)). let_of (number_asked ns 0 no_parts) m.tree x) c.names.ensures in
    let other : [] ≡ let_standing s c.args.condition.now x m e = first_of (search rules, grind (arith, common_steps)) in
    nothing (shown s c.args.found.now.items) _ (other ∙ one-let s m x c.args.condition.now e one)
