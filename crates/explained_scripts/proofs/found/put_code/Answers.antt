use Rattle.std.proofs.Common.{List, ℕ, ◌++◌, sym, ap, ◌∙◌}
use Rattle.std.proofs.lemmas.Result.{on_ok_weaker}
use Rattle.commands.specs.Views.{command_of, condition_of}
use Rattle.commands.specs.declared.condition.Condition.{Condition}
use Rattle.refusal_witnesses.specs.Witnesses.{WitnessOf}
use Rattle.witness_lists.specs.Views.{shown}
use Rattle.explained_scripts.specs.Families.{at_spot, of_code}
use Rattle.explained_scripts.proofs.Spots.{captured-there, control-there}
use Rattle.explained_scripts.proofs.found.put_code.Goals as goal

pub returns-in-NoCapture : goal.returns-in-NoCapture
returns-in-NoCapture g c =
    let s = c.args.image.now in
    let command = command_of c.args.command.now in
    let m = c.in-NoCapture.method in
    let p = c.in-NoCapture.spot in
    on_ok_weaker c.put_spot.result
    (λ e. e ∙ ap (λ (ws : List (WitnessOf ℕ)). shown s c.args.found.now.items ++ ws) (ap (λ (q : Condition). at_spot s m p q) c.in-NoCapture.is ∙ captured-there s command m p ∙ ap (λ (q : Condition). of_code s command (condition_of q)) (sym c.in-NoCapture.is)))
    c.put_spot.ensures

pub returns-in-NoNewControl : goal.returns-in-NoNewControl
returns-in-NoNewControl g c =
    let s = c.args.image.now in
    let command = command_of c.args.command.now in
    let m = c.in-NoNewControl.method in
    let p = c.in-NoNewControl.spot in
    on_ok_weaker c.put_spot-in-NoNewControl.result
    (λ e. e ∙ ap (λ (ws : List (WitnessOf ℕ)). shown s c.args.found.now.items ++ ws) (ap (λ (q : Condition). at_spot s m p q) c.in-NoNewControl.is ∙ control-there s command m p ∙ ap (λ (q : Condition). of_code s command (condition_of q)) (sym c.in-NoNewControl.is)))
    c.put_spot-in-NoNewControl.ensures
