use Rattle.std.proofs.Common.{◌++◌, ℕ, List, map, append_assoc, ap, ◌∙◌}
use Rattle.std.proofs.lemmas.Result.{on_ok_weaker}
use Rattle.image_model.specs.Uses.{class_uses}
use Rattle.image_model.specs.Words.{number_words}
use Rattle.class_table.specs.View.{number_image}
use Rattle.refusal_witnesses.specs.Witnesses.{WitnessOf, a_use}
use Rattle.witness_lists.specs.Views.{shown}
use Rattle.use_witnesses.specs.Reached.{supers_begin}
use Rattle.use_witnesses.proofs.Told.{class-told}
use Rattle.use_witnesses.proofs.reached.reachings.Goals as goal

pub returns : goal.returns
returns g c =
    let s = c.args.image.now in
    let n = c.args.class in
    let old = shown s c.args.found.now.items in
    let last = supers_begin s n c.args.selector in
    on_ok_weaker c.supers_begin.result
    (λ e. e ∙ ap (λ (ws : List (WitnessOf ℕ)). ws ++ last) (c.in_ok-uses_there.ensures ∙ ap (λ (ws : List (WitnessOf ℕ)). old ++ ws) (class-told s n))
    ∙ append_assoc old (map a_use (class_uses (number_words s.names) (number_image s) n)) last)
    c.supers_begin.ensures
