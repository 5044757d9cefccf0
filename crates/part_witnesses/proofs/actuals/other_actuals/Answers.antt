use Rattle.std.proofs.Common.{◌≡◌, ◌+◌, ℕ, suc, List, ◌∷◌, ◌++◌, drop, append_assoc, sym, ap, ◌∙◌, arith}
use Rattle.std.proofs.Math.Seq.{drop-cons}
use Rattle.std.specs.List.{enumerate_from, flat_map}
use Rattle.class_table.specs.View.{number_image}
use Rattle.commands.specs.Views.{asked_by}
use Rattle.inlined_code.specs.Sending.{send_of}
use Rattle.refusal_witnesses.specs.InlineWitnesses.{other_actual}
use Rattle.refusal_witnesses.specs.Witnesses.{WitnessOf}
use Rattle.witness_lists.specs.Views.{shown}
use Rattle.part_witnesses.specs.Held.{held_as}
use Rattle.part_witnesses.proofs.actuals.other_actuals.Goals as goal

pub loop-number-preserved : goal.loop-number-preserved
loop-number-preserved c =
    let s = c.args.image.now in
    let it = c.args.sending.now in
    let f : ℕ × ℕ → List (WitnessOf ℕ) = other_actual (asked_by s.names) (number_image s) (held_as s.classes it.method.now) (send_of it.call.sent) (held_as s.classes it.target.now) in
    let k = c.loop-number.number in
    let xs = c.as_slice-formals.result.now in
    let x = c.index-formals-number.result in
    let all = shown s c.loop-number.found.items in
    let one : k + 1 ≡ suc k = omega arith in
    let rest : List (WitnessOf ℕ) = flat_map f (enumerate_from (k + 1) (drop (suc k) xs)) in
    (λ j. shown s c.other_actual.new.found.items ++ flat_map f (enumerate_from (k + 1) (drop (one j) xs)))
    ∙ ap (λ (ws : List (WitnessOf ℕ)). ws ++ rest) c.in_ok-other_actual.ensures
    ∙ append_assoc all (f (k, x)) rest
    ∙ ap (λ (ys : List ℕ). all ++ flat_map f (enumerate_from k ys)) (ap (λ (y : ℕ). y ∷ drop (suc k) xs) c.index-formals-number.is ∙ sym (drop-cons xs k x c.loop-number-test.true))
    ∙ c.loop-number.invariant
