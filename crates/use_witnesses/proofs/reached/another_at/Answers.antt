use Rattle.std.proofs.Common.{◌≡◌, ◌++◌, ℕ, true, List, [], ◌∷◌, Some, option_copied, append_assoc, sym, ap, ◌∙◌}
use Rattle.std.proofs.lemmas.List.{append-nil}
use Rattle.std.proofs.lemmas.Result.{on_ok_weaker}
use Rattle.image_model.specs.Words.{number_words}
use Rattle.class_table.specs.View.{live_at, number_image}
use Rattle.commands.specs.Views.{asked_by}
use Rattle.refusal_witnesses.specs.MethodWitnesses.{reachings}
use Rattle.refusal_witnesses.specs.Witnesses.{WitnessOf, AClass}
use Rattle.witness_lists.specs.Views.{shown}
use Rattle.use_witnesses.proofs.Reaches.{another-is, none-other}
use Rattle.use_witnesses.proofs.reached.another_at.Goals as goal

pub returns-in_default : goal.returns-in_default
returns-in_default g c =
    let s = c.args.image.now in
    let old = shown s c.args.found.now.items in
    sym (append-nil old)
    ∙ ap (λ (ws : List (WitnessOf ℕ)). old ++ ws) (none-other s c.args.moved.now c.args.class (sym (ap option_copied c.in_default.is) ∙ c.class_rec.ensures))

pub returns-then-not-branch : goal.returns-then-not-branch
returns-then-not-branch g c =
    let s = c.args.image.now in
    let old = shown s c.args.found.now.items in
    let told : live_at s.classes s.class_order c.args.class ≡ Some c.in-Some.rec.now = sym c.class_rec.ensures ∙ ap option_copied c.in-Some.is in
    sym (append-nil old)
    ∙ ap (λ (ws : List (WitnessOf ℕ)). old ++ ws)
    (another-is s c.args.moved.now c.args.class c.in-Some.rec.now told _ (sym c.in_ok-is_one_reached.ensures ∙ c.if-not-branch.true))

pub returns : goal.returns
returns g c =
    let s = c.args.image.now in
    let v = c.args.moved.now in
    let n = c.in-Some.rec.now.name in
    let old = shown s c.args.found.now.items in
    let told : live_at s.classes s.class_order c.args.class ≡ Some c.in-Some.rec.now = sym c.class_rec.ensures ∙ ap option_copied c.in-Some.is in
    let last = reachings (number_words s.names) (asked_by s.names).is_super (number_image s) n v.selector in
    on_ok_weaker c.reachings.result
    (λ e. e ∙ ap (λ (ws : List (WitnessOf ℕ)). ws ++ last) (c.in_ok-push_if.ensures s) ∙ append_assoc old (AClass n ∷ []) last
    ∙ ap (λ (ws : List (WitnessOf ℕ)). old ++ ws) (another-is s v c.args.class c.in-Some.rec.now told true (sym c.in_ok-is_one_reached.ensures ∙ c.if-not-branch.false)))
    c.reachings.ensures
