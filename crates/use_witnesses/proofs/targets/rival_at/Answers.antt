use Rattle.std.proofs.Common.{◌≡◌, ◌++◌, ℕ, Bool, true, false, cond, List, [], Some, OnOk, option_copied, refl, sym, ap, subst, ◌∙◌}
use Rattle.std.specs.Prelude.{nat_eq}
use Rattle.std.proofs.lemmas.List.{append-nil}
use Rattle.std.proofs.Math.Bool.{and-false}
use Rattle.rename_model.specs.Conditions.{stands_below}
use Rattle.class_table.specs.View.{class_of, live_at, number_image}
use Rattle.refusal_witnesses.specs.MethodWitnesses.{method_there}
use Rattle.refusal_witnesses.specs.Witnesses.{WitnessOf}
use Rattle.witness_lists.specs.Views.{shown}
use Rattle.use_witnesses.proofs.Found.{no-rival, stands-told, rival-told}
use Rattle.use_witnesses.proofs.targets.rival_at.Goals as goal

pub returns-in_default : goal.returns-in_default
returns-in_default c =
    let s = c.args.image.now in
    let old = shown s c.args.found.now.items in
    sym (append-nil old)
    ∙ ap (λ (ws : List (WitnessOf ℕ)). old ++ ws) (no-rival s c.args.method.now c.args.class (sym (ap option_copied c.in_default.is) ∙ c.class_rec.ensures))

pub returns-then-eq : goal.returns-then-eq
returns-then-eq c =
    let s = c.args.image.now in
    let n = c.args.method.now in
    let rec = c.in-Some.rec.now in
    let old = shown s c.args.found.now.items in
    let told : live_at s.classes s.class_order c.args.class ≡ Some rec = sym c.class_rec.ensures ∙ ap option_copied c.in-Some.is in
    let stands = stands_below nat_eq (number_image s).classes n.class (class_of s.classes rec) in
    sym (append-nil old)
    ∙ ap (λ (ws : List (WitnessOf ℕ)). old ++ ws)
    (sym (ap (λ (b : Bool). cond b (method_there nat_eq (number_image s) rec.name n.meta n.selector) []) (and-false stands))
    ∙ rival-told s n c.args.class c.requires rec told true stands (sym c.eq.ensures ∙ c.if-eq.true) refl)

pub returns-then-not-stands_above : goal.returns-then-not-stands_above
returns-then-not-stands_above c =
    let s = c.args.image.now in
    let n = c.args.method.now in
    let rec = c.in-Some.rec.now in
    let old = shown s c.args.found.now.items in
    let told : live_at s.classes s.class_order c.args.class ≡ Some rec = sym c.class_rec.ensures ∙ ap option_copied c.in-Some.is in
    sym (append-nil old)
    ∙ ap (λ (ws : List (WitnessOf ℕ)). old ++ ws)
    (rival-told s n c.args.class c.requires rec told false false (sym c.eq.ensures ∙ c.if-eq.false) (sym (stands-told s n c.args.class c.requires rec told) ∙ sym c.stands_above.ensures ∙ c.if-not-stands_above.true))

pub returns : goal.returns
returns c =
    let s = c.args.image.now in
    let n = c.args.method.now in
    let rec = c.in-Some.rec.now in
    let told : live_at s.classes s.class_order c.args.class ≡ Some rec = sym c.class_rec.ensures ∙ ap option_copied c.in-Some.is in
    subst (λ (ws : List (WitnessOf ℕ)). OnOk c.method_there.result (shown s c.method_there.new.found.items ≡ shown s c.args.found.now.items ++ ws))
    (rival-told s n c.args.class c.requires rec told false true (sym c.eq.ensures ∙ c.if-eq.false) (sym (stands-told s n c.args.class c.requires rec told) ∙ sym c.stands_above.ensures ∙ c.if-not-stands_above.false))
    c.method_there.ensures
