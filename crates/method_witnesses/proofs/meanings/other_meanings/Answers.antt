use Rattle.std.proofs.Common.{◌≡◌, ◌++◌, ℕ, true≢false, List, Option, OnOk, is_some, option_copied, option_and_then, ap, sym, subst, refl, ◌∙◌}
use Rattle.std.proofs.lemmas.List.{append-nil}
use Rattle.image_model.specs.Image.{EntryOf}
use Rattle.image_model.specs.Words.{number_words}
use Rattle.class_table.specs.declared.record.MethodInfo.{MethodInfo}
use Rattle.class_table.specs.Info.{IsInfoOf}
use Rattle.class_table.specs.View.{class_at, live_at, number_image}
use Rattle.class_table.proofs.Found.{class_named-named_in}
use Rattle.class_questions.proofs.ChainLaws.{named-slot}
use Rattle.command_model.specs.MethodEffects.{of_class_named}
use Rattle.refusal_witnesses.specs.Witnesses.{WitnessOf}
use Rattle.refusal_witnesses.specs.MethodWitnesses as model
use Rattle.witness_lists.specs.Views.{shown}
use Rattle.method_witnesses.specs.declared.meanings.Moved.{Moved}
use Rattle.method_witnesses.proofs.Own.{none-gathered, untold}
use Rattle.method_witnesses.proofs.Moves.{moved-told}
use Rattle.method_witnesses.proofs.meanings.other_meanings.Goals as goal

pub returns-in_default : goal.returns-in_default
returns-in_default g c =
    let s = c.args.image.now in
    let none = class_named-named_in s c.args.to ∙ ap (option_and_then (class_at s)) (sym c.class_named.ensures ∙ c.in_default.is) in
    λ is. absurd (true≢false (sym is ∙ ap is_some none))

pub returns-in_default-own_method : goal.returns-in_default-own_method
returns-in_default-own_method g c =
    let s = c.args.image.now in
    let m = c.args.method in
    let old = shown s c.args.found.now.items in
    λ is. sym (append-nil old)
    ∙ ap (λ (ws : List (WitnessOf ℕ)). old ++ ws)
    (none-gathered s c.requires m.class m.meta m.selector (λ (x : EntryOf ℕ). model.differences (number_words s.names) (number_image s) x (number_image s) (of_class_named x c.args.to)) (sym c.own_method.ensures ∙ c.in_default-own_method.is))

pub returns-in_default-method_info : goal.returns-in_default-method_info
returns-in_default-method_info g c =
    let m = c.args.method in
    absurd (untold c.args.image.now c.requires m.class m.meta m.selector c.in-Some-own_method.slot (sym c.own_method.ensures ∙ c.in-Some-own_method.is)
    (subst (λ (o : Option MethodInfo). IsInfoOf o (live_at c.args.image.now.methods c.args.image.now.method_order c.in-Some-own_method.slot)) c.in_default-method_info.is c.method_info.ensures))

pub differences-requires-clause-other_live : goal.differences-requires-clause-other_live
differences-requires-clause-other_live g c =
    let s = c.args.image.now in
    (named-slot s.classes s.class_order c.args.to c.in-Some.to (sym c.class_named.ensures ∙ c.in-Some.is)).0

pub returns : goal.returns
returns g c =
    let s = c.args.image.now in
    let m = c.args.method in
    let moved : Moved = record { slot = c.in-Some-own_method.slot; class = c.in-Some-method_info.info.class; meta = c.in-Some-method_info.info.meta; tree = c.in-Some-open_body.tree; to = c.in-Some.to } in
    λ is. subst (λ (ws : List (WitnessOf ℕ)). OnOk c.differences.result (shown s c.differences.new.found.items ≡ shown s c.args.found.now.items ++ ws))
    (moved-told s c.requires m.class m.meta m.selector c.args.to c.in-Some-own_method.slot c.in-Some.to c.in-Some-method_info.info moved (sym c.own_method.ensures ∙ c.in-Some-own_method.is) (sym c.class_named.ensures ∙ c.in-Some.is) c.in-Some-method_info.ensures
    (sym (ap option_copied c.in-Some-open_body.is) ∙ c.open_body.ensures.tree) refl refl refl refl)
    c.differences.ensures
