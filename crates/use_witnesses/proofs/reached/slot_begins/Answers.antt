use Rattle.std.proofs.Common.{◌≡◌, ◌++◌, ℕ, List, Option, OnOk, sym, ap, subst, ◌∙◌}
use Rattle.std.proofs.lemmas.List.{append-nil}
use Rattle.class_table.specs.declared.record.MethodInfo.{MethodInfo}
use Rattle.class_table.specs.Info.{IsInfoOf}
use Rattle.class_table.specs.View.{live_at}
use Rattle.refusal_witnesses.specs.Witnesses.{WitnessOf}
use Rattle.witness_lists.specs.Views.{shown}
use Rattle.use_witnesses.proofs.Reaches.{none-begins, others-begin, here-begins}
use Rattle.use_witnesses.proofs.reached.slot_begins.Goals as goal

pub returns-in_default : goal.returns-in_default
returns-in_default g c =
    let s = c.args.image.now in
    let old = shown s c.args.found.now.items in
    sym (append-nil old)
    ∙ ap (λ (ws : List (WitnessOf ℕ)). old ++ ws)
    (none-begins s c.args.class c.args.selector c.args.slot (subst (λ (o : Option MethodInfo). IsInfoOf o (live_at s.methods s.method_order c.args.slot)) c.in_default.is c.method_info.ensures))

pub returns-then-not-is_child : goal.returns-then-not-is_child
returns-then-not-is_child g c =
    let s = c.args.image.now in
    let old = shown s c.args.found.now.items in
    sym (append-nil old)
    ∙ ap (λ (ws : List (WitnessOf ℕ)). old ++ ws)
    (others-begin s c.args.class c.args.selector c.args.slot c.requires c.in-Some.info c.in-Some.ensures (sym c.is_child.ensures ∙ c.if-not-is_child.true))

pub returns : goal.returns
returns g c =
    let s = c.args.image.now in
    subst (λ (ws : List (WitnessOf ℕ)). OnOk c.slot_witnesses.result (shown s c.slot_witnesses.new.found.items ≡ shown s c.args.found.now.items ++ ws))
    (here-begins s c.args.class c.args.selector c.args.slot c.requires c.in-Some.info c.in-Some.ensures (sym c.is_child.ensures ∙ c.if-not-is_child.false))
    c.slot_witnesses.ensures
