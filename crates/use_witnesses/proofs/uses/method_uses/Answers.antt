use Rattle.std.proofs.Common.{◌≡◌, ◌++◌, ℕ, List, [], Option, OnOk, None, Some, slice_get, option_copied, sym, ap, subst, ◌∙◌}
use Rattle.std.proofs.lemmas.List.{append-nil}
use Rattle.std.specs.Option.{option_map_or}
use Rattle.std.proofs.lemmas.Option.{slice_get-get_or, slice_get_past}
use Rattle.class_table.specs.declared.record.MethodInfo.{MethodInfo}
use Rattle.class_table.specs.Info.{IsInfoOf}
use Rattle.class_table.specs.View.{live_at}
use Rattle.refusal_witnesses.specs.Witnesses.{WitnessOf}
use Rattle.witness_lists.specs.Views.{shown}
use Rattle.use_witnesses.specs.Uses.{slot_uses}
use Rattle.use_witnesses.proofs.Numbered.{none-there, unasked, asked}
use Rattle.use_witnesses.proofs.uses.method_uses.Goals as goal

pub returns-in_default : goal.returns-in_default
returns-in_default g c =
    let s = c.args.image.now in
    let old = shown s c.args.found.now.items in
    let xs = c.methods.result.now in
    let none : slice_get s.method_order c.args.number ≡ None = ap (λ (ys : List ℕ). slice_get ys c.args.number) (sym c.methods.ensures.value) ∙ slice_get_past xs c.args.number c.in_default.ensures.lookup.3 in
    sym (append-nil old)
    ∙ sym (ap (λ (o : Option ℕ). old ++ option_map_or (λ slot. slot_uses s c.args.sought.now (c.args.number, slot)) o []) none)

pub returns-in_default-method_info : goal.returns-in_default-method_info
returns-in_default-method_info g c =
    let s = c.args.image.now in
    let old = shown s c.args.found.now.items in
    let xs = c.methods.result.now in
    let at : slice_get s.method_order c.args.number ≡ Some c.in-Some.slot.now =
    ap (λ (ys : List ℕ). slice_get ys c.args.number) (sym c.methods.ensures.value) ∙ slice_get-get_or xs c.args.number c.in-Some.slot.now c.in-Some.ensures.lookup.3.0 ∙ ap Some (sym c.in-Some.ensures.lookup.1) in
    sym (append-nil old)
    ∙ ap (λ (ws : List (WitnessOf ℕ)). old ++ ws)
    (none-there s c.args.sought.now c.args.number c.in-Some.slot.now at
    (subst (λ (o : Option MethodInfo). IsInfoOf o (live_at s.methods s.method_order c.in-Some.slot.now)) c.in_default-method_info.is c.method_info.ensures))

pub returns-then-not-is_asked : goal.returns-then-not-is_asked
returns-then-not-is_asked g c =
    let s = c.args.image.now in
    let old = shown s c.args.found.now.items in
    let xs = c.methods.result.now in
    let at : slice_get s.method_order c.args.number ≡ Some c.in-Some.slot.now =
    ap (λ (ys : List ℕ). slice_get ys c.args.number) (sym c.methods.ensures.value) ∙ slice_get-get_or xs c.args.number c.in-Some.slot.now c.in-Some.ensures.lookup.3.0 ∙ ap Some (sym c.in-Some.ensures.lookup.1) in
    sym (append-nil old)
    ∙ ap (λ (ws : List (WitnessOf ℕ)). old ++ ws)
    (unasked s c.args.sought.now c.args.number c.in-Some.slot.now at c.in-Some-method_info.info c.in-Some-method_info.ensures c.is_asked.result c.is_asked.ensures c.if-not-is_asked.true)

pub returns-in-Some-open_body : goal.returns-in-Some-open_body
returns-in-Some-open_body g c =
    let s = c.args.image.now in
    let xs = c.methods.result.now in
    let at : slice_get s.method_order c.args.number ≡ Some c.in-Some.slot.now =
    ap (λ (ys : List ℕ). slice_get ys c.args.number) (sym c.methods.ensures.value) ∙ slice_get-get_or xs c.args.number c.in-Some.slot.now c.in-Some.ensures.lookup.3.0 ∙ ap Some (sym c.in-Some.ensures.lookup.1) in
    subst (λ (ws : List (WitnessOf ℕ)). OnOk c.uses_in_code.result (shown s c.uses_in_code.new.found.items ≡ shown s c.args.found.now.items ++ ws))
    (asked s c.args.sought.now c.args.number c.in-Some.slot.now at c.in-Some-method_info.info c.in-Some-method_info.ensures c.is_asked.result c.is_asked.ensures c.if-not-is_asked.false c.in-Some-open_body.tree
    (sym (ap option_copied c.in-Some-open_body.is) ∙ c.open_body.ensures.tree))
    c.uses_in_code.ensures
