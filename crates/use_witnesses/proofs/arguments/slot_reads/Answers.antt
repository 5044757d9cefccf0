use Rattle.std.proofs.Common.{◌≡◌, ◌++◌, ◌-◌, ◌||◌, not, ℕ, Bool, false, List, Option, None, Some, OnOk, slice_get, option_copied, sym, ap, subst, ◌∙◌}
use Rattle.std.specs.Prelude.{nat_eq}
use Rattle.std.proofs.Math.Bool.{or-true}
use Rattle.std.proofs.lemmas.List.{append-nil}
use Rattle.std.proofs.lemmas.Option.{slice_get-get_or, slice_get_past}
use Rattle.st_tree.specs.View.{method_of}
use Rattle.class_table.specs.declared.record.MethodInfo.{MethodInfo}
use Rattle.class_table.specs.Info.{IsInfoOf}
use Rattle.class_table.specs.View.{live_at}
use Rattle.refusal_witnesses.specs.Witnesses.{WitnessOf}
use Rattle.witness_lists.specs.Views.{shown}
use Rattle.use_witnesses.proofs.Formals.{unread-slot, unasked, asked}
use Rattle.use_witnesses.proofs.arguments.slot_reads.Goals as goal

pub returns-in_default : goal.returns-in_default
returns-in_default g c =
    let s = c.args.image.now in
    let old = shown s c.args.found.now.items in
    sym (append-nil old)
    ∙ ap (λ (ws : List (WitnessOf ℕ)). old ++ ws)
    (unread-slot s c.args.selector c.args.argument c.args.slot (subst (λ (o : Option MethodInfo). IsInfoOf o (live_at s.methods s.method_order c.args.slot)) c.in_default.is c.method_info.ensures))

pub returns-then-info : goal.returns-then-info
returns-then-info g c =
    let s = c.args.image.now in
    let n = c.args.selector in
    let info = c.in-Some.info in
    let old = shown s c.args.found.now.items in
    sym (append-nil old)
    ∙ ap (λ (ws : List (WitnessOf ℕ)). old ++ ws)
    (unasked s n c.args.argument c.args.slot info c.in-Some.ensures (ap (λ (b : Bool). b || not (nat_eq n info.selector)) c.if-info.true))

pub returns-then-ne : goal.returns-then-ne
returns-then-ne g c =
    let s = c.args.image.now in
    let n = c.args.selector in
    let info = c.in-Some.info in
    let old = shown s c.args.found.now.items in
    sym (append-nil old)
    ∙ ap (λ (ws : List (WitnessOf ℕ)). old ++ ws)
    (unasked s n c.args.argument c.args.slot info c.in-Some.ensures (ap (λ (b : Bool). info.kernel || b) (sym c.ne.ensures ∙ c.if-ne.true) ∙ or-true info.kernel))

pub returns-in-None : goal.returns-in-None
returns-in-None g c =
    let s = c.args.image.now in
    let n = c.args.selector in
    let info = c.in-Some.info in
    let off : (info.kernel || not (nat_eq n info.selector)) ≡ false = (λ i. c.if-info.false i || (sym c.ne.ensures ∙ c.if-ne.false) i) in
    let m = method_of c.in-Some-open_body.tree.now in
    let xs = c.as_slice.result.now in
    let none : slice_get m.arguments (c.args.argument - 1) ≡ None =
    ap (slice_get m.arguments) (sym c.saturating_sub.ensures) ∙ ap (λ (ys : List ℕ). slice_get ys c.saturating_sub.result) (sym c.as_slice.ensures) ∙ slice_get_past xs c.saturating_sub.result c.in-None.ensures.lookup.3 in
    subst (λ (ws : List (WitnessOf ℕ)). OnOk c.push_if.result (shown s c.push_if.new.found.items ≡ shown s c.args.found.now.items ++ ws))
    (asked s n c.args.argument c.args.slot info c.in-Some.ensures off c.in-Some-open_body.tree.now (sym (ap option_copied c.in-Some-open_body.is) ∙ c.open_body.ensures.tree) None none)
    (c.push_if.ensures s)

pub returns-in-Some-get : goal.returns-in-Some-get
returns-in-Some-get g c =
    let s = c.args.image.now in
    let n = c.args.selector in
    let info = c.in-Some.info in
    let off : (info.kernel || not (nat_eq n info.selector)) ≡ false = (λ i. c.if-info.false i || (sym c.ne.ensures ∙ c.if-ne.false) i) in
    let m = method_of c.in-Some-open_body.tree.now in
    let xs = c.as_slice.result.now in
    let k = c.saturating_sub.result in
    let x = c.in-Some-get.name.now in
    let there : slice_get m.arguments (c.args.argument - 1) ≡ Some x =
    ap (slice_get m.arguments) (sym c.saturating_sub.ensures) ∙ ap (λ (ys : List ℕ). slice_get ys k) (sym c.as_slice.ensures) ∙ slice_get-get_or xs k x c.in-Some-get.ensures.lookup.3.0 ∙ ap Some (sym c.in-Some-get.ensures.lookup.1) in
    subst (λ (ws : List (WitnessOf ℕ)). OnOk c.reads_in.result (shown s c.reads_in.new.found.items ≡ shown s c.args.found.now.items ++ ws))
    (asked s n c.args.argument c.args.slot info c.in-Some.ensures off c.in-Some-open_body.tree.now (sym (ap option_copied c.in-Some-open_body.is) ∙ c.open_body.ensures.tree) (Some x) there)
    c.reads_in.ensures
