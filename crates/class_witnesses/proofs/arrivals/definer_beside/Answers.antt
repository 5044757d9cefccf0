use Rattle.std.proofs.Common.{◌≡◌, ◌++◌, Bool, false, List, [], Some, Option, OnOk, option_copied, ap, sym, subst, ◌∙◌}
use Rattle.std.specs.Prelude.{ℕ}
use Rattle.std.specs.Option.{option_map_or}
use Rattle.class_table.specs.declared.record.ClassRec.{ClassRec}
use Rattle.class_table.specs.View.{class_of, live_at}
use Rattle.refusal_witnesses.specs.Witnesses.{WitnessOf, AClass, where_true}
use Rattle.hierarchy_questions.specs.Arrivals.{is_defined_beside}
use Rattle.witness_lists.specs.Classes.{class_found}
use Rattle.witness_lists.specs.Views.{shown}
use Rattle.class_witnesses.proofs.arrivals.definer_beside.Goals as goal

pub returns-in-Some : goal.returns-in-Some
returns-in-Some c =
    let s = c.args.image.now in
    let p = is_defined_beside s c.args.arrival.now in
    let n = c.in-Some.rec.now.name in
    let told : live_at s.classes s.class_order c.args.id ≡ Some c.in-Some.rec.now = sym c.class_rec.ensures ∙ ap option_copied c.in-Some.is in
    let e : where_true c.is_definer-is_definer.result (AClass n) ≡ class_found p s c.args.id =
    ap (λ (b : Bool). where_true b (AClass n)) (c.is_definer-is_definer.ensures ∙ ap (λ (o : Option ClassRec). option_map_or (λ (d : ClassRec). p (class_of s.classes d)) o false) told)
    ∙ sym (ap (λ (o : Option ClassRec). option_map_or (λ (d : ClassRec). where_true (p (class_of s.classes d)) (AClass d.name)) o []) told) in
    subst (λ (ws : List (WitnessOf ℕ)). OnOk c.push_if.result (shown s c.push_if.new.found.items ≡ shown s c.args.found.now.items ++ ws)) e (c.push_if.ensures s)
