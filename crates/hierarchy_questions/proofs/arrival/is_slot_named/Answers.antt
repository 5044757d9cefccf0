use Rattle.std.proofs.Common.{◌≡◌, Bool, sym, ◌∙◌, ap, option_copied}
use Rattle.std.proofs.lemmas.Result.{IfOk-weaker}
use Rattle.st_tree.specs.View.{method_of}
use Rattle.class_table.specs.View.{live_at}
use Rattle.class_table.specs.declared.record.Place.TheVariants as place
use Rattle.hierarchy_questions.specs.Arrivals.{is_in_tree, is_place_named}
use Rattle.hierarchy_questions.proofs.Beside.{apart-told, beside-told}
use Rattle.hierarchy_questions.proofs.arrival.is_slot_named.Goals as goal

pub returns-then-not-is_beside : goal.returns-then-not-is_beside
returns-then-not-is_beside g c =
    let s = c.args.image.now in
    apart-told s c.args.arrival.now c.in-Some.info (live_at s.methods s.method_order c.args.slot) c.in-Some.ensures (sym c.is_beside.ensures ∙ c.if-not-is_beside.true)

pub returns-in-Some-open_body : goal.returns-in-Some-open_body
returns-in-Some-open_body g c =
    let s = c.args.image.now in
    let a = c.args.arrival.now in
    let t = c.in-Some-open_body.tree.now in
    IfOk-weaker c.is_named_in.result (λ (is : Bool). is ≡ is_in_tree a.variable (method_of t)) (λ (is : Bool). is ≡ is_place_named s a (place.Method c.args.slot))
    (λ is e. e ∙ beside-told s a c.in-Some.info t (live_at s.methods s.method_order c.args.slot) c.in-Some.ensures (sym (ap option_copied c.in-Some-open_body.is) ∙ c.open_body.ensures.tree) (sym c.is_beside.ensures ∙ c.if-not-is_beside.false))
    c.is_named_in.ensures
