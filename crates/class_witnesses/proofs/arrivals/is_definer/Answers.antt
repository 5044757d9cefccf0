use Rattle.std.proofs.Common.{◌≡◌, ◌&&◌, Some, option_copied, ap, sym, ◌∙◌}
use Rattle.class_table.specs.View.{live_at}
use Rattle.hierarchy_questions.specs.Arrivals.{is_beside}
use Rattle.hierarchy_questions.proofs.Beside.{defined-told}
use Rattle.class_witnesses.proofs.arrivals.is_definer.Goals as goal

pub returns-then-defines_any : goal.returns-then-defines_any
returns-then-defines_any c =
    let s = c.args.image.now in
    let a = c.args.arrival.now in
    let told : live_at s.classes s.class_order c.args.id ≡ Some c.in-Some.rec.now = sym c.class_rec.ensures ∙ ap option_copied c.in-Some.is in
    let defined = sym c.if-defines_any.true ∙ c.defines_any.ensures in
    c.is_beside.ensures ∙ (λ i. defined i && is_beside s a c.args.id) ∙ sym (defined-told s a c.requires c.args.id c.in-Some.rec.now told)

pub returns-else-defines_any : goal.returns-else-defines_any
returns-else-defines_any c =
    let s = c.args.image.now in
    let a = c.args.arrival.now in
    let told : live_at s.classes s.class_order c.args.id ≡ Some c.in-Some.rec.now = sym c.class_rec.ensures ∙ ap option_copied c.in-Some.is in
    let defined = sym c.if-defines_any.false ∙ c.defines_any.ensures in
    c.if-defines_any.false ∙ (λ i. defined i && is_beside s a c.args.id) ∙ sym (defined-told s a c.requires c.args.id c.in-Some.rec.now told)
