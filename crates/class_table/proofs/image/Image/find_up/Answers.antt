use Rattle.std.proofs.Common.{◌≡◌, ◌-◌, Option, None, sym, ap, ◌∙◌, ℕ}
use Rattle.image_model.specs.Upwards.{upwards, first_given}
use Rattle.class_table.specs.Finding.{above, method_in}
use Rattle.class_table.proofs.Walks.{first-step, none-from_is_some}
use Rattle.class_table.proofs.image.Image.find_up.Goals as goal

pub loop-left-preserved : goal.loop-left-preserved
loop-left-preserved c =
    let up : ℕ → Option ℕ = above c.args.self.now.classes c.args.self.now.class_order in
    let own : ℕ → Option ℕ = λ k. method_in c.args.self.now.methods c.args.self.now.method_order (record { class = k; meta = c.args.meta; selector = c.args.selector }) in
    let nothing : own c.in_ok-class.class ≡ None =
    sym (c.method_of-found.ensures ∙ ap (method_in c.args.self.now.methods c.args.self.now.method_order) c.new.ensures)
    ∙ none-from_is_some c.method_of-found.result (sym c.is_some.ensures ∙ c.if-is_some.false) in
    ap (λ o. first_given own (upwards up (c.loop-left.left - 1) o)) c.above-at.ensures
    ∙ sym (first-step own up c.loop-left.left c.in_ok-class.class c.loop-left-test.true nothing)
    ∙ ap (λ o. first_given own (upwards up c.loop-left.left o)) (sym c.in_ok-class.was) ∙ c.loop-left.invariant
