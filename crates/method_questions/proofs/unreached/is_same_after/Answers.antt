use Rattle.std.proofs.Common.{◌≡◌, ap, sym, ◌∙◌}
use Rattle.class_table.proofs.Live.{eqb-equal}
use Rattle.method_questions.specs.Found.{opened_at, are_same}
use Rattle.method_questions.specs.Moves.{after_entry}
use Rattle.method_questions.proofs.Selves.{same-self}
use Rattle.method_questions.proofs.unreached.is_same_after.Goals as goal

pub returns-then-eq : goal.returns-then-eq
returns-then-eq g c =
    let s = c.args.image.now in
    let is : c.in-There.other ≡ c.args.slot = eqb-equal c.in-There.other c.args.slot (sym c.eq.ensures ∙ c.if-eq.true) in
    sym (same-self s (opened_at s c.args.slot) c.requires.slot)
    ∙ ap (λ y. are_same s (opened_at s c.args.slot) (opened_at s y)) (sym is)
    ∙ ap (λ a. are_same s (opened_at s c.args.slot) (after_entry s c.args.moved.now a)) (sym c.in-There.is)
