use Rattle.std.proofs.Common.{ℕ, ◌||◌, ◌++◌, List, Some, sym, ap, ◌∙◌}
use Rattle.std.specs.Prelude.{nat_eq}
use Rattle.std.specs.List.{list_any}
use Rattle.class_questions.proofs.AnyLive.{live-live_at}
use Rattle.image_strip.specs.Least.{option_names}
use Rattle.image_strip.specs.Reached.{is_marked}
use Rattle.image_strip.proofs.Visits.{raised}
use Rattle.image_strip.proofs.least.raise.Goals as goal

pub returns : goal.returns
returns c =
    let s = c.args.image.now in
    let k = c.args.id in
    let rec = c.in-Some.rec.now in
    let at = live-live_at s.classes s.class_order k rec (sym c.in-Some.ensures) in
    raised s c.requires.orderly k rec c.requires.live at.1 c.args.reach.now c.add_names.new.self _
    (c.in_ok-put_name-2.ensures ∙ ap (λ (xs : List ℕ). xs ++ option_names s rec.superclass) (c.in_ok-put_name.ensures ∙ ap (λ (xs : List ℕ). xs ++ option_names s (Some k)) c.new-classes.ensures))
    c.in_ok-add_names.ensures.classes
    (λ n. c.in_ok-add_names.ensures.selectors n ∙ ap (λ (xs : List ℕ). list_any (nat_eq n) xs || is_marked c.args.reach.now.selectors n) c.new.ensures) c.in_ok-add_names.ensures.methods
    (sym c.is_class_closed.ensures ∙ c.if-is_class_closed.false)
