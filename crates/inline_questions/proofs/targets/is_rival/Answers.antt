use Rattle.std.proofs.Common.{rules, ◌≡◌, ℕ, is_none, Some, option_copied, ap, sym, ◌∙◌}
use Rattle.std.specs.Prelude.{nat_eq}
use Rattle.std.specs.List.{list_any}
use Rattle.image_model.specs.Image.{ClassOf}
use Rattle.rename_model.specs.Conditions.{stands_below}
use Rattle.class_table.specs.View.{class_of, live_at, number_image}
use Rattle.class_questions.proofs.AnyLive.{live-live_at}
use Rattle.class_questions.proofs.ChainLaws.{chain-class}
use Rattle.hierarchy_questions.specs.OwnMethods.{own_slot}
use Rattle.hierarchy_questions.proofs.OwnMethods.{none-same}
use Rattle.inline_questions.proofs.Rivals.{rival-itself, rival-without, rival-below}
use Rattle.inline_questions.proofs.targets.is_rival.Goals as goal

pub returns-then-eq : goal.returns-then-eq
returns-then-eq c =
    let s = c.args.image.now in
    let rec = c.in-Some.rec.now in
    let told : live_at s.classes s.class_order c.args.id ≡ Some rec = sym c.class_rec.ensures ∙ ap option_copied c.in-Some.is in
    rival-itself s c.args.method.now c.args.id rec told (sym c.eq.ensures ∙ c.if-eq.true)

pub returns-then-is_none : goal.returns-then-is_none
returns-then-is_none c =
    let s = c.args.image.now in
    let m = c.args.method.now in
    let rec = c.in-Some.rec.now in
    let told : live_at s.classes s.class_order c.args.id ≡ Some rec = sym c.class_rec.ensures ∙ ap option_copied c.in-Some.is in
    let none : c.is_none.result ≡ is_none (own_slot s rec.name m.meta m.selector) = search rules in
    rival-without s m c.args.id rec told (sym c.eq.ensures ∙ c.if-eq.false) (none-same s c.requires rec.name m.meta m.selector ∙ sym none ∙ c.if-is_none.true)

pub returns : goal.returns
returns c =
    let s = c.args.image.now in
    let m = c.args.method.now in
    let rec = c.in-Some.rec.now in
    let told : live_at s.classes s.class_order c.args.id ≡ Some rec = sym c.class_rec.ensures ∙ ap option_copied c.in-Some.is in
    let here = live-live_at s.classes s.class_order c.args.id rec told in
    let stands : c.stands_above.result ≡ stands_below nat_eq (number_image s).classes m.class (class_of s.classes rec) =
    c.stands_above.ensures ∙ ap (list_any (λ (d : ClassOf ℕ). nat_eq m.class d.name)) (chain-class s c.requires c.args.id rec here.0 here.1) in
    let none : c.is_none.result ≡ is_none (own_slot s rec.name m.meta m.selector) = search rules in
    rival-below s m c.args.id rec told c.stands_above.result stands (sym c.eq.ensures ∙ c.if-eq.false) (none-same s c.requires rec.name m.meta m.selector ∙ sym none ∙ c.if-is_none.false)
