use Rattle.std.proofs.Common.{◌≡◌, ℕ, Bool, true, false, ◌&&◌, Option, Some, option_copied, ap, sym, ◌∙◌}
use Rattle.std.specs.Prelude.{nat_eq}
use Rattle.std.specs.List.{list_any}
use Rattle.std.specs.Option.{option_map_or}
use Rattle.image_model.specs.Image.{ClassOf}
use Rattle.image_model.specs.Chain.{chain}
use Rattle.rename_model.specs.Conditions.{defines, stands_below}
use Rattle.class_table.specs.declared.record.ClassRec.{ClassRec}
use Rattle.class_table.specs.View.{class_of, class_name, live_at, number_image}
use Rattle.class_questions.specs.LiveClasses.{defines_below}
use Rattle.class_questions.proofs.AnyLive.{live-live_at}
use Rattle.class_questions.proofs.ChainLaws.{chain-class, and-comm}
use Rattle.class_questions.proofs.chains.defines_below.Goals as goal

pub returns-then-defines_any : goal.returns-then-defines_any
returns-then-defines_any c =
    let s = c.args.image.now in
    let rec = c.in-Some.rec.now in
    let told : live_at s.classes s.class_order c.args.id ≡ Some rec = sym c.class_rec.ensures ∙ ap option_copied c.in-Some.is in
    let here = live-live_at s.classes s.class_order c.args.id rec told in
    let does : defines nat_eq c.args.variable (class_of s.classes rec) ≡ true = sym c.defines_any.ensures ∙ c.if-defines_any.true in
    let stands : c.stands_above.result ≡ stands_below nat_eq (number_image s).classes c.args.class (class_of s.classes rec) =
    c.stands_above.ensures ∙ ap (list_any (λ (d : ClassOf ℕ). nat_eq c.args.class d.name)) (chain-class s c.requires c.args.id rec here.0 here.1) in
    stands
    ∙ and-comm true (stands_below nat_eq (number_image s).classes c.args.class (class_of s.classes rec))
    ∙ ap (λ (b : Bool). stands_below nat_eq (number_image s).classes c.args.class (class_of s.classes rec) && b) (sym does)
    ∙ sym (ap (λ (o : Option ClassRec). option_map_or (λ (e : ClassRec). defines_below s c.args.class c.args.variable (class_of s.classes e)) o false) told)
