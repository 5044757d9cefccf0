use Rattle.std.proofs.Common.{Option, false, ap, ◌∙◌}
use Rattle.std.specs.Option.{option_map_or}
use Rattle.class_table.specs.declared.record.ClassRec.{ClassRec}
use Rattle.class_questions.proofs.AnyLive.{live_at-live}
use Rattle.image_strip.specs.Reached.{is_marked}
use Rattle.image_strip.proofs.stripped.is_class_reached.Goals as goal

pub returns-in-None : goal.returns-in-None
returns-in-None c =
    let s = c.args.image.now in
    ap (λ (o : Option ClassRec). option_map_or (λ (x : ClassRec). is_marked c.args.reach.now.classes x.name) o false)
    (c.in-None.ensures ∙ live_at-live s.classes s.class_order c.args.id c.requires)

pub returns-in-Some : goal.returns-in-Some
returns-in-Some c =
    let s = c.args.image.now in
    c.has_class.ensures
    ∙ ap (λ (o : Option ClassRec). option_map_or (λ (x : ClassRec). is_marked c.args.reach.now.classes x.name) o false)
    (c.in-Some.ensures ∙ live_at-live s.classes s.class_order c.args.id c.requires)
