use Rattle.std.proofs.Common.{None, Some, sym, ap, ◌∙◌}
use Rattle.std.specs.Option.{option_map, option_copied}
use Rattle.class_table.specs.declared.record.ClassRec.{ClassRec}
use Rattle.session.proofs.Superclass.{no_class, no_record, of_superclass}
use Rattle.session.proofs.renames.superclass_name.Goals as goal

pub returns-in_default : goal.returns-in_default
returns-in_default c = no_class c.args.image.now c.args.class c.requires (sym c.class_named.ensures ∙ c.in_default.is)

pub returns-in_default-class_rec : goal.returns-in_default-class_rec
returns-in_default-class_rec c =
    no_record c.args.image.now c.args.class c.requires c.in-Some.id (sym c.class_named.ensures ∙ c.in-Some.is) (sym c.class_rec.ensures ∙ ap option_copied c.in_default-class_rec.is)

pub returns-in_default-superclass : goal.returns-in_default-superclass
returns-in_default-superclass c =
    of_superclass c.args.image.now c.args.class c.requires c.in-Some.id c.in-Some-class_rec.rec.now None (sym c.class_named.ensures ∙ c.in-Some.is)
    (sym c.class_rec.ensures ∙ ap option_copied c.in-Some-class_rec.is) c.in_default-superclass.is

pub returns-in-Some-class_rec-2 : goal.returns-in-Some-class_rec-2
returns-in-Some-class_rec-2 c =
    let s = c.args.image.now in
    sym (ap (option_map (λ (p : ClassRec). p.name)) (sym c.class_rec-2.ensures ∙ ap option_copied c.in-Some-class_rec-2.is))
    ∙ of_superclass s c.args.class c.requires c.in-Some.id c.in-Some-class_rec.rec.now (Some c.in-Some-superclass.above) (sym c.class_named.ensures ∙ c.in-Some.is)
    (sym c.class_rec.ensures ∙ ap option_copied c.in-Some-class_rec.is) c.in-Some-superclass.is

pub returns-in-None : goal.returns-in-None
returns-in-None c =
    let s = c.args.image.now in
    sym (ap (option_map (λ (p : ClassRec). p.name)) (sym c.class_rec-2.ensures ∙ ap option_copied c.in-None.is))
    ∙ of_superclass s c.args.class c.requires c.in-Some.id c.in-Some-class_rec.rec.now (Some c.in-Some-superclass.above) (sym c.class_named.ensures ∙ c.in-Some.is)
    (sym c.class_rec.ensures ∙ ap option_copied c.in-Some-class_rec.is) c.in-Some-superclass.is
