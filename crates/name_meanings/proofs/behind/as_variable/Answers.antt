use Rattle.std.proofs.Common.{◌≡◌, length, Some, ap, sym, subst, ◌∙◌}
use Rattle.std.specs.Prelude.{nat_eq}
use Rattle.std.specs.Option.{option_copied}
use Rattle.image_model.specs.Means.{as_variable}
use Rattle.class_table.specs.Valid.{IsLive}
use Rattle.name_meanings.specs.Meanings.{kind_of}
use Rattle.name_meanings.proofs.Walks.{classes_from, class-there, chain-classes}
use Rattle.name_meanings.proofs.behind.as_variable.Goals as goal

pub loop-left-init : goal.loop-left-init
loop-left-init c = record {
  live = λ x e. let same : c.args.class ≡ x = cc in subst (IsLive c.args.image.now.class_order) same c.requires.live;
  same =
      (λ i. as_variable nat_eq (kind_of c.args.kind) (classes_from c.args.image.now (length (c.classes-left.ensures.value i)) (Some c.args.class)) c.args.name)
      ∙ sym (ap (λ cs. as_variable nat_eq (kind_of c.args.kind) cs c.args.name) (chain-classes c.args.image.now c.requires.orderly c.args.class c.requires.live));
}

pub returns-in_err-rec : goal.returns-in_err-rec
returns-in_err-rec c =
    absurd
    (class-there c.args.image.now c.requires.orderly c.in_ok-at.field-0 (c.loop-left.invariant.live c.in_ok-at.field-0 c.in_ok-at.was)
    (sym c.class_rec.ensures ∙ ap option_copied c.in_err-rec.was))
