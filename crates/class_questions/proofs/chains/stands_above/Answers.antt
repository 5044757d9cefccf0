use Rattle.std.proofs.Common.{◌≡◌, length, Some, ap, sym, subst, ◌∙◌}
use Rattle.std.specs.Prelude.{nat_eq}
use Rattle.std.specs.List.{list_any}
use Rattle.class_table.specs.Valid.{IsLive}
use Rattle.name_meanings.proofs.Walks.{classes_from, chain-classes}
use Rattle.class_questions.specs.Sought.{is_sought}
use Rattle.class_questions.proofs.chains.stands_above.Goals as goal

pub loop-left-init : goal.loop-left-init
loop-left-init c = record {
  live = λ x e. let same : c.args.class ≡ x = cc in subst (IsLive c.args.image.now.class_order) same c.requires.live;
  same =
      (λ i. list_any (is_sought c.args.sought.now) (classes_from c.args.image.now (length (c.classes-left.ensures.value i)) (Some c.args.class)))
      ∙ sym (ap (list_any (is_sought c.args.sought.now)) (chain-classes c.args.image.now c.requires.orderly c.args.class c.requires.live));
}
