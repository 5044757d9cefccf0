use Rattle.std.proofs.Common.{◌≡◌, ℕ, List, nat_eq, sym, ap, subst, ◌∙◌}
use Rattle.std.specs.Prelude.{if◌then◌else◌}
use Rattle.std.proofs.lemmas.Result.{on_ok_weaker}
use Rattle.image_model.specs.Image.{ClassOf}
use Rattle.file_model.specs.Hierarchy.{has_class, has_subclass}
use Rattle.file_model.specs.Applied.{with_definition}
use Rattle.file_laws.specs.Settling.{put_behind}
use Rattle.image_draft.specs.Names.{NamesDiffer, AreOrdered}
use Rattle.image_draft.proofs.Childless.{still_childless}
use Rattle.image_draft.proofs.Differ.{NamesDiffer-with_definition}
use Rattle.image_draft.proofs.Ordered.{defined_is, defined_ordered, defined_kept}
use Rattle.image_draft.proofs.define.put_in_order.Goals as goal

pub returns-clause-changed : goal.returns-clause-changed
returns-clause-changed c =
    let classes : List (ClassOf ℕ) = c.args.classes.now in
    let there : c.has_class-was_there.result ≡ has_class nat_eq classes c.args.definition.name =
    c.has_class-was_there.ensures ∙ ap (has_class nat_eq classes) c.name_of-name.ensures in
    let with : c.put_definition.new.classes ≡ with_definition nat_eq c.args.kernel c.args.definition classes = c.in_ok-put_definition.ensures in
    on_ok_weaker c.settle_class.result
    (λ e. defined_is classes c.settle_class.new.classes c.args.definition c.args.kernel c.has_class-was_there.result c.requires.order c.requires.free there
    (e ∙ (λ i. if c.has_class-was_there.result then put_behind nat_eq (c.name_of-name.ensures i) (c.superclass_of-superclass.ensures i) (with i) else with i)))
    c.settle_class.ensures

pub returns-clause-order : goal.returns-clause-order
returns-clause-order c =
    on_ok_weaker c.settle_class.result
    (λ e. subst AreOrdered (sym e) (defined_ordered c.args.classes.now c.args.definition c.args.kernel c.requires.order c.requires.free)) (returns-clause-changed c)

pub returns-clause-kept : goal.returns-clause-kept
returns-clause-kept c =
    on_ok_weaker c.settle_class.result
    (λ e n h. ap (λ (cs : List (ClassOf ℕ)). has_class nat_eq cs n) e ∙ defined_kept c.args.classes.now c.args.definition c.args.kernel c.requires.order c.requires.free n h) (returns-clause-changed c)

pub settle_class-requires-clause-differ : goal.settle_class-requires-clause-differ
settle_class-requires-clause-differ c =
    subst NamesDiffer (sym c.in_ok-put_definition.ensures) (NamesDiffer-with_definition c.args.kernel c.args.definition c.args.classes.now c.requires.order.differ)

pub settle_class-requires-clause-childless : goal.settle_class-requires-clause-childless
settle_class-requires-clause-childless c = λ childless.
    (λ i. has_subclass nat_eq (c.in_ok-put_definition.ensures i) (c.name_of-name.ensures i)) ∙ still_childless c.args.classes.now c.args.definition c.requires.free (c.requires.childless childless) c.args.kernel
