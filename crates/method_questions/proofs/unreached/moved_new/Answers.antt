use Rattle.std.proofs.Common.{sym, subst, ◌∙◌}
use Rattle.st_tree.specs.View.{method_of}
use Rattle.class_table.specs.View.{number_image}
use Rattle.command_model.specs.MethodEffects.{method_added}
use Rattle.method_questions.specs.declared.moves.Moved.{Moved}
use Rattle.method_questions.specs.Unreached.{LeadsTo}
use Rattle.method_questions.proofs.Added.{no-class, class-there, new-leads}
use Rattle.method_questions.proofs.MayMove.{some-same}
use Rattle.method_questions.proofs.unreached.moved_new.Goals as goal

pub returns-in_default-clause-there : goal.returns-in_default-clause-there
returns-in_default-clause-there c = no-class c.args.image.now c.args.new.now.class (sym c.class_named.ensures ∙ c.in_default.is)

pub returns-clause-there : goal.returns-clause-there
returns-clause-there c = class-there c.args.image.now c.args.new.now.class c.requires c.in-Some.class (sym c.class_named.ensures ∙ c.in-Some.is)

pub returns-clause-moved : goal.returns-clause-moved
returns-clause-moved c =
    let s = c.args.image.now in
    let n = c.args.new.now in
    λ v e.
    subst (λ (x : Moved). LeadsTo s x (method_added n.class n.meta n.protocol n.source (method_of n.tree) (number_image s)) n.meta n.tree.selector) (some-same _ v e)
    (new-leads s c.requires _ n.class n.protocol n.source (sym c.class_named.ensures ∙ c.in-Some.is))
