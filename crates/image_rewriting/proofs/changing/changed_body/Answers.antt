use Rattle.std.proofs.Common.{List, subst, ◌∙◌}
use Rattle.rb_base.specs.Names.{HasNoTwice}
use Rattle.query_model.specs.Lines.{Text}
use Rattle.event_trees.specs.Naming.{Grows}
use Rattle.image_rewriting.proofs.Entries.{told-made}
use Rattle.image_rewriting.proofs.changing.changed_body.Goals as goal

pub returns-then-branch-clause-made : goal.returns-then-branch-clause-made
returns-then-branch-clause-made c =
    told-made c.args.image.now.names c.rewrite_body-changed.new.names c.args.rule.now c.args.body.now c.in_ok-changed.changed c.in_ok-equal_bodies.field-0
    (subst HasNoTwice c.names.ensures c.len-count.ensures.distinct)
    (subst (λ (ns : List Text). Grows ns c.rewrite_body-changed.new.names) c.names_mut.ensures.value c.in_ok-changed.ensures.grows)
    c.requires.body c.in_ok-changed.ensures.known c.in_ok-changed.ensures.rewritten c.in_ok-equal_bodies.ensures
    ∙ c.if-branch.true

pub returns-clause-made : goal.returns-clause-made
returns-clause-made c = record {
  other =
      told-made c.args.image.now.names c.rewrite_body-changed.new.names c.args.rule.now c.args.body.now c.in_ok-changed.changed c.in_ok-equal_bodies.field-0
      (subst HasNoTwice c.names.ensures c.len-count.ensures.distinct)
      (subst (λ (ns : List Text). Grows ns c.rewrite_body-changed.new.names) c.names_mut.ensures.value c.in_ok-changed.ensures.grows)
      c.requires.body c.in_ok-changed.ensures.known c.in_ok-changed.ensures.rewritten c.in_ok-equal_bodies.ensures
      ∙ c.if-branch.false;
  made = c.in_ok-changed.ensures.rewritten;
  known = c.in_ok-changed.ensures.known;
}
