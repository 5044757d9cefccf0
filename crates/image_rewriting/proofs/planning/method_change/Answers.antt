use Rattle.std.proofs.Common.{◌<◌, List, ◌++◌, Option, length, sym, subst, ◌∙◌}
use Rattle.rb_base.specs.Names.{name_at}
use Rattle.query_model.specs.Lines.{Text}
use Rattle.tree_model.specs.Tree.{map_method}
use Rattle.tree_model.specs.AllNames.{MethodNames}
use Rattle.st_tree.specs.View.{method_of}
use Rattle.st_tree.specs.declared.tree.Sequence.{Sequence}
use Rattle.st_tree.specs.declared.tree.Method.{Method}
use Rattle.text_model.specs.Whole.{canonical_method}
use Rattle.class_table.specs.declared.record.MethodRec.{MethodRec}
use Rattle.class_table.specs.View.{live_at}
use Rattle.image_rewriting.specs.Changed.{IsCopy, Becomes}
use Rattle.image_rewriting.proofs.Taken.{method-left, copy-known, method-same, made-known, method-made}
use Rattle.image_rewriting.proofs.planning.method_change.Goals as goal

pub returns-in_default-clause-found : goal.returns-in_default-clause-found
returns-in_default-clause-found g c =
    let s = c.args.image.now in
    let k = c.args.slot in
    method-left s c.args.rule.now c.requires.orderly c.requires.rule k
    (subst (λ (o : Option MethodRec). IsCopy s.names c.args.rule.now (live_at s.methods s.method_order k) o) c.in_default.is c.in_ok-method.ensures)

pub changed_body-requires-clause-body : goal.changed_body-requires-clause-body
changed_body-requires-clause-body g c =
    let s = c.args.image.now in
    let k = c.args.slot in
    let is = subst (λ (o : Option MethodRec). IsCopy s.names c.args.rule.now (live_at s.methods s.method_order k) o) c.in-Some.is c.in_ok-method.ensures in
    (copy-known s c.args.rule.now c.requires.orderly c.requires.rule k c.in-Some.method is).body

pub returns-in_default-2-clause-found : goal.returns-in_default-2-clause-found
returns-in_default-2-clause-found g c =
    let s = c.args.image.now in
    let t = c.changed_body.new.image in
    let k = c.args.slot in
    let is = subst (λ (o : Option MethodRec). IsCopy s.names c.args.rule.now (live_at s.methods s.method_order k) o) c.in-Some.is c.in_ok-method.ensures in
    method-same s c.args.rule.now c.requires.orderly c.requires.rule k c.in-Some.method is t.names c.changed_body.ensures.grows
    (subst (λ (o : Option Sequence). Becomes t.names c.args.rule.now c.in-Some.method.tree.body o) c.in_default-2.is c.in_ok-body.ensures.made)

pub format_method-requires : goal.format_method-requires
format_method-requires g c =
    let s = c.args.image.now in
    let t = c.changed_body.new.image in
    let k = c.args.slot in
    let is = subst (λ (o : Option MethodRec). IsCopy s.names c.args.rule.now (live_at s.methods s.method_order k) o) c.in-Some.is c.in_ok-method.ensures in
    let tree : Method = record c.in-Some.method.tree { body = c.in-Some-2.body } in
    subst (λ (ns : List Text). MethodNames (λ n. n < length ns) (method_of tree)) (sym c.names.ensures)
    (made-known s c.args.rule.now c.requires.orderly c.requires.rule k c.in-Some.method is t.names c.changed_body.ensures.grows c.in-Some-2.body
    (subst (λ (o : Option Sequence). Becomes t.names c.args.rule.now c.in-Some.method.tree.body o) c.in-Some-2.is c.in_ok-body.ensures.made))

pub returns-clause-found : goal.returns-clause-found
returns-clause-found g c =
    let s = c.args.image.now in
    let t = c.changed_body.new.image in
    let k = c.args.slot in
    let is = subst (λ (o : Option MethodRec). IsCopy s.names c.args.rule.now (live_at s.methods s.method_order k) o) c.in-Some.is c.in_ok-method.ensures in
    let tree : Method = record c.in-Some.method.tree { body = c.in-Some-2.body } in
    method-made s c.args.rule.now c.requires.orderly c.requires.rule k c.in-Some.method is t.names c.changed_body.ensures.grows c.in-Some-2.body
    (subst (λ (o : Option Sequence). Becomes t.names c.args.rule.now c.in-Some.method.tree.body o) c.in-Some-2.is c.in_ok-body.ensures.made) c.format_method.new.out
    (c.in_ok-format_method.ensures.ok ∙ (λ i. c.new-source.ensures i ++ canonical_method (map_method (name_at (c.names.ensures i)) (method_of tree))))
