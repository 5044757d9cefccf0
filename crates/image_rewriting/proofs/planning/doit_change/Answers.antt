use Rattle.std.proofs.Common.{◌++◌, Option, slice_get, subst, ◌∙◌}
use Rattle.st_tree.specs.declared.tree.Sequence.{Sequence}
use Rattle.text_model.specs.Whole.{canonical_doit}
use Rattle.image_rewriting.specs.Changed.{IsBodyCopy, Becomes, body_of}
use Rattle.image_rewriting.proofs.Taken.{doit-left, copied-known, doit-same, doit-made}
use Rattle.image_rewriting.proofs.planning.doit_change.Goals as goal

pub returns-in_default-clause-found : goal.returns-in_default-clause-found
returns-in_default-clause-found g c =
    let s = c.args.image.now in
    doit-left s c.args.rule.now c.requires.orderly c.requires.rule c.args.number
    (subst (λ (o : Option Sequence). IsBodyCopy s.names c.args.rule.now (slice_get s.doits c.args.number) o) c.in_default.is c.in_ok-before.ensures)

pub changed_body-requires-clause-body : goal.changed_body-requires-clause-body
changed_body-requires-clause-body g c =
    let s = c.args.image.now in
    let is = subst (λ (o : Option Sequence). IsBodyCopy s.names c.args.rule.now (slice_get s.doits c.args.number) o) c.in-Some.is c.in_ok-before.ensures in
    copied-known s c.args.rule.now c.requires.orderly c.requires.rule c.args.number c.in-Some.before is

pub returns-in_default-2-clause-found : goal.returns-in_default-2-clause-found
returns-in_default-2-clause-found g c =
    let s = c.args.image.now in
    let t = c.changed_body.new.image in
    let is = subst (λ (o : Option Sequence). IsBodyCopy s.names c.args.rule.now (slice_get s.doits c.args.number) o) c.in-Some.is c.in_ok-before.ensures in
    doit-same s c.args.rule.now c.requires.orderly c.requires.rule c.args.number c.in-Some.before is t.names c.changed_body.ensures.grows
    (subst (λ (o : Option Sequence). Becomes t.names c.args.rule.now c.in-Some.before o) c.in_default-2.is c.in_ok-body.ensures.made)

pub returns-clause-found : goal.returns-clause-found
returns-clause-found g c =
    let s = c.args.image.now in
    let t = c.changed_body.new.image in
    let is = subst (λ (o : Option Sequence). IsBodyCopy s.names c.args.rule.now (slice_get s.doits c.args.number) o) c.in-Some.is c.in_ok-before.ensures in
    doit-made s c.args.rule.now c.requires.orderly c.requires.rule c.args.number c.in-Some.before is t.names c.changed_body.ensures.grows c.in-Some-2.body
    (subst (λ (o : Option Sequence). Becomes t.names c.args.rule.now c.in-Some.before o) c.in-Some-2.is c.in_ok-body.ensures.made) c.format_doit.new.out
    (c.in_ok-format_doit.ensures.ok ∙ (λ i. c.new-source.ensures i ++ canonical_doit (body_of (c.names.ensures i) c.in-Some-2.body)))
