use Rattle.std.proofs.Common.{◌≡◌, true, false, cond, codes, ap, sym, ◌∙◌}
use Rattle.rb_base.specs.Names.{text_eq, name_at}
use Rattle.image_model.specs.Means.{transcript, undeclared}
use Rattle.name_meanings.proofs.Globals.{global-class, global-other}
use Rattle.name_meanings.proofs.behind.global.Goals as goal

pub returns-then-is_some : goal.returns-then-is_some
returns-then-is_some c =
    global-class c.args.image.now c.args.name c.class_named.result _ c.class_named.ensures (sym c.is_some.ensures ∙ c.if-is_some.true)

pub returns-then-is_transcript : goal.returns-then-is_transcript
returns-then-is_transcript c =
    let is : text_eq (codes "Transcript") (name_at c.args.image.now.names c.args.name) ≡ true =
    sym (c.is_transcript.ensures ∙ ap (λ names. text_eq (codes "Transcript") (name_at names c.args.name)) c.names.ensures) ∙ c.if-is_transcript.true in
    ap (λ b. cond b transcript undeclared) (sym is)
    ∙ global-other c.args.image.now c.args.name c.class_named.result _ c.class_named.ensures (sym c.is_some.ensures ∙ c.if-is_some.false)

pub returns-else-is_transcript : goal.returns-else-is_transcript
returns-else-is_transcript c =
    let is : text_eq (codes "Transcript") (name_at c.args.image.now.names c.args.name) ≡ false =
    sym (c.is_transcript.ensures ∙ ap (λ names. text_eq (codes "Transcript") (name_at names c.args.name)) c.names.ensures) ∙ c.if-is_transcript.false in
    ap (λ b. cond b transcript undeclared) (sym is)
    ∙ global-other c.args.image.now c.args.name c.class_named.result _ c.class_named.ensures (sym c.is_some.ensures ∙ c.if-is_some.false)
