use Rattle.std.proofs.Common.{ℕ, List, ◌++◌, ap, ◌∙◌}
use Rattle.std.specs.Prelude.{codes}
use Rattle.rb_base.specs.Names.{name_at}
use Rattle.image_model.specs.Means.{map_meaning}
use Rattle.name_meanings.specs.Meanings.{meaning_of}
use Rattle.refusal_witnesses.specs.Lines.{meanings_text}
use Rattle.witness_texts.proofs.StartLines.{meanings-line}
use Rattle.witness_texts.proofs.lines.meanings_line.Goals as goal

pub returns : goal.returns
returns c =
    let s = c.args.image.now in
    let n = name_at s.names c.args.name in
    let one = map_meaning (name_at s.names) (meaning_of c.args.one) in
    let other = map_meaning (name_at s.names) (meaning_of c.args.other) in
    meanings-line s c.requires c.args.owner.now c.in-Some.code c.in-Some.ensures c.args.path.now c.in_ok-line.line c.push_slice-2.new.self n one other c.in_ok-line.ensures
    (c.in_ok-push_slice-2.ensures.ok
    ∙ ap (λ (t : List ℕ). t ++ codes "\n") (c.in_ok-push_meanings.ensures ∙ ap (λ (t : List ℕ). t ++ meanings_text n one other) c.in_ok-push_slice.ensures.ok))
