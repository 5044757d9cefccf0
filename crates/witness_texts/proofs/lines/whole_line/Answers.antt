use Rattle.std.proofs.Common.{ℕ, List, ◌++◌, ap, ◌∙◌}
use Rattle.std.specs.Prelude.{codes}
use Rattle.witness_texts.proofs.StartLines.{whole-line}
use Rattle.witness_texts.proofs.lines.whole_line.Goals as goal

pub returns : goal.returns
returns c =
    whole-line c.args.image.now c.requires c.args.owner.now c.in-Some.code c.in-Some.ensures c.push_slice.new.self
    (c.in_ok-push_slice.ensures.ok ∙ ap (λ (t : List ℕ). t ++ codes "\n") c.in_ok-line.ensures)
