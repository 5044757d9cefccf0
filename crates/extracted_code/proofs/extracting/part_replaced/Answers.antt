use Rattle.std.proofs.Common.{sym, ap, ◌∙◌}
use Rattle.tree_model.specs.Path.{method_replaced}
use Rattle.st_tree.specs.declared.path.Part.{Part}
use Rattle.st_tree.specs.View.{method_of}
use Rattle.command_model.specs.Extracted.{part_replaced}
use Rattle.command_model.specs.Sequences.{single, put_in}
use Rattle.part_questions.specs.Parts.{part_of}
use Rattle.extracted_code.proofs.Replaced.{changed-nowhere, changed-there}
use Rattle.extracted_code.proofs.extracting.part_replaced.Goals as goal

pub returns-in-None : goal.returns-in-None
returns-in-None c =
    let m = method_of c.args.method.now in
    ap method_of c.in_ok-after.ensures
    ∙ changed-nowhere (put_in c.in-Run.first c.in-Run.count (single c.args.new)) m c.in-Run.path (λ e. c.if-len-eq0.false (c.len.ensures ∙ e)) (sym c.in-None.ensures)
    ∙ ap (λ (p : Part). part_replaced m (part_of p) c.args.new) (sym c.in-Run.is)

pub returns-in_ok-block-in-Some : goal.returns-in_ok-block-in-Some
returns-in_ok-block-in-Some c =
    let m = method_of c.args.method.now in
    c.put_at-in-Some.ensures.after
    ∙ (λ j. method_replaced (method_of (c.in_ok-after.ensures j)) c.in-Run.path (c.in_ok-block-in-Some.ensures j))
    ∙ changed-there (put_in c.in-Run.first c.in-Run.count (single c.args.new)) m c.in-Run.path c.in-Some.node.now (λ e. c.if-len-eq0.false (c.len.ensures ∙ e)) (sym c.in-Some.ensures)
    ∙ ap (λ (p : Part). part_replaced m (part_of p) c.args.new) (sym c.in-Run.is)
