use Rattle.std.proofs.Common.{◌≤◌, ℕ, ◌+◌, List, [], length, take, sym, subst, arith}
use Rattle.std.proofs.lemmas.List.{take_all}
use Rattle.class_table.specs.View.{image_of}
use Rattle.refusal_witnesses.specs.Lines.{AreLines, no_lines}
use Rattle.witness_lists.specs.declared.witness.Witness.{Witness}
use Rattle.witness_texts.proofs.StartLines.{over_texts, next-line}
use Rattle.witness_texts.proofs.lines.witness_lines.Goals as goal

pub loop-witness-init : goal.loop-witness-init
loop-witness-init c = subst (AreLines (image_of c.args.image.now) []) (sym c.new-lines.ensures.items) no_lines

pub loop-witness-preserved : goal.loop-witness-preserved
loop-witness-preserved c =
    let s = c.args.image.now in
    let k = c.loop-witness.witness-index in
    subst (λ (ts : List (List ℕ)). AreLines (image_of s) (over_texts s (take (k + 1) c.args.witnesses.now)) ts) (sym c.in_ok-push.ensures.items)
    (next-line s c.args.witnesses.now k c.witness-item.result c.loop-witness.lines.items c.in_ok-line.line c.loop-witness-test.true c.witness-item.is c.loop-witness.invariant c.in_ok-line.ensures)

pub returns : goal.returns
returns c =
    let s = c.args.image.now in
    let over : length c.args.witnesses.now ≤ c.loop-witness.witness-index = omega (arith, c.loop-witness-test.false) in
    subst (λ (ws : List Witness). AreLines (image_of s) (over_texts s ws) c.loop-witness.lines.items) (take_all c.loop-witness.witness-index c.args.witnesses.now over) c.loop-witness.invariant
