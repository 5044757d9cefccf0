use Rattle.std.proofs.Common.{◌≤◌, ◌+◌, List, [], length, take, sym, subst, arith}
use Rattle.std.proofs.lemmas.List.{take_all}
use Rattle.refusal_witnesses.specs.Lines.{AreLines, no_lines}
use Rattle.witness_lists.specs.declared.witness.Witness.{Witness}
use Rattle.explained_scripts.proofs.BroughtLines.{AreInside, next-inside}
use Rattle.explained_scripts.proofs.witnesses.lines_inside.Goals as goal

pub loop-witness-init : goal.loop-witness-init
loop-witness-init c = λ s i m titled. subst (AreLines i []) (sym c.new-lines.ensures.items) no_lines

pub loop-witness-preserved : goal.loop-witness-preserved
loop-witness-preserved c =
    let k = c.loop-witness.witness-index in
    subst (AreInside c.args.title.now c.args.source.now (take (k + 1) c.args.witnesses.now)) (sym c.in_ok-push.ensures.items)
    (next-inside c.args.title.now c.args.source.now c.args.witnesses.now k c.witness-item.result c.loop-witness.lines.items c.in_ok-line.line c.loop-witness-test.true c.witness-item.is c.loop-witness.invariant c.in_ok-line.ensures)

pub returns : goal.returns
returns c =
    let over : length c.args.witnesses.now ≤ c.loop-witness.witness-index = omega (arith, c.loop-witness-test.false) in
    subst (λ (ws : List Witness). AreInside c.args.title.now c.args.source.now ws c.loop-witness.lines.items) (take_all c.loop-witness.witness-index c.args.witnesses.now over) c.loop-witness.invariant
