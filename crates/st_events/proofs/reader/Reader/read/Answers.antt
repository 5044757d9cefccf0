use Rattle.std.proofs.Common.{Some, sym, ◌∙◌, ap}
use Rattle.grammar_model.specs.Machine as machine
use Rattle.st_faults.specs.Sorts.{terminal}
use Rattle.st_faults.specs.Lexing.{literal_of}
use Rattle.st_events.specs.Stacks.{above, machine_of}
use Rattle.st_events.proofs.Agreeing.{leads}
use Rattle.st_events.proofs.reader.Reader.read.Goals as goal

pub returns-clause-leads : goal.returns-clause-leads
returns-clause-leads c = λ _ t m.
    let part = c.in-Some.part in
    let k = c.args.token.sort in
    let s = c.args.token.text.now in
    let l = literal_of c.args.token.kind s in
    let takes = rw c.in-Some.is at c.in_ok-part.ensures.leads in
    let same = rw c.in-Some.is at c.in_ok-part.ensures.same in
    same t m ∙ ap (λ x. machine.step (above part (machine_of x.stack)) (terminal k t m)) (sym c.in_ok-advance.ensures) ∙
    leads part k s t l m c.args.token.from c.args.token.to c.advance.new.self (takes s l) ∙ ap (λ x. Some (machine_of x.stack)) (sym c.in_ok-take.ensures)
