use Rattle.std.proofs.Common.{◌≡◌, ℕ, List, ◌∷◌, sym, ◌∙◌, ap}
use Rattle.tree_model.specs.Tree.{Notes, LiteralOf}
use Rattle.grammar_model.specs.Terminal.{Text, Terminal}
use Rattle.grammar_model.specs.Input.{lex}
use Rattle.grammar_model.specs.Machine as machine
use Rattle.st_faults.specs.declared.sort.Sort.{Sort}
use Rattle.st_faults.specs.Sorts.{terminal}
use Rattle.st_events.specs.declared.answers.Answer.TheVariants.{Passes}
use Rattle.st_events.specs.declared.part.Part.{Part}
use Rattle.st_events.specs.declared.reader.Reader.{Reader}
use Rattle.st_events.specs.Answers.{answer}
use Rattle.st_events.specs.Steps.{advanced, taken, settled, passed, awaiting, decided, step}
use Rattle.st_events.specs.Stacks.{machine_of}
use Rattle.st_events.proofs.Running.{passed_stack}
use Rattle.st_events.proofs.Agreeing.{passes}
use Rattle.st_events.proofs.reader.Reader.next_part.Goals as goal

-- the reader goes on below a part that is over
goes_below : (p : Part) (ps : List Part) (r q : Reader) (c : Notes) (f e : ℕ) (k : Terminal) → r.stack ≡ p ∷ ps → answer p k ≡ Passes → q ≡ passed p (awaiting ps r) → step r.stack r (lex c f e k) ≡ step q.stack q (lex c f e k)
goes_below p ps r q c f e k stack over same =
    let below = step ps (passed p (awaiting ps r)) (lex c f e k) in
    ap (λ ss. step ss r (lex c f e k)) stack ∙
    ap (λ x. decided x (taken p k f e (advanced c e (settled p k (awaiting ps r)))) below) over ∙
    ap (λ ss. step ss (passed p (awaiting ps r)) (lex c f e k)) (sym (passed_stack p (awaiting ps r))) ∙
    ap (λ x. step x.stack x (lex c f e k)) (sym same)

-- and so does the machine
agrees_below : (p : Part) (ps : List Part) (r q : Reader) (k : Sort) (s : Text) (l : LiteralOf Text) → r.stack ≡ p ∷ ps → answer p (terminal k s l) ≡ Passes → q ≡ passed p (awaiting ps r) →
    machine.step (machine_of r.stack) (terminal k s l) ≡ machine.step (machine_of q.stack) (terminal k s l)
agrees_below p ps r q k s l stack over same =
    ap (λ ss. machine.step (machine_of ss) (terminal k s l)) stack ∙ passes p k s l ps over ∙
    ap (λ ss. machine.step (machine_of ss) (terminal k s l)) (sym (passed_stack p (awaiting ps r))) ∙
    ap (λ x. machine.step (machine_of x.stack) (terminal k s l)) (sym same)

pub parts-preserved : goal.parts-preserved
parts-preserved c = record {
  same = λ n e s t.
      c.parts.invariant.same n e s t ∙
      goes_below c.in-Some.part c.pop.new.self c.parts.self c.pass.new.self n c.args.from e (terminal c.args.sort s t) c.in-Some.ensures.some (c.in-Passes.ensures s t) c.in_ok-pass-in-Passes.ensures;
  agrees = λ s t.
      c.parts.invariant.agrees s t ∙
      agrees_below c.in-Some.part c.pop.new.self c.parts.self c.pass.new.self c.args.sort s t c.in-Some.ensures.some (c.in-Passes.ensures s t) c.in_ok-pass-in-Passes.ensures;
}
