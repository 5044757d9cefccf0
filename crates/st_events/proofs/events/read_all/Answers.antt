use Rattle.std.proofs.Common.{◌≡◌, ℕ, false, Some, None, refl, sym, ◌∙◌, subst, arith, true≢false}
use Rattle.std.specs.Prelude.{Option, is_some}
use Rattle.st_faults.specs.Forms.{form_of}
use Rattle.st_faults.specs.Lexing.{IsLexedFrom}
use Rattle.st_faults.proofs.Together.{together_none, together_one, together_last, together_deep, together_stops}
use Rattle.st_events.specs.Tokens.{lexeme_of}
use Rattle.st_events.specs.Steps.{run}
use Rattle.st_events.specs.Stacks.{machine_of}
use Rattle.st_events.proofs.Left.{left_whole, left_one, left_last}
use Rattle.st_events.proofs.events.read_all.Goals as goal

-- nothing is there
not_some : (o : Option ℕ) → is_some o ≡ false → o ≡ None
not_some None e = refl
not_some (Some n) e = absurd (true≢false e)

pub tokens-init : goal.tokens-init
tokens-init c = record {
  inside = omega arith;
  together = together_none (form_of c.args.form) c.args.text.now (machine_of c.args.reader.now.stack) c.requires;
  left = λ ts lexed. left_whole (form_of c.args.form) c.args.text.now c.args.reader.now ts lexed;
}

pub returns-in_default-clause-fault : goal.returns-in_default-clause-fault
returns-in_default-clause-fault c = λ _ read.
    let none = rw c.in_default.is at c.in_ok-token.ensures.fault in
    let h = c.tokens.invariant.left read.tokens read.lexed in
    none h.rest h.lexed

pub returns-then-is_too_deep-clause-fault : goal.returns-then-is_too_deep-clause-fault
returns-then-is_too_deep-clause-fault c = λ _.
    let first = rw c.in-Some.is at c.in_ok-token.ensures.first in
    together_deep (form_of c.args.form) c.args.text.now c.tokens.place (lexeme_of c.in-Some.token) c.tokens.depth c.depth_behind-depth.result (machine_of c.tokens.reader.stack)
    c.tokens.invariant.together first c.depth_behind-depth.ensures (sym c.is_too_deep.ensures ∙ c.if-is_too_deep.true)

pub returns-then-not-branch-clause-fault : goal.returns-then-not-branch-clause-fault
returns-then-not-branch-clause-fault c = λ _.
    let first = rw c.in-Some.is at c.in_ok-token.ensures.first in
    together_stops (form_of c.args.form) c.args.text.now c.tokens.place (lexeme_of c.in-Some.token) c.tokens.depth (machine_of c.tokens.reader.stack)
    c.tokens.invariant.together first (c.in_ok-read.ensures.refused c.if-not-branch.true)

pub returns-in-TextEnd-clause-read : goal.returns-in-TextEnd-clause-read
returns-in-TextEnd-clause-read c = λ _.
    let first = rw c.in-Some.is at c.in_ok-token.ensures.first in
    together_last (form_of c.args.form) c.args.text.now c.tokens.place (lexeme_of c.in-Some.token) c.tokens.depth c.depth_behind-depth.result (machine_of c.tokens.reader.stack) (machine_of c.read.new.self.stack)
    c.tokens.invariant.together first c.in-TextEnd.is c.depth_behind-depth.ensures (c.in_ok-read.ensures.leads c.if-not-branch.false) (not_some _ (sym c.is_too_deep.ensures ∙ c.if-is_too_deep.false))

pub returns-in-TextEnd-clause-found : goal.returns-in-TextEnd-clause-found
returns-in-TextEnd-clause-found c = λ _ ts lexed.
    let h = c.tokens.invariant.left ts lexed in
    let begins = rw c.in-Some.is at c.in_ok-token.ensures.begins in
    let b = begins h.rest (subst (λ n. IsLexedFrom (form_of c.args.form) c.args.text.now c.tokens.place n h.rest) (sym c.new-notes.ensures) h.lexed) in
    left_last (form_of c.args.form) c.args.text.now c.tokens.place c.in-Some.token c.next_token.new.notes c.tokens.reader c.read.new.self (run c.args.reader.now ts) h b c.in-TextEnd.is (c.in_ok-read.ensures.read c.if-not-branch.false)

pub tokens-preserved : goal.tokens-preserved
tokens-preserved c =
    let first = rw c.in-Some.is at c.in_ok-token.ensures.first in
    record {
      inside = rw c.in-Some.is at c.in_ok-token.ensures.inside;
      together = together_one (form_of c.args.form) c.args.text.now c.tokens.place (lexeme_of c.in-Some.token) c.tokens.depth c.depth_behind-depth.result (machine_of c.tokens.reader.stack) (machine_of c.read.new.self.stack)
          c.tokens.invariant.together first c.in_default-sort.not-TextEnd c.depth_behind-depth.ensures (c.in_ok-read.ensures.leads c.if-not-branch.false);
      left = λ ts lexed.
          let h = c.tokens.invariant.left ts lexed in
          let begins = rw c.in-Some.is at c.in_ok-token.ensures.begins in
          let b = begins h.rest (subst (λ n. IsLexedFrom (form_of c.args.form) c.args.text.now c.tokens.place n h.rest) (sym c.new-notes.ensures) h.lexed) in
          left_one (form_of c.args.form) c.args.text.now c.tokens.place c.in-Some.token c.next_token.new.notes c.tokens.reader c.read.new.self (run c.args.reader.now ts) h b c.in_default-sort.not-TextEnd (c.in_ok-read.ensures.read c.if-not-branch.false);
    }
