use Rattle.std.proofs.Common.{◌≡◌, ◌∙◌, [], arith}
use Rattle.st_faults.specs.Stacks.{stack_of}
use Rattle.st_faults.specs.Forms.{form_of}
use Rattle.st_faults.proofs.Passing.{no_fault, split}
use Rattle.st_faults.proofs.Reading.{reads_none, reads_one, reads_last, reads_no_more}
use Rattle.st_faults.proofs.check.read_all.Goals as goal

pub tokens-init : goal.tokens-init
tokens-init c = record { inside = omega arith; reading = reads_none (form_of c.args.form) c.args.text.now (stack_of c.args.stack.now.items) c.requires.clean c.requires.start }

pub returns-in_err-lexeme-clause-fault : goal.returns-in_err-lexeme-clause-fault
returns-in_err-lexeme-clause-fault c =
    absurd (no_fault (form_of c.args.form) c.args.text.now c.tokens.place [] c.tokens.invariant.reading.rest c.in_err-lexeme.field-0.0 c.tokens.invariant.reading.left c.in_err-lexeme.ensures.fault)

pub returns-then-not-branch-clause-fault : goal.returns-then-not-branch-clause-fault
returns-then-not-branch-clause-fault c =
    let r = c.tokens.invariant.reading in
    let s = split (form_of c.args.form) c.args.text.now c.tokens.place c.in_ok-lexeme.lexeme r.rest c.in_ok-lexeme.ensures.first c.in_ok-lexeme.ensures.inside r.left in
    let steps = rw c.if-not-branch.true at c.in_ok-read.ensures in
    let stack : c.deref.result.now ≡ c.tokens.stack.items = c.deref.ensures.value ∙ steps.0 in
    let told = rw stack at (c.refusal.ensures s.notes s.text s.literal s.rest s.behind) in
    reads_no_more (form_of c.args.form) c.args.text.now c.tokens.place c.in_ok-lexeme.lexeme (stack_of c.tokens.stack.items) c.refusal.result r s (steps.1 s.text s.literal) told

pub returns-in-TextEnd-clause-read : goal.returns-in-TextEnd-clause-read
returns-in-TextEnd-clause-read c =
    let r = c.tokens.invariant.reading in
    let s = split (form_of c.args.form) c.args.text.now c.tokens.place c.in_ok-lexeme.lexeme r.rest c.in_ok-lexeme.ensures.first c.in_ok-lexeme.ensures.inside r.left in
    let steps = rw c.if-not-branch.false at c.in_ok-read.ensures in
    reads_last (form_of c.args.form) c.args.text.now c.tokens.place c.in_ok-lexeme.lexeme (stack_of c.tokens.stack.items) (stack_of c.read.new.stack.items) r s c.in-TextEnd.is (steps s.text s.literal)

pub tokens-preserved : goal.tokens-preserved
tokens-preserved c =
    let r = c.tokens.invariant.reading in
    let s = split (form_of c.args.form) c.args.text.now c.tokens.place c.in_ok-lexeme.lexeme r.rest c.in_ok-lexeme.ensures.first c.in_ok-lexeme.ensures.inside r.left in
    let steps = rw c.if-not-branch.false at c.in_ok-read.ensures in
    record {
      inside = c.in_ok-lexeme.ensures.inside;
      reading = reads_one (form_of c.args.form) c.args.text.now c.tokens.place c.in_ok-lexeme.lexeme (stack_of c.tokens.stack.items) (stack_of c.read.new.stack.items) r s c.in_default.not-TextEnd (steps s.text s.literal);
    }
