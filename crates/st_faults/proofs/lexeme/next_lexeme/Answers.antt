use Rattle.std.proofs.Common.{arith}
use Rattle.std.proofs.lemmas.Result.{err_from_is_err_and}
use Rattle.st_lexer.specs.Pieces.{piece}
use Rattle.st_faults.specs.Forms.{form_of}
use Rattle.st_faults.proofs.Listed.{next_further}
use Rattle.st_faults.proofs.Skipping.{skipped_none, skipped_one, skipped_fault, first_is, end_has_sort, comment_further}
use Rattle.st_faults.proofs.lexeme.next_lexeme.Goals as goal

pub comments-init : goal.comments-init
comments-init c = record { order = omega arith; inside = c.requires; skipped = skipped_none (form_of c.args.form) c.args.text.now c.args.at }

pub returns-in_err-token-clause-fault : goal.returns-in_err-token-clause-fault
returns-in_err-token-clause-fault c =
    let p = err_from_is_err_and c.from_residual.result c.from_residual.ensures.1 in
    rw (p.1, p.2) (skipped_fault (form_of c.args.form) c.args.text.now c.args.at c.comments.place c.in_err-token.field-0.0 c.comments.invariant.skipped c.in_err-token.ensures.fault)

pub returns-in-Some-clause-first : goal.returns-in-Some-clause-first
returns-in-Some-clause-first c =
    first_is (form_of c.args.form) c.args.text.now c.args.at c.comments.place (piece c.in_ok-token.token) c.in-Some.sort c.in_ok-token.token.text.now _ _ c.begins_digit-before_numeral.result
    c.comments.invariant.skipped c.in_ok-token.ensures.token c.in_ok-token.ensures.text c.begins_digit-before_numeral.ensures c.in-Some.ensures

pub returns-in-Some-clause-further : goal.returns-in-Some-clause-further
returns-in-Some-clause-further c = λ other.
    omega (
      arith,
      c.comments.invariant.order,
      next_further (form_of c.args.form) c.args.text.now c.comments.place (piece c.in_ok-token.token) c.in_ok-token.ensures.token (λ end. other (end_has_sort (form_of c.args.form) c.in_ok-token.token.kind c.in_ok-token.token.text.now _ c.begins_digit-before_numeral.result c.in-Some.sort _ c.in-Some.ensures end)),
    )

pub comments-preserved : goal.comments-preserved
comments-preserved c =
    let further = comment_further (form_of c.args.form) c.args.text.now c.comments.place (piece c.in_ok-token.token) c.in_ok-token.token.text.now c.begins_digit-before_numeral.result c.in_ok-token.ensures.token c.in_default.ensures in
    record {
      order = omega (arith, c.comments.invariant.order, further);
      inside = c.in_ok-token.ensures.inside;
      skipped = skipped_one (form_of c.args.form) c.args.text.now c.args.at c.comments.place (piece c.in_ok-token.token) c.in_ok-token.token.text.now c.begins_digit-before_numeral.result c.comments.invariant.skipped c.in_ok-token.ensures.token c.in_default.ensures;
    }

pub comments-smaller : goal.comments-smaller
comments-smaller c =
    omega (
      arith,
      c.in_ok-token.ensures.inside,
      comment_further (form_of c.args.form) c.args.text.now c.comments.place (piece c.in_ok-token.token) c.in_ok-token.token.text.now c.begins_digit-before_numeral.result c.in_ok-token.ensures.token c.in_default.ensures,
    )
