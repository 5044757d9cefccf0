use Rattle.std.proofs.Common.{[], ◌∷◌, ◌++◌, refl, sym, ◌∙◌, ap, subst, arith}
use Rattle.st_faults.specs.Forms.{form_of}
use Rattle.st_faults.specs.Lexing.{IsLexedFrom}
use Rattle.st_lexer.specs.Pieces.{piece}
use Rattle.st_faults.proofs.Skipping.{skipped_none, skipped_one, skipped_fault, first_is, end_has_sort, comment_further}
use Rattle.st_faults.proofs.Listed.{next_further}
use Rattle.st_faults.proofs.Passing.{no_fault}
use Rattle.st_events.proofs.Splitting.{behind_comment, begins_token}
use Rattle.st_events.proofs.tokens.next_token.Goals as goal

pub comments-init : goal.comments-init
comments-init c = record { order = omega arith; inside = c.requires; skipped = skipped_none (form_of c.args.form) c.args.text.now c.args.at; left = λ ts lexed. lexed }

pub returns-in-Some-clause-first : goal.returns-in-Some-clause-first
returns-in-Some-clause-first c =
    first_is (form_of c.args.form) c.args.text.now c.args.at c.comments.place (piece c.in-Ok.token) c.in-Some.sort c.in-Ok.token.text.now _ _ c.begins_digit-before_numeral.result
    c.comments.invariant.skipped c.in-Ok.ensures.token c.in-Ok.ensures.text c.begins_digit-before_numeral.ensures c.in-Some.ensures

pub returns-in-Some-clause-begins : goal.returns-in-Some-clause-begins
returns-in-Some-clause-begins c = λ ts lexed.
    begins_token (form_of c.args.form) c.args.text.now c.comments.place c.comments.notes ts (piece c.in-Ok.token) _ c.begins_digit-before_numeral.result
    c.in-Ok.ensures.token refl refl c.in-Ok.ensures.text c.begins_digit-before_numeral.ensures c.in-Some.ensures (c.comments.invariant.left ts lexed)

pub returns-in-Some-clause-further : goal.returns-in-Some-clause-further
returns-in-Some-clause-further c = λ other.
    omega (
      arith,
      c.comments.invariant.order,
      next_further (form_of c.args.form) c.args.text.now c.comments.place (piece c.in-Ok.token) c.in-Ok.ensures.token (λ end. other (end_has_sort (form_of c.args.form) c.in-Ok.token.kind c.in-Ok.token.text.now _ c.begins_digit-before_numeral.result c.in-Some.sort _ c.in-Some.ensures end)),
    )

pub returns-in_default-clause-fault : goal.returns-in_default-clause-fault
returns-in_default-clause-fault c = λ ts lexed.
    no_fault (form_of c.args.form) c.args.text.now c.args.at [] ts c.in_default.field-0 lexed (skipped_fault (form_of c.args.form) c.args.text.now c.args.at c.comments.place c.in_default.field-0 c.comments.invariant.skipped c.in_default.ensures.fault)

pub comments-preserved : goal.comments-preserved
comments-preserved c = record {
  order = omega (arith, c.comments.invariant.order, comment_further (form_of c.args.form) c.args.text.now c.comments.place (piece c.in-Ok.token) c.in-Ok.token.text.now c.begins_digit-before_numeral.result c.in-Ok.ensures.token c.in_default-sort_in.ensures);
  inside = c.in-Ok.ensures.inside;
  skipped = skipped_one (form_of c.args.form) c.args.text.now c.args.at c.comments.place (piece c.in-Ok.token) c.in-Ok.token.text.now c.begins_digit-before_numeral.result c.comments.invariant.skipped c.in-Ok.ensures.token c.in_default-sort_in.ensures;
  left = λ ts lexed.
      subst (λ notes. IsLexedFrom (form_of c.args.form) c.args.text.now c.in-Ok.token.to notes ts) (sym (c.in_ok-push.ensures.ok ∙ ap (λ x. c.comments.notes ++ x ∷ []) c.in_ok-from_slice.ensures)) (
      behind_comment (form_of c.args.form) c.args.text.now c.comments.place c.comments.notes ts (piece c.in-Ok.token) c.in-Ok.token.text.now c.begins_digit-before_numeral.result
      c.in-Ok.ensures.token c.in-Ok.ensures.text c.in_default-sort_in.ensures (c.comments.invariant.left ts lexed)
      );
}

pub comments-smaller : goal.comments-smaller
comments-smaller c =
    omega (
      arith,
      c.in-Ok.ensures.inside,
      comment_further (form_of c.args.form) c.args.text.now c.comments.place (piece c.in-Ok.token) c.in-Ok.token.text.now c.begins_digit-before_numeral.result c.in-Ok.ensures.token c.in_default-sort_in.ensures,
    )
