use Rattle.std.proofs.Common.{◌≢◌, ℕ, inl, inr, Option, Some, None, IfNone, ◌∙◌, ap, arith}
use Rattle.std.proofs.lemmas.Option.{IfSome_then}
use Rattle.token_model.specs.declared.kind.TokenKind.{TokenKind}
use Rattle.token_model.specs.declared.kind.TokenKind.TheVariants.{Identifier, Keyword}
use Rattle.st_lexer.specs.Pieces.{piece}
use Rattle.grammar_model.specs.PatternTokens.{behind_mark, IsMeta}
use Rattle.st_faults.proofs.MetaWords.{none_at_fault, word_of_meta}
use Rattle.st_faults.proofs.metas.meta_at.Goals as goal

-- what two facts say where there is no value
IfNone-both : {X : Type 0} (o : Option X) (P Q R : Type 0) → (P → Q → R) → IfNone o P → IfNone o Q → IfNone o R
IfNone-both None P Q R f p q = f p q
IfNone-both (Some x) P Q R f p q = tt

pub returns-in_default-clause-none : goal.returns-in_default-clause-none
returns-in_default-clause-none c =
    none_at_fault c.args.text.now c.args.from c.word_place-place.result c.in_default.field-0 (c.word_place-place.ensures.place ∙ ap (behind_mark c.args.text.now) c.mark_place-mark.ensures) c.in_default.ensures.fault

pub returns-then-word-place-clause-inside : goal.returns-then-word-place-clause-inside
returns-then-word-place-clause-inside c = IfSome_then c.marked_word.result c.marked_word.ensures.inside (λ found le. omega (arith, le, c.in-Ok.ensures.inside))

pub returns-then-word-place-clause-none : goal.returns-then-word-place-clause-none
returns-then-word-place-clause-none c =
    let t = c.args.text.now in
    let at = c.word_place-place.ensures.place ∙ ap (behind_mark t) c.mark_place-mark.ensures in
    let word = c.in-Ok.word in
    let never : (word.kind ≢ Identifier) → (word.kind ≢ Keyword) → (kind : TokenKind) (to : ℕ) → ¬ IsMeta kind t c.args.from to =
    λ no_name no_key kind to meta.
    elim (word_of_meta t c.args.from c.word_place-place.result (piece word) at c.in-Ok.ensures.token kind to meta).1 [ inl e ↦ no_name e | inr e ↦ no_key e ] in
    IfNone-both c.marked_word.result (word.kind ≢ Identifier) (word.kind ≢ Keyword) ((kind : TokenKind) (to : ℕ) → ¬ IsMeta kind t c.args.from to) never c.marked_word.ensures.no_identifier c.marked_word.ensures.no_keyword

pub returns-else-word-place-clause-none : goal.returns-else-word-place-clause-none
returns-else-word-place-clause-none c = λ kind to meta.
    let at = c.word_place-place.ensures.place ∙ ap (behind_mark c.args.text.now) c.mark_place-mark.ensures in
    c.if-word-place.false (word_of_meta c.args.text.now c.args.from c.word_place-place.result (piece c.in-Ok.word) at c.in-Ok.ensures.token kind to meta).0
