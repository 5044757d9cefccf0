use Rattle.std.proofs.Common.{ℕ, Option, Some, None, IfNone, sym, ap, ◌∙◌}
use Rattle.token_model.specs.Bytes.{is_letter, is_binary}
use Rattle.token_model.specs.Tokens.{IsString, IsSymbolName}
use Rattle.token_model.proofs.Exist.{only_quoted}
use Rattle.st_lexer.proofs.words.symbol_name_end.Goals as goal

-- where no string begins, none has the other property
IfNone-map : (o : Option ℕ) (P Q : Type 0) → (P → Q) → IfNone o P → IfNone o Q
IfNone-map None P Q f h = f h
IfNone-map (Some x) P Q f h = tt

pub returns-then-first-eq39-clause-none : goal.returns-then-first-eq39-clause-none
returns-then-first-eq39-clause-none c =
    let t = c.args.text.now in
    let i = c.args.from in
    let first = sym c.byte_at-first.ensures in
    IfNone-map c.string_end.result ((j : ℕ) → ¬ IsString t i j) ((j : ℕ) → ¬ IsSymbolName t i j) (λ never j. only_quoted t i j (ap is_letter first ∙ sym (c.if-is_letter_byte.ensures)) (ap is_binary first ∙ sym (c.if-is_binary_byte.ensures)) (λ e. c.if-first-eq124.false (sym first ∙ e)) (never j)) c.string_end.ensures.none

pub returns-else-first-eq39-clause-none : goal.returns-else-first-eq39-clause-none
returns-else-first-eq39-clause-none c j =
    let t = c.args.text.now in
    let i = c.args.from in
    let first = sym c.byte_at-first.ensures in
    only_quoted t i j (ap is_letter first ∙ sym (c.if-is_letter_byte.ensures)) (ap is_binary first ∙ sym (c.if-is_binary_byte.ensures)) (λ e. c.if-first-eq124.false (sym first ∙ e)) (λ h. c.if-first-eq39.false (sym first ∙ h.opens))
