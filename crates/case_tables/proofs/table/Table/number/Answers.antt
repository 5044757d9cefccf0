-- The digits that stand first are those of the number, if one stands there.
use Rattle.std.proofs.Common.{rules, ◌≡◌, ◌++◌, length, take, not, decimal, unwrap_or, subst, sym, ap, ◌∙◌, arith}
use Rattle.std.specs.Char.{is_ascii_digit}
use Rattle.std.specs.List.{position_or_len}
use Rattle.std.proofs.lemmas.Fmt.{IsAscii-decimal, parse-decimal}
use Rattle.std.proofs.lemmas.Str.{IsUtf8-from_ascii}
use Rattle.std.specs.Prelude.{IsUtf8}
use Rattle.case_tables.specs.TableFaults.{LacksNumber}
use Rattle.case_tables.proofs.Lines.{place_or_end, not_utf8}
use Rattle.case_tables.proofs.Numbers.{digits_first}
use Rattle.case_tables.proofs.table.Table.number.Goals as goal

pub returns-in_default-clause-wrong : goal.returns-in_default-clause-wrong
returns-in_default-clause-wrong c = λ number more small never e.
    let rest = c.args.self.now.rest.now in
    let place : c.unwrap_or-end.result ≡ position_or_len (λ byte. not (is_ascii_digit byte)) rest = c.unwrap_or-end.ensures ∙ ap (λ o. unwrap_or o (length rest)) c.digits_end.ensures ∙ place_or_end (λ byte. not (is_ascii_digit byte)) rest in
    let digits : take c.unwrap_or-end.result rest ≡ decimal number = ap (λ n. take n rest) place ∙ digits_first number more rest (omega (arith, small)) never e in
    not_utf8 _ _ c.from_utf8.result c.from_utf8.ensures.cases c.in_default.not-Ok (subst IsUtf8 (sym digits) (IsUtf8-from_ascii (decimal number) (IsAscii-decimal number (omega (arith, small)))))

pub returns-in_default-parse-clause-wrong : goal.returns-in_default-parse-clause-wrong
returns-in_default-parse-clause-wrong c = λ number more small never e.
    let rest = c.args.self.now.rest.now in
    let place : c.unwrap_or-end.result ≡ position_or_len (λ byte. not (is_ascii_digit byte)) rest = c.unwrap_or-end.ensures ∙ ap (λ o. unwrap_or o (length rest)) c.digits_end.ensures ∙ place_or_end (λ byte. not (is_ascii_digit byte)) rest in
    let digits : c.in-Ok.digits.now ≡ decimal number = c.in-Ok.ensures.cases.0 ∙ ap (λ n. take n rest) place ∙ digits_first number more rest (omega (arith, small)) never e in
    c.in_default-parse.not-Ok number (parse-decimal 32 number c.in-Ok.digits.now c.parse.result small (omega (arith, small)) digits c.parse.ensures.value.0)

pub returns-in_err-want-clause-wrong : goal.returns-in_err-want-clause-wrong
returns-in_err-want-clause-wrong c =
    let rest = c.args.self.now.rest.now in
    let place : c.unwrap_or-end.result ≡ position_or_len (λ byte. not (is_ascii_digit byte)) rest = c.unwrap_or-end.ensures ∙ ap (λ o. unwrap_or o (length rest)) c.digits_end.ensures ∙ place_or_end (λ byte. not (is_ascii_digit byte)) rest in
    let wrong : LacksNumber c.want.new.self.rest.now = λ number more small never e.
    let first = digits_first number more rest (omega (arith, small)) never (sym c.in_err-want.ensures.err.1 ∙ e) in
    let digits : c.in-Ok.digits.now ≡ decimal number = c.in-Ok.ensures.cases.0 ∙ ap (λ n. take n rest) place ∙ first in
    let parsed = sym c.in-Ok-parse.is ∙ parse-decimal 32 number c.in-Ok.digits.now c.parse.result small (omega (arith, small)) digits c.parse.ensures.value.0 in
    let same : c.in-Ok-parse.number ≡ number = cc in
    c.in_err-want.ensures.err.2 more (e ∙ ap (λ n. decimal n ++ more) (sym same) ∙ ap (λ l. l ++ more) (sym c.format.ensures.text)) in
    search rules
