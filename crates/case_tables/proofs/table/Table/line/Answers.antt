-- The line stands before the first line feed.
use Rattle.std.proofs.Common.{◌≡◌, ◌==◌, length, take, unwrap_or, subst, sym, ap, ◌∙◌, inl}
use Rattle.std.specs.Prelude.{IsUtf8}
use Rattle.std.specs.List.{position_or_len}
use Rattle.case_tables.specs.CaseTexts.{IsLine}
use Rattle.case_tables.proofs.Lines.{place_or_end, line_before, not_utf8}
use Rattle.case_tables.proofs.table.Table.line.Goals as goal

pub returns-in_default-clause-wrong : goal.returns-in_default-clause-wrong
returns-in_default-clause-wrong c =
    let rest = c.args.self.now.rest.now in
    let place : c.unwrap_or-end.result ≡ position_or_len (λ byte. byte == 10) rest = c.unwrap_or-end.ensures ∙ ap (λ o. unwrap_or o (length rest)) c.line_end.ensures ∙ place_or_end (λ byte. byte == 10) rest in
    let line = c.split_at.ensures.front ∙ ap (λ n. take n rest) place in
    inl (λ is. not_utf8 _ _ c.from_utf8.result c.from_utf8.ensures.cases c.in_default.not-Ok (subst IsUtf8 (sym line) is))

pub returns-clause-line : goal.returns-clause-line
returns-clause-line c =
    let rest = c.args.self.now.rest.now in
    let place : c.unwrap_or-end.result ≡ position_or_len (λ byte. byte == 10) rest = c.unwrap_or-end.ensures ∙ ap (λ o. unwrap_or o (length rest)) c.line_end.ensures ∙ place_or_end (λ byte. byte == 10) rest in
    let line = c.in-Ok.ensures.cases.0 ∙ c.split_at.ensures.front ∙ ap (λ n. take n rest) place in
    subst IsLine (sym line) (line_before rest)
