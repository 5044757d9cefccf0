use Rattle.std.proofs.Common.{◌≡◌, ℕ, drop, ◌∙◌, rules, tests}
use Rattle.std.specs.Char.{is_ascii_whitespace}
use Rattle.std.specs.List.{prefix_len}
use Rattle.std.proofs.lemmas.Str.Ascii.{trim_ascii_start_is}
use Rattle.chunk_format.specs.Blank.{is_blank}
use Rattle.certificates.proofs.lines.behind_blanks.Goals as goal

-- a blank is white space
white : (b : ℕ) → is_ascii_whitespace b ≡ is_blank b
white b = search (rules, tests)

pub returns : goal.returns
returns c = trim_ascii_start_is c.args.text.now c.trim_ascii_start.result.now c.trim_ascii_start.ensures.value ∙ (λ i. drop (prefix_len (λ b. white b i) c.args.text.now) c.args.text.now)
