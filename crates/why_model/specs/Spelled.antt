-- The code of the image and of the change where a line is refused is spelled by its sources.
use Rattle.std.specs.Prelude.{Option, Some, None}
use Rattle.command_model.specs.Spelled.{IsSpelled}
use Rattle.ruled_model.specs.RuledScripts.{Change, Plainly, ByRule}
use Rattle.refusal_witnesses.specs.Spelled.{IsSpelledImage}
use Rattle.why_model.specs.Refusals.{Judging}

-- a rule brings no source of its own
abbrev pub IsSpelledChange : Change → Type 0
IsSpelledChange (Plainly command) = IsSpelled command
IsSpelledChange (ByRule c) = Unit {0}

abbrev pub IsSpelledJudging : Option Judging → Type 0
IsSpelledJudging None = Unit {0}
IsSpelledJudging (Some j) = IsSpelledImage j.image × IsSpelledChange j.change
