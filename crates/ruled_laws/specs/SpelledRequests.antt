-- What each line of a script gives of what it asks for.
use Rattle.kept_runs.specs.WellSpelled.{IsWellSpelled, IsWellSpelledAction}
use Rattle.rule_laws.specs.KeptRules.{IsSpelledRule}
use Rattle.ruled_model.specs.RuledScripts.{Change, Plainly, ByRule, Asked, Acts, Applies}

-- a change and what a line asks for are well spelled
abbrev pub IsSpelledChange : Change → Type 0
IsSpelledChange (Plainly c) = IsWellSpelled c
IsSpelledChange (ByRule c) = IsSpelledRule c

abbrev pub IsSpelledAsked : Asked → Type 0
IsSpelledAsked (Acts x) = IsWellSpelledAction x
IsSpelledAsked (Applies c) = IsSpelledRule c
