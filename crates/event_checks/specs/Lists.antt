-- Declared names as the grammar has them.
use Rattle.std.specs.Prelude.{List, map}
use Rattle.grammar_model.specs.Terminal.{Text}
use Rattle.grammar_model.specs.Spanned.{Declared}
use Rattle.parse_events.specs.declared.event.Declaration.{Declaration}

-- the names of a list of declarations, with their places
abbrev pub declared : List Declaration → List Declared
declared ds = map (λ (d : Declaration). record { name = d.name; from = d.from }) ds

-- their names without places
abbrev pub names_of : List Declaration → List Text
names_of ds = map (λ (d : Declaration). d.name) ds
