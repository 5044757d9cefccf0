use Rattle.import_laws.proofs.Stays.{imports_again}
use Rattle.import_laws.proofs.laws.imports_once.Goals as goal

pub returns : goal.returns
returns c = imports_again (record { definition = c.spells_definitions.ensures.definition; comment = c.spells_definitions.ensures.comment; opening = c.spells_definitions.ensures.opening })
