use Rattle.import_laws.proofs.Left.{left_to_the_reader}
use Rattle.import_laws.proofs.laws.leaves_to_the_reader.Goals as goal

pub returns : goal.returns
returns c = left_to_the_reader (record { definition = c.spells_definitions.ensures.definition; comment = c.spells_definitions.ensures.comment; opening = c.spells_definitions.ensures.opening })
