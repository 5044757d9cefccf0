use Rattle.witness_examples.proofs.Shown.{shows-names, shows-classes, shows-methods, shows-parts, shows-messages, shows-temporaries, shows-heights, shows-rules, tells-text}
use Rattle.witness_examples.proofs.laws.judges_witnesses.Goals as goal

pub returns-clause-names : goal.returns-clause-names
returns-clause-names c = shows-names

pub returns-clause-classes : goal.returns-clause-classes
returns-clause-classes c = shows-classes

pub returns-clause-methods : goal.returns-clause-methods
returns-clause-methods c = shows-methods

pub returns-clause-parts : goal.returns-clause-parts
returns-clause-parts c = shows-parts

pub returns-clause-messages : goal.returns-clause-messages
returns-clause-messages c = shows-messages

pub returns-clause-temporaries : goal.returns-clause-temporaries
returns-clause-temporaries c = shows-temporaries

pub returns-clause-heights : goal.returns-clause-heights
returns-clause-heights c = shows-heights

pub returns-clause-rules : goal.returns-clause-rules
returns-clause-rules c = shows-rules

pub returns-clause-text : goal.returns-clause-text
returns-clause-text c = tells-text
