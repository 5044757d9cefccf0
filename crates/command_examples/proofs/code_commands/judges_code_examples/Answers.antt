use Rattle.command_examples.proofs.CodeJudged.{judges_parameters, judges_methods, judges_temporaries, lists_conditions, lists_steps, lists_names}
use Rattle.command_examples.proofs.code_commands.judges_code_examples.Goals as goal

pub returns-clause-parameters : goal.returns-clause-parameters
returns-clause-parameters c = judges_parameters

pub returns-clause-methods : goal.returns-clause-methods
returns-clause-methods c = judges_methods

pub returns-clause-temporaries : goal.returns-clause-temporaries
returns-clause-temporaries c = judges_temporaries

pub returns-clause-listings : goal.returns-clause-listings
returns-clause-listings c = lists_conditions

pub returns-clause-steps : goal.returns-clause-steps
returns-clause-steps c = lists_steps

pub returns-clause-renamed : goal.returns-clause-renamed
returns-clause-renamed c = lists_names
