use Rattle.script_model.proofs.ExamplesJudged.{says_commands, finds_wrong_lines, finds_wrong_additions, adds, finds_wrong_parameters, passes_parameters, says_script, refuses_scripts, has_limit}
use Rattle.script_model.proofs.RulesJudged.{finds_wrong_rules, says_rule}
use Rattle.script_model.proofs.laws.judges_examples.Goals as goal

pub returns-clause-commands : goal.returns-clause-commands
returns-clause-commands c = says_commands

pub returns-clause-wrong_lines : goal.returns-clause-wrong_lines
returns-clause-wrong_lines c = finds_wrong_lines

pub returns-clause-wrong_additions : goal.returns-clause-wrong_additions
returns-clause-wrong_additions c = finds_wrong_additions

pub returns-clause-addition : goal.returns-clause-addition
returns-clause-addition c = adds

pub returns-clause-wrong_parameters : goal.returns-clause-wrong_parameters
returns-clause-wrong_parameters c = finds_wrong_parameters

pub returns-clause-parameters : goal.returns-clause-parameters
returns-clause-parameters c = passes_parameters

pub returns-clause-wrong_rules : goal.returns-clause-wrong_rules
returns-clause-wrong_rules c = finds_wrong_rules

pub returns-clause-rule : goal.returns-clause-rule
returns-clause-rule c = says_rule

pub returns-clause-script : goal.returns-clause-script
returns-clause-script c = says_script

pub returns-clause-refused : goal.returns-clause-refused
returns-clause-refused c = refuses_scripts

pub returns-clause-limit : goal.returns-clause-limit
returns-clause-limit c = has_limit
