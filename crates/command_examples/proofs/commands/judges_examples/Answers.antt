use Rattle.command_examples.proofs.ExamplesJudged.{judges_classes, judges_instance_variables, judges_class_variables, judges_methods, judges_moves, judges_reflections, judges_names, judges_class_rows, judges_new_variables, judges_used_variables, judges_method_rows, judges_move_rows, judges_reached_rows, judges_order_rows, denies_missing, lists_class_listings, lists_method_listings, overlooks_comments, tells_trees_apart, tells_methods_apart}
use Rattle.command_examples.proofs.commands.judges_examples.Goals as goal

pub returns-clause-classes : goal.returns-clause-classes
returns-clause-classes c = judges_classes

pub returns-clause-instance_variables : goal.returns-clause-instance_variables
returns-clause-instance_variables c = judges_instance_variables

pub returns-clause-class_variables : goal.returns-clause-class_variables
returns-clause-class_variables c = judges_class_variables

pub returns-clause-methods : goal.returns-clause-methods
returns-clause-methods c = judges_methods

pub returns-clause-moves : goal.returns-clause-moves
returns-clause-moves c = judges_moves

pub returns-clause-reflections : goal.returns-clause-reflections
returns-clause-reflections c = judges_reflections

pub returns-clause-names : goal.returns-clause-names
returns-clause-names c = judges_names

pub returns-clause-class_rows : goal.returns-clause-class_rows
returns-clause-class_rows c = judges_class_rows

pub returns-clause-new_variables : goal.returns-clause-new_variables
returns-clause-new_variables c = judges_new_variables

pub returns-clause-used_variables : goal.returns-clause-used_variables
returns-clause-used_variables c = judges_used_variables

pub returns-clause-method_rows : goal.returns-clause-method_rows
returns-clause-method_rows c = judges_method_rows

pub returns-clause-move_rows : goal.returns-clause-move_rows
returns-clause-move_rows c = judges_move_rows

pub returns-clause-reached_rows : goal.returns-clause-reached_rows
returns-clause-reached_rows c = judges_reached_rows

pub returns-clause-order_rows : goal.returns-clause-order_rows
returns-clause-order_rows c = judges_order_rows

pub returns-clause-missing : goal.returns-clause-missing
returns-clause-missing c = denies_missing

pub returns-clause-class_listings : goal.returns-clause-class_listings
returns-clause-class_listings c = lists_class_listings

pub returns-clause-method_listings : goal.returns-clause-method_listings
returns-clause-method_listings c = lists_method_listings

pub returns-clause-comments : goal.returns-clause-comments
returns-clause-comments c = overlooks_comments

pub returns-clause-trees : goal.returns-clause-trees
returns-clause-trees c = tells_trees_apart

pub returns-clause-methods_and_meanings : goal.returns-clause-methods_and_meanings
returns-clause-methods_and_meanings c = tells_methods_apart
