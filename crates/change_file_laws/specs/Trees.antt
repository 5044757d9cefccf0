-- The trees that the chunks of a change file spell.
use Rattle.std.specs.Prelude.{[], ◌++◌, false, Bool, codes, unwrap_or}
use Rattle.std.specs.Fmt.{decimal}
use Rattle.tree_model.specs.Tree.{number, symbol, TreeOf, var, literal, send, no_trees, more_trees, SequenceOf}
use Rattle.text_model.specs.Literals.{quoted_text}
use Rattle.image_model.specs.Image.{ClassOf}
use Rattle.file_model.specs.Applied.{new_class}
use Rattle.file_model.specs.Changes.{ChangeOf, RunOf, Define, DefineAt, Comment, SetClassSide, RemoveMethod, RemoveClass}
use Rattle.file_model.specs.Filing.{Text}
use Rattle.file_model.specs.Forms.{placed_definition_selector}
use Rattle.file_model.specs.Written.{side_text}
use Rattle.file_rereading.specs.Trees.{statement, argument, string_tree, names_tree, side_tree, definition_tree}

-- a symbol
abbrev pub symbol_tree : Text → TreeOf Text
symbol_tree s = literal (symbol s)

-- a numeral
abbrev pub numeral_tree : Text → TreeOf Text
numeral_tree t = literal (number t)

-- the variable `Smalltalk`
abbrev pub system_tree : TreeOf Text
system_tree = var (codes "Smalltalk")

-- the class or the class side of a name
abbrev pub owner_tree : Text → Bool → TreeOf Text
owner_tree c meta = side_tree (record { class = c; meta = meta; protocol = [] })

-- the definition of a class with a place
abbrev pub placed_definition_tree : ClassOf Text → Text → SequenceOf Text
placed_definition_tree c numeral =
    statement (send (var (unwrap_or c.superclass (codes "nil"))) placed_definition_selector
    (more_trees (symbol_tree c.name) (more_trees (names_tree c.instance) (more_trees (names_tree c.shared) (more_trees (string_tree []) (more_trees (string_tree c.category) (argument (numeral_tree numeral))))))))

-- the comment of a class
abbrev pub comment_tree : Text → Text → SequenceOf Text
comment_tree n text = statement (send (var n) (codes "comment:") (argument (string_tree text)))

-- the removal of a method
abbrev pub removal_tree : Text → Bool → Text → SequenceOf Text
removal_tree c meta s = statement (send (owner_tree c meta) (codes "removeSelector:") (argument (symbol_tree s)))

-- the removal of a class
abbrev pub class_removal_tree : Text → SequenceOf Text
class_removal_tree n = statement (send system_tree (codes "removeClassNamed:") (argument (symbol_tree n)))

-- places are settled
abbrev pub settling_tree : SequenceOf Text
settling_tree = statement (send system_tree (codes "settlePlaces") no_trees)

-- the replacement of a do-it
abbrev pub replacement_tree : Text → Text → SequenceOf Text
replacement_tree numeral source =
    statement (send system_tree (codes "replaceDoIt:with:") (more_trees (numeral_tree numeral) (argument (string_tree source))))

-- the opening of a run that states a place
abbrev pub placed_opening_tree : RunOf Text → Text → SequenceOf Text
placed_opening_tree r numeral =
    statement (send (side_tree r) (codes "methodsFor:at:") (more_trees (string_tree r.protocol) (argument (numeral_tree numeral))))

-- its text
abbrev pub placed_opening_text : RunOf Text → Text → Text
placed_opening_text r numeral = side_text r ++ codes " methodsFor: " ++ quoted_text r.protocol ++ codes " at: " ++ numeral

-- a change
abbrev pub change_tree : ChangeOf Text → SequenceOf Text
change_tree (Define d) = definition_tree (new_class false d)
change_tree (DefineAt d k) = placed_definition_tree (new_class false d) (decimal k)
change_tree (Comment n text) = comment_tree n text
change_tree (SetClassSide n names) =
    statement (send (send (var n) (codes "class") no_trees) (codes "instanceVariableNames:") (argument (names_tree names)))
change_tree (RemoveMethod c meta s) = removal_tree c meta s
change_tree (RemoveClass n) = class_removal_tree n
