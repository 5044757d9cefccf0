-- The trees that the chunks of an image spell which define its classes and open its runs of methods, and what these chunks say.
use Rattle.std.specs.Prelude.{List, [], ◌++◌, if◌then◌else◌, codes, unwrap_or}
use Rattle.tree_model.specs.Tree.{str, symbol, TreeOf, var, literal, send, TreesOf, no_trees, more_trees, no_statements, more_statements, SequenceOf}
use Rattle.text_model.specs.Pieces.{pieces_joined}
use Rattle.text_model.specs.Literals.{quoted_text}
use Rattle.image_model.specs.Image.{ClassOf}
use Rattle.file_model.specs.Changes.{DefinitionOf, RunOf}
use Rattle.file_model.specs.Forms.{definition_selector}
use Rattle.file_model.specs.Filing.{Text}
use Rattle.file_model.specs.Written.{side_text}

-- one statement alone
abbrev pub statement : TreeOf Text → SequenceOf Text
statement t = record { temporaries = []; statements = more_statements [] t no_statements; tail = [] }

-- one argument
abbrev pub argument : TreeOf Text → TreesOf Text
argument t = more_trees t no_trees

-- a string
abbrev pub string_tree : Text → TreeOf Text
string_tree t = literal (str t)

-- a string of names with one blank between them
abbrev pub names_tree : List Text → TreeOf Text
names_tree names = string_tree (pieces_joined (codes " ") names)

-- the definition of a class
abbrev pub definition_tree : ClassOf Text → SequenceOf Text
definition_tree c =
    statement (send (var (unwrap_or c.superclass (codes "nil"))) definition_selector
    (more_trees (literal (symbol c.name)) (more_trees (names_tree c.instance) (more_trees (names_tree c.shared) (more_trees (string_tree []) (argument (string_tree c.category)))))))

-- what the definition of a class defines
abbrev pub definition_of : ClassOf Text → DefinitionOf Text
definition_of c = record { name = c.name; superclass = c.superclass; instance = c.instance; shared = c.shared; category = c.category }

-- the class-instance variables of a class
abbrev pub class_side_tree : ClassOf Text → SequenceOf Text
class_side_tree c = statement (send (send (var c.name) (codes "class") no_trees) (codes "instanceVariableNames:") (argument (names_tree c.class_side)))

-- the comment of a class
abbrev pub comment_tree : ClassOf Text → SequenceOf Text
comment_tree c = statement (send (var c.name) (codes "comment:") (argument (string_tree c.comment)))

-- the class or the class side to which the methods of a run belong
abbrev pub side_tree : RunOf Text → TreeOf Text
side_tree r = if r.meta then send (var r.class) (codes "class") no_trees else var r.class

-- the opening of a run
abbrev pub opening_tree : RunOf Text → SequenceOf Text
opening_tree r = statement (send (side_tree r) (codes "methodsFor:") (argument (string_tree r.protocol)))

-- the text of the opening of a run
abbrev pub opening_text : RunOf Text → Text
opening_text r = side_text r ++ codes " methodsFor: " ++ quoted_text r.protocol
