-- What holds of all names holds of each name in trees and images.
use Rattle.std.proofs.Common.{List, [], ◌∷◌, Option, Some, None}
use Rattle.std.specs.List.{AllByRecursion}
use Rattle.tree_model.specs.Tree.{LiteralOf, number, str, symbol, char, array, bytes, word, LiteralsOf, no_literals, more_literals, TreeOf, var, literal, send, cascade, assign, block, brace, return, TreesOf, no_trees, more_trees, MessagesOf, no_messages, more_messages, StatementsOf, no_statements, more_statements, SequenceOf, MethodOf}
use Rattle.tree_model.specs.AllNames.{LiteralNames, LiteralsNames, AllNames, TreesNames, MessagesNames, StatementsNames, SequenceNames, MethodNames}
use Rattle.image_model.specs.Image.{ClassOf, EntryOf, DoItOf, ImageOf}
use Rattle.image_model.specs.ImageNames.{OptionNames, ClassNames, EntryNames, DoItNames, ImageNames}

-- any name
abbrev pub Every : {N : Type 0} → N → Type 0
Every n = Unit {0}

-- of each item
pub every_item : {X : Type 0} (P : X → Type 0) → ((x : X) → P x) → (xs : List X) → AllByRecursion P xs
every_item P h [] = tt
every_item P h (x ∷ xs) = (h x, every_item P h xs)

-- of what there may be
pub every_option : {X : Type 0} (P : X → Type 0) → ((x : X) → P x) → (o : Option X) → OptionNames P o
every_option P h None = tt
every_option P h (Some x) = h x

module _ {N : Type 0} (P : N → Type 0) (h : (n : N) → P n) where
  mutual
    pub every_literal : (l : LiteralOf N) → LiteralNames P l
    every_literal (number t) = tt
    every_literal (str t) = tt
    every_literal (symbol t) = tt
    every_literal (char b) = tt
    every_literal (array ls) = every_literals ls
    every_literal (bytes ls) = every_literals ls
    every_literal (word n) = h n

    every_literals : (ls : LiteralsOf N) → LiteralsNames P ls
    every_literals no_literals = tt
    every_literals (more_literals l ls) = (every_literal l, every_literals ls)

  mutual
    pub every_tree : (t : TreeOf N) → AllNames P t
    every_tree (var n) = h n
    every_tree (literal l) = every_literal l
    every_tree (send r s args) = (every_tree r, h s, every_trees args)
    every_tree (cascade r ms) = (every_tree r, every_messages ms)
    every_tree (assign n t) = (h n, every_tree t)
    every_tree (block ps ts ss e) = (every_item P h ps, every_item P h ts, every_statements ss)
    every_tree (brace ts) = every_trees ts
    every_tree (return t) = every_tree t

    pub every_trees : (ts : TreesOf N) → TreesNames P ts
    every_trees no_trees = tt
    every_trees (more_trees t ts) = (every_tree t, every_trees ts)

    every_messages : (ms : MessagesOf N) → MessagesNames P ms
    every_messages no_messages = tt
    every_messages (more_messages s args ms) = (h s, every_trees args, every_messages ms)

    pub every_statements : (ss : StatementsOf N) → StatementsNames P ss
    every_statements no_statements = tt
    every_statements (more_statements c t ss) = (every_tree t, every_statements ss)

  pub every_sequence : (b : SequenceOf N) → SequenceNames P b
  every_sequence b = record { temporaries = every_item P h b.temporaries; statements = every_statements b.statements }

  pub every_method : (m : MethodOf N) → MethodNames P m
  every_method m = record { selector = h m.selector; arguments = every_item P h m.arguments; body = every_sequence m.body }

  pub every_class : (c : ClassOf N) → ClassNames P c
  every_class c = record { name = h c.name; superclass = every_option P h c.superclass; instance = every_item P h c.instance; shared = every_item P h c.shared; class_side = every_item P h c.class_side }

  pub every_entry : (m : EntryOf N) → EntryNames P m
  every_entry m = record { class = every_option P h m.class; tree = every_method m.tree }

  pub every_doit : (d : DoItOf N) → DoItNames P d
  every_doit d = every_sequence d.body

  pub every_image : (i : ImageOf N) → ImageNames P i
  every_image i = record {
    classes = every_item (ClassNames P) every_class i.classes;
    methods = every_item (EntryNames P) every_entry i.methods;
    doits = every_item (DoItNames P) every_doit i.doits;
  }
