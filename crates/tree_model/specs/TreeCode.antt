-- Trees over numbers are told apart by a code, which gives them back.
use Rattle.std.specs.Prelude.{◌≡◌, refl, ℕ, zero, suc, List, [], ◌∷◌}
use Rattle.std.proofs.Common.{sym, ◌∙◌, ap}
use Rattle.std.specs.Coded.{Coded}
use base.Stored.{Gv, gnil, gnum, gcons}
use Rattle.tree_model.specs.Tree.{Notes, LiteralOf, number, str, symbol, char, array, bytes, word, LiteralsOf, no_literals, more_literals, TreeOf, var, literal, send, cascade, assign, block, brace, return, TreesOf, no_trees, more_trees, MessagesOf, no_messages, more_messages, StatementsOf, no_statements, more_statements}

-- the number in a code
abbrev number_in : Gv → ℕ
number_in gnil = 0
number_in (gnum n) = n
number_in (gcons a b) = 0

-- the code of a list of numbers
abbrev pack_numbers : List ℕ → Gv
pack_numbers [] = gnil
pack_numbers (n ∷ ns) = gcons (gnum n) (pack_numbers ns)

-- the list of numbers in a code
abbrev numbers_in : Gv → List ℕ
numbers_in gnil = []
numbers_in (gnum n) = []
numbers_in (gcons a b) = number_in a ∷ numbers_in b

-- a list of numbers comes back
numbers_in-pack_numbers : (ns : List ℕ) → numbers_in (pack_numbers ns) ≡ ns
numbers_in-pack_numbers [] = refl
numbers_in-pack_numbers (n ∷ ns) = ap (λ (t : List ℕ). n ∷ t) (numbers_in-pack_numbers ns)

-- the code of comments
abbrev pack_notes : Notes → Gv
pack_notes [] = gnil
pack_notes (n ∷ ns) = gcons (pack_numbers n) (pack_notes ns)

-- the comments in a code
abbrev notes_in : Gv → Notes
notes_in gnil = []
notes_in (gnum n) = []
notes_in (gcons a b) = numbers_in a ∷ notes_in b

-- comments come back
notes_in-pack_notes : (ns : Notes) → notes_in (pack_notes ns) ≡ ns
notes_in-pack_notes [] = refl
notes_in-pack_notes (n ∷ ns) = λ i. numbers_in-pack_numbers n i ∷ notes_in-pack_notes ns i

-- the code of a literal
abbrev mutual
  pack_literal : LiteralOf ℕ → Gv
  pack_literal (number t) = gcons (gnum 0) (pack_numbers t)
  pack_literal (str t) = gcons (gnum 1) (pack_numbers t)
  pack_literal (symbol t) = gcons (gnum 2) (pack_numbers t)
  pack_literal (char b) = gcons (gnum 3) (gnum b)
  pack_literal (array ls) = gcons (gnum 4) (pack_literals ls)
  pack_literal (bytes ls) = gcons (gnum 5) (pack_literals ls)
  pack_literal (word n) = gcons (gnum 6) (gnum n)

  pack_literals : LiteralsOf ℕ → Gv
  pack_literals no_literals = gnil
  pack_literals (more_literals l ls) = gcons (pack_literal l) (pack_literals ls)

-- the literal in a code
abbrev mutual
  literal_in : Gv → LiteralOf ℕ
  literal_in gnil = char 0
  literal_in (gnum n) = char 0
  literal_in (gcons (gnum zero) t) = number (numbers_in t)
  literal_in (gcons (gnum (suc zero)) t) = str (numbers_in t)
  literal_in (gcons (gnum (suc (suc zero))) t) = symbol (numbers_in t)
  literal_in (gcons (gnum (suc (suc (suc zero)))) t) = char (number_in t)
  literal_in (gcons (gnum (suc (suc (suc (suc zero))))) t) = array (literals_in t)
  literal_in (gcons (gnum (suc (suc (suc (suc (suc zero)))))) t) = bytes (literals_in t)
  literal_in (gcons (gnum (suc (suc (suc (suc (suc (suc n))))))) t) = word (number_in t)
  literal_in (gcons gnil t) = char 0
  literal_in (gcons (gcons a b) t) = char 0

  literals_in : Gv → LiteralsOf ℕ
  literals_in gnil = no_literals
  literals_in (gnum n) = no_literals
  literals_in (gcons a b) = more_literals (literal_in a) (literals_in b)

-- a literal comes back
mutual
  pub literal_in-pack_literal : (l : LiteralOf ℕ) → literal_in (pack_literal l) ≡ l
  literal_in-pack_literal (number t) = ap number (numbers_in-pack_numbers t)
  literal_in-pack_literal (str t) = ap str (numbers_in-pack_numbers t)
  literal_in-pack_literal (symbol t) = ap symbol (numbers_in-pack_numbers t)
  literal_in-pack_literal (char b) = refl
  literal_in-pack_literal (array ls) = ap array (literals_in-pack_literals ls)
  literal_in-pack_literal (bytes ls) = ap bytes (literals_in-pack_literals ls)
  literal_in-pack_literal (word n) = refl

  pub literals_in-pack_literals : (ls : LiteralsOf ℕ) → literals_in (pack_literals ls) ≡ ls
  literals_in-pack_literals no_literals = refl
  literals_in-pack_literals (more_literals l ls) = λ i. more_literals (literal_in-pack_literal l i) (literals_in-pack_literals ls i)

-- the code of a tree
abbrev mutual
  pack_tree : TreeOf ℕ → Gv
  pack_tree (var n) = gcons (gnum 0) (gnum n)
  pack_tree (literal l) = gcons (gnum 1) (pack_literal l)
  pack_tree (send r s args) = gcons (gnum 2) (gcons (pack_tree r) (gcons (gnum s) (pack_trees args)))
  pack_tree (cascade r ms) = gcons (gnum 3) (gcons (pack_tree r) (pack_messages ms))
  pack_tree (assign n t) = gcons (gnum 4) (gcons (gnum n) (pack_tree t))
  pack_tree (block ps ts ss e) =
      gcons (gnum 5) (gcons (gcons (pack_numbers ps) (pack_numbers ts)) (gcons (pack_statements ss) (pack_notes e)))
  pack_tree (brace ts) = gcons (gnum 6) (pack_trees ts)
  pack_tree (return t) = gcons (gnum 7) (pack_tree t)

  pack_trees : TreesOf ℕ → Gv
  pack_trees no_trees = gnil
  pack_trees (more_trees t ts) = gcons (pack_tree t) (pack_trees ts)

  pack_messages : MessagesOf ℕ → Gv
  pack_messages no_messages = gnil
  pack_messages (more_messages s args ms) = gcons (gcons (gnum s) (pack_trees args)) (pack_messages ms)

  pack_statements : StatementsOf ℕ → Gv
  pack_statements no_statements = gnil
  pack_statements (more_statements c t ss) = gcons (gcons (pack_notes c) (pack_tree t)) (pack_statements ss)

-- the tree in a code
abbrev mutual
  tree_in : Gv → TreeOf ℕ
  tree_in (gcons (gnum zero) t) = var (number_in t)
  tree_in (gcons (gnum (suc zero)) t) = literal (literal_in t)
  tree_in (gcons (gnum (suc (suc zero))) (gcons r (gcons s args))) = send (tree_in r) (number_in s) (trees_in args)
  tree_in (gcons (gnum (suc (suc (suc zero)))) (gcons r ms)) = cascade (tree_in r) (messages_in ms)
  tree_in (gcons (gnum (suc (suc (suc (suc zero))))) (gcons n t)) = assign (number_in n) (tree_in t)
  tree_in (gcons (gnum (suc (suc (suc (suc (suc zero)))))) (gcons (gcons ps ts) (gcons ss e))) =
      block (numbers_in ps) (numbers_in ts) (statements_in ss) (notes_in e)
  tree_in (gcons (gnum (suc (suc (suc (suc (suc (suc zero))))))) ts) = brace (trees_in ts)
  tree_in (gcons (gnum (suc (suc (suc (suc (suc (suc (suc n)))))))) t) = return (tree_in t)
  tree_in g = var 0

  trees_in : Gv → TreesOf ℕ
  trees_in (gcons a b) = more_trees (tree_in a) (trees_in b)
  trees_in g = no_trees

  messages_in : Gv → MessagesOf ℕ
  messages_in (gcons (gcons s args) b) = more_messages (number_in s) (trees_in args) (messages_in b)
  messages_in g = no_messages

  statements_in : Gv → StatementsOf ℕ
  statements_in (gcons (gcons c t) b) = more_statements (notes_in c) (tree_in t) (statements_in b)
  statements_in g = no_statements

-- a tree comes back
mutual
  pub tree_in-pack_tree : (t : TreeOf ℕ) → tree_in (pack_tree t) ≡ t
  tree_in-pack_tree (var n) = refl
  tree_in-pack_tree (literal l) = ap literal (literal_in-pack_literal l)
  tree_in-pack_tree (send r s args) = λ i. send (tree_in-pack_tree r i) s (trees_in-pack_trees args i)
  tree_in-pack_tree (cascade r ms) = λ i. cascade (tree_in-pack_tree r i) (messages_in-pack_messages ms i)
  tree_in-pack_tree (assign n t) = ap (assign n) (tree_in-pack_tree t)
  tree_in-pack_tree (block ps ts ss e) =
      λ i. block (numbers_in-pack_numbers ps i) (numbers_in-pack_numbers ts i) (statements_in-pack_statements ss i) (notes_in-pack_notes e i)
  tree_in-pack_tree (brace ts) = ap brace (trees_in-pack_trees ts)
  tree_in-pack_tree (return t) = ap return (tree_in-pack_tree t)

  pub trees_in-pack_trees : (ts : TreesOf ℕ) → trees_in (pack_trees ts) ≡ ts
  trees_in-pack_trees no_trees = refl
  trees_in-pack_trees (more_trees t ts) = λ i. more_trees (tree_in-pack_tree t i) (trees_in-pack_trees ts i)

  messages_in-pack_messages : (ms : MessagesOf ℕ) → messages_in (pack_messages ms) ≡ ms
  messages_in-pack_messages no_messages = refl
  messages_in-pack_messages (more_messages s args ms) = λ i. more_messages s (trees_in-pack_trees args i) (messages_in-pack_messages ms i)

  statements_in-pack_statements : (ss : StatementsOf ℕ) → statements_in (pack_statements ss) ≡ ss
  statements_in-pack_statements no_statements = refl
  statements_in-pack_statements (more_statements c t ss) =
      λ i. more_statements (notes_in-pack_notes c i) (tree_in-pack_tree t i) (statements_in-pack_statements ss i)

-- the code of literals
abbrev pub coded_literal : Coded (LiteralOf ℕ)
coded_literal =
    record { code = pack_literal; inj = λ x y p. sym (literal_in-pack_literal x) ∙ ap literal_in p ∙ literal_in-pack_literal y }

-- the code of trees
abbrev pub coded_tree : Coded (TreeOf ℕ)
coded_tree = record { code = pack_tree; inj = λ x y p. sym (tree_in-pack_tree x) ∙ ap tree_in p ∙ tree_in-pack_tree y }
