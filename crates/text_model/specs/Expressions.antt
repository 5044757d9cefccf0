-- The text of expressions, messages and blocks.
use Rattle.std.specs.Prelude.{ℕ, ◌+◌, if◌then◌else◌, List, [], ◌∷◌, ◌++◌, map, flat_map, replicate, codes}
use Rattle.tree_model.specs.Tree.{Notes, TreeOf, var, literal, send, cascade, assign, block, brace, return, TreesOf, no_trees, more_trees, MessagesOf, no_messages, more_messages, StatementsOf, no_statements, more_statements}
use Rattle.text_model.specs.Pieces.{pieces_joined, pieces_behind, pieces_in_turn, keywords_of}
use Rattle.text_model.specs.Literals.{literal_text}
use Rattle.text_model.specs.Precedences.{message_precedence, messages_precedence, precedence_of, receiver_limit, argument_limit, operand_text}
use Rattle.text_model.specs.Flat.{is_flat}
use Rattle.text_model.specs.declared.precedence.Precedence.{Precedence}

-- a line of level k begins with k tabs
abbrev pub line_of : ℕ → List ℕ → List ℕ
line_of k t = replicate k 9 ++ t

-- each on a line of its own, as it is
abbrev pub note_lines : ℕ → Notes → List (List ℕ)
note_lines k notes = map (line_of k) notes

-- the temporaries between bars on a line, and no line where there are none
abbrev pub temporary_lines : ℕ → List (List ℕ) → List (List ℕ)
temporary_lines k [] = []
temporary_lines k (t ∷ ts) = line_of k (pieces_joined (codes " ") (codes "|" ∷ (t ∷ ts) ++ codes "|" ∷ [])) ∷ []

-- the period behind a statement that another one follows
abbrev pub period_before : {N : Type 0} → StatementsOf N → List ℕ
period_before no_statements = []
period_before (more_statements c t ss) = codes "."

-- a block's parameters, each behind a colon and with a blank after it, and then a bar; nothing where there are none
abbrev pub parameters_text : List (List ℕ) → List ℕ
parameters_text [] = []
parameters_text (p ∷ ps) = flat_map (λ q. codes ":" ++ q ++ codes " ") (p ∷ ps) ++ codes "|"

-- the blank between the parameters of a flat block and its statement
abbrev pub blank_behind : List (List ℕ) → List ℕ
blank_behind [] = []
blank_behind (p ∷ ps) = codes " "

-- a flat block on the line where it begins
abbrev pub flat_block : List (List ℕ) → List ℕ → List ℕ
flat_block ps row = codes "[" ++ parameters_text ps ++ blank_behind ps ++ row ++ codes "]"

-- any other block with its lines on lines of their own, and its bracket directly behind the last
abbrev pub tall_block : List (List ℕ) → List (List ℕ) → List ℕ
tall_block ps lines = pieces_joined (codes "\n") ((codes "[" ++ parameters_text ps) ∷ lines) ++ codes "]"

-- a message: the keywords of its selector, or its operator or name, and its arguments in turn, each behind a blank
abbrev pub message_text : List ℕ → List (List ℕ) → List ℕ
message_text s args = pieces_behind (codes " ") (pieces_in_turn (keywords_of s) args)

-- In a sequence of level k: a send is its receiver and its message, and a cascade is its first message sent and then each further message behind a semicolon.
abbrev mutual
  pub expression_text : ℕ → TreeOf (List ℕ) → List ℕ
  expression_text k (var n) = n
  expression_text k (literal l) = literal_text l
  expression_text k (send r s args) =
      operand_text (receiver_limit (message_precedence s args)) (precedence_of r) (expression_text k r) ++ message_text s (argument_texts k (message_precedence s args) args)
  expression_text k (cascade r ms) =
      operand_text (receiver_limit (messages_precedence ms)) (precedence_of r) (expression_text k r) ++ pieces_joined (codes ";") (message_texts k ms)
  expression_text k (assign n t) = n ++ codes " := " ++ expression_text k t
  expression_text k (block ps ts ss e) =
      if is_flat (block ps ts ss e) then flat_block ps (row_text (k + 1) ss)
      else tall_block ps (temporary_lines (k + 1) ts ++ statement_lines (k + 1) ss ++ note_lines (k + 1) e)
  expression_text k (brace ts) = codes "{" ++ pieces_joined (codes ". ") (expression_texts k ts) ++ codes "}"
  expression_text k (return t) = codes "^" ++ expression_text k t

  pub expression_texts : ℕ → TreesOf (List ℕ) → List (List ℕ)
  expression_texts k no_trees = []
  expression_texts k (more_trees t ts) = expression_text k t ∷ expression_texts k ts

  -- the arguments of a message of this precedence
  pub argument_texts : ℕ → Precedence → TreesOf (List ℕ) → List (List ℕ)
  argument_texts k p no_trees = []
  argument_texts k p (more_trees t ts) = operand_text (argument_limit p) (precedence_of t) (expression_text k t) ∷ argument_texts k p ts

  pub message_texts : ℕ → MessagesOf (List ℕ) → List (List ℕ)
  message_texts k no_messages = []
  message_texts k (more_messages s args ms) = message_text s (argument_texts k (message_precedence s args) args) ∷ message_texts k ms

  -- the one statement of a flat block, or none
  pub row_text : ℕ → StatementsOf (List ℕ) → List ℕ
  row_text k no_statements = []
  row_text k (more_statements c t ss) = expression_text k t

  -- each statement behind its comments, with a period where another one follows
  pub statement_lines : ℕ → StatementsOf (List ℕ) → List (List ℕ)
  statement_lines k no_statements = []
  statement_lines k (more_statements c t ss) =
      note_lines k c ++ line_of k (expression_text k t ++ period_before ss) ∷ statement_lines k ss
