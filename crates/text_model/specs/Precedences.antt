-- Where parentheses stand.
use Rattle.std.specs.Prelude.{ℕ, if◌then◌else◌, Bool, true, false, List, ◌++◌, codes}
use Rattle.tree_model.specs.Tree.{TreeOf, var, literal, send, cascade, assign, block, brace, return, TreesOf, no_trees, more_trees, MessagesOf, no_messages, more_messages}
use Rattle.text_model.specs.Pieces.{has_colon}
use Rattle.text_model.specs.declared.precedence.Precedence.{Precedence}
use Rattle.text_model.specs.declared.precedence.Precedence.TheVariants.{Unary, Binary, Keyword}

-- a message without arguments is unary; of the others one whose selector has a colon is a keyword message
abbrev pub message_precedence : {N : Type 0} → List ℕ → TreesOf N → Precedence
message_precedence s no_trees = Unary
message_precedence s (more_trees t ts) = if has_colon s then Keyword else Binary

-- the first message of a cascade decides for its receiver
abbrev pub messages_precedence : MessagesOf (List ℕ) → Precedence
messages_precedence no_messages = Unary
messages_precedence (more_messages s args ms) = message_precedence s args

-- a send is as loose as its message, a cascade and an assignment are as loose as a keyword send, and all else holds together by itself
abbrev pub precedence_of : TreeOf (List ℕ) → Precedence
precedence_of (var n) = Unary
precedence_of (literal l) = Unary
precedence_of (send r s args) = message_precedence s args
precedence_of (cascade r ms) = Keyword
precedence_of (assign n t) = Keyword
precedence_of (block ps ts ss e) = Unary
precedence_of (brace ts) = Unary
precedence_of (return t) = Unary

-- the loosest receiver that a message takes without parentheses
abbrev pub receiver_limit : Precedence → Precedence
receiver_limit Unary = Unary
receiver_limit Binary = Binary
receiver_limit Keyword = Binary

-- the loosest argument that a message takes without parentheses
abbrev pub argument_limit : Precedence → Precedence
argument_limit Unary = Unary
argument_limit Binary = Unary
argument_limit Keyword = Binary

-- whether the first is looser than the second
abbrev pub is_looser : Precedence → Precedence → Bool
is_looser Unary q = false
is_looser Binary Unary = true
is_looser Binary Binary = false
is_looser Binary Keyword = false
is_looser Keyword Unary = true
is_looser Keyword Binary = true
is_looser Keyword Keyword = false

-- the text of an operand, in parentheses where the operand is looser than the limit
abbrev pub operand_text : Precedence → Precedence → List ℕ → List ℕ
operand_text limit p t = if is_looser p limit then codes "(" ++ t ++ codes ")" else t
