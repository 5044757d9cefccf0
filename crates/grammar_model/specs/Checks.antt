-- Faults that stand in a tree that the grammar spells, and brackets that are too deep.
use Rattle.std.specs.Prelude.{ℕ, ◌+◌, ◌-◌, nat_lt, nat_le, Bool, true, false, ◌||◌, if◌then◌else◌, List, [], ◌∷◌, ◌++◌, map, Option, Some, None, option_map}
use Rattle.std.specs.List.{list_any}
use Rattle.std.specs.Option.{option_or}
use Rattle.std.specs.Str.{bytes_eq}
use Rattle.tree_model.specs.Measure.{height}
use Rattle.token_model.specs.declared.fault.LexFault.{LexFault}
use Rattle.grammar_model.specs.declared.wanted.Wanted.{Wanted}
use Rattle.grammar_model.specs.Terminal.{Text, Opens, Closes}
use Rattle.grammar_model.specs.Input.{Lexeme, lex}
use Rattle.grammar_model.specs.Words.{is_pseudo}
use Rattle.grammar_model.specs.Spanned.{Declared, SpannedTree, Var, Literal, Send, Cascade, Assign, Block, Brace, Return, SpannedTrees, NoTrees, MoreTrees, SpannedMessages, NoMessages, MoreMessages, SpannedStatements, NoStatements, MoreStatements, SpannedSequence, SpannedMethod, plain_tree}

-- Why a text is refused, and where in it.
pub data Fault : Type 0 where
  -- no token begins here
  Lexical : LexFault → Fault
  -- a bracket that is the 401st open one, or a statement that is higher than 200
  TooDeep : ℕ → Fault
  -- a token that can continue no text, and what could have stood there
  Expected : Wanted → ℕ → Fault
  -- a primitive in a text of a user
  PrimitiveInUser : ℕ → Fault
  -- a name that is declared twice in one list
  DuplicateName : ℕ → Fault
  -- an assignment to a pseudo-variable, an argument or a parameter
  AssignsFixed : ℕ → Fault

-- the first opening before which 400 stand open; a closing mark closes the last one that is open, of whatever kind
abbrev pub first_deep : ℕ → List Lexeme → Option ℕ
first_deep n [] = None
first_deep n (lex c f e (Opens o) ∷ ts) = if nat_le 400 n then Some f else first_deep (n + 1) ts
first_deep n (lex c f e (Closes o) ∷ ts) = first_deep (n - 1) ts
first_deep n (lex c f e k ∷ ts) = first_deep n ts

-- the first declaration of a name that was declared before
abbrev pub first_repeat : List Text → List Declared → Option ℕ
first_repeat seen [] = None
first_repeat seen (d ∷ ds) = if list_any (λ n. bytes_eq d.name n) seen then Some d.from else first_repeat (d.name ∷ seen) ds

-- the first declaration, in text order, of a name that its list declared before
abbrev mutual
  -- in a tree
  pub duplicate_in : SpannedTree → Option ℕ
  duplicate_in (Var f e n) = None
  duplicate_in (Literal f e l) = None
  duplicate_in (Send f e r s xs) = option_or (duplicate_in r) (duplicate_in_trees xs)
  duplicate_in (Cascade f e r ms) = option_or (duplicate_in r) (duplicate_in_messages ms)
  duplicate_in (Assign f e n t) = duplicate_in t
  duplicate_in (Block f e ps ds ss c) = option_or (first_repeat [] (ps ++ ds)) (duplicate_in_statements ss)
  duplicate_in (Brace f e ts) = duplicate_in_trees ts
  duplicate_in (Return f e t) = duplicate_in t

  -- in trees
  pub duplicate_in_trees : SpannedTrees → Option ℕ
  duplicate_in_trees NoTrees = None
  duplicate_in_trees (MoreTrees t ts) = option_or (duplicate_in t) (duplicate_in_trees ts)

  -- in messages
  pub duplicate_in_messages : SpannedMessages → Option ℕ
  duplicate_in_messages NoMessages = None
  duplicate_in_messages (MoreMessages s xs ms) = option_or (duplicate_in_trees xs) (duplicate_in_messages ms)

  -- in statements
  pub duplicate_in_statements : SpannedStatements → Option ℕ
  duplicate_in_statements NoStatements = None
  duplicate_in_statements (MoreStatements c f t ss) = option_or (duplicate_in t) (duplicate_in_statements ss)

-- a declared name, and whether it is an argument or a parameter
pub record Known : Type 0 where
  pub name : Text
  pub fixed : Bool

-- the names of one list, arguments or parameters and then temporaries
abbrev pub known_of : List Declared → List Declared → List Known
known_of ps ds =
    map (λ (d : Declared). record { name = d.name; fixed = true }) ps ++ map (λ (d : Declared). record { name = d.name; fixed = false }) ds

-- whether the innermost declaration of the name is an argument or a parameter
abbrev pub is_fixed : List Known → Text → Bool
is_fixed [] n = false
is_fixed (k ∷ ks) n = if bytes_eq n k.name then k.fixed else is_fixed ks n

-- the first assignment, in text order, to a name that can not be assigned; the known names begin with the innermost ones
abbrev mutual
  -- in a tree
  pub fixed_in : List Known → SpannedTree → Option ℕ
  fixed_in ks (Var f e n) = None
  fixed_in ks (Literal f e l) = None
  fixed_in ks (Send f e r s xs) = option_or (fixed_in ks r) (fixed_in_trees ks xs)
  fixed_in ks (Cascade f e r ms) = option_or (fixed_in ks r) (fixed_in_messages ks ms)
  fixed_in ks (Assign f e n t) = if is_pseudo n || is_fixed ks n then Some f else fixed_in ks t
  fixed_in ks (Block f e ps ds ss c) = fixed_in_statements (known_of ps ds ++ ks) ss
  fixed_in ks (Brace f e ts) = fixed_in_trees ks ts
  fixed_in ks (Return f e t) = fixed_in ks t

  -- in trees
  pub fixed_in_trees : List Known → SpannedTrees → Option ℕ
  fixed_in_trees ks NoTrees = None
  fixed_in_trees ks (MoreTrees t ts) = option_or (fixed_in ks t) (fixed_in_trees ks ts)

  -- in messages
  pub fixed_in_messages : List Known → SpannedMessages → Option ℕ
  fixed_in_messages ks NoMessages = None
  fixed_in_messages ks (MoreMessages s xs ms) = option_or (fixed_in_trees ks xs) (fixed_in_messages ks ms)

  -- in statements
  pub fixed_in_statements : List Known → SpannedStatements → Option ℕ
  fixed_in_statements ks NoStatements = None
  fixed_in_statements ks (MoreStatements c f t ss) = option_or (fixed_in ks t) (fixed_in_statements ks ss)

-- the first outermost statement that is higher than 200, at its first token
abbrev pub first_tall : SpannedStatements → Option ℕ
first_tall NoStatements = None
first_tall (MoreStatements c f t ss) = if nat_lt 200 (height (plain_tree t)) then Some f else first_tall ss

-- the first fault of a sequence whose arguments are these
abbrev pub sequence_fault : List Declared → SpannedSequence → Option Fault
sequence_fault ps s =
    option_or (option_map DuplicateName (option_or (first_repeat [] (ps ++ s.temporaries)) (duplicate_in_statements s.statements)))
    (option_or (option_map AssignsFixed (fixed_in_statements (known_of ps s.temporaries) s.statements))
    (option_map TooDeep (first_tall s.statements)))

-- the first fault of a do-it that the grammar spells
abbrev pub doit_fault : SpannedSequence → Option Fault
doit_fault s = sequence_fault [] s

-- the first fault of a method that the grammar spells
abbrev pub method_fault : SpannedMethod → Option Fault
method_fault m = sequence_fault m.arguments m.body
