-- Assignments of a tree to names that can not be assigned are those of its events.
use Rattle.std.proofs.Common.{◌≡◌, Bool, ◌||◌, if◌then◌else◌, List, [], ◌∷◌, ◌++◌, Some, None, refl, sym, ap, ◌∙◌, append_assoc}
use Rattle.std.specs.Option.{option_or}
use Rattle.std.proofs.lemmas.List.{append-nil}
use Rattle.tree_model.specs.Tree.{LiteralOf, number, str, symbol, char, array, bytes, word, LiteralsOf, no_literals, more_literals}
use Rattle.grammar_model.specs.Terminal.{Text}
use Rattle.grammar_model.specs.Words.{is_pseudo}
use Rattle.grammar_model.specs.Checks.{Known, known_of, is_fixed, fixed_in, fixed_in_trees, fixed_in_messages, fixed_in_statements}
use Rattle.grammar_model.specs.Spanned.{SpannedTree, Var, Literal, Send, Cascade, Assign, Block, Brace, Return, SpannedTrees, NoTrees, MoreTrees, SpannedMessages, NoMessages, MoreMessages, SpannedStatements, NoStatements, MoreStatements}
use Rattle.parse_events.specs.declared.event.Event.{Event}
use Rattle.parse_events.specs.declared.event.Event.TheVariants as event
use Rattle.parse_events.specs.Found.{count_literals, count_trees, count_messages, count_statements, literal_events, literals_events, tree_events, trees_events, messages_events, statements_events}
use Rattle.event_checks.specs.Scopes.{Scoped, first_fixed_in}
use Rattle.event_checks.proofs.Lists.{known_again, option_or_assoc, option_or_none, option_or_if, last_of, last_of_two}

-- literals assign nothing
mutual
  assigns_literal : (s : Scoped) (l : LiteralOf Text) (rest : List Event) → first_fixed_in s (literal_events l ++ rest) ≡ first_fixed_in s rest
  assigns_literal s (number t) rest = refl
  assigns_literal s (str t) rest = refl
  assigns_literal s (symbol t) rest = refl
  assigns_literal s (char b) rest = refl
  assigns_literal s (word n) rest = refl
  assigns_literal s (array ls) rest = ap (first_fixed_in s) (last_of (literals_events ls) (event.Array (count_literals ls)) rest) ∙ assigns_literals s ls (event.Array (count_literals ls) ∷ rest)
  assigns_literal s (bytes ls) rest = ap (first_fixed_in s) (last_of (literals_events ls) (event.Bytes (count_literals ls)) rest) ∙ assigns_literals s ls (event.Bytes (count_literals ls) ∷ rest)

  assigns_literals : (s : Scoped) (ls : LiteralsOf Text) (rest : List Event) → first_fixed_in s (literals_events ls ++ rest) ≡ first_fixed_in s rest
  assigns_literals s no_literals rest = refl
  assigns_literals s (more_literals l ls) rest =
      ap (first_fixed_in s) (append_assoc (literal_events l) (literals_events ls) rest) ∙ assigns_literal s l (literals_events ls ++ rest) ∙ assigns_literals s ls rest

-- the first such assignment of a tree is the first of its events
mutual
  assigns : (s : Scoped) (t : SpannedTree) (rest : List Event) → first_fixed_in s (tree_events t ++ rest) ≡ option_or (fixed_in s.now t) (first_fixed_in s rest)
  assigns s (Var f e n) rest = refl
  assigns s (Literal f e l) rest = ap (first_fixed_in s) (last_of (literal_events l) (event.Literal f e) rest) ∙ assigns_literal s l (event.Literal f e ∷ rest)
  assigns s (Send f e r m xs) rest =
      let last = event.Send f e (count_trees xs) m in
      ap (first_fixed_in s) (last_of_two (tree_events r) (trees_events xs) last rest) ∙
      assigns s r (trees_events xs ++ last ∷ rest) ∙
      ap (option_or (fixed_in s.now r)) (assigns_trees s xs (last ∷ rest)) ∙
      sym (option_or_assoc (fixed_in s.now r) (fixed_in_trees s.now xs) (first_fixed_in s rest))
  assigns s (Cascade f e r ms) rest =
      let last = event.Cascade f e (count_messages ms) in
      ap (first_fixed_in s) (last_of_two (tree_events r) (messages_events ms) last rest) ∙
      assigns s r (messages_events ms ++ last ∷ rest) ∙
      ap (option_or (fixed_in s.now r)) (assigns_messages s ms (last ∷ rest)) ∙
      sym (option_or_assoc (fixed_in s.now r) (fixed_in_messages s.now ms) (first_fixed_in s rest))
  assigns s (Assign f e n t) rest =
      let last = event.Assign f e in
      let here : Bool = is_pseudo n || is_fixed s.now n in
      ap (option_or (if here then Some f else None)) (ap (first_fixed_in s) (last_of (tree_events t) last rest) ∙ assigns s t (last ∷ rest)) ∙
      option_or_if here f (fixed_in s.now t) (first_fixed_in s rest)
  assigns s (Block f e ps ds ss c) rest =
      let last = event.Block f e (count_statements ss) c in
      let inner : List Known → Scoped = λ ks. record { now = ks ++ s.now; outer = s.now ∷ s.outer } in
      ap (λ (ks : List Known). first_fixed_in (inner ks) ((statements_events ss ++ last ∷ []) ++ rest)) (known_again ps ds) ∙
      ap (first_fixed_in (inner (known_of ps ds))) (last_of (statements_events ss) last rest) ∙
      assigns_statements (inner (known_of ps ds)) ss (last ∷ rest)
  assigns s (Brace f e ts) rest = ap (first_fixed_in s) (last_of (trees_events ts) (event.Brace f e (count_trees ts)) rest) ∙ assigns_trees s ts (event.Brace f e (count_trees ts) ∷ rest)
  assigns s (Return f e t) rest = ap (first_fixed_in s) (last_of (tree_events t) (event.Return f e) rest) ∙ assigns s t (event.Return f e ∷ rest)

  assigns_trees : (s : Scoped) (ts : SpannedTrees) (rest : List Event) → first_fixed_in s (trees_events ts ++ rest) ≡ option_or (fixed_in_trees s.now ts) (first_fixed_in s rest)
  assigns_trees s NoTrees rest = refl
  assigns_trees s (MoreTrees t ts) rest =
      ap (first_fixed_in s) (append_assoc (tree_events t) (trees_events ts) rest) ∙
      assigns s t (trees_events ts ++ rest) ∙
      ap (option_or (fixed_in s.now t)) (assigns_trees s ts rest) ∙
      sym (option_or_assoc (fixed_in s.now t) (fixed_in_trees s.now ts) (first_fixed_in s rest))

  assigns_messages : (s : Scoped) (ms : SpannedMessages) (rest : List Event) → first_fixed_in s (messages_events ms ++ rest) ≡ option_or (fixed_in_messages s.now ms) (first_fixed_in s rest)
  assigns_messages s NoMessages rest = refl
  assigns_messages s (MoreMessages m xs ms) rest =
      let next = event.Message m (count_trees xs) in
      ap (first_fixed_in s) (append_assoc (trees_events xs) (next ∷ messages_events ms) rest) ∙
      assigns_trees s xs (next ∷ (messages_events ms ++ rest)) ∙
      ap (option_or (fixed_in_trees s.now xs)) (assigns_messages s ms rest) ∙
      sym (option_or_assoc (fixed_in_trees s.now xs) (fixed_in_messages s.now ms) (first_fixed_in s rest))

  assigns_statements : (s : Scoped) (ss : SpannedStatements) (rest : List Event) → first_fixed_in s (statements_events ss ++ rest) ≡ option_or (fixed_in_statements s.now ss) (first_fixed_in s rest)
  assigns_statements s NoStatements rest = refl
  assigns_statements s (MoreStatements c f t ss) rest =
      let next = event.Statement f c in
      ap (first_fixed_in s) (append_assoc (tree_events t) (next ∷ statements_events ss) rest) ∙
      assigns s t (next ∷ (statements_events ss ++ rest)) ∙
      ap (option_or (fixed_in s.now t)) (assigns_statements s ss rest) ∙
      sym (option_or_assoc (fixed_in s.now t) (fixed_in_statements s.now ss) (first_fixed_in s rest))

-- the first such assignment of statements
pub assigns_all : (s : Scoped) (ss : SpannedStatements) → first_fixed_in s (statements_events ss) ≡ fixed_in_statements s.now ss
assigns_all s ss = ap (first_fixed_in s) (sym (append-nil (statements_events ss))) ∙ assigns_statements s ss [] ∙ option_or_none (fixed_in_statements s.now ss)
