-- The events of a tree build the tree.
use Rattle.std.proofs.Common.{◌≡◌, ℕ, List, [], ◌∷◌, ◌++◌, length, map, refl, sym, ap, ◌∙◌, arith, append_assoc}
use Rattle.std.proofs.lemmas.List.{append-nil}
use Rattle.std.proofs.lemmas.Simd.{map-map}
use Rattle.tree_model.specs.Tree.{LiteralOf, number, str, symbol, char, array, bytes, word, LiteralsOf, no_literals, more_literals, literals_of, TreeOf, literal, send, cascade, assign, block, brace, return, trees_of, more_trees, more_messages, more_statements, map_literal, map_literals, map_names, map_trees, map_messages, map_statements}
use Rattle.grammar_model.specs.Terminal.{Text}
use Rattle.grammar_model.specs.Spanned.{Declared, SpannedTree, Var, Literal, Send, Cascade, Assign, Block, Brace, Return, SpannedTrees, NoTrees, MoreTrees, SpannedMessages, NoMessages, MoreMessages, SpannedStatements, NoStatements, MoreStatements, names_of, plain_tree, plain_trees, plain_messages, plain_statements}
use Rattle.parse_events.specs.declared.event.Declaration.{Declaration}
use Rattle.parse_events.specs.declared.event.Event.{Event}
use Rattle.parse_events.specs.declared.event.Event.TheVariants as event
use Rattle.parse_events.specs.Found.{declarations, count_literals, count_trees, count_messages, count_statements, literal_events, literals_events, tree_events, trees_events, messages_events, statements_events}
use Rattle.event_trees.specs.Stacks.{MessageOf, NotedOf, ScopeOf, StacksOf, nothing, assigned, front, last, messages_in, statements_in, with_node, with_literal, with_array, with_send, with_message, with_cascade, with_value, with_target, with_block, with_scope, with_brace, with_return, with_statement, with_operand, declared_by, step, steps}
use Rattle.event_trees.proofs.Lists.{front-append, last-append}

module _ {N : Type 0} (g : Text → N) where
  -- events in two pieces
  pub steps-append : (s : StacksOf N) (xs ys : List Event) → steps g s (xs ++ ys) ≡ steps g (steps g s xs) ys
  steps-append s [] ys = refl
  steps-append s (x ∷ xs) ys = steps-append (step g s x) xs ys

  -- events whose first piece is known
  behind : (s t : StacksOf N) (xs ys : List Event) → steps g s xs ≡ t → steps g s (xs ++ ys) ≡ steps g t ys
  behind s t xs ys e = steps-append s xs ys ∙ ap (λ u. steps g u ys) e

  -- the parts of a tree as lists
  abbrev literal_list : LiteralsOf Text → List (LiteralOf N)
  literal_list no_literals = []
  literal_list (more_literals l ls) = map_literal g l ∷ literal_list ls

  abbrev tree_list : SpannedTrees → List (TreeOf N)
  tree_list NoTrees = []
  tree_list (MoreTrees t ts) = map_names g (plain_tree t) ∷ tree_list ts

  abbrev message_list : SpannedMessages → List (MessageOf N)
  message_list NoMessages = []
  message_list (MoreMessages s xs ms) = record { selector = g s; arguments = tree_list xs } ∷ message_list ms

  abbrev noted_list : SpannedStatements → List (NotedOf N)
  noted_list NoStatements = []
  noted_list (MoreStatements c f t ss) = record { comments = c; node = map_names g (plain_tree t) } ∷ noted_list ss

  literals_of-list : (ls : LiteralsOf Text) → literals_of (literal_list ls) ≡ map_literals g ls
  literals_of-list no_literals = refl
  literals_of-list (more_literals l ls) = ap (more_literals (map_literal g l)) (literals_of-list ls)

  trees_of-list : (ts : SpannedTrees) → trees_of (tree_list ts) ≡ map_trees g (plain_trees ts)
  trees_of-list NoTrees = refl
  trees_of-list (MoreTrees t ts) = ap (more_trees (map_names g (plain_tree t))) (trees_of-list ts)

  messages_in-list : (ms : SpannedMessages) → messages_in (message_list ms) ≡ map_messages g (plain_messages ms)
  messages_in-list NoMessages = refl
  messages_in-list (MoreMessages s xs ms) = λ i. more_messages (g s) (trees_of-list xs i) (messages_in-list ms i)

  statements_in-list : (ss : SpannedStatements) → statements_in (noted_list ss) ≡ map_statements g (plain_statements ss)
  statements_in-list NoStatements = refl
  statements_in-list (MoreStatements c f t ss) = ap (more_statements c (map_names g (plain_tree t))) (statements_in-list ss)

  -- their lengths
  many_literals : (ls : LiteralsOf Text) → count_literals ls ≡ length (literal_list ls)
  many_literals no_literals = refl
  many_literals (more_literals l ls) = omega (arith, many_literals ls)

  many_trees : (ts : SpannedTrees) → count_trees ts ≡ length (tree_list ts)
  many_trees NoTrees = refl
  many_trees (MoreTrees t ts) = omega (arith, many_trees ts)

  many_messages : (ms : SpannedMessages) → count_messages ms ≡ length (message_list ms)
  many_messages NoMessages = refl
  many_messages (MoreMessages s xs ms) = omega (arith, many_messages ms)

  many_statements : (ss : SpannedStatements) → count_statements ss ≡ length (noted_list ss)
  many_statements NoStatements = refl
  many_statements (MoreStatements c f t ss) = omega (arith, many_statements ss)

  -- more parts
  abbrev with_literals : StacksOf N → List (LiteralOf N) → StacksOf N
  with_literals s ls = record s { literals = s.literals ++ ls }

  abbrev with_nodes : StacksOf N → List (TreeOf N) → StacksOf N
  with_nodes s ts = record s { nodes = s.nodes ++ ts }

  abbrev with_messages : StacksOf N → List (MessageOf N) → StacksOf N
  with_messages s ms = record s { messages = s.messages ++ ms }

  abbrev with_noted : StacksOf N → List (NotedOf N) → StacksOf N
  with_noted s ss = record s { statements = s.statements ++ ss }

  seam : {X : Type 0} (xs : List X) (x : X) (ys : List X) → (xs ++ x ∷ []) ++ ys ≡ xs ++ x ∷ ys
  seam xs x ys = append_assoc xs (x ∷ []) ys

  -- the literals of an array become the array
  array_made : (kind : LiteralsOf N → LiteralOf N) (s : StacksOf N) (ls : LiteralsOf Text)
      → with_array kind (with_literals s (literal_list ls)) (count_literals ls) ≡ with_literal s (kind (map_literals g ls))
  array_made kind s ls =
      λ i. record s {
        literals = front-append (count_literals ls) s.literals (literal_list ls) (many_literals ls) i ++ kind ((ap literals_of (last-append (count_literals ls) s.literals (literal_list ls) (many_literals ls)) ∙ literals_of-list ls) i) ∷ [];
      }

  -- the events of a literal build it
  mutual
    literal_run : (l : LiteralOf Text) (s : StacksOf N) → steps g s (literal_events l) ≡ with_literal s (map_literal g l)
    literal_run (number t) s = refl
    literal_run (str t) s = refl
    literal_run (symbol t) s = refl
    literal_run (char b) s = refl
    literal_run (word n) s = refl
    literal_run (array ls) s = behind s (with_literals s (literal_list ls)) (literals_events ls) (event.Array (count_literals ls) ∷ []) (literals_run ls s) ∙ array_made array s ls
    literal_run (bytes ls) s = behind s (with_literals s (literal_list ls)) (literals_events ls) (event.Bytes (count_literals ls) ∷ []) (literals_run ls s) ∙ array_made bytes s ls

    literals_run : (ls : LiteralsOf Text) (s : StacksOf N) → steps g s (literals_events ls) ≡ with_literals s (literal_list ls)
    literals_run no_literals s = λ i. record s { literals = sym (append-nil s.literals) i }
    literals_run (more_literals l ls) s =
        behind s (with_literal s (map_literal g l)) (literal_events l) (literals_events ls) (literal_run l s) ∙ literals_run ls (with_literal s (map_literal g l)) ∙
        (λ i. record s { literals = seam s.literals (map_literal g l) (literal_list ls) i })

  -- the last literal becomes a node
  operand_made : (s : StacksOf N) (l : LiteralOf N) → with_operand (with_literal s l) ≡ with_node s (literal l)
  operand_made s l =
      λ i. record s {
        literals = front-append 1 s.literals (l ∷ []) refl i;
        nodes = s.nodes ++ map literal (last-append 1 s.literals (l ∷ []) refl i);
      }

  -- receiver and arguments become a message
  send_made : (s : StacksOf N) (r : TreeOf N) (selector : N) (xs : SpannedTrees)
      → with_send (with_nodes (with_node s r) (tree_list xs)) selector (count_trees xs) ≡ with_node s (send r selector (map_trees g (plain_trees xs)))
  send_made s r selector xs =
      (λ i. record s { nodes = front 1 (before i) ++ map (λ q. send q selector (trees_of (arguments i))) (last 1 (before i)) }) ∙
      (λ i. record s { nodes = front-append 1 s.nodes (r ∷ []) refl i ++ map (λ q. send q selector (trees_of-list xs i)) (last-append 1 s.nodes (r ∷ []) refl i) })
    where
      before : front (count_trees xs) ((s.nodes ++ r ∷ []) ++ tree_list xs) ≡ s.nodes ++ r ∷ []
      before = front-append (count_trees xs) (s.nodes ++ r ∷ []) (tree_list xs) (many_trees xs)

      arguments : last (count_trees xs) ((s.nodes ++ r ∷ []) ++ tree_list xs) ≡ tree_list xs
      arguments = last-append (count_trees xs) (s.nodes ++ r ∷ []) (tree_list xs) (many_trees xs)

  -- arguments become a message of a cascade
  message_made : (s : StacksOf N) (selector : N) (xs : SpannedTrees)
      → with_message (with_nodes s (tree_list xs)) selector (count_trees xs) ≡ with_messages s (record { selector = selector; arguments = tree_list xs } ∷ [])
  message_made s selector xs =
      λ i. record s {
        nodes = front-append (count_trees xs) s.nodes (tree_list xs) (many_trees xs) i;
        messages = s.messages ++ record { selector = selector; arguments = last-append (count_trees xs) s.nodes (tree_list xs) (many_trees xs) i } ∷ [];
      }

  -- receiver and messages become a cascade
  cascade_made : (s : StacksOf N) (r : TreeOf N) (ms : SpannedMessages)
      → with_cascade (with_messages (with_node s r) (message_list ms)) (count_messages ms) ≡ with_node s (cascade r (map_messages g (plain_messages ms)))
  cascade_made s r ms =
      λ i. record s {
        messages = front-append (count_messages ms) s.messages (message_list ms) (many_messages ms) i;
        nodes = front-append 1 s.nodes (r ∷ []) refl i ++ map (λ q. cascade q (messages i)) (last-append 1 s.nodes (r ∷ []) refl i);
      }
    where
      messages : messages_in (last (count_messages ms) (s.messages ++ message_list ms)) ≡ map_messages g (plain_messages ms)
      messages = ap messages_in (last-append (count_messages ms) s.messages (message_list ms) (many_messages ms)) ∙ messages_in-list ms

  -- variable and value become an assignment
  value_made : (s : StacksOf N) (n : N) (t : TreeOf N) → with_value (with_node (with_target s n) t) ≡ with_node s (assign n t)
  value_made s n t =
      λ i. record s {
        targets = front-append 1 s.targets (n ∷ []) refl i;
        nodes = front-append 1 s.nodes (t ∷ []) refl i ++ assigned (last-append 1 s.targets (n ∷ []) refl i) (last-append 1 s.nodes (t ∷ []) refl i);
      }

  -- the names of declarations
  pub declared_by-declarations : (ds : List Declared) → declared_by g (declarations ds) ≡ map g (names_of ds)
  declared_by-declarations ds = map-map (λ (d : Declaration). g d.name) (λ (d : Declared). record { name = d.name; from = d.from }) ds ∙ sym (map-map g (λ (d : Declared). d.name) ds)

  -- declarations and statements become a block
  block_made : (s : StacksOf N) (ps ds : List Declared) (ss : SpannedStatements) (tail : List (List ℕ))
      → with_block (with_noted (with_scope s (declared_by g (declarations ps)) (declared_by g (declarations ds))) (noted_list ss)) (count_statements ss) tail ≡ with_node s (block (map g (names_of ps)) (map g (names_of ds)) (map_statements g (plain_statements ss)) tail)
  block_made s ps ds ss tail =
      (λ i. record s {
        statements = front-append (count_statements ss) s.statements (noted_list ss) (many_statements ss) i;
        scopes = front-append 1 s.scopes (scope ∷ []) refl i;
        nodes = s.nodes ++ map (λ (d : ScopeOf N). block d.parameters d.temporaries (statements i) tail) (last-append 1 s.scopes (scope ∷ []) refl i);
      }) ∙
      (λ i. record s { nodes = s.nodes ++ block (declared_by-declarations ps i) (declared_by-declarations ds i) (map_statements g (plain_statements ss)) tail ∷ [] })
    where
      scope : ScopeOf N
      scope = record { parameters = declared_by g (declarations ps); temporaries = declared_by g (declarations ds) }

      statements : statements_in (last (count_statements ss) (s.statements ++ noted_list ss)) ≡ map_statements g (plain_statements ss)
      statements = ap statements_in (last-append (count_statements ss) s.statements (noted_list ss) (many_statements ss)) ∙ statements_in-list ss

  -- nodes become a brace array
  brace_made : (s : StacksOf N) (ts : SpannedTrees) → with_brace (with_nodes s (tree_list ts)) (count_trees ts) ≡ with_node s (brace (map_trees g (plain_trees ts)))
  brace_made s ts =
      λ i. record s {
        nodes = front-append (count_trees ts) s.nodes (tree_list ts) (many_trees ts) i ++ brace ((ap trees_of (last-append (count_trees ts) s.nodes (tree_list ts) (many_trees ts)) ∙ trees_of-list ts) i) ∷ [];
      }

  -- a node becomes a return
  return_made : (s : StacksOf N) (t : TreeOf N) → with_return (with_node s t) ≡ with_node s (return t)
  return_made s t = λ i. record s { nodes = front-append 1 s.nodes (t ∷ []) refl i ++ map return (last-append 1 s.nodes (t ∷ []) refl i) }

  -- a node becomes a statement
  statement_made : (s : StacksOf N) (t : TreeOf N) (c : List (List ℕ)) → with_statement (with_node s t) c ≡ with_noted s (record { comments = c; node = t } ∷ [])
  statement_made s t c =
      λ i. record s {
        nodes = front-append 1 s.nodes (t ∷ []) refl i;
        statements = s.statements ++ map (λ u. record { comments = c; node = u }) (last-append 1 s.nodes (t ∷ []) refl i);
      }

  -- the events of a node build it
  mutual
    tree_run : (t : SpannedTree) (s : StacksOf N) → steps g s (tree_events t) ≡ with_node s (map_names g (plain_tree t))
    tree_run (Var f e n) s = refl
    tree_run (Literal f e l) s = behind s (with_literal s (map_literal g l)) (literal_events l) (event.Literal f e ∷ []) (literal_run l s) ∙ operand_made s (map_literal g l)
    tree_run (Send f e r n xs) s =
        let first = with_node s (map_names g (plain_tree r)) in
        behind s (with_nodes first (tree_list xs)) (tree_events r ++ trees_events xs) (event.Send f e (count_trees xs) n ∷ []) (behind s first (tree_events r) (trees_events xs) (tree_run r s) ∙ trees_run xs first) ∙
        send_made s (map_names g (plain_tree r)) (g n) xs
    tree_run (Cascade f e r ms) s =
        let first = with_node s (map_names g (plain_tree r)) in
        behind s (with_messages first (message_list ms)) (tree_events r ++ messages_events ms) (event.Cascade f e (count_messages ms) ∷ []) (behind s first (tree_events r) (messages_events ms) (tree_run r s) ∙ messages_run ms first) ∙
        cascade_made s (map_names g (plain_tree r)) ms
    tree_run (Assign f e n t) s =
        behind (with_target s (g n)) (with_node (with_target s (g n)) (map_names g (plain_tree t))) (tree_events t) (event.Assign f e ∷ []) (tree_run t (with_target s (g n))) ∙
        value_made s (g n) (map_names g (plain_tree t))
    tree_run (Block f e ps ds ss c) s =
        let scoped = with_scope s (declared_by g (declarations ps)) (declared_by g (declarations ds)) in
        behind scoped (with_noted scoped (noted_list ss)) (statements_events ss) (event.Block f e (count_statements ss) c ∷ []) (statements_run ss scoped) ∙
        block_made s ps ds ss c
    tree_run (Brace f e ts) s = behind s (with_nodes s (tree_list ts)) (trees_events ts) (event.Brace f e (count_trees ts) ∷ []) (trees_run ts s) ∙ brace_made s ts
    tree_run (Return f e t) s =
        behind s (with_node s (map_names g (plain_tree t))) (tree_events t) (event.Return f e ∷ []) (tree_run t s) ∙ return_made s (map_names g (plain_tree t))

    trees_run : (ts : SpannedTrees) (s : StacksOf N) → steps g s (trees_events ts) ≡ with_nodes s (tree_list ts)
    trees_run NoTrees s = λ i. record s { nodes = sym (append-nil s.nodes) i }
    trees_run (MoreTrees t ts) s =
        behind s (with_node s (map_names g (plain_tree t))) (tree_events t) (trees_events ts) (tree_run t s) ∙ trees_run ts (with_node s (map_names g (plain_tree t))) ∙
        (λ i. record s { nodes = seam s.nodes (map_names g (plain_tree t)) (tree_list ts) i })

    messages_run : (ms : SpannedMessages) (s : StacksOf N) → steps g s (messages_events ms) ≡ with_messages s (message_list ms)
    messages_run NoMessages s = λ i. record s { messages = sym (append-nil s.messages) i }
    messages_run (MoreMessages n xs ms) s =
        let one : MessageOf N = record { selector = g n; arguments = tree_list xs } in
        behind s (with_nodes s (tree_list xs)) (trees_events xs) (event.Message n (count_trees xs) ∷ messages_events ms) (trees_run xs s) ∙ ap (λ u. steps g u (messages_events ms)) (message_made s (g n) xs) ∙
        messages_run ms (with_messages s (one ∷ [])) ∙
        (λ i. record s { messages = seam s.messages one (message_list ms) i })

    statements_run : (ss : SpannedStatements) (s : StacksOf N) → steps g s (statements_events ss) ≡ with_noted s (noted_list ss)
    statements_run NoStatements s = λ i. record s { statements = sym (append-nil s.statements) i }
    statements_run (MoreStatements c f t ss) s =
        let one : NotedOf N = record { comments = c; node = map_names g (plain_tree t) } in
        behind s (with_node s (map_names g (plain_tree t))) (tree_events t) (event.Statement f c ∷ statements_events ss) (tree_run t s) ∙
        ap (λ u. steps g u (statements_events ss)) (statement_made s (map_names g (plain_tree t)) c) ∙ statements_run ss (with_noted s (one ∷ [])) ∙
        (λ i. record s { statements = seam s.statements one (noted_list ss) i })

  -- the events of statements build them
  pub statements_built : (ss : SpannedStatements) → statements_in (steps g nothing (statements_events ss)).statements ≡ map_statements g (plain_statements ss)
  statements_built ss = ap (λ (s : StacksOf N). statements_in s.statements) (statements_run ss nothing) ∙ statements_in-list ss
