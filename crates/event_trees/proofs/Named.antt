-- The names in a tree are those in its events.
use Rattle.std.proofs.Common.{ℕ, Bool, IsTrue, List, [], ◌∷◌, ◌++◌}
use Rattle.std.specs.List.{AllByRecursion}
use Rattle.tree_model.specs.Tree.{LiteralOf, number, str, symbol, char, array, bytes, word, LiteralsOf, no_literals, more_literals, TreeOf, var, literal, send, cascade, assign, block, brace, return, TreesOf, no_trees, more_trees, MessagesOf, no_messages, more_messages, StatementsOf, no_statements, more_statements, SequenceOf, MethodOf}
use Rattle.tree_model.specs.AllNames.{LiteralNames, LiteralsNames, AllNames, TreesNames, MessagesNames, StatementsNames, SequenceNames, MethodNames}
use Rattle.tree_model.specs.Normal.{without_leading_of, normal_by}
use Rattle.grammar_model.specs.Terminal.{Text}
use Rattle.grammar_model.specs.Spanned.{Declared, SpannedTree, Var, Literal, Send, Cascade, Assign, Block, Brace, Return, SpannedTrees, NoTrees, MoreTrees, SpannedMessages, NoMessages, MoreMessages, SpannedStatements, NoStatements, MoreStatements, SpannedSequence, SpannedMethod, names_of, plain_tree, plain_trees, plain_messages, plain_statements, plain_sequence, plain_method}
use Rattle.parse_events.specs.declared.event.Event.{Event}
use Rattle.parse_events.specs.declared.event.Event.TheVariants as event
use Rattle.parse_events.specs.Found.{declarations, count_literals, count_trees, count_messages, count_statements, literal_events, literals_events, tree_events, trees_events, messages_events, statements_events, sequence_events, method_events}
use Rattle.event_trees.specs.Stacks.{declared_by, event_names, all_names}
use Rattle.event_trees.specs.Naming.{AllPass}
use Rattle.event_trees.specs.Trees.{found_names, method_names}
use Rattle.event_trees.proofs.Known.{AllPass-append, AllPass-first, AllPass-second}

module _ (p : Text → Bool) where
  -- the names that pass
  abbrev Passes : Text → Type 0
  Passes t = IsTrue (p t)

  -- declared names
  names_declared : (ds : List Declared) → AllByRecursion Passes (names_of ds) → AllPass (declared_by (λ t. t) (declarations ds)) p
  names_declared [] h = tt
  names_declared (d ∷ ds) h = (h.0, names_declared ds h.1)

  -- the names of events in two pieces
  in_both : (es fs : List Event) → AllPass (all_names es) p → AllPass (all_names fs) p → AllPass (all_names (es ++ fs)) p
  in_both [] fs x y = y
  in_both (e ∷ es) fs x y = AllPass-append p (event_names e) (all_names (es ++ fs)) (AllPass-first p (event_names e) (all_names es) x) (in_both es fs (AllPass-second p (event_names e) (all_names es) x) y)

  -- the names of a literal
  mutual
    in_literal : (l : LiteralOf Text) → LiteralNames Passes l → AllPass (all_names (literal_events l)) p
    in_literal (number t) h = tt
    in_literal (str t) h = tt
    in_literal (symbol t) h = tt
    in_literal (char b) h = tt
    in_literal (word n) h = (h, tt)
    in_literal (array ls) h = in_both (literals_events ls) (event.Array (count_literals ls) ∷ []) (in_literals ls h) tt
    in_literal (bytes ls) h = in_both (literals_events ls) (event.Bytes (count_literals ls) ∷ []) (in_literals ls h) tt

    in_literals : (ls : LiteralsOf Text) → LiteralsNames Passes ls → AllPass (all_names (literals_events ls)) p
    in_literals no_literals h = tt
    in_literals (more_literals l ls) h = in_both (literal_events l) (literals_events ls) (in_literal l h.0) (in_literals ls h.1)

  -- the names of a node
  mutual
    in_tree : (t : SpannedTree) → AllNames Passes (plain_tree t) → AllPass (all_names (tree_events t)) p
    in_tree (Var f e n) h = (h, tt)
    in_tree (Literal f e l) h = in_both (literal_events l) (event.Literal f e ∷ []) (in_literal l h) tt
    in_tree (Send f e r n xs) h =
        in_both (tree_events r ++ trees_events xs) (event.Send f e (count_trees xs) n ∷ []) (in_both (tree_events r) (trees_events xs) (in_tree r h.0) (in_trees xs h.2)) (h.1, tt)
    in_tree (Cascade f e r ms) h =
        in_both (tree_events r ++ messages_events ms) (event.Cascade f e (count_messages ms) ∷ []) (in_both (tree_events r) (messages_events ms) (in_tree r h.0) (in_messages ms h.1)) tt
    in_tree (Assign f e n t) h = (h.0, in_both (tree_events t) (event.Assign f e ∷ []) (in_tree t h.1) tt)
    in_tree (Block f e ps ds ss c) h =
        AllPass-append p (declared_by (λ t. t) (declarations ps) ++ declared_by (λ t. t) (declarations ds)) (all_names (statements_events ss ++ event.Block f e (count_statements ss) c ∷ []))
        (AllPass-append p (declared_by (λ t. t) (declarations ps)) (declared_by (λ t. t) (declarations ds)) (names_declared ps h.0) (names_declared ds h.1))
        (in_both (statements_events ss) (event.Block f e (count_statements ss) c ∷ []) (in_statements ss h.2) tt)
    in_tree (Brace f e ts) h = in_both (trees_events ts) (event.Brace f e (count_trees ts) ∷ []) (in_trees ts h) tt
    in_tree (Return f e t) h = in_both (tree_events t) (event.Return f e ∷ []) (in_tree t h) tt

    in_trees : (ts : SpannedTrees) → TreesNames Passes (plain_trees ts) → AllPass (all_names (trees_events ts)) p
    in_trees NoTrees h = tt
    in_trees (MoreTrees t ts) h = in_both (tree_events t) (trees_events ts) (in_tree t h.0) (in_trees ts h.1)

    in_messages : (ms : SpannedMessages) → MessagesNames Passes (plain_messages ms) → AllPass (all_names (messages_events ms)) p
    in_messages NoMessages h = tt
    in_messages (MoreMessages n xs ms) h = in_both (trees_events xs) (event.Message n (count_trees xs) ∷ messages_events ms) (in_trees xs h.1) (h.0, in_messages ms h.2)

    in_statements : (ss : SpannedStatements) → StatementsNames Passes (plain_statements ss) → AllPass (all_names (statements_events ss)) p
    in_statements NoStatements h = tt
    in_statements (MoreStatements c f t ss) h = in_both (tree_events t) (event.Statement f c ∷ statements_events ss) (in_tree t h.0) (in_statements ss h.1)

  -- the names of a sequence
  pub in_sequence : (s : SpannedSequence) → SequenceNames Passes (plain_sequence s) → AllPass (found_names (sequence_events s)) p
  in_sequence s h =
      AllPass-append p (declared_by (λ t. t) (declarations s.temporaries)) (all_names (statements_events s.statements)) (names_declared s.temporaries h.temporaries) (in_statements s.statements h.statements)

  without_first : (ts : List Text) (ss : StatementsOf Text) (tail : List (List ℕ)) → SequenceNames Passes (without_leading_of ts ss tail) → SequenceNames Passes (record { temporaries = ts; statements = ss; tail = tail })
  without_first ts no_statements tail h = record { temporaries = h.temporaries; statements = h.statements }
  without_first ts (more_statements c t ss) tail h = record { temporaries = h.temporaries; statements = h.statements }

  normal_names : (ts : List Text) (m : MethodOf Text) → MethodNames Passes (normal_by ts m) → MethodNames Passes m
  normal_names [] m h = record { selector = h.selector; arguments = h.arguments; body = without_first m.body.temporaries m.body.statements m.body.tail h.body }
  normal_names (n ∷ ns) m h = h

  -- the names of a method
  pub in_method : (m : SpannedMethod) → MethodNames Passes (plain_method m) → AllPass (method_names (method_events m)) p
  in_method m h =
      let all = normal_names (names_of m.body.temporaries) (record { selector = m.selector; arguments = names_of m.arguments; head = m.opening; primitive = m.primitive; body = plain_sequence m.body }) h in
      (all.selector, AllPass-append p (declared_by (λ t. t) (declarations m.arguments)) (found_names (sequence_events m.body)) (names_declared m.arguments all.arguments) (in_sequence m.body all.body))

-- a fact of every name is one of each name in a tree
module _ {N : Type 0} (P : N → Type 0) (every : (n : N) → P n) where
  each_name : (ns : List N) → AllByRecursion P ns
  each_name [] = tt
  each_name (n ∷ ns) = (every n, each_name ns)

  -- in a literal
  mutual
    each_in_literal : (l : LiteralOf N) → LiteralNames P l
    each_in_literal (number t) = tt
    each_in_literal (str t) = tt
    each_in_literal (symbol t) = tt
    each_in_literal (char b) = tt
    each_in_literal (array ls) = each_in_literals ls
    each_in_literal (bytes ls) = each_in_literals ls
    each_in_literal (word n) = every n

    each_in_literals : (ls : LiteralsOf N) → LiteralsNames P ls
    each_in_literals no_literals = tt
    each_in_literals (more_literals l ls) = (each_in_literal l, each_in_literals ls)

  -- in a tree
  mutual
    each_in_tree : (t : TreeOf N) → AllNames P t
    each_in_tree (var n) = every n
    each_in_tree (literal l) = each_in_literal l
    each_in_tree (send r s args) = (each_in_tree r, every s, each_in_trees args)
    each_in_tree (cascade r ms) = (each_in_tree r, each_in_messages ms)
    each_in_tree (assign n t) = (every n, each_in_tree t)
    each_in_tree (block ps ts ss e) = (each_name ps, each_name ts, each_in_statements ss)
    each_in_tree (brace ts) = each_in_trees ts
    each_in_tree (return t) = each_in_tree t

    each_in_trees : (ts : TreesOf N) → TreesNames P ts
    each_in_trees no_trees = tt
    each_in_trees (more_trees t ts) = (each_in_tree t, each_in_trees ts)

    each_in_messages : (ms : MessagesOf N) → MessagesNames P ms
    each_in_messages no_messages = tt
    each_in_messages (more_messages s args ms) = (every s, each_in_trees args, each_in_messages ms)

    each_in_statements : (ss : StatementsOf N) → StatementsNames P ss
    each_in_statements no_statements = tt
    each_in_statements (more_statements c t ss) = (each_in_tree t, each_in_statements ss)

  -- in a sequence
  pub each_in_sequence : (b : SequenceOf N) → SequenceNames P b
  each_in_sequence b = record { temporaries = each_name b.temporaries; statements = each_in_statements b.statements }

  -- in a method
  pub each_in_method : (m : MethodOf N) → MethodNames P m
  each_in_method m = record { selector = every m.selector; arguments = each_name m.arguments; body = each_in_sequence m.body }
