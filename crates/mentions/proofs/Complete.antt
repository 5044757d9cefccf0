-- What holds of each name in code holds of each name that is listed, and the other way round.
use Rattle.std.proofs.Common.{sym, subst}
use Rattle.std.specs.Prelude.{All}
use Rattle.std.specs.List.{AllByRecursion, flat_map}
use Rattle.std.proofs.lemmas.List.Elements.{All-from_recursion, recursion_from_All}
use Rattle.tree_model.specs.Tree.{LiteralOf, number, str, symbol, char, array, bytes, word, LiteralsOf, no_literals, more_literals, TreeOf, var, literal, send, cascade, assign, block, brace, return, TreesOf, no_trees, more_trees, MessagesOf, no_messages, more_messages, StatementsOf, no_statements, more_statements, SequenceOf, MethodOf}
use Rattle.tree_model.specs.AllNames.{LiteralNames, LiteralsNames, AllNames, TreesNames, MessagesNames, StatementsNames, SequenceNames, MethodNames}
use Rattle.tree_model.specs.Nodes.{nodes}
use Rattle.mentions.specs.Mentions.{words_in, words_in_all, selectors_of, own_names, trees_of_nodes, code_names, method_names}
use Rattle.mentions.specs.NodeLists.{nodes_in_tree, nodes_in_trees, nodes_in_messages, nodes_in_statements}
use Rattle.mentions.proofs.Lists.{all-append, all-front, all-back, all-flat_map, all-flat_map_back}
use Rattle.mentions.proofs.Pathless.{trees-nodes}

module _ {N : Type 0} (P : N → Type 0) where
  -- a fact of each name that stands in a node itself
  abbrev Own : TreeOf N → Type 0
  Own t = AllByRecursion P (own_names t)

  -- from the names in code to the list: of a literal
  mutual
    words-LiteralNames : (l : LiteralOf N) → LiteralNames P l → AllByRecursion P (words_in l)
    words-LiteralNames (number t) p = tt
    words-LiteralNames (str t) p = tt
    words-LiteralNames (symbol t) p = tt
    words-LiteralNames (char b) p = tt
    words-LiteralNames (array ls) p = words-LiteralsNames ls p
    words-LiteralNames (bytes ls) p = words-LiteralsNames ls p
    words-LiteralNames (word n) p = (p, tt)

    words-LiteralsNames : (ls : LiteralsOf N) → LiteralsNames P ls → AllByRecursion P (words_in_all ls)
    words-LiteralsNames no_literals p = tt
    words-LiteralsNames (more_literals l ls) p =
        all-append P (words_in l) (words_in_all ls) (words-LiteralNames l p.0) (words-LiteralsNames ls p.1)

  -- of the selectors of messages
  selectors-MessagesNames : (ms : MessagesOf N) → MessagesNames P ms → AllByRecursion P (selectors_of ms)
  selectors-MessagesNames no_messages p = tt
  selectors-MessagesNames (more_messages s args ms) p = (p.0, selectors-MessagesNames ms p.2)

  -- of a tree
  mutual
    own-AllNames : (t : TreeOf N) → AllNames P t → AllByRecursion Own (nodes_in_tree t)
    own-AllNames (var n) p = ((p, tt), tt)
    own-AllNames (literal l) p = (words-LiteralNames l p, tt)
    own-AllNames (send r s args) p =
        ((p.1, tt), all-append Own (nodes_in_tree r) (nodes_in_trees args) (own-AllNames r p.0) (own-TreesNames args p.2))
    own-AllNames (cascade r ms) p =
        (selectors-MessagesNames ms p.1, all-append Own (nodes_in_tree r) (nodes_in_messages ms) (own-AllNames r p.0) (own-MessagesNames ms p.1))
    own-AllNames (assign n t) p = ((p.0, tt), own-AllNames t p.1)
    own-AllNames (block ps ts ss e) p = (all-append P ps ts p.0 p.1, own-StatementsNames ss p.2)
    own-AllNames (brace ts) p = (tt, own-TreesNames ts p)
    own-AllNames (return t) p = (tt, own-AllNames t p)

    own-TreesNames : (ts : TreesOf N) → TreesNames P ts → AllByRecursion Own (nodes_in_trees ts)
    own-TreesNames no_trees p = tt
    own-TreesNames (more_trees t ts) p =
        all-append Own (nodes_in_tree t) (nodes_in_trees ts) (own-AllNames t p.0) (own-TreesNames ts p.1)

    own-MessagesNames : (ms : MessagesOf N) → MessagesNames P ms → AllByRecursion Own (nodes_in_messages ms)
    own-MessagesNames no_messages p = tt
    own-MessagesNames (more_messages s args ms) p =
        all-append Own (nodes_in_trees args) (nodes_in_messages ms) (own-TreesNames args p.1) (own-MessagesNames ms p.2)

    own-StatementsNames : (ss : StatementsOf N) → StatementsNames P ss → AllByRecursion Own (nodes_in_statements ss)
    own-StatementsNames no_statements p = tt
    own-StatementsNames (more_statements c t ss) p =
        all-append Own (nodes_in_tree t) (nodes_in_statements ss) (own-AllNames t p.0) (own-StatementsNames ss p.1)

  -- from the list to the names in code: of a literal
  mutual
    LiteralNames-words : (l : LiteralOf N) → AllByRecursion P (words_in l) → LiteralNames P l
    LiteralNames-words (number t) p = tt
    LiteralNames-words (str t) p = tt
    LiteralNames-words (symbol t) p = tt
    LiteralNames-words (char b) p = tt
    LiteralNames-words (array ls) p = LiteralsNames-words ls p
    LiteralNames-words (bytes ls) p = LiteralsNames-words ls p
    LiteralNames-words (word n) p = p.0

    LiteralsNames-words : (ls : LiteralsOf N) → AllByRecursion P (words_in_all ls) → LiteralsNames P ls
    LiteralsNames-words no_literals p = tt
    LiteralsNames-words (more_literals l ls) p =
        (LiteralNames-words l (all-front P (words_in l) (words_in_all ls) p), LiteralsNames-words ls (all-back P (words_in l) (words_in_all ls) p))

  -- of a tree
  mutual
    AllNames-own : (t : TreeOf N) → AllByRecursion Own (nodes_in_tree t) → AllNames P t
    AllNames-own (var n) p = p.0.0
    AllNames-own (literal l) p = LiteralNames-words l p.0
    AllNames-own (send r s args) p =
        (AllNames-own r (all-front Own (nodes_in_tree r) (nodes_in_trees args) p.1), p.0.0, TreesNames-own args (all-back Own (nodes_in_tree r) (nodes_in_trees args) p.1))
    AllNames-own (cascade r ms) p =
        (AllNames-own r (all-front Own (nodes_in_tree r) (nodes_in_messages ms) p.1), MessagesNames-own ms p.0 (all-back Own (nodes_in_tree r) (nodes_in_messages ms) p.1))
    AllNames-own (assign n t) p = (p.0.0, AllNames-own t p.1)
    AllNames-own (block ps ts ss e) p = (all-front P ps ts p.0, all-back P ps ts p.0, StatementsNames-own ss p.1)
    AllNames-own (brace ts) p = TreesNames-own ts p.1
    AllNames-own (return t) p = AllNames-own t p.1

    TreesNames-own : (ts : TreesOf N) → AllByRecursion Own (nodes_in_trees ts) → TreesNames P ts
    TreesNames-own no_trees p = tt
    TreesNames-own (more_trees t ts) p =
        (AllNames-own t (all-front Own (nodes_in_tree t) (nodes_in_trees ts) p), TreesNames-own ts (all-back Own (nodes_in_tree t) (nodes_in_trees ts) p))

    MessagesNames-own : (ms : MessagesOf N) → AllByRecursion P (selectors_of ms) → AllByRecursion Own (nodes_in_messages ms) → MessagesNames P ms
    MessagesNames-own no_messages q p = tt
    MessagesNames-own (more_messages s args ms) q p =
        (q.0, TreesNames-own args (all-front Own (nodes_in_trees args) (nodes_in_messages ms) p), MessagesNames-own ms q.1 (all-back Own (nodes_in_trees args) (nodes_in_messages ms) p))

    StatementsNames-own : (ss : StatementsOf N) → AllByRecursion Own (nodes_in_statements ss) → StatementsNames P ss
    StatementsNames-own no_statements p = tt
    StatementsNames-own (more_statements c t ss) p =
        (AllNames-own t (all-front Own (nodes_in_tree t) (nodes_in_statements ss) p), StatementsNames-own ss (all-back Own (nodes_in_tree t) (nodes_in_statements ss) p))

  -- the fact of each listed name of a sequence, by recursion
  code_names-SequenceNames : (b : SequenceOf N) → SequenceNames P b → AllByRecursion P (code_names b)
  code_names-SequenceNames b p =
      all-append P b.temporaries (flat_map own_names (trees_of_nodes (nodes b))) p.temporaries
      (all-flat_map P own_names (trees_of_nodes (nodes b))
      (subst (AllByRecursion Own) (sym (trees-nodes b)) (own-StatementsNames b.statements p.statements)))

  SequenceNames-code_names : (b : SequenceOf N) → AllByRecursion P (code_names b) → SequenceNames P b
  SequenceNames-code_names b p =
      record {
        temporaries = all-front P b.temporaries (flat_map own_names (trees_of_nodes (nodes b))) p;
        statements =
            StatementsNames-own b.statements (subst (AllByRecursion Own) (trees-nodes b)
            (all-flat_map_back P own_names (trees_of_nodes (nodes b)) (all-back P b.temporaries (flat_map own_names (trees_of_nodes (nodes b))) p)));
      }

  -- of each name that a sequence lists
  pub All-SequenceNames : (b : SequenceOf N) → SequenceNames P b → All P (code_names b)
  All-SequenceNames b p = All-from_recursion P (code_names b) (code_names-SequenceNames b p)

  pub SequenceNames-All : (b : SequenceOf N) → All P (code_names b) → SequenceNames P b
  SequenceNames-All b p = SequenceNames-code_names b (recursion_from_All P (code_names b) p)

  -- of each name that a method lists
  pub All-MethodNames : (m : MethodOf N) → MethodNames P m → All P (method_names m)
  All-MethodNames m p =
      All-from_recursion P (method_names m) (p.selector, all-append P m.arguments (code_names m.body) p.arguments (code_names-SequenceNames m.body p.body))

  pub MethodNames-All : (m : MethodOf N) → All P (method_names m) → MethodNames P m
  MethodNames-All m p =
      let q : AllByRecursion P (method_names m) = recursion_from_All P (method_names m) p in
      record {
        selector = q.0;
        arguments = all-front P m.arguments (code_names m.body) q.1;
        body = SequenceNames-code_names m.body (all-back P m.arguments (code_names m.body) q.1);
      }
