-- A fact of each name in a tree, and the change of names.
use Rattle.std.proofs.Common.{◌≡◌, List, [], ◌∷◌, map, refl, ap}
use Rattle.std.specs.List.{AllByRecursion}
use Rattle.tree_model.specs.Tree.{LiteralOf, number, str, symbol, char, array, bytes, word, LiteralsOf, no_literals, more_literals, TreeOf, var, literal, send, cascade, assign, block, brace, return, TreesOf, no_trees, more_trees, MessagesOf, no_messages, more_messages, StatementsOf, no_statements, more_statements, SequenceOf, MethodOf, map_literal, map_literals, map_names, map_trees, map_messages, map_statements, map_sequence, map_method}
use Rattle.tree_model.specs.AllNames.{LiteralNames, LiteralsNames, AllNames, TreesNames, MessagesNames, StatementsNames, SequenceNames, MethodNames}

module _ {M N : Type 0} (f g : M → N) where
  -- two functions that agree on all names of a list
  map-same : (ns : List M) → AllByRecursion (λ n. f n ≡ g n) ns → map f ns ≡ map g ns
  map-same [] p = refl
  map-same (n ∷ ns) p = λ i. p.0 i ∷ map-same ns p.1 i

  -- two functions that agree on all names of a literal
  mutual
    map_literal-same : (l : LiteralOf M) → LiteralNames (λ n. f n ≡ g n) l → map_literal f l ≡ map_literal g l
    map_literal-same (number t) p = refl
    map_literal-same (str t) p = refl
    map_literal-same (symbol t) p = refl
    map_literal-same (char b) p = refl
    map_literal-same (array ls) p = ap array (map_literals-same ls p)
    map_literal-same (bytes ls) p = ap bytes (map_literals-same ls p)
    map_literal-same (word n) p = ap word p

    map_literals-same : (ls : LiteralsOf M) → LiteralsNames (λ n. f n ≡ g n) ls → map_literals f ls ≡ map_literals g ls
    map_literals-same no_literals p = refl
    map_literals-same (more_literals l ls) p = λ i. more_literals (map_literal-same l p.0 i) (map_literals-same ls p.1 i)

  -- two functions that agree on all names of a tree make the same tree of it
  mutual
    pub map_names-same : (t : TreeOf M) → AllNames (λ n. f n ≡ g n) t → map_names f t ≡ map_names g t
    map_names-same (var n) p = ap var p
    map_names-same (literal l) p = ap literal (map_literal-same l p)
    map_names-same (send r s args) p = λ i. send (map_names-same r p.0 i) (p.1 i) (map_trees-same args p.2 i)
    map_names-same (cascade r ms) p = λ i. cascade (map_names-same r p.0 i) (map_messages-same ms p.1 i)
    map_names-same (assign n t) p = λ i. assign (p.0 i) (map_names-same t p.1 i)
    map_names-same (block ps ts ss e) p = λ i. block (map-same ps p.0 i) (map-same ts p.1 i) (map_statements-same ss p.2 i) e
    map_names-same (brace ts) p = ap brace (map_trees-same ts p)
    map_names-same (return t) p = ap return (map_names-same t p)

    pub map_trees-same : (ts : TreesOf M) → TreesNames (λ n. f n ≡ g n) ts → map_trees f ts ≡ map_trees g ts
    map_trees-same no_trees p = refl
    map_trees-same (more_trees t ts) p = λ i. more_trees (map_names-same t p.0 i) (map_trees-same ts p.1 i)

    pub map_messages-same : (ms : MessagesOf M) → MessagesNames (λ n. f n ≡ g n) ms → map_messages f ms ≡ map_messages g ms
    map_messages-same no_messages p = refl
    map_messages-same (more_messages s args ms) p = λ i. more_messages (p.0 i) (map_trees-same args p.1 i) (map_messages-same ms p.2 i)

    pub map_statements-same : (ss : StatementsOf M) → StatementsNames (λ n. f n ≡ g n) ss → map_statements f ss ≡ map_statements g ss
    map_statements-same no_statements p = refl
    map_statements-same (more_statements c t ss) p = λ i. more_statements c (map_names-same t p.0 i) (map_statements-same ss p.1 i)

  -- two functions that agree on all names of a sequence make the same sequence of it
  pub map_sequence-same : (b : SequenceOf M) → SequenceNames (λ n. f n ≡ g n) b → map_sequence f b ≡ map_sequence g b
  map_sequence-same b p =
      λ i. record { temporaries = map-same b.temporaries p.temporaries i; statements = map_statements-same b.statements p.statements i; tail = b.tail }

  -- two functions that agree on all names of a method make the same method of it
  pub map_method-same : (m : MethodOf M) → MethodNames (λ n. f n ≡ g n) m → map_method f m ≡ map_method g m
  map_method-same m p =
      λ i. record { selector = p.selector i; arguments = map-same m.arguments p.arguments i; head = m.head; primitive = m.primitive; body = map_sequence-same m.body p.body i }

-- a fact of each name follows from another
module _ {N : Type 0} (P Q : N → Type 0) (implies : (n : N) → P n → Q n) where
  -- in a list
  AllByRecursion-implies : (ns : List N) → AllByRecursion P ns → AllByRecursion Q ns
  AllByRecursion-implies [] p = tt
  AllByRecursion-implies (n ∷ ns) p = (implies n p.0, AllByRecursion-implies ns p.1)

  -- in a literal
  mutual
    LiteralNames-implies : (l : LiteralOf N) → LiteralNames P l → LiteralNames Q l
    LiteralNames-implies (number t) p = tt
    LiteralNames-implies (str t) p = tt
    LiteralNames-implies (symbol t) p = tt
    LiteralNames-implies (char b) p = tt
    LiteralNames-implies (array ls) p = LiteralsNames-implies ls p
    LiteralNames-implies (bytes ls) p = LiteralsNames-implies ls p
    LiteralNames-implies (word n) p = implies n p

    LiteralsNames-implies : (ls : LiteralsOf N) → LiteralsNames P ls → LiteralsNames Q ls
    LiteralsNames-implies no_literals p = tt
    LiteralsNames-implies (more_literals l ls) p = (LiteralNames-implies l p.0, LiteralsNames-implies ls p.1)

  -- in a tree
  mutual
    pub AllNames-implies : (t : TreeOf N) → AllNames P t → AllNames Q t
    AllNames-implies (var n) p = implies n p
    AllNames-implies (literal l) p = LiteralNames-implies l p
    AllNames-implies (send r s args) p = (AllNames-implies r p.0, implies s p.1, TreesNames-implies args p.2)
    AllNames-implies (cascade r ms) p = (AllNames-implies r p.0, MessagesNames-implies ms p.1)
    AllNames-implies (assign n t) p = (implies n p.0, AllNames-implies t p.1)
    AllNames-implies (block ps ts ss e) p = (AllByRecursion-implies ps p.0, AllByRecursion-implies ts p.1, StatementsNames-implies ss p.2)
    AllNames-implies (brace ts) p = TreesNames-implies ts p
    AllNames-implies (return t) p = AllNames-implies t p

    pub TreesNames-implies : (ts : TreesOf N) → TreesNames P ts → TreesNames Q ts
    TreesNames-implies no_trees p = tt
    TreesNames-implies (more_trees t ts) p = (AllNames-implies t p.0, TreesNames-implies ts p.1)

    pub MessagesNames-implies : (ms : MessagesOf N) → MessagesNames P ms → MessagesNames Q ms
    MessagesNames-implies no_messages p = tt
    MessagesNames-implies (more_messages s args ms) p = (implies s p.0, TreesNames-implies args p.1, MessagesNames-implies ms p.2)

    pub StatementsNames-implies : (ss : StatementsOf N) → StatementsNames P ss → StatementsNames Q ss
    StatementsNames-implies no_statements p = tt
    StatementsNames-implies (more_statements c t ss) p = (AllNames-implies t p.0, StatementsNames-implies ss p.1)

  -- in a sequence
  pub SequenceNames-implies : (b : SequenceOf N) → SequenceNames P b → SequenceNames Q b
  SequenceNames-implies b p =
      record { temporaries = AllByRecursion-implies b.temporaries p.temporaries; statements = StatementsNames-implies b.statements p.statements }

  -- in a method
  pub MethodNames-implies : (m : MethodOf N) → MethodNames P m → MethodNames Q m
  MethodNames-implies m p =
      record { selector = implies m.selector p.selector; arguments = AllByRecursion-implies m.arguments p.arguments; body = SequenceNames-implies m.body p.body }

-- a fact of each name after the change, from the fact of each name before
module _ {M N : Type 0} (P : N → Type 0) (f : M → N) where
  -- in a list
  AllByRecursion-map : (ns : List M) → AllByRecursion (λ n. P (f n)) ns → AllByRecursion P (map f ns)
  AllByRecursion-map [] p = tt
  AllByRecursion-map (n ∷ ns) p = (p.0, AllByRecursion-map ns p.1)

  -- in a literal
  mutual
    LiteralNames-map_literal : (l : LiteralOf M) → LiteralNames (λ n. P (f n)) l → LiteralNames P (map_literal f l)
    LiteralNames-map_literal (number t) p = tt
    LiteralNames-map_literal (str t) p = tt
    LiteralNames-map_literal (symbol t) p = tt
    LiteralNames-map_literal (char b) p = tt
    LiteralNames-map_literal (array ls) p = LiteralsNames-map_literals ls p
    LiteralNames-map_literal (bytes ls) p = LiteralsNames-map_literals ls p
    LiteralNames-map_literal (word n) p = p

    LiteralsNames-map_literals : (ls : LiteralsOf M) → LiteralsNames (λ n. P (f n)) ls → LiteralsNames P (map_literals f ls)
    LiteralsNames-map_literals no_literals p = tt
    LiteralsNames-map_literals (more_literals l ls) p = (LiteralNames-map_literal l p.0, LiteralsNames-map_literals ls p.1)

  -- in a tree
  mutual
    pub AllNames-map_names : (t : TreeOf M) → AllNames (λ n. P (f n)) t → AllNames P (map_names f t)
    AllNames-map_names (var n) p = p
    AllNames-map_names (literal l) p = LiteralNames-map_literal l p
    AllNames-map_names (send r s args) p = (AllNames-map_names r p.0, p.1, TreesNames-map_trees args p.2)
    AllNames-map_names (cascade r ms) p = (AllNames-map_names r p.0, MessagesNames-map_messages ms p.1)
    AllNames-map_names (assign n t) p = (p.0, AllNames-map_names t p.1)
    AllNames-map_names (block ps ts ss e) p = (AllByRecursion-map ps p.0, AllByRecursion-map ts p.1, StatementsNames-map_statements ss p.2)
    AllNames-map_names (brace ts) p = TreesNames-map_trees ts p
    AllNames-map_names (return t) p = AllNames-map_names t p

    pub TreesNames-map_trees : (ts : TreesOf M) → TreesNames (λ n. P (f n)) ts → TreesNames P (map_trees f ts)
    TreesNames-map_trees no_trees p = tt
    TreesNames-map_trees (more_trees t ts) p = (AllNames-map_names t p.0, TreesNames-map_trees ts p.1)

    pub MessagesNames-map_messages : (ms : MessagesOf M) → MessagesNames (λ n. P (f n)) ms → MessagesNames P (map_messages f ms)
    MessagesNames-map_messages no_messages p = tt
    MessagesNames-map_messages (more_messages s args ms) p = (p.0, TreesNames-map_trees args p.1, MessagesNames-map_messages ms p.2)

    pub StatementsNames-map_statements : (ss : StatementsOf M) → StatementsNames (λ n. P (f n)) ss → StatementsNames P (map_statements f ss)
    StatementsNames-map_statements no_statements p = tt
    StatementsNames-map_statements (more_statements c t ss) p = (AllNames-map_names t p.0, StatementsNames-map_statements ss p.1)

  -- in a sequence
  pub SequenceNames-map_sequence : (b : SequenceOf M) → SequenceNames (λ n. P (f n)) b → SequenceNames P (map_sequence f b)
  SequenceNames-map_sequence b p =
      record { temporaries = AllByRecursion-map b.temporaries p.temporaries; statements = StatementsNames-map_statements b.statements p.statements }

  -- in a method
  pub MethodNames-map_method : (m : MethodOf M) → MethodNames (λ n. P (f n)) m → MethodNames P (map_method f m)
  MethodNames-map_method m p =
      record { selector = p.selector; arguments = AllByRecursion-map m.arguments p.arguments; body = SequenceNames-map_sequence m.body p.body }

-- a fact of each name before the change, from the fact of each name after
module _ {M N : Type 0} (P : N → Type 0) (f : M → N) where
  -- in a list
  AllByRecursion-map_back : (ns : List M) → AllByRecursion P (map f ns) → AllByRecursion (λ n. P (f n)) ns
  AllByRecursion-map_back [] p = tt
  AllByRecursion-map_back (n ∷ ns) p = (p.0, AllByRecursion-map_back ns p.1)

  -- in a literal
  mutual
    LiteralNames-map_literal_back : (l : LiteralOf M) → LiteralNames P (map_literal f l) → LiteralNames (λ n. P (f n)) l
    LiteralNames-map_literal_back (number t) p = tt
    LiteralNames-map_literal_back (str t) p = tt
    LiteralNames-map_literal_back (symbol t) p = tt
    LiteralNames-map_literal_back (char b) p = tt
    LiteralNames-map_literal_back (array ls) p = LiteralsNames-map_literals_back ls p
    LiteralNames-map_literal_back (bytes ls) p = LiteralsNames-map_literals_back ls p
    LiteralNames-map_literal_back (word n) p = p

    LiteralsNames-map_literals_back : (ls : LiteralsOf M) → LiteralsNames P (map_literals f ls) → LiteralsNames (λ n. P (f n)) ls
    LiteralsNames-map_literals_back no_literals p = tt
    LiteralsNames-map_literals_back (more_literals l ls) p = (LiteralNames-map_literal_back l p.0, LiteralsNames-map_literals_back ls p.1)

  -- in a tree
  mutual
    pub AllNames-map_names_back : (t : TreeOf M) → AllNames P (map_names f t) → AllNames (λ n. P (f n)) t
    AllNames-map_names_back (var n) p = p
    AllNames-map_names_back (literal l) p = LiteralNames-map_literal_back l p
    AllNames-map_names_back (send r s args) p = (AllNames-map_names_back r p.0, p.1, TreesNames-map_trees_back args p.2)
    AllNames-map_names_back (cascade r ms) p = (AllNames-map_names_back r p.0, MessagesNames-map_messages_back ms p.1)
    AllNames-map_names_back (assign n t) p = (p.0, AllNames-map_names_back t p.1)
    AllNames-map_names_back (block ps ts ss e) p = (AllByRecursion-map_back ps p.0, AllByRecursion-map_back ts p.1, StatementsNames-map_statements_back ss p.2)
    AllNames-map_names_back (brace ts) p = TreesNames-map_trees_back ts p
    AllNames-map_names_back (return t) p = AllNames-map_names_back t p

    pub TreesNames-map_trees_back : (ts : TreesOf M) → TreesNames P (map_trees f ts) → TreesNames (λ n. P (f n)) ts
    TreesNames-map_trees_back no_trees p = tt
    TreesNames-map_trees_back (more_trees t ts) p = (AllNames-map_names_back t p.0, TreesNames-map_trees_back ts p.1)

    pub MessagesNames-map_messages_back : (ms : MessagesOf M) → MessagesNames P (map_messages f ms) → MessagesNames (λ n. P (f n)) ms
    MessagesNames-map_messages_back no_messages p = tt
    MessagesNames-map_messages_back (more_messages s args ms) p = (p.0, TreesNames-map_trees_back args p.1, MessagesNames-map_messages_back ms p.2)

    pub StatementsNames-map_statements_back : (ss : StatementsOf M) → StatementsNames P (map_statements f ss) → StatementsNames (λ n. P (f n)) ss
    StatementsNames-map_statements_back no_statements p = tt
    StatementsNames-map_statements_back (more_statements c t ss) p = (AllNames-map_names_back t p.0, StatementsNames-map_statements_back ss p.1)

  -- in a sequence
  pub SequenceNames-map_sequence_back : (b : SequenceOf M) → SequenceNames P (map_sequence f b) → SequenceNames (λ n. P (f n)) b
  SequenceNames-map_sequence_back b p =
      record { temporaries = AllByRecursion-map_back b.temporaries p.temporaries; statements = StatementsNames-map_statements_back b.statements p.statements }

  -- in a method
  pub MethodNames-map_method_back : (m : MethodOf M) → MethodNames P (map_method f m) → MethodNames (λ n. P (f n)) m
  MethodNames-map_method_back m p =
      record { selector = p.selector; arguments = AllByRecursion-map_back m.arguments p.arguments; body = SequenceNames-map_sequence_back m.body p.body }
