-- The heights that the events of a tree build are those of the tree.
use Rattle.std.proofs.Common.{◌≡◌, ℕ, zero, suc, ◌+◌, ◌-◌, ◌<◌, Bool, if◌then◌else◌, List, [], ◌∷◌, ◌++◌, length, take, drop, get_or, max, Option, Some, refl, sym, ap, ◌∙◌, append_assoc, arith}
use Rattle.std.specs.Prelude.{nat_lt}
use Rattle.std.proofs.lemmas.List.{append-nil, length-append, take_more}
use Rattle.std.proofs.lemmas.Bool.Decides.{nat_tests}
use Rattle.std.proofs.Math.Seq.{drop-append_seam, take-append_seam}
use Rattle.tree_model.specs.Tree.{LiteralOf, number, str, symbol, char, array, bytes, word, LiteralsOf, no_literals, more_literals}
use Rattle.tree_model.specs.Measure.{literal_height, literals_height, height, trees_height, messages_height, statements_height}
use Rattle.grammar_model.specs.Terminal.{Text}
use Rattle.grammar_model.specs.Checks.{first_tall}
use Rattle.grammar_model.specs.Spanned.{SpannedTree, Var, Literal, Send, Cascade, Assign, Block, Brace, Return, SpannedTrees, NoTrees, MoreTrees, SpannedMessages, NoMessages, MoreMessages, SpannedStatements, NoStatements, MoreStatements, plain_tree, plain_trees, plain_messages, plain_statements}
use Rattle.parse_events.specs.declared.event.Event.{Event}
use Rattle.parse_events.specs.declared.event.Event.TheVariants as event
use Rattle.parse_events.specs.Found.{count_literals, count_trees, count_messages, count_statements, literal_events, literals_events, tree_events, trees_events, messages_events, statements_events}
use Rattle.event_checks.specs.Heights.{cut, greatest, raised, first_tall_in}
use Rattle.event_checks.proofs.Lists.{option_or_if_one, last_of, last_of_two}

-- the heights of literals
literal_parts : LiteralsOf Text → List ℕ
literal_parts no_literals = []
literal_parts (more_literals l ls) = cut (literal_height l) ∷ literal_parts ls

-- the heights of trees
tree_parts : SpannedTrees → List ℕ
tree_parts NoTrees = []
tree_parts (MoreTrees t ts) = cut (height (plain_tree t)) ∷ tree_parts ts

-- the heights of messages
message_parts : SpannedMessages → List ℕ
message_parts NoMessages = []
message_parts (MoreMessages s xs ms) = cut (trees_height (plain_trees xs)) ∷ message_parts ms

-- the heights of statements
statement_parts : SpannedStatements → List ℕ
statement_parts NoStatements = []
statement_parts (MoreStatements c f t ss) = cut (height (plain_tree t)) ∷ statement_parts ss

-- one more height
pub greatest_more : (hs : List ℕ) (h : ℕ) → greatest (hs ++ h ∷ []) ≡ max h (greatest hs)
greatest_more [] h = refl
greatest_more (k ∷ hs) h = omega (arith, greatest_more hs h)

-- the greatest of the heights up to an index
pub greatest_up_to : (hs : List ℕ) (i : ℕ) → i < length hs → greatest (take (i + 1) hs) ≡ max (get_or hs i 0) (greatest (take i hs))
greatest_up_to hs i h = ap greatest (take_more hs i 0 h) ∙ greatest_more (take i hs) (get_or hs i 0)

-- how many literals there are
literal_count : (ls : LiteralsOf Text) → length (literal_parts ls) ≡ count_literals ls
unfolding literal_parts
literal_count no_literals = refl
literal_count (more_literals l ls) = ap suc (literal_count ls)

-- how many trees
tree_count : (ts : SpannedTrees) → length (tree_parts ts) ≡ count_trees ts
unfolding tree_parts
tree_count NoTrees = refl
tree_count (MoreTrees t ts) = ap suc (tree_count ts)

-- how many messages
message_count : (ms : SpannedMessages) → length (message_parts ms) ≡ count_messages ms
unfolding message_parts
message_count NoMessages = refl
message_count (MoreMessages s xs ms) = ap suc (message_count ms)

-- how many statements
statement_count : (ss : SpannedStatements) → length (statement_parts ss) ≡ count_statements ss
unfolding statement_parts
statement_count NoStatements = refl
statement_count (MoreStatements c f t ss) = ap suc (statement_count ss)

-- the greatest of two heights that were cut
cut_max : (a b g : ℕ) → g ≡ cut b → max (cut a) g ≡ cut (max a b)
cut_max a b g e = omega arith

-- the greatest of the heights of literals
literal_greatest : (ls : LiteralsOf Text) → greatest (literal_parts ls) ≡ cut (literals_height ls)
unfolding literal_parts
literal_greatest no_literals = refl
literal_greatest (more_literals l ls) = cut_max (literal_height l) (literals_height ls) (greatest (literal_parts ls)) (literal_greatest ls)

-- of trees
tree_greatest : (ts : SpannedTrees) → greatest (tree_parts ts) ≡ cut (trees_height (plain_trees ts))
unfolding tree_parts
tree_greatest NoTrees = refl
tree_greatest (MoreTrees t ts) = cut_max (height (plain_tree t)) (trees_height (plain_trees ts)) (greatest (tree_parts ts)) (tree_greatest ts)

-- of messages
message_greatest : (ms : SpannedMessages) → greatest (message_parts ms) ≡ cut (messages_height (plain_messages ms))
unfolding message_parts
message_greatest NoMessages = refl
message_greatest (MoreMessages s xs ms) = cut_max (trees_height (plain_trees xs)) (messages_height (plain_messages ms)) (greatest (message_parts ms)) (message_greatest ms)

-- of statements
statement_greatest : (ss : SpannedStatements) → greatest (statement_parts ss) ≡ cut (statements_height (plain_statements ss))
unfolding statement_parts
statement_greatest NoStatements = refl
statement_greatest (MoreStatements c f t ss) = cut_max (height (plain_tree t)) (statements_height (plain_statements ss)) (greatest (statement_parts ss)) (statement_greatest ss)

-- the parts of a node begin behind the heights before them
below : (hs xs : List ℕ) (n : ℕ) → length xs ≡ n → length (hs ++ xs) - n ≡ length hs
below hs xs n e = omega (arith, length-append hs xs)

-- the same with one part before them
below_more : (hs xs : List ℕ) (h n : ℕ) → length xs ≡ n → length (hs ++ h ∷ xs) - n - 1 ≡ length hs
below_more hs xs h n e = omega (arith, length-append hs (h ∷ xs))

-- parts with one height in their place
pub raised_parts : (hs xs : List ℕ) (b levels g : ℕ) → b ≡ length hs → greatest xs ≡ cut g → raised b levels (hs ++ xs) ≡ hs ++ cut (g + levels) ∷ []
raised_parts hs xs b levels g at is =
    let most : cut (greatest xs + levels) ≡ cut (g + levels) = omega arith in
    ap (λ (b : ℕ). raised b levels (hs ++ xs)) at ∙
    ap (λ (ts : List ℕ). ts ++ cut (greatest (drop (length hs) (hs ++ xs)) + levels) ∷ []) (take-append_seam hs xs) ∙
    ap (λ (ts : List ℕ). hs ++ cut (greatest ts + levels) ∷ []) (drop-append_seam hs xs) ∙
    ap (λ (h : ℕ). hs ++ h ∷ []) most

-- parts without their heights
flat_parts : (hs xs : List ℕ) (n : ℕ) → length xs ≡ n → take (length (hs ++ xs) - n) (hs ++ xs) ++ 1 ∷ [] ≡ hs ++ 1 ∷ []
flat_parts hs xs n e = ap (λ (b : ℕ). take b (hs ++ xs) ++ 1 ∷ []) (below hs xs n e) ∙ ap (λ (ts : List ℕ). ts ++ 1 ∷ []) (take-append_seam hs xs)

-- one part with one more level
raised_one : (o : ℕ) (hs : List ℕ) (g : ℕ) (rest : List Event) → first_tall_in o (raised (length (hs ++ cut g ∷ []) - 1) 1 (hs ++ cut g ∷ [])) rest ≡ first_tall_in o (hs ++ cut (g + 1) ∷ []) rest
raised_one o hs g rest =
    let most : max (cut g) 0 ≡ cut g = omega arith in
    ap (λ (hs : List ℕ). first_tall_in o hs rest) (raised_parts hs (cut g ∷ []) (length (hs ++ cut g ∷ []) - 1) 1 g (below hs (cut g ∷ []) 1 refl) most)

-- parts with the greatest of their heights in their place
joined_parts : (hs xs : List ℕ) (n g : ℕ) → length xs ≡ n → greatest xs ≡ cut g → raised (length (hs ++ xs) - n) 0 (hs ++ xs) ≡ hs ++ cut g ∷ []
joined_parts hs xs n g e is =
    let same : g + 0 ≡ g = omega arith in
    raised_parts hs xs (length (hs ++ xs) - n) 0 g (below hs xs n e) is ∙ ap (λ (g : ℕ). hs ++ cut g ∷ []) same

-- whether a height is too high is seen where it is cut
cut_tall : (h : ℕ) → nat_lt 200 (max (cut h) 0) ≡ nat_lt 200 h
cut_tall h = grind (arith, nat_tests)

-- the events of literals put their heights at the end
mutual
  unfolding literal_parts

  raises_literal : (o : ℕ) (hs : List ℕ) (l : LiteralOf Text) (rest : List Event) → first_tall_in o hs (literal_events l ++ rest) ≡ first_tall_in o (hs ++ cut (literal_height l) ∷ []) rest
  raises_literal o hs (number t) rest = refl
  raises_literal o hs (str t) rest = refl
  raises_literal o hs (symbol t) rest = refl
  raises_literal o hs (char b) rest = refl
  raises_literal o hs (word n) rest = refl
  raises_literal o hs (array ls) rest =
      let last = event.Array (count_literals ls) in
      let xs = literal_parts ls in
      ap (first_tall_in o hs) (last_of (literals_events ls) last rest) ∙
      raises_literals o hs ls (last ∷ rest) ∙
      ap (λ (hs : List ℕ). first_tall_in o hs rest) (raised_parts hs xs (length (hs ++ xs) - count_literals ls) 1 (literals_height ls) (below hs xs (count_literals ls) (literal_count ls)) (literal_greatest ls))
  raises_literal o hs (bytes ls) rest =
      let last = event.Bytes (count_literals ls) in
      ap (first_tall_in o hs) (last_of (literals_events ls) last rest) ∙
      raises_literals o hs ls (last ∷ rest) ∙
      ap (λ (hs : List ℕ). first_tall_in o hs rest) (flat_parts hs (literal_parts ls) (count_literals ls) (literal_count ls))

  raises_literals : (o : ℕ) (hs : List ℕ) (ls : LiteralsOf Text) (rest : List Event) → first_tall_in o hs (literals_events ls ++ rest) ≡ first_tall_in o (hs ++ literal_parts ls) rest
  raises_literals o hs no_literals rest = ap (λ (hs : List ℕ). first_tall_in o hs rest) (sym (append-nil hs))
  raises_literals o hs (more_literals l ls) rest =
      let h = cut (literal_height l) in
      ap (first_tall_in o hs) (append_assoc (literal_events l) (literals_events ls) rest) ∙
      raises_literal o hs l (literals_events ls ++ rest) ∙
      raises_literals o (hs ++ h ∷ []) ls rest ∙
      ap (λ (hs : List ℕ). first_tall_in o hs rest) (append_assoc hs (h ∷ []) (literal_parts ls))

-- the events of a tree put its height at the end
mutual
  unfolding tree_parts message_parts statement_parts

  raises : (o : ℕ) (hs : List ℕ) (t : SpannedTree) (rest : List Event) → first_tall_in o hs (tree_events t ++ rest) ≡ first_tall_in o (hs ++ cut (height (plain_tree t)) ∷ []) rest
  raises o hs (Var f e n) rest = refl
  raises o hs (Literal f e l) rest = ap (first_tall_in o hs) (last_of (literal_events l) (event.Literal f e) rest) ∙ raises_literal o hs l (event.Literal f e ∷ rest)
  raises o hs (Send f e r s xs) rest =
      let last = event.Send f e (count_trees xs) s in
      let h = cut (height (plain_tree r)) in
      let g = max (height (plain_tree r)) (trees_height (plain_trees xs)) in
      ap (first_tall_in o hs) (last_of_two (tree_events r) (trees_events xs) last rest) ∙
      raises o hs r (trees_events xs ++ last ∷ rest) ∙
      raises_trees o (hs ++ h ∷ []) xs (last ∷ rest) ∙
      ap (λ (hs : List ℕ). first_tall_in o hs (last ∷ rest)) (append_assoc hs (h ∷ []) (tree_parts xs)) ∙
      ap (λ (hs : List ℕ). first_tall_in o hs rest) (raised_parts hs (h ∷ tree_parts xs) (length (hs ++ h ∷ tree_parts xs) - count_trees xs - 1) 1 g (below_more hs (tree_parts xs) h (count_trees xs) (tree_count xs)) (cut_max (height (plain_tree r)) (trees_height (plain_trees xs)) (greatest (tree_parts xs)) (tree_greatest xs)))
  raises o hs (Cascade f e r ms) rest =
      let last = event.Cascade f e (count_messages ms) in
      let h = cut (height (plain_tree r)) in
      let g = max (height (plain_tree r)) (messages_height (plain_messages ms)) in
      ap (first_tall_in o hs) (last_of_two (tree_events r) (messages_events ms) last rest) ∙
      raises o hs r (messages_events ms ++ last ∷ rest) ∙
      raises_messages o (hs ++ h ∷ []) ms (last ∷ rest) ∙
      ap (λ (hs : List ℕ). first_tall_in o hs (last ∷ rest)) (append_assoc hs (h ∷ []) (message_parts ms)) ∙
      ap (λ (hs : List ℕ). first_tall_in o hs rest) (raised_parts hs (h ∷ message_parts ms) (length (hs ++ h ∷ message_parts ms) - count_messages ms - 1) 1 g (below_more hs (message_parts ms) h (count_messages ms) (message_count ms)) (cut_max (height (plain_tree r)) (messages_height (plain_messages ms)) (greatest (message_parts ms)) (message_greatest ms)))
  raises o hs (Assign f e n t) rest =
      let last = event.Assign f e in
      ap (first_tall_in o hs) (last_of (tree_events t) last rest) ∙ raises o hs t (last ∷ rest) ∙ raised_one o hs (height (plain_tree t)) rest
  raises o hs (Block f e ps ds ss c) rest =
      let last = event.Block f e (count_statements ss) c in
      let xs = statement_parts ss in
      let inside : suc o - 1 ≡ o = omega arith in
      ap (first_tall_in (suc o) hs) (last_of (statements_events ss) last rest) ∙
      raises_statements o hs ss (last ∷ rest) ∙
      ap (λ (o : ℕ). first_tall_in o (raised (length (hs ++ xs) - count_statements ss) 1 (hs ++ xs)) rest) inside ∙
      ap (λ (hs : List ℕ). first_tall_in o hs rest) (raised_parts hs xs (length (hs ++ xs) - count_statements ss) 1 (statements_height (plain_statements ss)) (below hs xs (count_statements ss) (statement_count ss)) (statement_greatest ss))
  raises o hs (Brace f e ts) rest =
      let last = event.Brace f e (count_trees ts) in
      let xs = tree_parts ts in
      ap (first_tall_in o hs) (last_of (trees_events ts) last rest) ∙
      raises_trees o hs ts (last ∷ rest) ∙
      ap (λ (hs : List ℕ). first_tall_in o hs rest) (raised_parts hs xs (length (hs ++ xs) - count_trees ts) 1 (trees_height (plain_trees ts)) (below hs xs (count_trees ts) (tree_count ts)) (tree_greatest ts))
  raises o hs (Return f e t) rest =
      let last = event.Return f e in
      ap (first_tall_in o hs) (last_of (tree_events t) last rest) ∙ raises o hs t (last ∷ rest) ∙ raised_one o hs (height (plain_tree t)) rest

  raises_trees : (o : ℕ) (hs : List ℕ) (ts : SpannedTrees) (rest : List Event) → first_tall_in o hs (trees_events ts ++ rest) ≡ first_tall_in o (hs ++ tree_parts ts) rest
  raises_trees o hs NoTrees rest = ap (λ (hs : List ℕ). first_tall_in o hs rest) (sym (append-nil hs))
  raises_trees o hs (MoreTrees t ts) rest =
      let h = cut (height (plain_tree t)) in
      ap (first_tall_in o hs) (append_assoc (tree_events t) (trees_events ts) rest) ∙
      raises o hs t (trees_events ts ++ rest) ∙
      raises_trees o (hs ++ h ∷ []) ts rest ∙
      ap (λ (hs : List ℕ). first_tall_in o hs rest) (append_assoc hs (h ∷ []) (tree_parts ts))

  raises_messages : (o : ℕ) (hs : List ℕ) (ms : SpannedMessages) (rest : List Event) → first_tall_in o hs (messages_events ms ++ rest) ≡ first_tall_in o (hs ++ message_parts ms) rest
  raises_messages o hs NoMessages rest = ap (λ (hs : List ℕ). first_tall_in o hs rest) (sym (append-nil hs))
  raises_messages o hs (MoreMessages s xs ms) rest =
      let next = event.Message s (count_trees xs) in
      let ys = tree_parts xs in
      let h = cut (trees_height (plain_trees xs)) in
      ap (first_tall_in o hs) (append_assoc (trees_events xs) (next ∷ messages_events ms) rest) ∙
      raises_trees o hs xs (next ∷ (messages_events ms ++ rest)) ∙
      ap (λ (hs : List ℕ). first_tall_in o hs (messages_events ms ++ rest)) (joined_parts hs ys (count_trees xs) (trees_height (plain_trees xs)) (tree_count xs) (tree_greatest xs)) ∙
      raises_messages o (hs ++ h ∷ []) ms rest ∙
      ap (λ (hs : List ℕ). first_tall_in o hs rest) (append_assoc hs (h ∷ []) (message_parts ms))

  raises_statements : (o : ℕ) (hs : List ℕ) (ss : SpannedStatements) (rest : List Event) → first_tall_in (suc o) hs (statements_events ss ++ rest) ≡ first_tall_in (suc o) (hs ++ statement_parts ss) rest
  raises_statements o hs NoStatements rest = ap (λ (hs : List ℕ). first_tall_in (suc o) hs rest) (sym (append-nil hs))
  raises_statements o hs (MoreStatements c f t ss) rest =
      let h = cut (height (plain_tree t)) in
      ap (first_tall_in (suc o) hs) (append_assoc (tree_events t) (event.Statement f c ∷ statements_events ss) rest) ∙
      raises (suc o) hs t (event.Statement f c ∷ (statements_events ss ++ rest)) ∙
      raises_statements o (hs ++ h ∷ []) ss rest ∙
      ap (λ (hs : List ℕ). first_tall_in (suc o) hs rest) (append_assoc hs (h ∷ []) (statement_parts ss))

-- whether the last height is too high
last_tall : (hs : List ℕ) (h : ℕ) → nat_lt 200 (greatest (drop (length (hs ++ cut h ∷ []) - 1) (hs ++ cut h ∷ []))) ≡ nat_lt 200 h
last_tall hs h =
    ap (λ (b : ℕ). nat_lt 200 (greatest (drop b (hs ++ cut h ∷ [])))) (below hs (cut h ∷ []) 1 refl) ∙
    ap (λ (ts : List ℕ). nat_lt 200 (greatest ts)) (drop-append_seam hs (cut h ∷ [])) ∙
    cut_tall h

-- the first outermost statement that is too high
pub raises_all : (hs : List ℕ) (ss : SpannedStatements) → first_tall_in zero hs (statements_events ss) ≡ first_tall ss
raises_all hs NoStatements = refl
raises_all hs (MoreStatements c f t ss) =
    let h = height (plain_tree t) in
    let here = hs ++ cut h ∷ [] in
    raises zero hs t (event.Statement f c ∷ statements_events ss) ∙
    option_or_if_one (nat_lt 200 (greatest (drop (length here - 1) here))) f (first_tall_in zero here (statements_events ss)) ∙
    ap (λ (b : Bool). if b then Some f else first_tall_in zero here (statements_events ss)) (last_tall hs h) ∙
    ap (λ (o : Option ℕ). if nat_lt 200 h then Some f else o) (raises_all here ss)
