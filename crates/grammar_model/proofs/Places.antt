-- In a text each node has a place of its own, and paths lead where they do in the tree without places.
use Rattle.std.proofs.Common.{◌≡◌, ℕ, zero, suc, ◌<◌, ◌≤◌, arith, Bool, false, List, [], ◌∷◌, ◌++◌, Option, Some, None, refl, ap, sym, subst, ◌∙◌}
use Rattle.std.specs.Prelude.{option_and_then, option_map, slice_range}
use Rattle.std.specs.Option.{option_map_or}
use Rattle.token_model.specs.TokenLists.{Piece, HasTokens, Ended, Stopped, Further}
use Rattle.token_model.specs.declared.kind.Dialect.{Dialect}
use Rattle.token_model.specs.declared.kind.TokenKind.{TokenKind}
use Rattle.token_model.specs.declared.kind.TokenKind.TheVariants as token
use Rattle.token_model.specs.declared.fault.LexFault.{LexFault}
use Rattle.token_model.proofs.Spans.{IsToken-inside, IsToken-some}
use Rattle.tree_model.specs.Tree.{Notes, more_trees, StatementsOf, no_statements, more_statements, MethodOf}
use Rattle.tree_model.specs.Normal.{normal_by, without_leading_of}
use Rattle.tree_model.specs.Path.{append, nth, all_arguments, statement_trees, children, part_at, part_among, part_in}
use Rattle.grammar_model.specs.Terminal.{Text, Terminal, Name, Keyword, Binary, Bar, Less, Greater, Numeral, SmallDigits, PrimitiveKeyword}
use Rattle.grammar_model.specs.Input.{Lexeme, lex, Input, beginning, kind_of, next}
use Rattle.grammar_model.specs.Ahead.{Longest}
use Rattle.grammar_model.specs.Lexemes.{terminal_of, begins_numeral, lexemes_of, IsLexed}
use Rattle.grammar_model.specs.Spanned.{Declared, SpannedTree, Var, Literal, Send, Cascade, Assign, Block, Brace, Return, SpannedTrees, NoTrees, MoreTrees, SpannedMessages, NoMessages, MoreMessages, SpannedStatements, NoStatements, MoreStatements, SpannedSequence, SpannedMethod, names_of, plain_tree, plain_trees, plain_messages, plain_statements, plain_sequence, plain_method}
use Rattle.grammar_model.specs.Spans.{spanned_append, spanned_arguments, spanned_statements, spanned_children, spanned_nth, spanned_part, spanned_among, spanned_in, Span, span_of, span_at}
use Rattle.grammar_model.specs.Whole.{PatternParts, LastPatternPart, FurtherPatternPart, Pattern, UnaryPattern, BinaryPattern, KeywordPattern, MethodBody, WithBars, WithoutBars, OnePrimitive, Behind, Plainly, Primitively}
use Rattle.grammar_model.specs.Spelling.{SpellsDoItAt, SpellsMethodAt}
use Rattle.grammar_model.proofs.Reading.{IsReal}
use Rattle.grammar_model.proofs.Spans.{one_path_among}
use Rattle.grammar_model.proofs.Placing.{AreSorted, IsSorted, passed, Moved, moved_both, and_closing, moves_Names, TreesStand, none_stand, behind_moved, stands_Sequence, stands_Statements}

-- tokens in order from a place on are in order from an earlier one
sorted_lower : (ts : List Lexeme) (at before : ℕ) → before ≤ at → AreSorted at ts → AreSorted before ts
sorted_lower [] at before l s = tt
sorted_lower (lex c f e k ∷ ts) at before l s = (omega (arith, s.0), s.1, s.2, s.3)

-- one token more, or a comment
sorted_option : (o : Option Terminal) (c : Notes) (at f e : ℕ) (ts us : List Lexeme) → at ≤ f → f < e → AreSorted e ts → AreSorted e us → AreSorted at (option_map_or (λ k. lex c f e k ∷ ts) o us)
sorted_option None c at f e ts us l m s r = sorted_lower us e at (omega arith) r
sorted_option (Some k) c at f e ts us l m s r = (l, omega arith, (λ real. m), s)

-- the last token
sorted_last : (k : TokenKind) (c : Notes) (at f e : ℕ) (s : Text) (b : Bool) → k ≡ token.End → at ≤ f → f ≤ e → AreSorted at (option_map_or (λ k. lex c f e k ∷ []) (terminal_of k s b) [])
sorted_last k c at f e s b h l m = subst (λ k. AreSorted at (option_map_or (λ k. lex c f e k ∷ []) (terminal_of k s b) [])) (sym h) (l, m, (λ real. absurd real), tt)

-- the tokens of a text are in order
sorted_tokens : (d : Dialect) (t : Text) (at : ℕ) (ps : List Piece) (fault : Option LexFault) (held : Notes) → HasTokens d t at ps fault → AreSorted at (lexemes_of t held ps)
sorted_tokens d t at ps fault held (Ended here p n e) = sorted_last p.kind held here p.from p.to (slice_range t p.from p.to) false e n.blanks.order (IsToken-inside d p.kind t p.from p.to n.token).0
sorted_tokens d t at ps fault held (Stopped here f n) = tt
sorted_tokens d t at ps fault held (Further here p qs f n e r) =
    sorted_option (terminal_of p.kind (slice_range t p.from p.to) (begins_numeral p.to qs)) held here p.from p.to (lexemes_of t [] qs) (lexemes_of t (held ++ slice_range t p.from p.to ∷ []) qs)
    n.blanks.order (IsToken-some d p.kind t p.from p.to n.token e) (sorted_tokens d t p.to qs f [] r) (sorted_tokens d t p.to qs f (held ++ slice_range t p.from p.to ∷ []) r)

-- the tokens that the grammar sees are in order
lexed_sorted : (d : Dialect) (t : Text) (ts : List Lexeme) → IsLexed d t ts → IsSorted (beginning ts)
lexed_sorted d t ts l = subst (AreSorted 0) (sym l.same) (sorted_tokens d t 0 l.pieces None [] l.read)

-- one token
one_moves : (i : Input) (k : Terminal) → kind_of i ≡ k → IsReal k → IsSorted i → Moved i (next i)
one_moves i k e r s = let p = passed i k e r s in record { onward = omega (arith, p.before, p.some); sorted = p.sorted }

-- the keywords of a pattern
moves_PatternParts : {i j : Input} {s : Text} {ds : List Declared} → PatternParts Longest i s ds j → IsSorted i → Moved i j
moves_PatternParts {i} (LastPatternPart {c} {d} {k} {n} e f h) s = and_closing (Name d n) (one_moves i (Keyword c k) e tt s) f tt
moves_PatternParts {i} (FurtherPatternPart {c} {d} {k} {n} e f r) s =
    let m = and_closing (Name d n) (one_moves i (Keyword c k) e tt s) f tt in
    moved_both m (moves_PatternParts r m.sorted)

-- a pattern
moves_Pattern : {i j : Input} {s : Text} {ds : List Declared} → Pattern Longest i s ds j → IsSorted i → Moved i j
moves_Pattern {i} (UnaryPattern {c} {n} e) s = one_moves i (Name c n) e tt s
moves_Pattern {i} (BinaryPattern {c} {d} {s = b} {n} e f) s = and_closing (Name d n) (one_moves i (Binary c b) e tt s) f tt
moves_Pattern (KeywordPattern d) s = moves_PatternParts d s

-- the statements of a method
stands_MethodBody : {i j : Input} {n : Notes} {ds : List Declared} {ss : SpannedStatements} → MethodBody Longest i n ds ss j → IsSorted i → TreesStand i (spanned_statements ss) j
stands_MethodBody {i} (WithBars {m} {s = a} {t = b} e d f r) s =
    let p = passed i (Binary Bar a) e tt s in
    let q = moves_Names d p.sorted in
    let z = passed m (Binary Bar b) f tt q.sorted in
    let t = stands_Statements r z.sorted in
    behind_moved (record { onward = omega (arith, p.before, p.some, q.onward, z.before, z.some); sorted = z.sorted }) t
stands_MethodBody (WithoutBars h r) s = stands_Statements r s

-- what stands behind a pattern
stands_Behind : {kernel : Bool} {i j : Input} {n : Notes} {p : Option ℕ} {ds : List Declared} {ss : SpannedStatements} → Behind Longest kernel i n p ds ss j → IsSorted i → TreesStand i (spanned_statements ss) j
stands_Behind (Plainly b) s = stands_MethodBody b s
stands_Behind {i} (Primitively (OnePrimitive {s = a} {k} {t} {u} e f g h)) s =
    none_stand (and_closing (Binary Greater u) (and_closing (Numeral SmallDigits t) (and_closing (Keyword PrimitiveKeyword k) (one_moves i (Binary Less a) e tt s) f tt) g tt) h tt)

-- a span is that of a node
pub record At (ts : SpannedTrees) (path : List ℕ) (s : Span) : Type 0 where
  pub node : SpannedTree
  pub leads : spanned_among ts path ≡ Some node
  pub is : span_of node ≡ s

-- such a node is there
pub at_node : (ts : SpannedTrees) (path : List ℕ) (s : Span) → option_map span_of (spanned_among ts path) ≡ Some s → At ts path s
at_node ts path s e = go (spanned_among ts path) refl e
  where
    go : (o : Option SpannedTree) → spanned_among ts path ≡ o → option_map span_of o ≡ Some s → At ts path s
    go None i e = cc
    go (Some d) i e = record { node = d; leads = i; is = cc }

-- trees in order have one node at a place
one_place : (i j : Input) (ts : SpannedTrees) (path other : List ℕ) (s : Span) → TreesStand i ts j → option_map span_of (spanned_among ts path) ≡ Some s → option_map span_of (spanned_among ts other) ≡ Some s → path ≡ other
one_place i j ts path other s t e f =
    let a = at_node ts path s e in
    let b = at_node ts other s f in
    let same = a.is ∙ sym b.is in
    one_path_among path other ts i.last j.last a.node b.node t.between t.placed a.leads b.leads (ap (λ (s : Span). s.from) same) (ap (λ (s : Span). s.to) same)

-- the statements of a do-it are well placed
pub trees_of_DoIt : (d : Dialect) (t : Text) (s : SpannedSequence) (h : SpellsDoItAt d t s) → TreesStand (beginning h.tokens) (spanned_statements s.statements) h.grammar.stop
trees_of_DoIt d t s h = stands_Sequence h.grammar.sequence (lexed_sorted d t h.tokens h.lexed)

-- so are those of a method
pub trees_of_Method : (d : Dialect) (kernel : Bool) (t : Text) (m : SpannedMethod) (h : SpellsMethodAt d kernel t m) → TreesStand h.grammar.begin (spanned_statements m.body.statements) h.grammar.stop
trees_of_Method d kernel t m h = let p = moves_Pattern h.grammar.pattern (lexed_sorted d t h.tokens h.lexed) in stands_Behind h.grammar.behind p.sorted

-- a do-it has one node at a place
pub one_place_DoIt : (d : Dialect) (t : Text) (s : SpannedSequence) (path other : List ℕ) (span : Span) → SpellsDoItAt d t s → span_at s path ≡ Some span → span_at s other ≡ Some span → path ≡ other
one_place_DoIt d t s path other span h e f = one_place (beginning h.tokens) h.grammar.stop (spanned_statements s.statements) path other span (trees_of_DoIt d t s h) e f

-- so has a method
pub one_place_Method : (d : Dialect) (kernel : Bool) (t : Text) (m : SpannedMethod) (path other : List ℕ) (span : Span) → SpellsMethodAt d kernel t m → span_at m.body path ≡ Some span → span_at m.body other ≡ Some span → path ≡ other
one_place_Method d kernel t m path other span h e f = one_place h.grammar.begin h.grammar.stop (spanned_statements m.body.statements) path other span (trees_of_Method d kernel t m h) e f

-- the trees without places of joined lists
plain-append : (ts us : SpannedTrees) → plain_trees (spanned_append ts us) ≡ append (plain_trees ts) (plain_trees us)
plain-append NoTrees us = refl
plain-append (MoreTrees t ts) us = ap (more_trees (plain_tree t)) (plain-append ts us)

-- those of the arguments of messages
plain-arguments : (ms : SpannedMessages) → plain_trees (spanned_arguments ms) ≡ all_arguments (plain_messages ms)
plain-arguments NoMessages = refl
plain-arguments (MoreMessages s xs ms) = plain-append xs (spanned_arguments ms) ∙ ap (append (plain_trees xs)) (plain-arguments ms)

-- those of statements
plain-statements : (ss : SpannedStatements) → plain_trees (spanned_statements ss) ≡ statement_trees (plain_statements ss)
plain-statements NoStatements = refl
plain-statements (MoreStatements c f t ss) = ap (more_trees (plain_tree t)) (plain-statements ss)

-- those right below a node
plain-children : (t : SpannedTree) → plain_trees (spanned_children t) ≡ children (plain_tree t)
plain-children (Var f e n) = refl
plain-children (Literal f e l) = refl
plain-children (Send f e r s xs) = refl
plain-children (Cascade f e r ms) = ap (more_trees (plain_tree r)) (plain-arguments ms)
plain-children (Assign f e n t) = refl
plain-children (Block f e ps ds ss c) = plain-statements ss
plain-children (Brace f e ts) = refl
plain-children (Return f e t) = refl

-- the one of a number
plain-nth : (ts : SpannedTrees) (k : ℕ) → option_map plain_tree (spanned_nth ts k) ≡ nth (plain_trees ts) k
plain-nth NoTrees k = refl
plain-nth (MoreTrees t ts) zero = refl
plain-nth (MoreTrees t ts) (suc k) = plain-nth ts k

-- the rest of a path behind its first step
plain_step : (ks : List ℕ) (o : Option SpannedTree) → ((t : SpannedTree) → option_map plain_tree (spanned_part t ks) ≡ part_at (plain_tree t) ks) → option_map plain_tree (option_and_then (λ c. spanned_part c ks) o) ≡ option_and_then (λ c. part_at c ks) (option_map plain_tree o)
plain_step ks None h = refl
plain_step ks (Some t) h = h t

-- the one to which a path leads
plain-part : (ks : List ℕ) (t : SpannedTree) → option_map plain_tree (spanned_part t ks) ≡ part_at (plain_tree t) ks
plain-part [] t = refl
plain-part (k ∷ ks) t =
    plain_step ks (spanned_nth (spanned_children t) k) (plain-part ks) ∙ ap (option_and_then (λ c. part_at c ks)) (plain-nth (spanned_children t) k ∙ ap (λ us. nth us k) (plain-children t))

-- the same in a list of trees
plain-among : (path : List ℕ) (ts : SpannedTrees) → option_map plain_tree (spanned_among ts path) ≡ part_among (plain_trees ts) path
plain-among [] ts = refl
plain-among (k ∷ ks) ts = plain_step ks (spanned_nth ts k) (plain-part ks) ∙ ap (option_and_then (λ c. part_at c ks)) (plain-nth ts k)

-- a path leads to the same node with and without places
pub plain_in : (s : SpannedSequence) (path : List ℕ) → option_map plain_tree (spanned_in s path) ≡ part_in (plain_sequence s) path
plain_in s path = plain-among path (spanned_statements s.statements) ∙ ap (λ ts. part_among ts path) (plain-statements s.statements)

-- taking the first comments away changes no node
without_trees : (ts : List Text) (ss : StatementsOf Text) (tail : Notes) → statement_trees (without_leading_of ts ss tail).statements ≡ statement_trees ss
without_trees ts no_statements tail = refl
without_trees ts (more_statements c t ss) tail = refl

-- the normal form of comments changes no node
normal_trees : (ts : List Text) (m : MethodOf Text) → statement_trees (normal_by ts m).body.statements ≡ statement_trees m.body.statements
normal_trees [] m = without_trees m.body.temporaries m.body.statements m.body.tail
normal_trees (n ∷ ns) m = refl

-- so it is in a method
pub plain_in_Method : (m : SpannedMethod) (path : List ℕ) → option_map plain_tree (spanned_in m.body path) ≡ part_in (plain_method m).body path
plain_in_Method m path = plain_in m.body path ∙ ap (λ ts. part_among ts path) (sym (normal_trees (names_of m.body.temporaries) (record { selector = m.selector; arguments = names_of m.arguments; head = m.opening; primitive = m.primitive; body = plain_sequence m.body })))
