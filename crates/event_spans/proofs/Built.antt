-- The events of a tree, read from the last to the first, give its nodes in preorder.
use Rattle.std.proofs.Common.{◌≡◌, ℕ, suc, ◌+◌, ◌-◌, arith, List, [], ◌∷◌, ◌++◌, length, length-append, append_assoc, refl, sym, ap, ◌∙◌, Bool, true, false}
use Rattle.std.specs.Prelude.{◌==◌, if◌then◌else◌}
use Rattle.std.proofs.lemmas.List.{append-nil}
use Rattle.std.proofs.lemmas.Bool.Decides.{nat_tests}
use Rattle.tree_model.specs.Tree.{LiteralOf, number, str, symbol, char, array, bytes, word, LiteralsOf, no_literals, more_literals}
use Rattle.grammar_model.specs.Terminal.{Text}
use Rattle.grammar_model.specs.Spanned.{SpannedTree, Var, Literal, Send, Cascade, Assign, Block, Brace, Return, SpannedTrees, NoTrees, MoreTrees, SpannedMessages, NoMessages, MoreMessages, SpannedStatements, NoStatements, MoreStatements}
use Rattle.parse_events.specs.declared.event.Event.{Event}
use Rattle.parse_events.specs.declared.event.Event.TheVariants as event
use Rattle.parse_events.specs.Found.{count_literals, count_trees, count_messages, count_statements, literal_events, literals_events, tree_events, trees_events, messages_events, statements_events}
use Rattle.event_spans.specs.declared.place.Place.{Place}
use Rattle.event_spans.specs.declared.building.Open.{Open}
use Rattle.event_spans.specs.Building.{State, state, close, step, back}
use Rattle.event_spans.specs.Preorder.{above, tree_places, trees_places, messages_places, statements_places}

-- events before others are read behind them
pub back-append : (es fs : List Event) (s : State) → back (es ++ fs) s ≡ back es (back fs s)
back-append [] fs s = refl
back-append (e ∷ es) fs s = ap (step e) (back-append es fs s)

-- the events of literals give no node
mutual
  back-literal : (l : LiteralOf Text) (s : State) → back (literal_events l) s ≡ s
  back-literal (number t) s = refl
  back-literal (str t) s = refl
  back-literal (symbol t) s = refl
  back-literal (char b) s = refl
  back-literal (word n) s = refl
  back-literal (array ls) s = back-append (literals_events ls) (event.Array (count_literals ls) ∷ []) s ∙ back-literals ls s
  back-literal (bytes ls) s = back-append (literals_events ls) (event.Bytes (count_literals ls) ∷ []) s ∙ back-literals ls s

  back-literals : (ls : LiteralsOf Text) (s : State) → back (literals_events ls) s ≡ s
  back-literals no_literals s = refl
  back-literals (more_literals l ls) s = back-append (literal_events l) (literals_events ls) s ∙ ap (back (literal_events l)) (back-literals ls s) ∙ back-literal l s

-- an open node that wants so many nodes besides one
abbrev wanting : ℕ → Open → Open
wanting n o = record o { more = n }

-- an open node before some nodes that wants no node besides one
abbrev opened : ℕ → ℕ → Bool → List Place → Open
opened f e block ps = record { from = f; to = e; block = block; more = 0; behind = length ps }

-- so many nodes and none
from_none : (es : List Event) (n : ℕ) (o : Open) (os : List Open) (ps : List Place) → back es (state (wanting n o ∷ os) ps) ≡ back es (state (wanting (0 + n) o ∷ os) ps)
from_none es n o os ps = let e : n ≡ 0 + n = omega arith in ap (λ m. back es (state (wanting m o ∷ os) ps)) e

-- so many nodes and none behind them
none : (n : ℕ) (o : Open) (os : List Open) (ps : List Place) → state (wanting (n + 0) o ∷ os) ps ≡ state (wanting n o ∷ os) ps
none n o os ps = let e : n + 0 ≡ n = omega arith in ap (λ m. state (wanting m o ∷ os) ps) e

-- one node more
one_more : (es : List Event) (n k : ℕ) (o : Open) (os : List Open) (ps : List Place) → back es (state (wanting (n + suc k) o ∷ os) ps) ≡ back es (state (wanting (suc n + k) o ∷ os) ps)
one_more es n k o os ps = let e : n + suc k ≡ suc n + k = omega arith in ap (λ m. back es (state (wanting m o ∷ os) ps)) e

-- an open node that wants no node is read whole
whole : (o : Open) (os : List Open) (below ps : List Place) → o.behind ≡ length ps → close (wanting 0 o ∷ os) (below ++ ps) ≡ close os (above (length os) o.from o.to o.block below ++ ps)
whole o os below ps e =
    ap (λ n. close os (record { from = o.from; to = o.to; depth = length os; below = n; block = o.block } ∷ (below ++ ps))) (omega (arith, e, length-append below ps))

-- an open node that wants one node more goes on
goes_on : (n : ℕ) (o : Open) (os : List Open) (ps : List Place) → close (wanting (suc n) o ∷ os) ps ≡ state (wanting n o ∷ os) ps
goes_on n o os ps =
    let more : (suc n == 0) ≡ false = grind (arith, nat_tests) in
    let e : suc n - 1 ≡ n = omega arith in
    ap (λ (b : Bool). if b then close os (record { from = o.from; to = o.to; depth = length os; below = length ps - o.behind; block = o.block } ∷ ps) else state (wanting (suc n - 1) o ∷ os) ps) more
    ∙ ap (λ m. state (wanting m o ∷ os) ps) e

mutual
  -- a tree is a node that is read whole
  back-tree : (t : SpannedTree) (os : List Open) (ps : List Place) → back (tree_events t) (state os ps) ≡ close os (tree_places (length os) t ++ ps)
  back-tree (Var f e n) os ps = refl
  back-tree (Literal f e l) os ps = back-append (literal_events l) (event.Literal f e ∷ []) (state os ps) ∙ back-literal l _
  back-tree (Send f e r s xs) os ps =
      back-append (tree_events r ++ trees_events xs) (event.Send f e (count_trees xs) s ∷ []) (state os ps)
      ∙ back-append (tree_events r) (trees_events xs) _
      ∙ ap (back (tree_events r)) (from_none (trees_events xs) (count_trees xs) (opened f e false ps) os ps ∙ back-trees xs 0 (opened f e false ps) os ps)
      ∙ back-tree r (opened f e false ps ∷ os) _
      ∙ ap (close (opened f e false ps ∷ os)) (sym (append_assoc (tree_places (suc (length os)) r) (trees_places (suc (length os)) xs) ps))
      ∙ whole (opened f e false ps) os (tree_places (suc (length os)) r ++ trees_places (suc (length os)) xs) ps refl
  back-tree (Cascade f e r ms) os ps =
      back-append (tree_events r ++ messages_events ms) (event.Cascade f e (count_messages ms) ∷ []) (state os ps)
      ∙ back-append (tree_events r) (messages_events ms) _
      ∙ ap (back (tree_events r)) (back-messages ms 0 (opened f e false ps) os ps)
      ∙ back-tree r (opened f e false ps ∷ os) _
      ∙ ap (close (opened f e false ps ∷ os)) (sym (append_assoc (tree_places (suc (length os)) r) (messages_places (suc (length os)) ms) ps))
      ∙ whole (opened f e false ps) os (tree_places (suc (length os)) r ++ messages_places (suc (length os)) ms) ps refl
  back-tree (Assign f e n t) os ps =
      back-append (tree_events t) (event.Assign f e ∷ []) (state os ps)
      ∙ back-tree t (opened f e false ps ∷ os) ps
      ∙ whole (opened f e false ps) os (tree_places (suc (length os)) t) ps refl
  back-tree (Block f e qs ds NoStatements c) os ps = refl
  back-tree (Block f e qs ds (MoreStatements d g t ss) c) os ps =
      back-append (statements_events (MoreStatements d g t ss)) (event.Block f e (suc (count_statements ss)) c ∷ []) (state os ps)
      ∙ back-append (tree_events t) (event.Statement g d ∷ statements_events ss) _
      ∙ ap (back (tree_events t)) (from_none (statements_events ss) (count_statements ss) (opened f e true ps) os ps ∙ back-statements ss 0 (opened f e true ps) os ps)
      ∙ back-tree t (opened f e true ps ∷ os) _
      ∙ ap (close (opened f e true ps ∷ os)) (sym (append_assoc (tree_places (suc (length os)) t) (statements_places (suc (length os)) ss) ps))
      ∙ whole (opened f e true ps) os (tree_places (suc (length os)) t ++ statements_places (suc (length os)) ss) ps refl
  back-tree (Brace f e NoTrees) os ps = refl
  back-tree (Brace f e (MoreTrees t ts)) os ps =
      back-append (trees_events (MoreTrees t ts)) (event.Brace f e (suc (count_trees ts)) ∷ []) (state os ps)
      ∙ back-append (tree_events t) (trees_events ts) _
      ∙ ap (back (tree_events t)) (from_none (trees_events ts) (count_trees ts) (opened f e false ps) os ps ∙ back-trees ts 0 (opened f e false ps) os ps)
      ∙ back-tree t (opened f e false ps ∷ os) _
      ∙ ap (close (opened f e false ps ∷ os)) (sym (append_assoc (tree_places (suc (length os)) t) (trees_places (suc (length os)) ts) ps))
      ∙ whole (opened f e false ps) os (tree_places (suc (length os)) t ++ trees_places (suc (length os)) ts) ps refl
  back-tree (Return f e t) os ps =
      back-append (tree_events t) (event.Return f e ∷ []) (state os ps)
      ∙ back-tree t (opened f e false ps ∷ os) ps
      ∙ whole (opened f e false ps) os (tree_places (suc (length os)) t) ps refl

  -- trees are as many nodes right below the innermost open one
  back-trees : (ts : SpannedTrees) (n : ℕ) (o : Open) (os : List Open) (ps : List Place) →
      back (trees_events ts) (state (wanting (n + count_trees ts) o ∷ os) ps) ≡ state (wanting n o ∷ os) (trees_places (suc (length os)) ts ++ ps)
  back-trees NoTrees n o os ps = none n o os ps
  back-trees (MoreTrees t ts) n o os ps =
      back-append (tree_events t) (trees_events ts) _
      ∙ ap (back (tree_events t)) (one_more (trees_events ts) n (count_trees ts) o os ps ∙ back-trees ts (suc n) o os ps)
      ∙ back-tree t (wanting (suc n) o ∷ os) _
      ∙ goes_on n o os _
      ∙ ap (state (wanting n o ∷ os)) (sym (append_assoc (tree_places (suc (length os)) t) (trees_places (suc (length os)) ts) ps))

  -- so are the arguments of messages
  back-messages : (ms : SpannedMessages) (n : ℕ) (o : Open) (os : List Open) (ps : List Place) →
      back (messages_events ms) (state (wanting n o ∷ os) ps) ≡ state (wanting n o ∷ os) (messages_places (suc (length os)) ms ++ ps)
  back-messages NoMessages n o os ps = refl
  back-messages (MoreMessages s xs ms) n o os ps =
      back-append (trees_events xs) (event.Message s (count_trees xs) ∷ messages_events ms) _
      ∙ ap (λ st. back (trees_events xs) (step (event.Message s (count_trees xs)) st)) (back-messages ms n o os ps)
      ∙ back-trees xs n o os _
      ∙ ap (state (wanting n o ∷ os)) (sym (append_assoc (trees_places (suc (length os)) xs) (messages_places (suc (length os)) ms) ps))

  -- so are statements
  back-statements : (ss : SpannedStatements) (n : ℕ) (o : Open) (os : List Open) (ps : List Place) →
      back (statements_events ss) (state (wanting (n + count_statements ss) o ∷ os) ps) ≡ state (wanting n o ∷ os) (statements_places (suc (length os)) ss ++ ps)
  back-statements NoStatements n o os ps = none n o os ps
  back-statements (MoreStatements c f t ss) n o os ps =
      back-append (tree_events t) (event.Statement f c ∷ statements_events ss) _
      ∙ ap (back (tree_events t)) (one_more (statements_events ss) n (count_statements ss) o os ps ∙ back-statements ss (suc n) o os ps)
      ∙ back-tree t (wanting (suc n) o ∷ os) _
      ∙ goes_on n o os _
      ∙ ap (state (wanting n o ∷ os)) (sym (append_assoc (tree_places (suc (length os)) t) (statements_places (suc (length os)) ss) ps))

-- outermost statements before others
back-outer : (ss : SpannedStatements) (ps : List Place) → back (statements_events ss) (state [] ps) ≡ state [] (statements_places 0 ss ++ ps)
back-outer NoStatements ps = refl
back-outer (MoreStatements c f t ss) ps =
    back-append (tree_events t) (event.Statement f c ∷ statements_events ss) (state [] ps)
    ∙ ap (back (tree_events t)) (back-outer ss ps)
    ∙ back-tree t [] _
    ∙ ap (state []) (sym (append_assoc (tree_places 0 t) (statements_places 0 ss) ps))

-- the events of outermost statements give their nodes in preorder
pub back-outermost : (ss : SpannedStatements) → (back (statements_events ss) (state [] [])).places ≡ statements_places 0 ss
back-outermost ss = ap (λ (s : State). s.places) (back-outer ss []) ∙ append-nil (statements_places 0 ss)
