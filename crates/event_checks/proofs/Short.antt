-- Statements of few events are not too high.
use Rattle.std.proofs.Common.{◌≡◌, ℕ, zero, suc, ◌+◌, ◌-◌, ◌<◌, ◌≤◌, Bool, true, false, ◌&&◌, if◌then◌else◌, List, [], ◌∷◌, ◌++◌, length, take, drop, get_or, Option, Some, None, refl, sym, ap, ◌∙◌, append_assoc, arith}
use Rattle.std.specs.Prelude.{nat_lt, is_some}
use Rattle.std.specs.Option.{option_or}
use Rattle.std.proofs.lemmas.List.{length-append}
use Rattle.std.proofs.lemmas.Bool.{and_parts}
use Rattle.std.proofs.lemmas.Bool.Decides.{nat_tests}
use Rattle.tree_model.specs.Tree.{Notes, LiteralOf, number, str, symbol, char, array, bytes, word, LiteralsOf, no_literals, more_literals}
use Rattle.tree_model.specs.Measure.{height}
use Rattle.grammar_model.specs.Terminal.{Text}
use Rattle.grammar_model.specs.Checks.{first_tall}
use Rattle.grammar_model.specs.Spanned.{SpannedTree, Var, Literal, Send, Cascade, Assign, Block, Brace, Return, SpannedTrees, NoTrees, MoreTrees, SpannedMessages, NoMessages, MoreMessages, SpannedStatements, NoStatements, MoreStatements, plain_tree}
use Rattle.parse_events.specs.declared.event.Declaration.{Declaration}
use Rattle.parse_events.specs.declared.event.Event.{Event}
use Rattle.parse_events.specs.declared.event.Event.TheVariants as event
use Rattle.parse_events.specs.Found.{count_literals, count_trees, count_messages, count_statements, declarations, literal_events, literals_events, tree_events, trees_events, messages_events, statements_events}
use Rattle.event_checks.specs.Heights.{cut, greatest, raised, heights_behind, open_behind, tall_at, first_tall_in, all_short}
use Rattle.event_checks.proofs.Lists.{drop_here, last_of}
use Rattle.event_checks.proofs.Raised.{greatest_more, raises_all}

-- the first heights are no greater than all
greatest_take : (b : ℕ) (hs : List ℕ) → greatest (take b hs) ≤ greatest hs
greatest_take zero [] = omega arith
greatest_take zero (h ∷ hs) = omega arith
greatest_take (suc b) [] = omega arith
greatest_take (suc b) (h ∷ hs) = omega (arith, greatest_take b hs)

-- the last heights are no greater than all
greatest_drop : (b : ℕ) (hs : List ℕ) → greatest (drop b hs) ≤ greatest hs
greatest_drop zero [] = omega arith
greatest_drop zero (h ∷ hs) = omega arith
greatest_drop (suc b) [] = omega arith
greatest_drop (suc b) (h ∷ hs) = omega (arith, greatest_drop b hs)

-- heights are raised by no more levels than are added
raised_low : (b levels : ℕ) (hs : List ℕ) → greatest (raised b levels hs) ≤ greatest hs + levels
raised_low b levels hs = omega (arith, greatest_more (take b hs) (cut (greatest (drop b hs) + levels)), greatest_take b hs, greatest_drop b hs)

-- a part without parts has one level
one_low : (hs : List ℕ) → greatest (hs ++ 1 ∷ []) ≤ greatest hs + 1
one_low hs = omega (arith, greatest_more hs 1)

-- also in the place of others
flat_low : (b : ℕ) (hs : List ℕ) → greatest (take b hs ++ 1 ∷ []) ≤ greatest hs + 1
flat_low b hs = omega (arith, greatest_more (take b hs) 1, greatest_take b hs)

-- an event raises the heights by one level at most
behind_low : (e : Event) (hs : List ℕ) → greatest (heights_behind e hs) ≤ greatest hs + 1
behind_low (event.Number t) hs = one_low hs
behind_low (event.Str t) hs = one_low hs
behind_low (event.Symbol t) hs = one_low hs
behind_low (event.Char b) hs = one_low hs
behind_low (event.Word n) hs = one_low hs
behind_low (event.Array n) hs = raised_low (length hs - n) 1 hs
behind_low (event.Bytes n) hs = flat_low (length hs - n) hs
behind_low (event.Literal f e) hs = omega arith
behind_low (event.Var f e n) hs = one_low hs
behind_low (event.Send f e n s) hs = raised_low (length hs - n - 1) 1 hs
behind_low (event.Message s n) hs = omega (arith, raised_low (length hs - n) 0 hs)
behind_low (event.Cascade f e n) hs = raised_low (length hs - n - 1) 1 hs
behind_low (event.Target f n) hs = omega arith
behind_low (event.Assign f e) hs = raised_low (length hs - 1) 1 hs
behind_low (event.Enter ps ds) hs = omega arith
behind_low (event.Block f e n c) hs = raised_low (length hs - n) 1 hs
behind_low (event.Brace f e n) hs = raised_low (length hs - n) 1 hs
behind_low (event.Return f e) hs = raised_low (length hs - 1) 1 hs
behind_low (event.Statement f c) hs = omega arith

-- a number that is not above 200
not_above : (g : ℕ) → g ≤ 200 → nat_lt 200 g ≡ false
not_above g h = grind (arith, nat_tests)

-- no statement is too high where no height is
none_tall : (e : Event) (inside : ℕ) (hs : List ℕ) → greatest hs ≤ 200 → tall_at e inside hs ≡ None
none_tall (event.Statement f c) zero hs h =
    ap (λ (b : Bool). if b then Some f else None) (not_above (greatest (drop (length hs - 1) hs)) (omega (arith, h, greatest_drop (length hs - 1) hs)))
none_tall e inside hs h = refl

-- past an event that is no statement which is too high
pub tall_past : (inside next : ℕ) (hs now gs : List ℕ) (es : List Event) (i : ℕ) (e : Event) (tall : Option ℕ) → i < length es → e ≡ get_or es i e →
    tall ≡ tall_at e inside now → now ≡ hs → is_some tall ≡ false → next ≡ open_behind e inside → gs ≡ heights_behind e hs →
    first_tall_in inside hs (drop i es) ≡ first_tall_in next gs (drop (i + 1) es)
tall_past inside next hs now gs es i e None h is tall same none behind built =
    let here : tall_at e inside hs ≡ None = ap (tall_at e inside) (sym same) ∙ sym tall in
    ap (first_tall_in inside hs) (drop_here es i e h is) ∙
    ap (λ (a : Option ℕ). option_or a (first_tall_in (open_behind e inside) (heights_behind e hs) (drop (i + 1) es))) here ∙
    (λ k. first_tall_in (sym behind k) (sym built k) (drop (i + 1) es))
tall_past inside next hs now gs es i e (Some f) h is tall same none behind built = cc

-- few events build nothing that is too high
pub few_low : (inside : ℕ) (hs : List ℕ) (es : List Event) → greatest hs + length es ≤ 200 → first_tall_in inside hs es ≡ None
few_low inside hs [] h = refl
few_low inside hs (e ∷ es) h =
    ap (λ (a : Option ℕ). option_or a (first_tall_in (open_behind e inside) (heights_behind e hs) es)) (none_tall e inside hs (omega (arith, h))) ∙
    few_low (open_behind e inside) (heights_behind e hs) es (omega (arith, h, behind_low e hs))

-- statements of few events are not too high
pub few_statements : (ss : SpannedStatements) → length (statements_events ss) ≤ 200 → first_tall ss ≡ None
few_statements ss h = sym (raises_all [] ss) ∙ few_low zero [] (statements_events ss) (omega (arith, h))

-- events that end no statement outside all blocks are only counted
abbrev Passes : ℕ → List Event → Type 0
Passes inside es = (left : ℕ) (rest : List Event) → all_short inside left (es ++ rest) ≡ all_short inside (left - length es) rest

-- no events
passes_none : (inside : ℕ) → Passes inside []
passes_none inside = λ left rest. ap (λ (n : ℕ). all_short inside n rest) (omega arith)

-- some events and others behind them
passes_both : (inside : ℕ) (es fs : List Event) → Passes inside es → Passes inside fs → Passes inside (es ++ fs)
passes_both inside es fs p q = λ left rest.
    ap (all_short inside left) (append_assoc es fs rest) ∙
    p left (fs ++ rest) ∙
    q (left - length es) rest ∙
    ap (λ (n : ℕ). all_short inside n rest) (omega (arith, length-append es fs))

-- those of a block
passes_block : (inside : ℕ) (ps ds : List Declaration) (es : List Event) (f e n : ℕ) (c : Notes) → Passes (suc inside) es → Passes inside (event.Enter ps ds ∷ es ++ event.Block f e n c ∷ [])
passes_block inside ps ds es f e n c p = λ left rest.
    let outside : suc inside - 1 ≡ inside = omega arith in
    let counted : left - 1 - length es - 1 ≡ left - length (event.Enter ps ds ∷ es ++ event.Block f e n c ∷ []) = omega (arith, length-append es (event.Block f e n c ∷ [])) in
    ap (all_short (suc inside) (left - 1)) (last_of es (event.Block f e n c) rest) ∙
    p (left - 1) (event.Block f e n c ∷ rest) ∙
    ap (λ (o : ℕ). all_short o (left - 1 - length es - 1) rest) outside ∙
    ap (λ (n : ℕ). all_short inside n rest) counted

-- the events of literals
mutual
  passes_literal : (inside : ℕ) (l : LiteralOf Text) → Passes inside (literal_events l)
  passes_literal inside (number t) = λ left rest. refl
  passes_literal inside (str t) = λ left rest. refl
  passes_literal inside (symbol t) = λ left rest. refl
  passes_literal inside (char b) = λ left rest. refl
  passes_literal inside (word n) = λ left rest. refl
  passes_literal inside (array ls) = passes_both inside (literals_events ls) (event.Array (count_literals ls) ∷ []) (passes_literals inside ls) (λ left rest. refl)
  passes_literal inside (bytes ls) = passes_both inside (literals_events ls) (event.Bytes (count_literals ls) ∷ []) (passes_literals inside ls) (λ left rest. refl)

  passes_literals : (inside : ℕ) (ls : LiteralsOf Text) → Passes inside (literals_events ls)
  passes_literals inside no_literals = passes_none inside
  passes_literals inside (more_literals l ls) = passes_both inside (literal_events l) (literals_events ls) (passes_literal inside l) (passes_literals inside ls)

-- the events of a tree
mutual
  passes : (inside : ℕ) (t : SpannedTree) → Passes inside (tree_events t)
  passes inside (Var f e n) = λ left rest. refl
  passes inside (Literal f e l) = passes_both inside (literal_events l) (event.Literal f e ∷ []) (passes_literal inside l) (λ left rest. refl)
  passes inside (Send f e r s xs) =
      passes_both inside (tree_events r ++ trees_events xs) (event.Send f e (count_trees xs) s ∷ [])
      (passes_both inside (tree_events r) (trees_events xs) (passes inside r) (passes_trees inside xs)) (λ left rest. refl)
  passes inside (Cascade f e r ms) =
      passes_both inside (tree_events r ++ messages_events ms) (event.Cascade f e (count_messages ms) ∷ [])
      (passes_both inside (tree_events r) (messages_events ms) (passes inside r) (passes_messages inside ms)) (λ left rest. refl)
  passes inside (Assign f e n t) =
      passes_both inside (event.Target f n ∷ tree_events t) (event.Assign f e ∷ [])
      (passes_both inside (event.Target f n ∷ []) (tree_events t) (λ left rest. refl) (passes inside t)) (λ left rest. refl)
  passes inside (Block f e ps ds ss c) = passes_block inside (declarations ps) (declarations ds) (statements_events ss) f e (count_statements ss) c (passes_statements inside ss)
  passes inside (Brace f e ts) = passes_both inside (trees_events ts) (event.Brace f e (count_trees ts) ∷ []) (passes_trees inside ts) (λ left rest. refl)
  passes inside (Return f e t) = passes_both inside (tree_events t) (event.Return f e ∷ []) (passes inside t) (λ left rest. refl)

  passes_trees : (inside : ℕ) (ts : SpannedTrees) → Passes inside (trees_events ts)
  passes_trees inside NoTrees = passes_none inside
  passes_trees inside (MoreTrees t ts) = passes_both inside (tree_events t) (trees_events ts) (passes inside t) (passes_trees inside ts)

  passes_messages : (inside : ℕ) (ms : SpannedMessages) → Passes inside (messages_events ms)
  passes_messages inside NoMessages = passes_none inside
  passes_messages inside (MoreMessages s xs ms) =
      let next = event.Message s (count_trees xs) in
      passes_both inside (trees_events xs) (next ∷ messages_events ms) (passes_trees inside xs)
      (passes_both inside (next ∷ []) (messages_events ms) (λ left rest. refl) (passes_messages inside ms))

  passes_statements : (inside : ℕ) (ss : SpannedStatements) → Passes (suc inside) (statements_events ss)
  passes_statements inside NoStatements = passes_none (suc inside)
  passes_statements inside (MoreStatements c f t ss) =
      passes_both (suc inside) (tree_events t) (event.Statement f c ∷ statements_events ss) (passes (suc inside) t)
      (passes_both (suc inside) (event.Statement f c ∷ []) (statements_events ss) (λ left rest. refl) (passes_statements inside ss))

-- where nothing is chosen, the condition does not hold
not_chosen : (b : Bool) (f : ℕ) (x : Option ℕ) → (if b then Some f else x) ≡ None → b ≡ false
not_chosen true f x e = cc
not_chosen false f x e = refl

-- where some are left, fewer were taken
some_left : (n : ℕ) → nat_lt 0 (200 - n) ≡ true → n < 200
some_left n e = grind (arith, nat_tests)

-- a statement of few events is not too high
short_low : (c : Notes) (f : ℕ) (t : SpannedTree) → length (tree_events t) < 200 → nat_lt 200 (height (plain_tree t)) ≡ false
short_low c f t h =
    not_chosen (nat_lt 200 (height (plain_tree t))) f None
    (few_statements (MoreStatements c f t NoStatements) (omega (arith, h, length-append (tree_events t) (event.Statement f c ∷ []))))

-- statements that each have few events are not too high
pub all_low : (ss : SpannedStatements) → all_short zero 200 (statements_events ss) ≡ true → first_tall ss ≡ None
all_low NoStatements e = refl
all_low (MoreStatements c f t ss) e =
    let short : Bool = nat_lt 0 (200 - length (tree_events t)) in
    let both : (short && all_short zero 200 (statements_events ss)) ≡ true = sym (passes zero t 200 (event.Statement f c ∷ statements_events ss)) ∙ e in
    let parts = and_parts short (all_short zero 200 (statements_events ss)) both in
    ap (λ (b : Bool). if b then Some f else first_tall ss) (short_low c f t (some_left (length (tree_events t)) parts.0)) ∙ all_low ss parts.1
