-- Names that a tree declares twice are those that its events declare twice.
use Rattle.std.proofs.Common.{◌≡◌, ℕ, ◌+◌, ◌<◌, length, take, drop, get_or, Bool, true, false, ◌||◌, if◌then◌else◌, List, [], ◌∷◌, ◌++◌, Option, Some, None, refl, sym, ap, ◌∙◌, append_assoc}
use Rattle.std.specs.Prelude.{is_some}
use Rattle.std.proofs.Math.Bool.{or_comm}
use Rattle.std.specs.List.{list_any}
use Rattle.std.specs.Option.{option_or}
use Rattle.std.specs.Str.{bytes_eq}
use Rattle.std.proofs.lemmas.List.{append-nil, map-append, take_more}
use Rattle.std.proofs.lemmas.List.Folds.{list_any-append}
use Rattle.tree_model.specs.Tree.{LiteralOf, number, str, symbol, char, array, bytes, word, LiteralsOf, no_literals, more_literals}
use Rattle.grammar_model.specs.Terminal.{Text}
use Rattle.grammar_model.specs.Checks.{first_repeat, duplicate_in, duplicate_in_trees, duplicate_in_messages, duplicate_in_statements}
use Rattle.grammar_model.specs.Spanned.{Declared, SpannedTree, Var, Literal, Send, Cascade, Assign, Block, Brace, Return, SpannedTrees, NoTrees, MoreTrees, SpannedMessages, NoMessages, MoreMessages, SpannedStatements, NoStatements, MoreStatements}
use Rattle.parse_events.specs.declared.event.Declaration.{Declaration}
use Rattle.parse_events.specs.declared.event.Event.{Event}
use Rattle.parse_events.specs.declared.event.Event.TheVariants as event
use Rattle.parse_events.specs.Found.{count_literals, count_trees, count_messages, count_statements, literal_events, literals_events, tree_events, trees_events, messages_events, statements_events}
use Rattle.event_checks.specs.Lists.{declared, names_of}
use Rattle.event_checks.specs.Duplicates.{first_duplicate_in}
use Rattle.event_checks.proofs.Lists.{both_again, drop_here, option_or_assoc, option_or_none, last_of, last_of_two}

-- names in another order make the same names repeat
repeat_same : (s u : List Text) → ((t : Text) → list_any (bytes_eq t) s ≡ list_any (bytes_eq t) u) → (ds : List Declared) → first_repeat s ds ≡ first_repeat u ds
repeat_same s u same [] = refl
repeat_same s u same (d ∷ ds) =
    ap (λ (b : Bool). if b then Some d.from else first_repeat (d.name ∷ s) ds) (same d.name) ∙
    ap (λ (r : Option ℕ). if list_any (bytes_eq d.name) u then Some d.from else r) (repeat_same (d.name ∷ s) (d.name ∷ u) (λ t. ap (λ (b : Bool). bytes_eq t d.name || b) (same t)) ds)

-- one name in front or at the end
front_or_end : (s : List Text) (n t : Text) → list_any (bytes_eq t) (n ∷ s) ≡ list_any (bytes_eq t) (s ++ n ∷ [])
front_or_end s n t = or_comm (bytes_eq t n) (list_any (bytes_eq t) s) ∙ ap (λ (b : Bool). list_any (bytes_eq t) s || b) (or_comm false (bytes_eq t n)) ∙ sym (list_any-append (bytes_eq t) s (n ∷ []))

-- a name that is new joins the names
pub repeat_more : (names new : List Text) (d : Declared) (rest : List Declared) → false ≡ list_any (bytes_eq d.name) names → new ≡ names ++ d.name ∷ [] → first_repeat names (d ∷ rest) ≡ first_repeat new rest
repeat_more names new d rest is added =
    ap (λ (b : Bool). if b then Some d.from else first_repeat (d.name ∷ names) rest) (sym is) ∙
    repeat_same (d.name ∷ names) (names ++ d.name ∷ []) (front_or_end names d.name) rest ∙
    ap (λ (s : List Text). first_repeat s rest) (sym added)

-- a name that is known repeats
pub repeat_here : (names : List Text) (d : Declared) (rest : List Declared) → true ≡ list_any (bytes_eq d.name) names → first_repeat names (d ∷ rest) ≡ Some d.from
repeat_here names d rest is = ap (λ (b : Bool). if b then Some d.from else first_repeat (d.name ∷ names) rest) (sym is)

-- the first part of a list repeats a name
pub repeat_first : (a : Option ℕ) (ps ds : List Declared) (start names : List Text) → start ≡ [] → is_some a ≡ true → ((rest : List Declared) → first_repeat start (ps ++ rest) ≡ option_or a (first_repeat names rest)) → a ≡ first_repeat [] (ps ++ ds)
repeat_first None ps ds start names e some h = cc
repeat_first (Some x) ps ds start names e some h = sym (h ds) ∙ ap (λ (s : List Text). first_repeat s (ps ++ ds)) e

-- its second part repeats a name, or none does
pub repeat_second : (a b : Option ℕ) (ps ds : List Declared) (start names last : List Text) → start ≡ [] → is_some a ≡ false →
    ((rest : List Declared) → first_repeat start (ps ++ rest) ≡ option_or a (first_repeat names rest)) →
    ((rest : List Declared) → first_repeat names (ds ++ rest) ≡ option_or b (first_repeat last rest)) → b ≡ first_repeat [] (ps ++ ds)
repeat_second None b ps ds start names last e none h g =
    sym (option_or_none b) ∙ sym (g []) ∙ ap (first_repeat names) (append-nil ds) ∙ sym (h ds) ∙ ap (λ (s : List Text). first_repeat s (ps ++ ds)) e
repeat_second (Some x) b ps ds start names last e none h g = cc

-- literals declare nothing
mutual
  repeats_literal : (l : LiteralOf Text) (rest : List Event) → first_duplicate_in (literal_events l ++ rest) ≡ first_duplicate_in rest
  repeats_literal (number t) rest = refl
  repeats_literal (str t) rest = refl
  repeats_literal (symbol t) rest = refl
  repeats_literal (char b) rest = refl
  repeats_literal (word n) rest = refl
  repeats_literal (array ls) rest = ap first_duplicate_in (last_of (literals_events ls) (event.Array (count_literals ls)) rest) ∙ repeats_literals ls (event.Array (count_literals ls) ∷ rest)
  repeats_literal (bytes ls) rest = ap first_duplicate_in (last_of (literals_events ls) (event.Bytes (count_literals ls)) rest) ∙ repeats_literals ls (event.Bytes (count_literals ls) ∷ rest)

  repeats_literals : (ls : LiteralsOf Text) (rest : List Event) → first_duplicate_in (literals_events ls ++ rest) ≡ first_duplicate_in rest
  repeats_literals no_literals rest = refl
  repeats_literals (more_literals l ls) rest =
      ap first_duplicate_in (append_assoc (literal_events l) (literals_events ls) rest) ∙ repeats_literal l (literals_events ls ++ rest) ∙ repeats_literals ls rest

-- the first name that a tree declares twice is the first that its events do
mutual
  repeats : (t : SpannedTree) (rest : List Event) → first_duplicate_in (tree_events t ++ rest) ≡ option_or (duplicate_in t) (first_duplicate_in rest)
  repeats (Var f e n) rest = refl
  repeats (Literal f e l) rest = ap first_duplicate_in (last_of (literal_events l) (event.Literal f e) rest) ∙ repeats_literal l (event.Literal f e ∷ rest)
  repeats (Send f e r s xs) rest =
      let last = event.Send f e (count_trees xs) s in
      ap first_duplicate_in (last_of_two (tree_events r) (trees_events xs) last rest) ∙
      repeats r (trees_events xs ++ last ∷ rest) ∙
      ap (option_or (duplicate_in r)) (repeats_trees xs (last ∷ rest)) ∙
      sym (option_or_assoc (duplicate_in r) (duplicate_in_trees xs) (first_duplicate_in rest))
  repeats (Cascade f e r ms) rest =
      let last = event.Cascade f e (count_messages ms) in
      ap first_duplicate_in (last_of_two (tree_events r) (messages_events ms) last rest) ∙
      repeats r (messages_events ms ++ last ∷ rest) ∙
      ap (option_or (duplicate_in r)) (repeats_messages ms (last ∷ rest)) ∙
      sym (option_or_assoc (duplicate_in r) (duplicate_in_messages ms) (first_duplicate_in rest))
  repeats (Assign f e n t) rest = ap first_duplicate_in (last_of (tree_events t) (event.Assign f e) rest) ∙ repeats t (event.Assign f e ∷ rest)
  repeats (Block f e ps ds ss c) rest =
      let last = event.Block f e (count_statements ss) c in
      ap (λ (es : List Declared). option_or (first_repeat [] es) (first_duplicate_in ((statements_events ss ++ last ∷ []) ++ rest))) (both_again ps ds) ∙
      ap (option_or (first_repeat [] (ps ++ ds))) (ap first_duplicate_in (last_of (statements_events ss) last rest) ∙ repeats_statements ss (last ∷ rest)) ∙
      sym (option_or_assoc (first_repeat [] (ps ++ ds)) (duplicate_in_statements ss) (first_duplicate_in rest))
  repeats (Brace f e ts) rest = ap first_duplicate_in (last_of (trees_events ts) (event.Brace f e (count_trees ts)) rest) ∙ repeats_trees ts (event.Brace f e (count_trees ts) ∷ rest)
  repeats (Return f e t) rest = ap first_duplicate_in (last_of (tree_events t) (event.Return f e) rest) ∙ repeats t (event.Return f e ∷ rest)

  repeats_trees : (ts : SpannedTrees) (rest : List Event) → first_duplicate_in (trees_events ts ++ rest) ≡ option_or (duplicate_in_trees ts) (first_duplicate_in rest)
  repeats_trees NoTrees rest = refl
  repeats_trees (MoreTrees t ts) rest =
      ap first_duplicate_in (append_assoc (tree_events t) (trees_events ts) rest) ∙
      repeats t (trees_events ts ++ rest) ∙
      ap (option_or (duplicate_in t)) (repeats_trees ts rest) ∙
      sym (option_or_assoc (duplicate_in t) (duplicate_in_trees ts) (first_duplicate_in rest))

  repeats_messages : (ms : SpannedMessages) (rest : List Event) → first_duplicate_in (messages_events ms ++ rest) ≡ option_or (duplicate_in_messages ms) (first_duplicate_in rest)
  repeats_messages NoMessages rest = refl
  repeats_messages (MoreMessages s xs ms) rest =
      let next = event.Message s (count_trees xs) in
      ap first_duplicate_in (append_assoc (trees_events xs) (next ∷ messages_events ms) rest) ∙
      repeats_trees xs (next ∷ (messages_events ms ++ rest)) ∙
      ap (option_or (duplicate_in_trees xs)) (repeats_messages ms rest) ∙
      sym (option_or_assoc (duplicate_in_trees xs) (duplicate_in_messages ms) (first_duplicate_in rest))

  repeats_statements : (ss : SpannedStatements) (rest : List Event) → first_duplicate_in (statements_events ss ++ rest) ≡ option_or (duplicate_in_statements ss) (first_duplicate_in rest)
  repeats_statements NoStatements rest = refl
  repeats_statements (MoreStatements c f t ss) rest =
      let next = event.Statement f c in
      ap first_duplicate_in (append_assoc (tree_events t) (next ∷ statements_events ss) rest) ∙
      repeats t (next ∷ (statements_events ss ++ rest)) ∙
      ap (option_or (duplicate_in t)) (repeats_statements ss rest) ∙
      sym (option_or_assoc (duplicate_in t) (duplicate_in_statements ss) (first_duplicate_in rest))

-- the first name that statements declare twice
pub repeats_all : (ss : SpannedStatements) → first_duplicate_in (statements_events ss) ≡ duplicate_in_statements ss
repeats_all ss = ap first_duplicate_in (sym (append-nil (statements_events ss))) ∙ repeats_statements ss [] ∙ option_or_none (duplicate_in_statements ss)

-- the declaration at an index has a name that stands before it
pub repeat_at_index : (first second : List Declaration) (i : ℕ) (d : Declaration) (rest : List Declared) → i < length second → d ≡ get_or second i d →
    true ≡ list_any (bytes_eq d.name) (names_of first ++ names_of (take i second)) →
    first_repeat (names_of first ++ names_of (take i second)) (declared (drop i second) ++ rest) ≡ Some d.from
repeat_at_index first second i d rest h is known =
    let names : List Text = names_of first ++ names_of (take i second) in
    ap (λ (ds : List Declaration). first_repeat names (declared ds ++ rest)) (drop_here second i d h is) ∙
    repeat_here names (record { name = d.name; from = d.from }) (declared (drop (i + 1) second) ++ rest) known

-- it has none
pub repeat_past_index : (first second : List Declaration) (i : ℕ) (d : Declaration) (rest : List Declared) → i < length second → d ≡ get_or second i d →
    false ≡ list_any (bytes_eq d.name) (names_of first ++ names_of (take i second)) →
    first_repeat (names_of first ++ names_of (take i second)) (declared (drop i second) ++ rest) ≡ first_repeat (names_of first ++ names_of (take (i + 1) second)) (declared (drop (i + 1) second) ++ rest)
repeat_past_index first second i d rest h is new =
    let names : List Text = names_of first ++ names_of (take i second) in
    let more : take (i + 1) second ≡ take i second ++ d ∷ [] = take_more second i d h ∙ ap (λ (e : Declaration). take i second ++ e ∷ []) (sym is) in
    let joined : names_of first ++ names_of (take (i + 1) second) ≡ names ++ d.name ∷ [] =
    ap (λ (ds : List Declaration). names_of first ++ names_of ds) more ∙
    ap (λ (ns : List Text). names_of first ++ ns) (map-append (λ (d : Declaration). d.name) (take i second) (d ∷ [])) ∙
    sym (append_assoc (names_of first) (names_of (take i second)) (d.name ∷ [])) in
    ap (λ (ds : List Declaration). first_repeat names (declared ds ++ rest)) (drop_here second i d h is) ∙
    repeat_more names (names_of first ++ names_of (take (i + 1) second)) (record { name = d.name; from = d.from }) (declared (drop (i + 1) second) ++ rest) new joined
