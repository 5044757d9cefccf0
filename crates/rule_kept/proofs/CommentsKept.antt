-- The comments in a node that is rewritten are those of the node and of the replacement.
use Rattle.std.proofs.Common.{◌≡◌, ℕ, zero, suc, List, [], ◌∷◌, Option, Some, None, refl}
use Rattle.std.specs.Prelude.{Bool, true, false, if◌then◌else◌, map}
use Rattle.std.specs.List.{AllByRecursion}
use Rattle.std.specs.Option.{option_map_or}
use Rattle.tree_model.specs.Tree.{Notes, TreeOf, var, literal, send, cascade, assign, block, brace, return, TreesOf, no_trees, more_trees, MessagesOf, no_messages, more_messages, StatementsOf, no_statements, more_statements}
use Rattle.tree_model.specs.Measure.{height}
use Rattle.reread_law.specs.WellFormed.{AllNotes}
use Rattle.reread_law.proofs.Sound.{notes_append}
use Rattle.pattern_model.specs.Patterns.{MetaOf, SelectorLike, this_selector, any_unary, of_keywords, any_message, PatternOf, meta, var_like, literal_like, send_like, cascade_like, assign_like, block_like, brace_like, return_like, PatternsOf, no_patterns, more_patterns, MessagesLike, no_messages_like, more_messages_like, StatementsLike, no_statements_like, more_statements_like, list_meta}
use Rattle.pattern_model.specs.Bindings.{BoundOf, a_part, a_run, a_selector, a_keyword, a_message, BindingOf, same_meta, bound_of}
use Rattle.pattern_model.specs.Words.{PatternWordsOf, AreWords}
use Rattle.pattern_model.specs.Matches.{IsLawful}
use Rattle.pattern_model.specs.MatchTree.{FoundOf, bindings_of, match_places}
use Rattle.pattern_model.specs.Fill.{part_in, run_in, arguments_in, append_statements, EndedOf, noted, arguments_filled, filled, trees_filled, messages_filled, statements_filled}
use Rattle.pattern_model.specs.Rewritten.{RuleOf, each_tree, each_argument, each_statement, each_child, each_bound, each_doubled, in_match, rewritten_by, rewritten_within, rewritten}
use Rattle.pattern_laws.proofs.Matching.{matched_places}
use Rattle.file_model.specs.Filing.{Text}
use Rattle.rule_kept.specs.PatternComments.{HasComments, AllHaveComments, MessagesHaveComments, StatementsHaveComments}
use Rattle.rule_kept.proofs.Comments.{HasNotes, TreesNotes, MessagesNotes, LinesNotes}
use Rattle.rule_kept.proofs.CommentsFound.{BoundNotes, BindingNotes, bindings_noted, places_noted}

-- statements and the comments at their end
abbrev EndedNotes : EndedOf Text → Type 0
EndedNotes e = LinesNotes e.0 × AllNotes e.1

noted_ended : (c : Notes) (ss : StatementsOf Text) (e : Notes) → AllNotes c → LinesNotes ss → AllNotes e → EndedNotes (noted c ss e)
noted_ended c no_statements e h g k = (tt, notes_append c e h k)
noted_ended c (more_statements d t ss) e h g k = ((notes_append c d h g.0, g.1, g.2), k)

appended : (ss rs : StatementsOf Text) → LinesNotes ss → LinesNotes rs → LinesNotes (append_statements ss rs)
appended no_statements rs h g = g
appended (more_statements c t ss) rs h g = (h.0, h.1, appended ss rs h.2 g)

part_noted : (n : Text) (b : BoundOf Text) → BoundNotes b → HasNotes (part_in n b)
part_noted n (a_part t) h = h
part_noted n (a_run ss) h = tt
part_noted n (a_selector s) h = tt
part_noted n (a_keyword k) h = tt
part_noted n (a_message s ts) h = tt

run_noted : (b : BoundOf Text) → BoundNotes b → LinesNotes (run_in b)
run_noted (a_part t) h = tt
run_noted (a_run ss) h = h
run_noted (a_selector s) h = tt
run_noted (a_keyword k) h = tt
run_noted (a_message s ts) h = tt

arguments_noted : (b : BoundOf Text) → BoundNotes b → TreesNotes (arguments_in b)
arguments_noted (a_part t) h = tt
arguments_noted (a_run ss) h = tt
arguments_noted (a_selector s) h = tt
arguments_noted (a_keyword k) h = tt
arguments_noted (a_message s ts) h = h

-- a pattern that is filled
module _ (bound : MetaOf Text → BoundOf Text) (joined : List (List ℕ) → Text) (each : (m : MetaOf Text) → BoundNotes (bound m)) where
  given_noted : (s : SelectorLike Text) (ts : TreesOf Text) → TreesNotes ts → TreesNotes (arguments_filled bound joined s ts)
  given_noted (this_selector n) ts h = h
  given_noted (any_unary m) ts h = h
  given_noted (of_keywords ks) ts h = h
  given_noted (any_message m) ts h = arguments_noted (bound m) (each m)

  line_noted : (o : Option (MetaOf Text)) (t : TreeOf Text) (rest : StatementsOf Text) → HasNotes t → LinesNotes rest → LinesNotes (option_map_or (λ m. append_statements (run_in (bound m)) rest) o (more_statements [] t rest))
  line_noted (Some m) t rest h g = appended (run_in (bound m)) rest (run_noted (bound m) (each m)) g
  line_noted None t rest h g = (tt, h, g)

  mutual
    filled_noted : (p : PatternOf Text) → HasComments p → HasNotes (filled bound joined p)
    filled_noted (meta m) h = part_noted m.name (bound m) (each m)
    filled_noted (var_like n) h = tt
    filled_noted (literal_like l) h = tt
    filled_noted (send_like r s ps) h = (filled_noted r h.0, given_noted s (trees_filled bound joined ps) (trees_noted ps h.1))
    filled_noted (cascade_like r ms) h = (filled_noted r h.0, messages_noted ms h.1)
    filled_noted (assign_like n p) h = filled_noted p h
    filled_noted (block_like ps ts ss e) h = statements_noted ss e h.0 h.1
    filled_noted (brace_like ps) h = trees_noted ps h
    filled_noted (return_like p) h = filled_noted p h

    trees_noted : (ps : PatternsOf Text) → AllHaveComments ps → TreesNotes (trees_filled bound joined ps)
    trees_noted no_patterns h = tt
    trees_noted (more_patterns p ps) h = (filled_noted p h.0, trees_noted ps h.1)

    messages_noted : (ms : MessagesLike Text) → MessagesHaveComments ms → MessagesNotes (messages_filled bound joined ms)
    messages_noted no_messages_like h = tt
    messages_noted (more_messages_like s ps ms) h = (given_noted s (trees_filled bound joined ps) (trees_noted ps h.0), messages_noted ms h.1)

    statements_noted : (ss : StatementsLike Text) (e : Notes) → StatementsHaveComments ss → AllNotes e → EndedNotes (statements_filled bound joined ss e)
    statements_noted no_statements_like e h g = (tt, g)
    statements_noted (more_statements_like c p ss) e h g =
        let rest = statements_noted ss e h.2 g in
        let below : EndedOf Text = statements_filled bound joined ss e in
        noted_ended c (option_map_or (λ m. append_statements (run_in (bound m)) below.0) (list_meta p) (more_statements [] (filled bound joined p) below.0)) below.1
        h.0 (line_noted (list_meta p) (filled bound joined p) below.0 (filled_noted p h.1) rest.0) rest.1

-- a change that keeps comments
abbrev KeepsNotes : (TreeOf Text → TreeOf Text) → Type 0
KeepsNotes f = (t : TreeOf Text) → HasNotes t → HasNotes (f t)

module _ (f : TreeOf Text → TreeOf Text) (k : KeepsNotes f) where
  trees_changed : (ts : TreesOf Text) → TreesNotes ts → TreesNotes (each_tree f ts)
  trees_changed no_trees h = tt
  trees_changed (more_trees t ts) h = (k t h.0, trees_changed ts h.1)

  messages_changed : (ms : MessagesOf Text) → MessagesNotes ms → MessagesNotes (each_argument f ms)
  messages_changed no_messages h = tt
  messages_changed (more_messages s ts ms) h = (trees_changed ts h.0, messages_changed ms h.1)

  pub lines_changed : (ss : StatementsOf Text) → LinesNotes ss → LinesNotes (each_statement f ss)
  lines_changed no_statements h = tt
  lines_changed (more_statements c t ss) h = (h.0, k t h.1, lines_changed ss h.2)

  child_changed : KeepsNotes (each_child f)
  child_changed (var n) h = tt
  child_changed (literal l) h = tt
  child_changed (send r s ts) h = (k r h.0, trees_changed ts h.1)
  child_changed (cascade r ms) h = (k r h.0, messages_changed ms h.1)
  child_changed (assign n t) h = k t h
  child_changed (block ps ts ss e) h = (lines_changed ss h.0, h.1)
  child_changed (brace ts) h = trees_changed ts h
  child_changed (return t) h = k t h

  bound_changed : (b : BoundOf Text) → BoundNotes b → BoundNotes (each_bound f b)
  bound_changed (a_part t) h = k t h
  bound_changed (a_run ss) h = lines_changed ss h
  bound_changed (a_selector s) h = tt
  bound_changed (a_keyword m) h = tt
  bound_changed (a_message s ts) h = trees_changed ts h

  pick : (c : Bool) (x y : BoundOf Text) → BoundNotes x → BoundNotes y → BoundNotes (if c then x else y)
  pick true x y h g = h
  pick false x y h g = g

  bound_by : (same : Text → Text → Bool) (b : BindingOf Text) (d : Bool) (m : MetaOf Text) (y : BoundOf Text) → BindingNotes b → BoundNotes y →
      BoundNotes (if same_meta same (if d then record b { bound = each_bound f b.bound } else b).meta m then (if d then record b { bound = each_bound f b.bound } else b).bound else y)
  bound_by same b true m y h g = pick (same_meta same b.meta m) (each_bound f b.bound) y (bound_changed b.bound h) g
  bound_by same b false m y h g = pick (same_meta same b.meta m) b.bound y h g

  bindings_changed : (same : Text → Text → Bool) (bs : List (BindingOf Text)) → AllByRecursion BindingNotes bs → (m : MetaOf Text) → BoundNotes (bound_of same (map (each_doubled f) bs) m)
  bindings_changed same [] h m = tt
  bindings_changed same (b ∷ bs) h m = bound_by same b b.meta.doubled m (bound_of same (map (each_doubled f) bs) m) h.0 (bindings_changed same bs h.1 m)

match_changed : (p : PatternOf Text) (f : TreeOf Text → TreeOf Text) → KeepsNotes f → KeepsNotes (in_match p f)
match_changed (meta m) f h = child_changed f h
match_changed (var_like n) f h = h
match_changed (literal_like l) f h = h
match_changed (send_like r s ps) f h = h
match_changed (cascade_like r ms) f h = h
match_changed (assign_like n q) f h = h
match_changed (block_like ps ts ss e) f h = h
match_changed (brace_like ps) f h = h
match_changed (return_like q) f h = h

module _ (w : PatternWordsOf Text) (joined : List (List ℕ) → Text) (known : AreWords w joined) (p q : PatternOf Text) (lawful : IsLawful p) (comments : HasComments q) where
  abbrev the_rule : RuleOf Text
  the_rule = record { pattern = p; replacement = q }

  found_noted : (f : TreeOf Text → TreeOf Text) → KeepsNotes f → (t : TreeOf Text) (o : FoundOf Text) → match_places w p t ≡ o → HasNotes t → HasNotes (rewritten_by w joined the_rule f t o)
  found_noted f k t None e h = child_changed f k t h
  found_noted f k t (Some xs) e h =
      let there = matched_places w joined known p t lawful xs e in
      filled_noted (bound_of w.tests.same (map (each_doubled (in_match p f)) (bindings_of w xs))) joined
      (bindings_changed (in_match p f) (match_changed p f k) w.tests.same (bindings_of w xs) (bindings_noted w xs (places_noted w p t xs there.0 h))) q comments

  within_noted : (n : ℕ) → KeepsNotes (rewritten_within w joined the_rule n)
  within_noted zero t h = h
  within_noted (suc n) t h = found_noted (rewritten_within w joined the_rule n) (within_noted n) t (match_places w p t) refl h

  pub statements_rewritten : (ss : StatementsOf Text) → LinesNotes ss → LinesNotes (each_statement (rewritten w joined the_rule) ss)
  statements_rewritten ss h = lines_changed (rewritten w joined the_rule) (λ t. within_noted (height t) t) ss h
