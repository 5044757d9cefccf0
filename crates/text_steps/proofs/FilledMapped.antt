-- A filled pattern goes along with a change of names that tells them apart alike.
use Rattle.std.proofs.Common.{◌≡◌, refl, sym, ap, ◌∙◌, ℕ, List, [], ◌∷◌, ◌++◌, map, Some, None}
use Rattle.std.specs.Prelude.{Bool, true, false, ◌&&◌, if◌then◌else◌, nat_eq, Option, option_map}
use Rattle.std.specs.Option.{option_map_or}
use Rattle.tree_model.specs.Tree.{Notes, TreeOf, TreesOf, more_trees, MessagesOf, more_messages, StatementsOf, no_statements, more_statements, send, cascade, assign, block, brace, return, map_names, map_trees, map_messages, map_statements}
use Rattle.pattern_model.specs.Patterns.{MetaOf, KeywordLike, SelectorLike, this_selector, any_unary, of_keywords, any_message, PatternOf, meta, var_like, literal_like, send_like, cascade_like, assign_like, block_like, brace_like, return_like, PatternsOf, no_patterns, more_patterns, MessagesLike, no_messages_like, more_messages_like, StatementsLike, no_statements_like, more_statements_like, list_meta}
use Rattle.pattern_model.specs.Bindings.{BoundOf, a_part, a_run, a_selector, a_keyword, a_message, BindingOf, kind_number, same_meta, bound_of}
use Rattle.pattern_model.specs.Fill.{part_in, run_in, selector_in, arguments_in, append_statements, EndedOf, noted, block_of, selector_filled, arguments_filled, filled, trees_filled, messages_filled, statements_filled}
use Rattle.pattern_model.specs.Named.{map_meta, map_selector, map_pattern, map_patterns, map_messages_like, map_statements_like, map_bound, map_binding}
use Rattle.pattern_laws.proofs.PlacesMapped.{list_meta_mapped}
use Rattle.text_steps.specs.TextSteps.{IsWhole, HasWholeSelectors, HaveWholeSelectors, WholeMessages, WholeStatements}

module _ {M N : Type 0} (f : M → N) where
  -- what is bound, taken apart
  part_mapped : (n : M) (b : BoundOf M) → map_names f (part_in n b) ≡ part_in (f n) (map_bound f b)
  part_mapped n (a_part t) = refl
  part_mapped n (a_run ss) = refl
  part_mapped n (a_selector s) = refl
  part_mapped n (a_keyword k) = refl
  part_mapped n (a_message s ts) = refl

  run_mapped : (b : BoundOf M) → map_statements f (run_in b) ≡ run_in (map_bound f b)
  run_mapped (a_part t) = refl
  run_mapped (a_run ss) = refl
  run_mapped (a_selector s) = refl
  run_mapped (a_keyword k) = refl
  run_mapped (a_message s ts) = refl

  selector_mapped : (n : M) (b : BoundOf M) → f (selector_in n b) ≡ selector_in (f n) (map_bound f b)
  selector_mapped n (a_part t) = refl
  selector_mapped n (a_run ss) = refl
  selector_mapped n (a_selector s) = refl
  selector_mapped n (a_keyword k) = refl
  selector_mapped n (a_message s ts) = refl

  arguments_mapped : (b : BoundOf M) → map_trees f (arguments_in b) ≡ arguments_in (map_bound f b)
  arguments_mapped (a_part t) = refl
  arguments_mapped (a_run ss) = refl
  arguments_mapped (a_selector s) = refl
  arguments_mapped (a_keyword k) = refl
  arguments_mapped (a_message s ts) = refl

  -- statements
  append_mapped : (ss rs : StatementsOf M) → map_statements f (append_statements ss rs) ≡ append_statements (map_statements f ss) (map_statements f rs)
  append_mapped no_statements rs = refl
  append_mapped (more_statements c t ss) rs = ap (more_statements c (map_names f t)) (append_mapped ss rs)

  abbrev map_ended : EndedOf M → EndedOf N
  map_ended e = (map_statements f e.0, e.1)

  noted_mapped : (c : Notes) (ss : StatementsOf M) (e : Notes) → map_ended (noted c ss e) ≡ noted c (map_statements f ss) e
  noted_mapped c no_statements e = refl
  noted_mapped c (more_statements d t ss) e = refl

  module _ (before : M → M → Bool) (after : N → N → Bool) (same : (a b : M) → before a b ≡ after (f a) (f b)) where
    -- what a metavariable is bound to
    bound_mapped : (bs : List (BindingOf M)) (m : MetaOf M) → map_bound f (bound_of before bs m) ≡ bound_of after (map (map_binding f) bs) (map_meta f m)
    bound_mapped [] m = refl
    bound_mapped (b ∷ bs) m =
        by (same_meta before b.meta m) (bound_mapped bs m)
        ∙ ap (λ (x : Bool). if nat_eq (kind_number b.meta.kind) (kind_number m.kind) && x then map_bound f b.bound else bound_of after (map (map_binding f) bs) (map_meta f m)) (same b.meta.name m.name)
      where
        by : (x : Bool) → map_bound f (bound_of before bs m) ≡ bound_of after (map (map_binding f) bs) (map_meta f m)
            → map_bound f (if x then b.bound else bound_of before bs m) ≡ (if x then map_bound f b.bound else bound_of after (map (map_binding f) bs) (map_meta f m))
        by true k = refl
        by false k = k

    -- the same bindings, before the change and after it
    module _ (joined : List (List ℕ) → M) (joined_after : List (List ℕ) → N) (bs : List (BindingOf M)) where
      abbrev from : MetaOf M → BoundOf M
      from = bound_of before bs

      abbrev to : MetaOf N → BoundOf N
      to = bound_of after (map (map_binding f) bs)

      selectors_mapped : (s : SelectorLike M) → IsWhole s → f (selector_filled from joined s) ≡ selector_filled to joined_after (map_selector f s)
      selectors_mapped (this_selector n) h = refl
      selectors_mapped (any_unary m) h = selector_mapped m.name (from m) ∙ ap (selector_in (f m.name)) (bound_mapped bs m)
      selectors_mapped (of_keywords ks) h = absurd h
      selectors_mapped (any_message m) h = selector_mapped m.name (from m) ∙ ap (selector_in (f m.name)) (bound_mapped bs m)

      taken_mapped : (s : SelectorLike M) (ts : TreesOf M) (us : TreesOf N) → map_trees f ts ≡ us → map_trees f (arguments_filled from joined s ts) ≡ arguments_filled to joined_after (map_selector f s) us
      taken_mapped (this_selector n) ts us e = e
      taken_mapped (any_unary m) ts us e = e
      taken_mapped (of_keywords ks) ts us e = e
      taken_mapped (any_message m) ts us e = arguments_mapped (from m) ∙ ap arguments_in (bound_mapped bs m)

      -- a statement before others
      put_mapped : (o : Option (MetaOf M)) (t : TreeOf M) (u : TreeOf N) (rest : StatementsOf M) (more : StatementsOf N) → map_names f t ≡ u → map_statements f rest ≡ more
          → map_statements f (option_map_or (λ m. append_statements (run_in (from m)) rest) o (more_statements [] t rest)) ≡ option_map_or (λ m. append_statements (run_in (to m)) more) (option_map (map_meta f) o) (more_statements [] u more)
      put_mapped None t u rest more e g = λ i. more_statements [] (e i) (g i)
      put_mapped (Some m) t u rest more e g = append_mapped (run_in (from m)) rest ∙ (λ i. append_statements ((run_mapped (from m) ∙ ap run_in (bound_mapped bs m)) i) (g i))

      -- and its comments
      one_mapped : (c : Notes) (p : PatternOf M) (rest : EndedOf M) (more : EndedOf N) → map_names f (filled from joined p) ≡ filled to joined_after (map_pattern f p) → map_ended rest ≡ more
          → map_ended (noted c (option_map_or (λ m. append_statements (run_in (from m)) rest.0) (list_meta p) (more_statements [] (filled from joined p) rest.0)) rest.1)
          ≡ noted c (option_map_or (λ m. append_statements (run_in (to m)) more.0) (list_meta (map_pattern f p)) (more_statements [] (filled to joined_after (map_pattern f p)) more.0)) more.1
      one_mapped c p rest more e g =
          noted_mapped c (option_map_or (λ m. append_statements (run_in (from m)) rest.0) (list_meta p) (more_statements [] (filled from joined p) rest.0)) rest.1
          ∙ (λ i. noted c (put_mapped (list_meta p) (filled from joined p) (filled to joined_after (map_pattern f p)) rest.0 more.0 e (λ j. (g j).0) i) ((g i).1))
          ∙ ap (λ (o : Option (MetaOf N)). noted c (option_map_or (λ m. append_statements (run_in (to m)) more.0) o (more_statements [] (filled to joined_after (map_pattern f p)) more.0)) more.1) (sym (list_meta_mapped f p))

      mutual
        pub filled_mapped : (p : PatternOf M) → HasWholeSelectors p → map_names f (filled from joined p) ≡ filled to joined_after (map_pattern f p)
        filled_mapped (meta m) h = part_mapped m.name (from m) ∙ ap (part_in (f m.name)) (bound_mapped bs m)
        filled_mapped (var_like n) h = refl
        filled_mapped (literal_like l) h = refl
        filled_mapped (send_like r s ps) h = λ i. send (filled_mapped r h.0 i) (selectors_mapped s h.1 i) (taken_mapped s (trees_filled from joined ps) (trees_filled to joined_after (map_patterns f ps)) (trees_mapped ps h.2) i)
        filled_mapped (cascade_like r ms) h = λ i. cascade (filled_mapped r h.0 i) (messages_mapped ms h.1 i)
        filled_mapped (assign_like n p) h = ap (assign (f n)) (filled_mapped p h)
        filled_mapped (block_like ps ts ss e) h = ap (block_of (map f ps) (map f ts)) (statements_mapped ss e h)
        filled_mapped (brace_like ps) h = ap brace (trees_mapped ps h)
        filled_mapped (return_like p) h = ap return (filled_mapped p h)

        trees_mapped : (ps : PatternsOf M) → HaveWholeSelectors ps → map_trees f (trees_filled from joined ps) ≡ trees_filled to joined_after (map_patterns f ps)
        trees_mapped no_patterns h = refl
        trees_mapped (more_patterns p ps) h = λ i. more_trees (filled_mapped p h.0 i) (trees_mapped ps h.1 i)

        messages_mapped : (ms : MessagesLike M) → WholeMessages ms → map_messages f (messages_filled from joined ms) ≡ messages_filled to joined_after (map_messages_like f ms)
        messages_mapped no_messages_like h = refl
        messages_mapped (more_messages_like s ps ms) h =
            λ i. more_messages (selectors_mapped s h.0 i) (taken_mapped s (trees_filled from joined ps) (trees_filled to joined_after (map_patterns f ps)) (trees_mapped ps h.1) i) (messages_mapped ms h.2 i)

        statements_mapped : (ss : StatementsLike M) (e : Notes) → WholeStatements ss → map_ended (statements_filled from joined ss e) ≡ statements_filled to joined_after (map_statements_like f ss) e
        statements_mapped no_statements_like e h = refl
        statements_mapped (more_statements_like c p ss) e h = one_mapped c p (statements_filled from joined ss e) (statements_filled to joined_after (map_statements_like f ss) e) (filled_mapped p h.0) (statements_mapped ss e h.1)
