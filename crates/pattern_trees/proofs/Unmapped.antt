-- A pattern is lawful where it is so with its names changed.
use Rattle.std.proofs.Common.{◌≡◌, ℕ, ◌+◌, Bool, true, false, List, [], ◌∷◌, map, Option, Some, None, refl, sym, ap, subst, ◌∙◌}
use Rattle.std.specs.Prelude.{option_map}
use Rattle.std.specs.List.{AllByRecursion, list_any}
use Rattle.std.specs.Option.{option_map_or}
use Rattle.std.proofs.lemmas.List.{length-map}
use Rattle.pattern_model.specs.declared.kinds.MetaKind.{MetaKind}
use Rattle.pattern_model.specs.Patterns.{MetaOf, KeywordLike, this_keyword, any_keyword, SelectorLike, this_selector, any_unary, of_keywords, any_message, PatternOf, meta, var_like, literal_like, send_like, cascade_like, assign_like, block_like, brace_like, return_like, PatternsOf, no_patterns, more_patterns, MessagesLike, no_messages_like, more_messages_like, StatementsLike, no_statements_like, more_statements_like, list_meta}
use Rattle.pattern_model.specs.Named.{map_meta, map_keyword, map_selector, map_pattern, map_patterns, map_messages_like, map_statements_like}
use Rattle.pattern_model.specs.Matches.{is_any, is_operand_kind, is_statement_kind, IsLawfulKeyword, IsLawfulSelector, count_patterns, has_list, IsLawfulBy, AreLawful, AreLawfulMessages, AreLawfulStatements}
use Rattle.pattern_laws.proofs.PlacesMapped.{list_meta_mapped}

module _ {M N : Type 0} (f : M → N) where
  keywords_unmapped : (ks : List (KeywordLike M)) → AllByRecursion IsLawfulKeyword (map (map_keyword f) ks) → AllByRecursion IsLawfulKeyword ks
  keywords_unmapped [] l = tt
  keywords_unmapped (this_keyword k ∷ ks) l = (l.0, keywords_unmapped ks l.1)
  keywords_unmapped (any_keyword m ∷ ks) l = (l.0, keywords_unmapped ks l.1)

  any_unmapped : (ks : List (KeywordLike M)) → list_any is_any (map (map_keyword f) ks) ≡ true → list_any is_any ks ≡ true
  any_unmapped [] l = l
  any_unmapped (this_keyword k ∷ ks) l = any_unmapped ks l
  any_unmapped (any_keyword m ∷ ks) l = refl

  selector_unmapped : (s : SelectorLike M) (k : ℕ) → IsLawfulSelector (map_selector f s) k → IsLawfulSelector s k
  selector_unmapped (this_selector n) k l = tt
  selector_unmapped (any_unary m) k l = l
  selector_unmapped (of_keywords ks) k l = (keywords_unmapped ks l.0, sym (length-map ks (map_keyword f)) ∙ l.1, any_unmapped ks l.2)
  selector_unmapped (any_message m) k l = l

  as_many : (ps : PatternsOf M) → count_patterns (map_patterns f ps) ≡ count_patterns ps
  as_many no_patterns = refl
  as_many (more_patterns p ps) = ap (λ (n : ℕ). n + 1) (as_many ps)

  selected_unmapped : (s : SelectorLike M) (ps : PatternsOf M) → IsLawfulSelector (map_selector f s) (count_patterns (map_patterns f ps)) → IsLawfulSelector s (count_patterns ps)
  selected_unmapped s ps l = selector_unmapped s (count_patterns ps) (subst (IsLawfulSelector (map_selector f s)) (as_many ps) l)

  -- where a test fails of what is found, and of what is changed
  found_unmapped : (o : Option (MetaOf M)) (a b c d : Bool) → (a ≡ false → c ≡ false) → (b ≡ false → d ≡ false) → option_map_or (λ m. a) (option_map (map_meta f) o) b ≡ false → option_map_or (λ m. c) o d ≡ false
  found_unmapped None a b c d g h e = h e
  found_unmapped (Some m) a b c d g h e = g e

  list_unmapped : (ss : StatementsLike M) → has_list (map_statements_like f ss) ≡ false → has_list ss ≡ false
  list_unmapped no_statements_like e = refl
  list_unmapped (more_statements_like c p ss) e =
      found_unmapped (list_meta p) true (has_list (map_statements_like f ss)) true (has_list ss) (λ h. h) (list_unmapped ss)
      (ap (λ o. option_map_or (λ m. true) o (has_list (map_statements_like f ss))) (sym (list_meta_mapped f p)) ∙ e)

  mutual
    pub lawful_unmapped : (p : PatternOf M) (may : MetaKind → Bool) → IsLawfulBy may (map_pattern f p) → IsLawfulBy may p
    lawful_unmapped (meta m) may l = l
    lawful_unmapped (var_like n) may l = tt
    lawful_unmapped (literal_like x) may l = tt
    lawful_unmapped (send_like r s ps) may l = (lawful_unmapped r is_operand_kind l.0, selected_unmapped s ps l.1, trees_unmapped ps l.2)
    lawful_unmapped (cascade_like r ms) may l = (lawful_unmapped r is_operand_kind l.0, messages_unmapped ms l.1)
    lawful_unmapped (assign_like n p) may l = lawful_unmapped p is_operand_kind l
    lawful_unmapped (block_like ps ts ss e) may l = statements_unmapped ss l
    lawful_unmapped (brace_like ps) may l = trees_unmapped ps l
    lawful_unmapped (return_like p) may l = lawful_unmapped p is_operand_kind l

    trees_unmapped : (ps : PatternsOf M) → AreLawful (map_patterns f ps) → AreLawful ps
    trees_unmapped no_patterns l = tt
    trees_unmapped (more_patterns p ps) l = (lawful_unmapped p is_operand_kind l.0, trees_unmapped ps l.1)

    messages_unmapped : (ms : MessagesLike M) → AreLawfulMessages (map_messages_like f ms) → AreLawfulMessages ms
    messages_unmapped no_messages_like l = tt
    messages_unmapped (more_messages_like s ps ms) l = (selected_unmapped s ps l.0, trees_unmapped ps l.1, messages_unmapped ms l.2)

    statements_unmapped : (ss : StatementsLike M) → AreLawfulStatements (map_statements_like f ss) → AreLawfulStatements ss
    statements_unmapped no_statements_like l = tt
    statements_unmapped (more_statements_like c p ss) l = (
      lawful_unmapped p is_statement_kind l.0,
      statements_unmapped ss l.1,
      found_unmapped (list_meta p) (has_list (map_statements_like f ss)) false (has_list ss) false (list_unmapped ss) (λ h. h)
          (ap (λ o. option_map_or (λ m. has_list (map_statements_like f ss)) o false) (sym (list_meta_mapped f p)) ∙ l.2),
    )
