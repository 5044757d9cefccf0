-- Names that have numbers, in a table that grows.
use Rattle.std.proofs.Common.{◌≡◌, ℕ, ◌<◌, List, [], ◌∷◌, length, get_or, Some, slice_get, ap, ◌∙◌}
use Rattle.std.specs.Prelude.{unwrap_or}
use Rattle.std.specs.List.{AllByRecursion}
use Rattle.std.proofs.lemmas.Option.{slice_get-get_or, slice_get_within}
use Rattle.rb_base.specs.Names.{name_at, number_in, interned}
use Rattle.tree_model.specs.Tree.{LiteralOf, literal}
use Rattle.tree_model.specs.AllNames.{LiteralNames}
use Rattle.tree_model.proofs.AllNamesLemmas.{AllNames-implies}
use Rattle.event_trees.specs.Naming.{Grows}
use Rattle.event_trees.proofs.Known.{Grows-none, Grows-twice, Adds-interned, text_stays, text_of_number}
use Rattle.pattern_model.specs.Patterns.{KeywordLike, this_keyword, any_keyword, SelectorLike, this_selector, any_unary, of_keywords, any_message, PatternOf, meta, var_like, literal_like, send_like, cascade_like, assign_like, block_like, brace_like, return_like, PatternsOf, no_patterns, more_patterns, MessagesLike, no_messages_like, more_messages_like, StatementsLike, no_statements_like, more_statements_like}
use Rattle.patterns.specs.Names.{KeywordNames, SelectorNames, PatternNames, PatternsNames, MessagesLikeNames, StatementsLikeNames}
use Rattle.filled_patterns.specs.Filling.{Later, Known}

-- a fact of each name follows from another
module _ {N : Type 0} (P Q : N → Type 0) (implies : (n : N) → P n → Q n) where
  pub names_imply : (ns : List N) → AllByRecursion P ns → AllByRecursion Q ns
  names_imply [] h = tt
  names_imply (n ∷ ns) h = (implies n h.0, names_imply ns h.1)

  keyword_implies : (k : KeywordLike N) → KeywordNames P k → KeywordNames Q k
  keyword_implies (this_keyword k) h = tt
  keyword_implies (any_keyword m) h = implies m.name h

  pub keywords_imply : (ks : List (KeywordLike N)) → AllByRecursion (KeywordNames P) ks → AllByRecursion (KeywordNames Q) ks
  keywords_imply [] h = tt
  keywords_imply (k ∷ ks) h = (keyword_implies k h.0, keywords_imply ks h.1)

  pub selector_implies : (s : SelectorLike N) → SelectorNames P s → SelectorNames Q s
  selector_implies (this_selector n) h = implies n h
  selector_implies (any_unary m) h = implies m.name h
  selector_implies (of_keywords ks) h = keywords_imply ks h
  selector_implies (any_message m) h = implies m.name h

  mutual
    pub pattern_implies : (p : PatternOf N) → PatternNames P p → PatternNames Q p
    pattern_implies (meta m) h = implies m.name h
    pattern_implies (var_like n) h = implies n h
    pattern_implies (literal_like l) h = AllNames-implies P Q implies (literal l) h
    pattern_implies (send_like r s ps) h = (pattern_implies r h.0, selector_implies s h.1, patterns_imply ps h.2)
    pattern_implies (cascade_like r ms) h = (pattern_implies r h.0, messages_imply ms h.1)
    pattern_implies (assign_like n p) h = (implies n h.0, pattern_implies p h.1)
    pattern_implies (block_like ps ts ss e) h = (names_imply ps h.0, names_imply ts h.1, statements_imply ss h.2)
    pattern_implies (brace_like ps) h = patterns_imply ps h
    pattern_implies (return_like p) h = pattern_implies p h

    pub patterns_imply : (ps : PatternsOf N) → PatternsNames P ps → PatternsNames Q ps
    patterns_imply no_patterns h = tt
    patterns_imply (more_patterns p ps) h = (pattern_implies p h.0, patterns_imply ps h.1)

    pub messages_imply : (ms : MessagesLike N) → MessagesLikeNames P ms → MessagesLikeNames Q ms
    messages_imply no_messages_like h = tt
    messages_imply (more_messages_like s ps ms) h = (selector_implies s h.0, patterns_imply ps h.1, messages_imply ms h.2)

    pub statements_imply : (ss : StatementsLike N) → StatementsLikeNames P ss → StatementsLikeNames Q ss
    statements_imply no_statements_like h = tt
    statements_imply (more_statements_like c p ss) h = (pattern_implies p h.0, statements_imply ss h.1)

-- a table grows on
pub later_still : {names between final : List (List ℕ)} → Grows names between → Later between final → Later names final
later_still g l = record { grows = Grows-twice g l.grows; distinct = l.distinct }

-- a text gets a number
pub grown : (names later : List (List ℕ)) (t : List ℕ) → later ≡ interned names t → Grows names later
grown names later t e = let a = Adds-interned names t in record { more = a.more; grown = e ∙ a.grown }

pub numbered : (names : List (List ℕ)) (n : ℕ) (t : List ℕ) → Some n ≡ number_in names t → (final : List (List ℕ)) → Grows names final → (name_at final n ≡ t) × (n < length final)
numbered names n t e final g =
    let s : slice_get final n ≡ Some t = text_stays n t g (text_of_number names t n e) in
    (ap (λ o. unwrap_or o []) s, slice_get_within final n t s)

-- a number keeps its text, and what is known stays known
module _ {names later : List (List ℕ)} (g : Grows names later) where
  pub still_known : (n : ℕ) → Known names n → Known later n
  still_known n h = slice_get_within later n (get_or names n []) (text_stays n (get_or names n []) g (slice_get-get_or names n [] h))

  pub names_known : (ns : List ℕ) → AllByRecursion (Known names) ns → AllByRecursion (Known later) ns
  names_known ns h = names_imply (Known names) (Known later) still_known ns h

  pub literal_known : (l : LiteralOf ℕ) → LiteralNames (Known names) l → LiteralNames (Known later) l
  literal_known l h = AllNames-implies (Known names) (Known later) still_known (literal l) h

  pub selector_known : (s : SelectorLike ℕ) → SelectorNames (Known names) s → SelectorNames (Known later) s
  selector_known s h = selector_implies (Known names) (Known later) still_known s h

  pub pattern_known : (p : PatternOf ℕ) → PatternNames (Known names) p → PatternNames (Known later) p
  pattern_known p h = pattern_implies (Known names) (Known later) still_known p h

  pub patterns_known : (ps : PatternsOf ℕ) → PatternsNames (Known names) ps → PatternsNames (Known later) ps
  patterns_known ps h = patterns_imply (Known names) (Known later) still_known ps h

  pub messages_known : (ms : MessagesLike ℕ) → MessagesLikeNames (Known names) ms → MessagesLikeNames (Known later) ms
  messages_known ms h = messages_imply (Known names) (Known later) still_known ms h

pub ruleset grow_rules = (Grows-none, Grows-twice, grown)
