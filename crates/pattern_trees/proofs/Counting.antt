-- Each metavariable of a pattern has a place in its text.
use Rattle.std.proofs.Common.{◌≡◌, ℕ, suc, ◌+◌, true, false, true≢false, List, [], ◌∷◌, ◌++◌, length, map, refl, sym, ap, ◌∙◌, arith, inl, inr}
use Rattle.std.specs.List.{list_any}
use Rattle.std.proofs.lemmas.Bool.{cases_Bool, and_from}
use Rattle.text_model.specs.Pieces.{keywords_of}
use Rattle.grammar_model.specs.Terminal.{Text, KeywordKind, AnyKeyword, PrimitiveKeyword, AnyKey, OperandMark, AnyName, Terminal, Keyword, OperandMeta, MessageMeta}
use Rattle.grammar_model.specs.Input.{Lexeme, lex, first_kind, others}
use Rattle.pattern_model.specs.Patterns.{MetaOf, PatternsOf, no_patterns, more_patterns, keyword_metas, message_metas, metas, trees_metas, metas_in_turn}
use Rattle.pattern_model.specs.Matches.{count_patterns}
use Rattle.pattern_model.specs.Spelled.{begins, is_meta, marked, keyword_like, selector_like, arguments_like}
use Rattle.pattern_trees.specs.Faults.{is_meta_token, begins_message, meta_places}
use Rattle.pattern_trees.proofs.TokenTexts.{HasText}
use Rattle.pattern_trees.proofs.Bytes.{is_quote, none_parts, plain_pieces, first_meta, keyword_plain}
use Rattle.pattern_trees.proofs.Selecting.{unary_open, IsRow}

-- how many places there are among tokens
abbrev pub places_in : List Lexeme → ℕ
places_in ts = length (meta_places false ts)

-- a token that is no metavariable, and one that is
pub passed : (ts : List Lexeme) (k : Terminal) → first_kind ts ≡ k → is_meta_token k ≡ false → begins_message k ≡ false → places_in ts ≡ places_in (others ts)
passed [] k e m b = refl
passed (lex c f z h ∷ ts) k e m b = let p : is_meta_token h ≡ false = ap is_meta_token e ∙ m in let q : begins_message h ≡ false = ap begins_message e ∙ b in rw (p, q) refl

pub counted : (ts : List Lexeme) (k : Terminal) → first_kind ts ≡ k → is_meta_token k ≡ true → begins_message k ≡ false → places_in ts ≡ suc (places_in (others ts))
counted [] k e m b = let bad : ⊥ = true≢false (sym (ap is_meta_token e ∙ m)) in absurd bad
counted (lex c f z h ∷ ts) k e m b = let p : is_meta_token h ≡ true = ap is_meta_token e ∙ m in let q : begins_message h ≡ false = ap begins_message e ∙ b in rw (p, q) refl

-- any message ends with a metavariable that is a part of it
ended : (ts : List Lexeme) (m : OperandMark) (n : Text) → first_kind ts ≡ OperandMeta m n → meta_places true ts ≡ meta_places false (others ts)
ended [] m n e = refl
ended (lex c f z h ∷ ts) m n e = let p : is_meta_token h ≡ true = ap is_meta_token e in let q : begins_message h ≡ false = ap begins_message e in rw (p, q) refl

pub whole_counted : (ts : List Lexeme) (k n : Text) (m : OperandMark) → first_kind ts ≡ MessageMeta k → first_kind (others ts) ≡ OperandMeta m n → places_in ts ≡ suc (places_in (others (others ts)))
whole_counted [] k n m e g = let bad : ⊥ = true≢false (sym (ap is_meta_token e)) in absurd bad
whole_counted (lex c f z h ∷ ts) k n m e g =
    let p : is_meta_token h ≡ true = ap is_meta_token e in
    let q : begins_message h ≡ true = ap begins_message e in
    rw (p, q) (ap (λ (fs : List ℕ). suc (length fs)) (ended ts m n g))

-- sums
pub none_more : (m n : ℕ) → m ≡ n → m ≡ 0 + n
none_more m n h = omega (arith, h)

pub one_more : (m n : ℕ) → m ≡ suc n → m ≡ 1 + n
one_more m n h = omega (arith, h)

-- a keyword
pub key_counted : (ts : List Lexeme) (c : KeywordKind) (k : Text) → first_kind ts ≡ Keyword c k → HasText (Keyword c k) → places_in ts ≡ length (keyword_metas (keyword_like k)) + places_in (others ts)
key_counted ts AnyKeyword k e h = rw (keyword_plain k h) (none_more _ _ (passed ts (Keyword AnyKeyword k) e refl refl))
key_counted ts PrimitiveKeyword k e h = rw (keyword_plain k h) (none_more _ _ (passed ts (Keyword PrimitiveKeyword k) e refl refl))
key_counted ts AnyKey k e h = rw (h.0) (one_more _ _ (counted ts (Keyword AnyKey k) e refl refl))

-- how many metavariables a message has
abbrev pub message_count : Text → PatternsOf Text → ℕ
message_count s ps = length (message_metas (selector_like s) (trees_metas (arguments_like (selector_like s) ps)) (metas_in_turn (arguments_like (selector_like s) ps)))

-- of keywords that are no metavariables the arguments alone
pub in_turn_plain : (ps : PatternsOf Text) (ks : List Text) → list_any is_meta ks ≡ false → length ks ≡ count_patterns ps → metas_in_turn ps (map keyword_like ks) ≡ trees_metas ps
in_turn_plain no_patterns ks h e = refl
in_turn_plain (more_patterns p ps) [] h e = absurd (omega (arith, e))
in_turn_plain (more_patterns p ps) (k ∷ ks) h e =
    let x = none_parts (is_meta k) (list_any is_meta ks) h in
    rw (x.0) (ap (λ (ms : List (MetaOf Text)). metas p ++ ms) (in_turn_plain ps ks x.1 (omega (arith, e))))

pub plain_count : (s : Text) (ps : PatternsOf Text) → list_any is_quote s ≡ false → message_count s ps ≡ length (trees_metas ps)
plain_count s ps h = rw (plain_pieces s h) refl

pub unary_count : (n : Text) → HasText (OperandMeta AnyName n) → message_count n no_patterns ≡ 1
unary_count n h = rw (first_meta n h.0, unary_open n h.0 h.1) refl

pub whole_count : (k : Text) (ps : PatternsOf Text) → HasText (MessageMeta k) → message_count k ps ≡ 1
whole_count k ps h = rw (first_meta k h.0, h.2, and_from (is_meta k) (begins 64 (marked k)) h.0 h.1) refl

pub row_count : (s : Text) (ps : PatternsOf Text) → IsRow s (count_patterns ps) → message_count s ps ≡ length (metas_in_turn ps (map keyword_like (keywords_of s)))
row_count s ps r =
    elim (cases_Bool (list_any is_meta (keywords_of s))) [
      | inr e ↦ rw e (ap (λ (ms : List (MetaOf Text)). length ms) (sym (in_turn_plain ps (keywords_of s) e r.count)))
      | inl e ↦ rw (e, r.colon, r.no_whole) refl
    ]
