-- Selectors that tokens spell are lawful.
use Rattle.std.proofs.Common.{◌≡◌, ℕ, ◌+◌, Bool, true, false, true≢false, List, [], ◌∷◌, ◌++◌, length, map, refl, sym, ap, subst, ◌∙◌, inl, inr, ◌⊎◌, append-nil}
use Rattle.std.specs.Prelude.{◌&&◌, ◌||◌}
use Rattle.std.specs.List.{list_any, AllByRecursion}
use Rattle.std.proofs.lemmas.Bool.{cases_Bool, and_from}
use Rattle.std.proofs.lemmas.List.{length-map}
use Rattle.text_model.specs.Pieces.{is_colon, keywords_of, has_colon}
use Rattle.text_model.specs.Literals.{is_identifier, is_keyword}
use Rattle.grammar_model.specs.Terminal.{Text, KeywordKind, AnyKeyword, PrimitiveKeyword, AnyKey, Keyword, OperandMeta, AnyName, MessageMeta}
use Rattle.pattern_model.specs.Patterns.{PatternsOf, no_patterns}
use Rattle.pattern_model.specs.Matches.{IsLawfulKeyword, IsLawfulSelector, is_any, count_patterns, AreLawful}
use Rattle.pattern_model.specs.Spelled.{begins, is_meta, marked, keyword_like, selector_like, arguments_like}
use Rattle.pattern_trees.proofs.TokenTexts.{HasText}
use Rattle.pattern_trees.proofs.Bytes.{and_false, is_quote, or_none, differs, identifier_without, keyword_begins, keyword_plain, plain_pieces, first_meta, EndsInColon, colon_later, keyword_ends, cut_first, colon_first}

-- a selector and its arguments, which any message has itself
abbrev pub Selects : Text → PatternsOf Text → Type 0
Selects s ps = IsLawfulSelector (selector_like s) (count_patterns (arguments_like (selector_like s) ps))

-- one without metavariables
pub a_plain_selector : (s : Text) (ps : PatternsOf Text) → list_any is_quote s ≡ false → Selects s ps
a_plain_selector s ps h = rw (plain_pieces s h) tt

pub plain_arguments : (s : Text) (ps : PatternsOf Text) → list_any is_quote s ≡ false → arguments_like (selector_like s) ps ≡ ps
plain_arguments s ps h = rw (plain_pieces s h) refl

-- a metavariable without a colon
pub unary_open : (n : Text) → is_meta n ≡ true → is_identifier (marked n) ≡ true → has_colon n ≡ false
unary_open [] h g = refl
unary_open (a ∷ []) h g = let bad : ⊥ = true≢false (sym g) in absurd bad
unary_open (a ∷ b ∷ s) h g =
    or_none (is_colon a) (is_colon b || list_any is_colon s) (differs is_quote a 58 h refl)
    (elim (cases_Bool (is_quote b)) [
      | inl e ↦ or_none (is_colon b) (list_any is_colon s) (differs is_quote b 58 e refl) (identifier_without 58 refl refl s (rw e at g))
      | inr e ↦ identifier_without 58 refl refl (b ∷ s) (rw e at g)
    ])

pub a_unary_selector : (n : Text) → HasText (OperandMeta AnyName n) → Selects n no_patterns
a_unary_selector n h = rw (first_meta n h.0, unary_open n h.0 h.1) (refl, refl)

pub unary_arguments : (n : Text) (ps : PatternsOf Text) → HasText (OperandMeta AnyName n) → arguments_like (selector_like n) ps ≡ ps
unary_arguments n ps h = rw (first_meta n h.0, unary_open n h.0 h.1) refl

-- any message
pub a_whole_message : (k : Text) (ps : PatternsOf Text) → HasText (MessageMeta k) → Selects k ps
a_whole_message k ps h = rw (first_meta k h.0, h.2, and_from (is_meta k) (begins 64 (marked k)) h.0 h.1) (refl, refl)

pub whole_arguments : (k : Text) (ps : PatternsOf Text) → HasText (MessageMeta k) → AreLawful (arguments_like (selector_like k) ps)
whole_arguments k ps h = rw (first_meta k h.0, h.2, and_from (is_meta k) (begins 64 (marked k)) h.0 h.1) tt

-- a keyword, as it is spelled or any
abbrev pub IsKey : Text → Type 0
IsKey k = ((is_meta k ≡ false) × (is_keyword k ≡ true)) ⊎ ((is_meta k ≡ true) × (is_keyword (marked k) ≡ true))

plain_key : (k : Text) → is_keyword k ≡ true → IsKey k
plain_key k h = inl (keyword_plain k h, h)

pub a_key : (c : KeywordKind) (k : Text) → HasText (Keyword c k) → IsKey k
a_key AnyKeyword k h = plain_key k h
a_key PrimitiveKeyword k h = plain_key k h
a_key AnyKey k h = inr h

pub key_ends : (k : Text) → IsKey k → EndsInColon k
key_ends k (inl h) = keyword_ends k h.1
key_ends [] (inr h) = let bad : ⊥ = true≢false (sym h.0) in absurd bad
key_ends (a ∷ []) (inr h) = let bad : ⊥ = true≢false (sym h.1) in absurd bad
key_ends (a ∷ b ∷ s) (inr h) =
    colon_later a (b ∷ s) (differs is_quote a 58 h.0 refl)
    (elim (cases_Bool (is_quote b)) [
      | inl e ↦ colon_later b s (differs is_quote b 58 e refl) (keyword_ends s (rw e at h.1))
      | inr e ↦ keyword_ends (b ∷ s) (rw e at h.1)
    ])

-- what begins with one is not any message
no_message : (k s : Text) → IsKey k → (is_meta (k ++ s) && begins 64 (marked (k ++ s))) ≡ false
no_message [] s (inl h) = let bad : ⊥ = true≢false (sym h.1) in absurd bad
no_message (a ∷ k) s (inl h) = rw (h.0) refl
no_message [] s (inr h) = let bad : ⊥ = true≢false (sym h.0) in absurd bad
no_message (a ∷ []) s (inr h) = let bad : ⊥ = true≢false (sym h.1) in absurd bad
no_message (a ∷ b ∷ k) s (inr h) =
    elim (cases_Bool (is_quote b)) [
      | inl e ↦ rw e (rw (keyword_begins 64 refl k (rw e at h.1) s) (and_false (is_quote a)))
      | inr e ↦ rw e (rw (keyword_begins 64 refl (b ∷ k) (rw e at h.1) s) (and_false (is_quote a)))
    ]

-- keywords in a row
pub record IsRow (s : Text) (n : ℕ) : Type 0 where
  pub keys : AllByRecursion IsKey (keywords_of s)
  pub count : length (keywords_of s) ≡ n
  pub colon : has_colon s ≡ true
  pub no_whole : (is_meta s && begins 64 (marked s)) ≡ false

pub more_row : (k s : Text) (n : ℕ) → IsKey k → IsRow s n → IsRow (k ++ s) (n + 1)
more_row k s n h r =
    let cut : keywords_of (k ++ s) ≡ k ∷ keywords_of s = cut_first k s (key_ends k h) in
    record {
      keys = subst (AllByRecursion IsKey) (sym cut) (h, r.keys);
      count = ap (λ (ks : List Text). length ks) cut ∙ one_more (length (keywords_of s)) n r.count;
      colon = colon_first k s (key_ends k h);
      no_whole = no_message k s h;
    }
  where
    one_more : (m n : ℕ) → m ≡ n → Rattle.std.proofs.Common.suc m ≡ n + 1
    one_more m n e = omega (Rattle.std.proofs.Common.arith, e)

pub last_row : (k : Text) → IsKey k → IsRow k 1
last_row k h =
    let cut : keywords_of (k ++ []) ≡ k ∷ [] = cut_first k [] (key_ends k h) in
    subst (λ (s : Text). IsRow s 1) (append-nil k)
    (record {
      keys = subst (AllByRecursion IsKey) (sym cut) (h, tt);
      count = ap (λ (ks : List Text). length ks) cut;
      colon = colon_first k [] (key_ends k h);
      no_whole = no_message k [] h;
    })

key_lawful : (k : Text) → IsKey k → IsLawfulKeyword (keyword_like k)
key_lawful k (inl h) = rw (h.0) (h.1)
key_lawful k (inr h) = rw (h.0) refl

keys_lawful : (ks : List Text) → AllByRecursion IsKey ks → AllByRecursion IsLawfulKeyword (map keyword_like ks)
keys_lawful [] h = tt
keys_lawful (k ∷ ks) h = (key_lawful k h.0, keys_lawful ks h.1)

keys_any : (ks : List Text) → list_any is_any (map keyword_like ks) ≡ list_any is_meta ks
keys_any [] = refl
keys_any (k ∷ ks) = elim (cases_Bool (is_meta k)) [ inl e ↦ rw e refl | inr e ↦ rw e (keys_any ks) ]

pub a_row_selector : (s : Text) (ps : PatternsOf Text) → IsRow s (count_patterns ps) → Selects s ps
a_row_selector s ps r =
    elim (cases_Bool (list_any is_meta (keywords_of s))) [
      | inr e ↦ rw e tt
      | inl e ↦ rw (e, r.colon, r.no_whole) (keys_lawful (keywords_of s) r.keys, length-map (keywords_of s) keyword_like ∙ r.count, keys_any (keywords_of s) ∙ e)
    ]

pub row_arguments : (s : Text) (ps : PatternsOf Text) → IsRow s (count_patterns ps) → arguments_like (selector_like s) ps ≡ ps
row_arguments s ps r = elim (cases_Bool (list_any is_meta (keywords_of s))) [ inr e ↦ rw e refl | inl e ↦ rw (e, r.colon, r.no_whole) refl ]
