-- Marks over numbers are told apart as their texts are.
use Rattle.std.proofs.Common.{◌≡◌, ℕ, ◌<◌, Bool, true, List, [], ◌∷◌, length, map, refl, ap}
use Rattle.std.specs.Prelude.{nat_eq, ◌&&◌}
use Rattle.std.specs.List.{AllByRecursion}
use Rattle.std.specs.Cmp.Lexicographic.{pointwise}
use Rattle.std.proofs.lemmas.Bool.{and_from, eq-eqb}
use Rattle.rb_base.specs.Names.{name_at, HasNoTwice}
use Rattle.rb_base.proofs.NamesLemmas.{text_eq-refl, text_eq-name_at}
use Rattle.pattern_model.specs.Patterns.{MetaOf, KeywordLike, this_keyword, any_keyword, this_selector, any_unary, of_keywords, any_message}
use Rattle.pattern_model.specs.Bindings.{kind_number, same_meta}
use Rattle.pattern_model.specs.Named.{map_keyword}
use Rattle.patterns.specs.Names.{KeywordNames}
use Rattle.certified_model.specs.Marks.{Text, plain, marked, marked_unary, marked_whole, in_keywords, is_same_meta, is_same_keyword, is_same_mark, keyword_mark, is_unary_mark}
use Rattle.derivations.specs.Signs.{Sign, of_node, of_selector, mark_by, same_keyword, same_sign, is_unary_sign}
use Rattle.derivations.specs.Taken.{SignNames}

module _ (names : List Text) (distinct : HasNoTwice names) where
  abbrev Known : ℕ → Type 0
  Known n = n < length names

  abbrev text : ℕ → Text
  text n = name_at names n

  meta_alike : (m n : MetaOf ℕ) → Known m.name → Known n.name → is_same_meta m.kind (text m.name) n.kind (text n.name) ≡ same_meta nat_eq m n
  meta_alike m n h k = ap (λ (b : Bool). nat_eq (kind_number m.kind) (kind_number n.kind) && b) (text_eq-name_at names distinct m.name n.name h k)

  keyword_alike : (k l : KeywordLike ℕ) → KeywordNames Known k → KeywordNames Known l → is_same_keyword (keyword_mark (map_keyword text k)) (keyword_mark (map_keyword text l)) ≡ same_keyword k l
  keyword_alike (this_keyword a) (this_keyword b) h g = refl
  keyword_alike (this_keyword a) (any_keyword n) h g = refl
  keyword_alike (any_keyword m) (this_keyword b) h g = refl
  keyword_alike (any_keyword m) (any_keyword n) h g = meta_alike m n h g

  keywords_alike : (ks ls : List (KeywordLike ℕ)) → AllByRecursion (KeywordNames Known) ks → AllByRecursion (KeywordNames Known) ls
      → pointwise is_same_keyword (map keyword_mark (map (map_keyword text) ks)) (map keyword_mark (map (map_keyword text) ls)) ≡ pointwise same_keyword ks ls
  keywords_alike [] [] h g = refl
  keywords_alike [] (l ∷ ls) h g = refl
  keywords_alike (k ∷ ks) [] h g = refl
  keywords_alike (k ∷ ks) (l ∷ ls) h g = λ i. keyword_alike k l h.0 g.0 i && keywords_alike ks ls h.1 g.1 i

  pub sign_alike : (s t : Sign) → SignNames Known s → SignNames Known t → is_same_mark (mark_by text s) (mark_by text t) ≡ same_sign s t
  sign_alike (of_node m) (of_node n) h g = meta_alike m n h g
  sign_alike (of_node m) (of_selector (this_selector n)) h g = refl
  sign_alike (of_node m) (of_selector (any_unary n)) h g = refl
  sign_alike (of_node m) (of_selector (of_keywords ls)) h g = refl
  sign_alike (of_node m) (of_selector (any_message n)) h g = refl
  sign_alike (of_selector (this_selector m)) t h g = absurd h
  sign_alike (of_selector (any_unary m)) (of_node n) h g = refl
  sign_alike (of_selector (any_unary m)) (of_selector (this_selector n)) h g = refl
  sign_alike (of_selector (any_unary m)) (of_selector (any_unary n)) h g = meta_alike m n h g
  sign_alike (of_selector (any_unary m)) (of_selector (of_keywords ls)) h g = refl
  sign_alike (of_selector (any_unary m)) (of_selector (any_message n)) h g = refl
  sign_alike (of_selector (of_keywords ks)) (of_node n) h g = refl
  sign_alike (of_selector (of_keywords ks)) (of_selector (this_selector n)) h g = refl
  sign_alike (of_selector (of_keywords ks)) (of_selector (any_unary n)) h g = refl
  sign_alike (of_selector (of_keywords ks)) (of_selector (of_keywords ls)) h g = keywords_alike ks ls h g
  sign_alike (of_selector (of_keywords ks)) (of_selector (any_message n)) h g = refl
  sign_alike (of_selector (any_message m)) (of_node n) h g = refl
  sign_alike (of_selector (any_message m)) (of_selector (this_selector n)) h g = refl
  sign_alike (of_selector (any_message m)) (of_selector (any_unary n)) h g = refl
  sign_alike (of_selector (any_message m)) (of_selector (of_keywords ls)) h g = refl
  sign_alike (of_selector (any_message m)) (of_selector (any_message n)) h g = meta_alike m n h g

-- a mark is the same as itself
meta_same : (m : MetaOf ℕ) → same_meta nat_eq m m ≡ true
meta_same m = and_from _ _ (eq-eqb (kind_number m.kind) (kind_number m.kind) refl) (eq-eqb m.name m.name refl)

keyword_same : (k : KeywordLike ℕ) → same_keyword k k ≡ true
keyword_same (this_keyword a) = text_eq-refl a
keyword_same (any_keyword m) = meta_same m

keywords_same : (ks : List (KeywordLike ℕ)) → pointwise same_keyword ks ks ≡ true
keywords_same [] = refl
keywords_same (k ∷ ks) = and_from _ _ (keyword_same k) (keywords_same ks)

pub sign_same : (s : Sign) → same_sign s s ≡ true
sign_same (of_node m) = meta_same m
sign_same (of_selector (this_selector n)) = eq-eqb n n refl
sign_same (of_selector (any_unary m)) = meta_same m
sign_same (of_selector (of_keywords ks)) = keywords_same ks
sign_same (of_selector (any_message m)) = meta_same m

-- whether it is any unary selector
pub unary_alike : (f : ℕ → Text) (P : ℕ → Type 0) (s : Sign) → SignNames P s → is_unary_mark (mark_by f s) ≡ is_unary_sign s
unary_alike f P (of_node m) h = refl
unary_alike f P (of_selector (this_selector n)) h = absurd h
unary_alike f P (of_selector (any_unary m)) h = refl
unary_alike f P (of_selector (of_keywords ks)) h = refl
unary_alike f P (of_selector (any_message m)) h = refl

-- and no mark is a name
pub no_name : (f : ℕ → Text) (P : ℕ → Type 0) (s : Sign) → SignNames P s → (n : Text) → mark_by f s ≡ plain n → ⊥
no_name f P (of_node m) h n e = cc
no_name f P (of_selector (this_selector k)) h n e = h
no_name f P (of_selector (any_unary m)) h n e = cc
no_name f P (of_selector (of_keywords ks)) h n e = cc
no_name f P (of_selector (any_message m)) h n e = cc

-- a fact of the names follows from another
keywords_names : (P Q : ℕ → Type 0) → ((n : ℕ) → P n → Q n) → (ks : List (KeywordLike ℕ)) → AllByRecursion (KeywordNames P) ks → AllByRecursion (KeywordNames Q) ks
keywords_names P Q f [] h = tt
keywords_names P Q f (this_keyword k ∷ ks) h = (tt, keywords_names P Q f ks h.1)
keywords_names P Q f (any_keyword m ∷ ks) h = (f m.name h.0, keywords_names P Q f ks h.1)

pub sign_names : (P Q : ℕ → Type 0) → ((n : ℕ) → P n → Q n) → (s : Sign) → SignNames P s → SignNames Q s
sign_names P Q f (of_node m) h = f m.name h
sign_names P Q f (of_selector (this_selector k)) h = absurd h
sign_names P Q f (of_selector (any_unary m)) h = f m.name h
sign_names P Q f (of_selector (of_keywords ks)) h = keywords_names P Q f ks h
sign_names P Q f (of_selector (any_message m)) h = f m.name h

-- names that are changed alike make the same mark
keywords_marked : (P : ℕ → Type 0) (f g : ℕ → Text) → ((n : ℕ) → P n → f n ≡ g n) → (ks : List (KeywordLike ℕ)) → AllByRecursion (KeywordNames P) ks
    → map keyword_mark (map (map_keyword f) ks) ≡ map keyword_mark (map (map_keyword g) ks)
keywords_marked P f g same [] h = refl
keywords_marked P f g same (this_keyword k ∷ ks) h = λ i. keyword_mark (this_keyword k) ∷ keywords_marked P f g same ks h.1 i
keywords_marked P f g same (any_keyword m ∷ ks) h = λ i. keyword_mark (any_keyword (record { kind = m.kind; name = same m.name h.0 i; doubled = m.doubled })) ∷ keywords_marked P f g same ks h.1 i

pub sign_marked : (P : ℕ → Type 0) (f g : ℕ → Text) → ((n : ℕ) → P n → f n ≡ g n) → (s : Sign) → SignNames P s → mark_by f s ≡ mark_by g s
sign_marked P f g same (of_node m) h = ap (λ (t : Text). marked m.kind t) (same m.name h)
sign_marked P f g same (of_selector (this_selector k)) h = absurd h
sign_marked P f g same (of_selector (any_unary m)) h = ap (λ (t : Text). marked_unary m.kind t) (same m.name h)
sign_marked P f g same (of_selector (of_keywords ks)) h = ap in_keywords (keywords_marked P f g same ks h)
sign_marked P f g same (of_selector (any_message m)) h = ap (λ (t : Text). marked_whole m.kind t) (same m.name h)
