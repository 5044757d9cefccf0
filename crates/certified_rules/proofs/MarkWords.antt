-- Marks are words of patterns.
use Rattle.std.proofs.Common.{◌≡◌, List, Some, refl, ap}
use Rattle.std.specs.Prelude.{true, nat_eq, None}
use Rattle.std.specs.List.{AllByRecursion}
use Rattle.std.proofs.lemmas.Bool.{and_parts, and_from, eqb-true, eq-eqb}
use Rattle.rb_base.specs.Names.{text_eq}
use Rattle.rb_base.proofs.NamesLemmas.{text_eq-refl}
use Rattle.same_trees.proofs.Told.{pointwise_refl, pointwise_told, text_told}
use Rattle.text_model.specs.Literals.{is_keyword}
use Rattle.pattern_model.specs.declared.kinds.MetaKind.{MetaKind}
use Rattle.pattern_model.specs.Bindings.{kind_number}
use Rattle.pattern_model.specs.Words.{AreWords, text_keywords}
use Rattle.pattern_laws.proofs.SameMetas.{kind_told}
use Rattle.pattern_laws.proofs.TextWords.{text_words_are}
use Rattle.certified_model.specs.Marks.{Text, KeywordMark, plain_keyword, marked_keyword, Mark, plain, marked, marked_unary, marked_whole, in_keywords, is_same_meta, is_same_keyword, is_same_mark, of_plain, mark_words}
use Rattle.certified_model.specs.Certificates.{plain_joined}

meta_refl : (k : MetaKind) (a : Text) → is_same_meta k a k a ≡ true
meta_refl k a = and_from _ _ (eq-eqb (kind_number k) (kind_number k) refl) (text_eq-refl a)

meta_kind : (j : MetaKind) (a : Text) (k : MetaKind) (b : Text) → is_same_meta j a k b ≡ true → j ≡ k
meta_kind j a k b e = kind_told j k (eqb-true (kind_number j) (kind_number k) (and_parts (nat_eq (kind_number j) (kind_number k)) (text_eq a b) e).0)

meta_name : (j : MetaKind) (a : Text) (k : MetaKind) (b : Text) → is_same_meta j a k b ≡ true → a ≡ b
meta_name j a k b e = text_told a b (and_parts (nat_eq (kind_number j) (kind_number k)) (text_eq a b) e).1

keyword_refl : (k : KeywordMark) → is_same_keyword k k ≡ true
keyword_refl (plain_keyword a) = text_eq-refl a
keyword_refl (marked_keyword k a) = meta_refl k a

keyword_told : (k l : KeywordMark) → is_same_keyword k l ≡ true → k ≡ l
keyword_told (plain_keyword a) (plain_keyword b) e = ap plain_keyword (text_told a b e)
keyword_told (plain_keyword a) (marked_keyword k b) e = let bad : ⊥ = cc in absurd bad
keyword_told (marked_keyword j a) (plain_keyword b) e = let bad : ⊥ = cc in absurd bad
keyword_told (marked_keyword j a) (marked_keyword k b) e = λ i. marked_keyword (meta_kind j a k b e i) (meta_name j a k b e i)

mark_refl : (m : Mark) → is_same_mark m m ≡ true
mark_refl (plain n) = text_eq-refl n
mark_refl (marked k n) = meta_refl k n
mark_refl (marked_unary k n) = meta_refl k n
mark_refl (marked_whole k n) = meta_refl k n
mark_refl (in_keywords ks) = pointwise_refl is_same_keyword keyword_refl ks

mark_told : (m n : Mark) → is_same_mark m n ≡ true → m ≡ n
mark_told (plain a) (plain b) e = ap plain (text_told a b e)
mark_told (marked j a) (marked k b) e = λ i. marked (meta_kind j a k b e i) (meta_name j a k b e i)
mark_told (marked_unary j a) (marked_unary k b) e = λ i. marked_unary (meta_kind j a k b e i) (meta_name j a k b e i)
mark_told (marked_whole j a) (marked_whole k b) e = λ i. marked_whole (meta_kind j a k b e i) (meta_name j a k b e i)
mark_told (in_keywords ks) (in_keywords ls) e = ap in_keywords (pointwise_told is_same_keyword keyword_told ks ls e)
mark_told m n e = let bad : ⊥ = cc in absurd bad

keywords_each : (m : Mark) (ks : List Text) → of_plain text_keywords None m ≡ Some ks → AllByRecursion (λ k. is_keyword k ≡ true) ks
keywords_each (plain n) ks e = text_words_are.each n ks e
keywords_each (marked k n) ks e = let bad : ⊥ = cc in absurd bad
keywords_each (marked_unary k n) ks e = let bad : ⊥ = cc in absurd bad
keywords_each (marked_whole k n) ks e = let bad : ⊥ = cc in absurd bad
keywords_each (in_keywords ls) ks e = let bad : ⊥ = cc in absurd bad

keywords_joined : (m : Mark) (ks : List Text) → of_plain text_keywords None m ≡ Some ks → plain_joined ks ≡ m
keywords_joined (plain n) ks e = ap plain (text_words_are.is_joined n ks e)
keywords_joined (marked k n) ks e = let bad : ⊥ = cc in absurd bad
keywords_joined (marked_unary k n) ks e = let bad : ⊥ = cc in absurd bad
keywords_joined (marked_whole k n) ks e = let bad : ⊥ = cc in absurd bad
keywords_joined (in_keywords ls) ks e = let bad : ⊥ = cc in absurd bad

pub mark_words_are : AreWords mark_words plain_joined
mark_words_are = record {
  refl = mark_refl;
  told = mark_told;
  each = keywords_each;
  is_joined = keywords_joined;
  cut = λ k ks h. text_words_are.cut k ks h;
}
