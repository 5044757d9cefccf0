-- The replacements of do-its, one after the other.
use Rattle.std.proofs.Common.{◌≡◌, ℕ, zero, suc, ◌+◌, ◌<◌, ◌≤◌, Bool, true, false, List, [], ◌∷◌, ◌++◌, length, map, drop, Option, None, Some, slice_get, refl, sym, ap, ◌∙◌, arith, append_assoc, append-nil}
use Rattle.std.specs.Prelude.{if◌then◌else◌, codes}
use Rattle.std.specs.Fmt.{decimal}
use Rattle.rb_base.specs.Names.{text_eq, name_at}
use Rattle.text_model.specs.Literals.{quoted_text}
use Rattle.image_model.specs.Image.{DoItOf, map_doit}
use Rattle.class_table.specs.declared.record.DoIt.{DoIt}
use Rattle.class_table.specs.Info.{source_at}
use Rattle.class_table.specs.Slots.{Slots}
use Rattle.class_table.specs.View.{doit_of, image_of}
use Rattle.file_model.specs.Filing.{Text}
use Rattle.file_model.specs.Places.{PlacedOf}
use Rattle.file_model.specs.Written.{paragraph}
use Rattle.change_model.specs.Differs.{other_doits, differs}
use Rattle.change_model.specs.Edits.{Replace, replacements}
use Rattle.change_file.specs.Texts.{edit_texts, has_text}
use Rattle.change_file.proofs.KeyWalks.{drop_item, drop_nothing, drop_end}

-- the message that replaces the do-it of a number
abbrev pub replacement_text : ℕ → Text → Text
replacement_text k source = paragraph (codes "Smalltalk replaceDoIt: " ++ decimal k ++ codes " with: " ++ quoted_text source)

-- what a number gives itself
abbrev pub number_alone : ℕ → Text → List ℕ
number_alone k source = k ∷ []

-- what is given of sources in place of others, counted from a number
abbrev pub other_sources : (ℕ → Text → List ℕ) → ℕ → List Text → List Text → List ℕ
other_sources text k ds [] = []
other_sources text k [] (e ∷ es) = text k e ++ other_sources text (suc k) [] es
other_sources text k (d ∷ ds) (e ∷ es) = if text_eq d e then other_sources text (suc k) ds es else text k e ++ other_sources text (suc k) ds es

abbrev pub sources : List DoIt → List Text
sources ds = map (λ (d : DoIt). d.source) ds

abbrev pub given_from : (ℕ → Text → List ℕ) → ℕ → List DoIt → List DoIt → List ℕ
given_from text n olds news = other_sources text (n + 1) (drop n (sources olds)) (drop n (sources news))

abbrev pub replacements_from : ℕ → List DoIt → List DoIt → Text
replacements_from = given_from replacement_text

abbrev pub numbers_from : ℕ → List DoIt → List DoIt → List ℕ
numbers_from = given_from number_alone

abbrev texts_of : List (DoItOf Text) → List Text
texts_of ds = map (λ (d : DoItOf Text). d.source) ds

-- they are those of the definition
written : (k : ℕ) (ds es : List (DoItOf Text)) → edit_texts (map (λ (p : PlacedOf (DoItOf Text)). Replace p.place p.item) (other_doits k ds es)) ≡ other_sources replacement_text k (texts_of ds) (texts_of es)
written k [] [] = refl
written k (d ∷ ds) [] = refl
written k [] (e ∷ es) = ap (λ (t : Text). replacement_text k e.source ++ t) (written (suc k) [] es)
written k (d ∷ ds) (e ∷ es) = by (text_eq d.source e.source) (written (suc k) ds es)
  where
    by : (b : Bool) → edit_texts (map (λ (p : PlacedOf (DoItOf Text)). Replace p.place p.item) (other_doits (suc k) ds es)) ≡ other_sources replacement_text (suc k) (texts_of ds) (texts_of es)
        → edit_texts (map (λ (p : PlacedOf (DoItOf Text)). Replace p.place p.item) (if b then other_doits (suc k) ds es else record { place = k; item = e } ∷ other_doits (suc k) ds es))
        ≡ (if b then other_sources replacement_text (suc k) (texts_of ds) (texts_of es) else replacement_text k e.source ++ other_sources replacement_text (suc k) (texts_of ds) (texts_of es))
    by true rest = rest
    by false rest = ap (λ (t : Text). replacement_text k e.source ++ t) rest

numbered : (k : ℕ) (ds es : List (DoItOf Text)) → map (λ (p : PlacedOf (DoItOf Text)). p.place) (other_doits k ds es) ≡ other_sources number_alone k (texts_of ds) (texts_of es)
numbered k [] [] = refl
numbered k (d ∷ ds) [] = refl
numbered k [] (e ∷ es) = ap (λ (ns : List ℕ). k ∷ ns) (numbered (suc k) [] es)
numbered k (d ∷ ds) (e ∷ es) = by (text_eq d.source e.source) (numbered (suc k) ds es)
  where
    by : (b : Bool) → map (λ (p : PlacedOf (DoItOf Text)). p.place) (other_doits (suc k) ds es) ≡ other_sources number_alone (suc k) (texts_of ds) (texts_of es)
        → map (λ (p : PlacedOf (DoItOf Text)). p.place) (if b then other_doits (suc k) ds es else record { place = k; item = e } ∷ other_doits (suc k) ds es)
        ≡ (if b then other_sources number_alone (suc k) (texts_of ds) (texts_of es) else k ∷ other_sources number_alone (suc k) (texts_of ds) (texts_of es))
    by true rest = rest
    by false rest = ap (λ (ns : List ℕ). k ∷ ns) rest

same_sources : (f : ℕ → Text) (ds : List DoIt) → texts_of (map (map_doit f) (map doit_of ds)) ≡ sources ds
same_sources f [] = refl
same_sources f (d ∷ ds) = ap (λ (ts : List Text). d.source ∷ ts) (same_sources f ds)

module _ (s t : Slots) where
  given_whole : (text : ℕ → Text → List ℕ) → given_from text 0 s.doits t.doits ≡ other_sources text 1 (texts_of (image_of s).doits) (texts_of (image_of t).doits)
  given_whole text = λ j. other_sources text (first j) (sym (same_sources (name_at s.names) s.doits) j) (sym (same_sources (name_at t.names) t.doits) j)
    where
      first : 0 + 1 ≡ 1
      first = omega arith

  pub replacements_written : replacements_from 0 s.doits t.doits ≡ edit_texts (replacements (image_of s) (image_of t))
  replacements_written = given_whole replacement_text ∙ sym (written 1 (image_of s).doits (image_of t).doits)

  -- and their numbers those that differ
  pub numbers_differ : numbers_from 0 s.doits t.doits ≡ (differs (image_of s) (image_of t)).doits
  numbers_differ = given_whole number_alone ∙ sym (numbered 1 (image_of s).doits (image_of t).doits)

-- the source at a place
at_source : (ds : List DoIt) (n : ℕ) → source_at ds n ≡ slice_get (sources ds) n
at_source [] n = refl
at_source (d ∷ ds) zero = refl
at_source (d ∷ ds) (suc n) = at_source ds n

-- each do-it has a source
pub has_one : (ds : List DoIt) (n : ℕ) → n < length ds → None ≡ source_at ds n → ⊥
has_one [] n l e = absurd (omega arith)
has_one (d ∷ ds) zero l e = absurd (cc)
has_one (d ∷ ds) (suc n) l e = has_one ds n (omega arith) e

no_item : (ts : List Text) (n : ℕ) → slice_get ts n ≡ None → drop n ts ≡ []
no_item [] zero e = refl
no_item [] (suc n) e = refl
no_item (t ∷ ts) zero e = absurd (cc)
no_item (t ∷ ts) (suc n) e = no_item ts n e

after_none : (ts : List Text) (n : ℕ) → slice_get ts n ≡ None → drop (n + 1) ts ≡ []
after_none [] n e = drop_nothing Text (n + 1)
after_none (t ∷ ts) zero e = absurd (cc)
after_none (t ∷ ts) (suc n) e = ap (λ i. drop i (t ∷ ts)) (let next : suc n + 1 ≡ suc (n + 1) = omega arith in next) ∙ after_none ts n e

module _ (text : ℕ → Text → List ℕ) where
  -- one more do-it
  first_source : (n : ℕ) (olds news : List DoIt) (source : Text) → Some source ≡ source_at news n
      → given_from text n olds news ≡ (if has_text (source_at olds n) source then given_from text (n + 1) olds news else text (n + 1) source ++ given_from text (n + 1) olds news)
  first_source n olds news source e =
      ap (λ (ts : List Text). other_sources text (n + 1) (drop n (sources olds)) ts) (drop_item (sources news) n source (sym (e ∙ at_source news n)))
      ∙ by (slice_get (sources olds) n) refl
      ∙ ap (λ (o : Option Text). if has_text o source then given_from text (n + 1) olds news else text (n + 1) source ++ given_from text (n + 1) olds news) (sym (at_source olds n))
    where
      rest : List Text
      rest = drop (n + 1) (sources news)

      next : suc (n + 1) ≡ n + 1 + 1
      next = omega arith

      by : (o : Option Text) → slice_get (sources olds) n ≡ o → other_sources text (n + 1) (drop n (sources olds)) (source ∷ rest)
          ≡ (if has_text o source then given_from text (n + 1) olds news else text (n + 1) source ++ given_from text (n + 1) olds news)
      by None f =
          ap (λ (ts : List Text). other_sources text (n + 1) ts (source ∷ rest)) (no_item (sources olds) n f)
          ∙ (λ j. text (n + 1) source ++ other_sources text (next j) (sym (after_none (sources olds) n f) j) rest)
      by (Some d) f =
          ap (λ (ts : List Text). other_sources text (n + 1) ts (source ∷ rest)) (drop_item (sources olds) n d f)
          ∙ ap (λ (k : ℕ). if text_eq d source then other_sources text k (drop (n + 1) (sources olds)) rest else text (n + 1) source ++ other_sources text k (drop (n + 1) (sources olds)) rest) next

  -- a do-it that both have
  pub source_stays : (n : ℕ) (olds news : List DoIt) (source out whole : Text) → Some source ≡ source_at news n → has_text (source_at olds n) source ≡ true
      → out ++ given_from text n olds news ≡ whole → out ++ given_from text (n + 1) olds news ≡ whole
  source_stays n olds news source out whole e f h =
      ap (λ (t : Text). out ++ t) (sym (first_source n olds news source e ∙ ap (λ (b : Bool). if b then given_from text (n + 1) olds news else text (n + 1) source ++ given_from text (n + 1) olds news) f)) ∙ h

  -- one that is replaced
  pub source_replaced : (n : ℕ) (olds news : List DoIt) (source out new whole : Text) → Some source ≡ source_at news n → has_text (source_at olds n) source ≡ false
      → out ++ given_from text n olds news ≡ whole → new ≡ out ++ text (n + 1) source → new ++ given_from text (n + 1) olds news ≡ whole
  source_replaced n olds news source out new whole e f h m =
      ap (λ (t : Text). t ++ given_from text (n + 1) olds news) m
      ∙ append_assoc out (text (n + 1) source) (given_from text (n + 1) olds news)
      ∙ ap (λ (t : Text). out ++ t) (sym (first_source n olds news source e ∙ ap (λ (b : Bool). if b then given_from text (n + 1) olds news else text (n + 1) source ++ given_from text (n + 1) olds news) f)) ∙ h

  -- no do-it is left
  pub sources_end : (n : ℕ) (olds news : List DoIt) (out whole : Text) → length news ≤ n → out ++ given_from text n olds news ≡ whole → out ≡ whole
  sources_end n olds news out whole l h =
      sym (append-nil out) ∙ ap (λ (t : Text). out ++ t) (sym (ap (λ (ts : List Text). other_sources text (n + 1) (drop n (sources olds)) ts) (drop_end (sources news) n (same news l)))) ∙ h
    where
      same : (ds : List DoIt) → length ds ≤ n → length (sources ds) ≤ n
      same ds m = omega (arith, many ds, m)
        where
          many : (es : List DoIt) → length (sources es) ≡ length es
          many [] = refl
          many (e ∷ es) = omega (arith, many es)
