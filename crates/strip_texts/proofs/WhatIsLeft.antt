-- What is left of an image, over the texts of its names.
use Rattle.std.proofs.Common.{◌≡◌, ℕ, ◌<◌, zero, suc, List, [], ◌∷◌, length, filter, Bool, true, false, refl, sym, ap, subst, ◌∙◌}
use Rattle.std.specs.Prelude.{nat_eq}
use Rattle.std.specs.Option.{option_map_or}
use Rattle.rb_base.specs.Names.{text_eq, name_at}
use Rattle.token_model.specs.declared.kind.Dialect.TheVariants.{Second}
use Rattle.tree_model.specs.Tree.{SequenceOf}
use Rattle.grammar_model.specs.Spelling.{SpellsDoIt}
use Rattle.tree_model.specs.AllNames.{SequenceNames}
use Rattle.st_tree.specs.declared.tree.Sequence.{Sequence}
use Rattle.st_tree.specs.View.{sequence_of}
use Rattle.image_model.specs.Image.{ClassOf, EntryOf, ImageOf, map_doit, map_image, plus}
use Rattle.image_model.specs.ImageNames.{DoItNames, ImageNames}
use Rattle.image_model.specs.Words.{WordsOf, KeepsWords, number_words, text_words}
use Rattle.image_model.proofs.Tables.{KeepsWords-number_words}
use Rattle.strip_model.specs.Mapped.{ReachNames}
use Rattle.strip_model.specs.Reach.{Signature, ReachOf, has_class, has_selector, has_signature, has_method, reached_after, reach, everything, size}
use Rattle.strip_model.specs.Stripped.{strip}
use Rattle.strip_model.specs.Within.{IsWithin}
use Rattle.strip_model.proofs.KnownNodes.{all-append}
use Rattle.strip_model.proofs.MappedReach.{demanded-names}
use Rattle.strip_model.proofs.NumberedReach.{plus-map, strip-map, reach-map}
use Rattle.class_table.specs.Slots.{Slots}
use Rattle.class_table.specs.Valid.{IsOrderly}
use Rattle.class_table.specs.View.{image_of, number_image}
use Rattle.image_strip.specs.Closed.{start_of}
use Rattle.image_strip.specs.Reached.{Marks, reached}
use Rattle.strip_texts.specs.Left.{least_for, IsLeastFor, IsLeftFor}
use Rattle.strip_texts.proofs.Sources.{reach-same}

-- tests that pass where the other one does
same-test : (a b : Bool) → (a ≡ true → b ≡ true) → (b ≡ true → a ≡ true) → a ≡ b
same-test true b f g = sym (f refl)
same-test false true f g = g refl
same-test false false f g = refl

-- what is within each other leaves the same
module _ {N : Type 0} (same : N → N → Bool) (i : ImageOf N) (p q : ReachOf N) (there : IsWithin same p q) (back : IsWithin same q p) where
  class-same : (c : N) → has_class same p c ≡ has_class same q c
  class-same c = same-test (has_class same p c) (has_class same q c) (there.classes c) (back.classes c)

  signature-same : (k : Signature N) → has_signature same p k ≡ has_signature same q k
  signature-same k = same-test (has_signature same p k) (has_signature same q k) (there.methods k) (back.methods k)

  strip-same : strip same p i ≡ strip same q i
  strip-same = λ j. record i {
    classes = filter (λ (c : ClassOf N). class-same c.name j) i.classes;
    methods = filter (λ (m : EntryOf N). option_map_or (λ c. signature-same (c, m.meta, m.tree.selector) j) m.class false) i.methods;
  }

-- the names of what is reached are known where those of the image are
module _ {M N : Type 0} (P : M → Type 0) (f : M → N) (w : WordsOf M) (v : WordsOf N) (keeps : KeepsWords P f w v) (i : ImageOf M) (named : ImageNames P i) where
  after-names : (k : ℕ) → ReachNames P (reached_after w i k)
  after-names zero = record { classes = tt; selectors = tt; methods = tt }
  after-names (suc k) = demanded-names P f w v keeps i named (has_class w.tests.same (reached_after w i k)) (has_selector w.tests.same (reached_after w i k)) (has_method w.tests.same (reached_after w i k))

  reach-names : ReachNames P (reach w i)
  reach-names = after-names (size w i (everything w i))

module _ (s : Slots) (o : IsOrderly s) (start : Sequence) (known : SequenceNames (λ n. n < length s.names) (sequence_of start)) where
  abbrev Known : ℕ → Type 0
  Known n = n < length s.names

  abbrev w : WordsOf ℕ
  w = number_words s.names

  abbrev f : ℕ → List ℕ
  f = name_at s.names

  abbrev i : ImageOf ℕ
  i = number_image s

  abbrev with : ImageOf ℕ
  with = plus i (start_of start)

  keeps : KeepsWords Known f w text_words
  keeps = KeepsWords-number_words s.names o.names_distinct

  with-named : ImageNames Known with
  with-named = record {
    classes = o.names_known.classes;
    methods = o.names_known.methods;
    doits = all-append (DoItNames Known) i.doits (start_of start ∷ []) o.names_known.doits (known, tt);
  }

  -- what is left where the marks are what is reached
  pub texts-left : (m : Marks) → IsLeastFor s start m → map_image f (strip nat_eq (reached s m) i) ≡ strip text_eq (reach text_words (plus (image_of s) (map_doit f (start_of start)))) (image_of s)
  texts-left m least =
      ap (map_image f) (strip-same nat_eq i (reached s m) (least_for s start) least.within least.whole)
      ∙ sym (strip-map Known f w text_words keeps i o.names_known (reach w with) (reach-names Known f w text_words keeps with with-named))
      ∙ ap (λ (r : ReachOf (List ℕ)). strip text_eq r (image_of s)) (sym (reach-map Known f w text_words keeps with with-named))
      ∙ ap (λ (k : ImageOf (List ℕ)). strip text_eq (reach text_words k) (image_of s)) (plus-map f i (start_of start))

-- the same of slots that are as they were, and of those that are left
pub left-image : (s t u : Slots) (o : IsOrderly s) (start : Sequence) (known : SequenceNames (λ n. n < length s.names) (sequence_of start)) (m : Marks) → t ≡ s → IsLeastFor t start m
    → number_image u ≡ strip nat_eq (reached t m) (number_image t) → u.names ≡ t.names
    → image_of u ≡ strip text_eq (reach text_words (plus (image_of s) (map_doit (name_at s.names) (start_of start)))) (image_of s)
left-image s t u o start known m same =
    subst
    (λ (x : Slots). IsLeastFor x start m → number_image u ≡ strip nat_eq (reached x m) (number_image x) → u.names ≡ x.names
    → image_of u ≡ strip text_eq (reach text_words (plus (image_of s) (map_doit (name_at s.names) (start_of start)))) (image_of s))
    (sym same)
    (λ least left names. (λ j. map_image (name_at (names j)) (left j)) ∙ texts-left s o start known m least)

-- what is left for an expression that spells the body
pub left-for : (expression : List ℕ) (i j k : ImageOf (List ℕ)) (body : SequenceOf (List ℕ)) → SpellsDoIt Second expression body → j ≡ i
    → k ≡ strip text_eq (reach text_words (plus j (record { source = []; body = body }))) j → IsLeftFor expression i k
left-for expression i j k body spelled same left = record {
  later = plus i (record { source = expression; body = body });
  added = record { body = body; spelled = spelled; added = refl };
  left =
      left
      ∙ ap (λ (x : ImageOf (List ℕ)). strip text_eq (reach text_words (plus x (record { source = []; body = body }))) x) same
      ∙ ap (λ (r : ReachOf (List ℕ)). strip text_eq r i) (reach-same text_words i body [] expression);
}
