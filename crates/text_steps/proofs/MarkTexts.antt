-- A table of texts that stand for marks names them.
use Rattle.std.proofs.Common.{◌≡◌, refl, sym, ap, ◌∙◌, List, [], ◌∷◌, Bool, true, false, Option, None}
use Rattle.std.specs.Prelude.{if◌then◌else◌}
use Rattle.std.specs.List.{AllByRecursion}
use Rattle.std.proofs.lemmas.Bool.{false≢true}
use Rattle.rb_base.specs.Names.{text_eq}
use Rattle.rb_base.proofs.NamesLemmas.{text_eq-refl}
use Rattle.same_trees.proofs.Told.{text_told}
use Rattle.scope_model.specs.declared.local.ControlForm.TheVariants.{NoControl}
use Rattle.scope_model.specs.SpecialNames.{is_pseudo_variable, control_form}
use Rattle.text_model.specs.Literals.{is_identifier}
use Rattle.pattern_model.specs.Words.{text_keywords}
use Rattle.certified_model.specs.Marks.{Text, Mark, plain, marked, marked_unary, marked_whole, in_keywords, is_same_mark, of_plain, is_unary_mark, mark_words}
use Rattle.certified_rules.proofs.MarkWords.{mark_words_are}
use Rattle.text_steps.specs.TextSteps.{IsNaming}
use Rattle.text_steps.specs.MarkTexts.{mark_in, MayStandFor, AreApart, AreMarks}

-- a mark that is no name
no_plain : {A : Type 0} (f : Text → A) (d : A) (m : Mark) → ((n : Text) → m ≡ plain n → ⊥) → of_plain f d m ≡ d
no_plain f d (plain n) h = absurd (h n refl)
no_plain f d (marked k n) h = refl
no_plain f d (marked_unary k n) h = refl
no_plain f d (marked_whole k n) h = refl
no_plain f d (in_keywords ks) h = refl

plain_same : (a b : Text) → plain a ≡ plain b → a ≡ b
plain_same a b e = cc

-- a mark that no entry has is no text's
elsewhere : (m : Text × Mark) → MayStandFor m → (ms : List (Text × Mark)) → AllByRecursion (AreApart m) ms → (b : Text) → m.1 ≡ mark_in ms b → ⊥
elsewhere m h [] a b e = h.no_name b e
elsewhere m h (k ∷ ms) a b e = by (text_eq k.0 b) e (elsewhere m h ms a.1 b)
  where
    by : (x : Bool) → m.1 ≡ (if x then k.1 else mark_in ms b) → (m.1 ≡ mark_in ms b → ⊥) → ⊥
    by true e on = a.0.marks e
    by false e on = on e

-- two texts of one mark are the same
one_text : (ms : List (Text × Mark)) → AreMarks ms → (a b : Text) → mark_in ms a ≡ mark_in ms b → a ≡ b
one_text [] h a b e = plain_same a b e
one_text (m ∷ ms) h a b e = by (text_eq m.0 a) refl (text_eq m.0 b) refl e (one_text ms h.2 a b)
  where
    by : (x : Bool) → text_eq m.0 a ≡ x → (y : Bool) → text_eq m.0 b ≡ y → (if x then m.1 else mark_in ms a) ≡ (if y then m.1 else mark_in ms b) → (mark_in ms a ≡ mark_in ms b → a ≡ b) → a ≡ b
    by true p true q e on = sym (text_told m.0 a p) ∙ text_told m.0 b q
    by true p false q e on = absurd (elsewhere m h.0 ms h.1 b e)
    by false p true q e on = absurd (elsewhere m h.0 ms h.1 a (sym e))
    by false p false q e on = on e

-- what is asked of texts
asked : {A : Type 0} (f : Text → A) (d : A) (ms : List (Text × Mark)) → AreMarks ms → AllByRecursion (λ (m : Text × Mark). f m.0 ≡ d) ms → (a : Text) → f a ≡ of_plain f d (mark_in ms a)
asked f d [] h k a = refl
asked f d (m ∷ ms) h k a = by (text_eq m.0 a) refl (asked f d ms h.2 k.1 a)
  where
    by : (x : Bool) → text_eq m.0 a ≡ x → f a ≡ of_plain f d (mark_in ms a) → f a ≡ of_plain f d (if x then m.1 else mark_in ms a)
    by true p on = ap f (sym (text_told m.0 a p)) ∙ k.0 ∙ sym (no_plain f d m.1 h.0.no_name)
    by false p on = on

unary : (ms : List (Text × Mark)) → AreMarks ms → (a : Text) → is_identifier a ≡ is_unary_mark (mark_in ms a)
unary [] h a = refl
unary (m ∷ ms) h a = by (text_eq m.0 a) refl (unary ms h.2 a)
  where
    by : (x : Bool) → text_eq m.0 a ≡ x → is_identifier a ≡ is_unary_mark (mark_in ms a) → is_identifier a ≡ is_unary_mark (if x then m.1 else mark_in ms a)
    by true p on = ap is_identifier (sym (text_told m.0 a p)) ∙ h.0.is_unary
    by false p on = on

all_pseudo : (ms : List (Text × Mark)) → AreMarks ms → AllByRecursion (λ (m : Text × Mark). is_pseudo_variable m.0 ≡ false) ms
all_pseudo [] h = tt
all_pseudo (m ∷ ms) h = (h.0.is_pseudo, all_pseudo ms h.2)

all_forms : (ms : List (Text × Mark)) → AreMarks ms → AllByRecursion (λ (m : Text × Mark). control_form m.0 ≡ NoControl) ms
all_forms [] h = tt
all_forms (m ∷ ms) h = (h.0.form, all_forms ms h.2)

all_keywords : (ms : List (Text × Mark)) → AreMarks ms → AllByRecursion (λ (m : Text × Mark). text_keywords m.0 ≡ None) ms
all_keywords [] h = tt
all_keywords (m ∷ ms) h = (h.0.keywords, all_keywords ms h.2)

told_alike : (ms : List (Text × Mark)) → AreMarks ms → (a b : Text) → text_eq a b ≡ is_same_mark (mark_in ms a) (mark_in ms b)
told_alike ms h a b = by (text_eq a b) refl (is_same_mark (mark_in ms a) (mark_in ms b)) refl
  where
    by : (x : Bool) → text_eq a b ≡ x → (y : Bool) → is_same_mark (mark_in ms a) (mark_in ms b) ≡ y → x ≡ y
    by true p true q = refl
    by false p false q = refl
    by true p false q = absurd (false≢true (sym q ∙ sym (ap (λ (t : Text). is_same_mark (mark_in ms a) (mark_in ms t)) (text_told a b p)) ∙ mark_words_are.refl (mark_in ms a)))
    by false p true q = absurd (false≢true (sym p ∙ ap (text_eq a) (sym (one_text ms h a b (mark_words_are.told (mark_in ms a) (mark_in ms b) q))) ∙ text_eq-refl a))

pub names_marks : (ms : List (Text × Mark)) → AreMarks ms → IsNaming (mark_in ms)
names_marks ms h = record {
  same = told_alike ms h;
  is_pseudo = asked is_pseudo_variable false ms h (all_pseudo ms h);
  form = asked control_form NoControl ms h (all_forms ms h);
  is_unary = unary ms h;
  keywords = asked text_keywords None ms h (all_keywords ms h);
}
