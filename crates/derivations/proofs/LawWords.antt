-- The words of the laws stand for themselves, whatever marks there are.
use Rattle.std.proofs.Common.{◌≡◌, ℕ, ◌-◌, ◌<◌, Bool, true, false, List, [], ◌∷◌, ◌++◌, length, Option, Some, None, refl, sym, ap, subst, ◌∙◌}
use Rattle.std.specs.Prelude.{nat_eq, not, ◌||◌, if◌then◌else◌, unwrap_or, option_map}
use Rattle.std.specs.List.{AllByRecursion, list_any}
use Rattle.std.proofs.lemmas.Bool.{false≢true}
use Rattle.std.proofs.lemmas.Option.{slice_get_within}
use Rattle.rb_base.specs.Names.{text_eq, name_at}
use Rattle.same_trees.proofs.Told.{text_told}
use Rattle.event_trees.specs.Naming.{Grows}
use Rattle.pattern_model.specs.Patterns.{PatternOf}
use Rattle.pattern_model.specs.Named.{map_pattern}
use Rattle.patterns.specs.Names.{PatternNames}
use Rattle.rewritten_code.proofs.PatternsSame.{pattern_same}
use Rattle.certified_model.specs.Marks.{Text, plain}
use Rattle.certified_model.specs.Certificates.{CertStep, laws, numbered_law, goes_back, sides_of}
use Rattle.text_steps.specs.TextSteps.{HasWholeSelectors, AreSides}
use Rattle.text_steps.specs.MarkTexts.{mark_in}
use Rattle.derivations.specs.Signs.{Sign, mark_by, is_unary_sign}
use Rattle.derivations.specs.Named.{IsNameFor}
use Rattle.derivations.specs.Words.{law_words, HasText, HasWords, number_at, by_numbers}
use Rattle.derivations.proofs.MarkTexts.{Row, shown}
use Rattle.derivations.proofs.Numbers.{text_at}
use Rattle.derivations.proofs.Composed.{pattern_back, pattern_there}

-- a text that stands for no mark: it begins with neither of their bytes
abbrev pub is_plain : Text → Bool
is_plain [] = false
is_plain (b ∷ bs) = not (nat_eq b 117 || nat_eq b 96)

no_mark_text : (t : Text) (s : Sign) → IsNameFor t s → is_plain t ≡ false
no_mark_text t s n = by (is_unary_sign s) refl
  where
    by : (b : Bool) → is_unary_sign s ≡ b → is_plain t ≡ false
    by true e = ap is_plain (n.spelled ∙ ap (λ (b : Bool). (if b then 117 else 96) ∷ n.digits) e)
    by false e = ap is_plain (n.spelled ∙ ap (λ (b : Bool). (if b then 117 else 96) ∷ n.digits) e)

pub plain_in : (f : ℕ → Text) (rows : List Row) → AllByRecursion (λ (r : Row). IsNameFor r.0 r.1) rows → (t : Text) → is_plain t ≡ true → mark_in (shown f rows) t ≡ plain t
plain_in f [] h t p = refl
plain_in f (r ∷ rs) h t p = by (text_eq r.0 t) refl (plain_in f rs h.1 t p)
  where
    by : (b : Bool) → text_eq r.0 t ≡ b → mark_in (shown f rs) t ≡ plain t → mark_in (shown f (r ∷ rs)) t ≡ plain t
    by true e g = absurd (false≢true (sym (no_mark_text r.0 r.1 h.0) ∙ ap is_plain (text_told r.0 t e) ∙ p))
    by false e g = ap (λ (b : Bool). if b then mark_by f r.1 else mark_in (shown f rs) t) e ∙ g

-- a word of the laws
abbrev pub IsWord : Text → Type 0
IsWord t = (is_plain t ≡ true) × (list_any (text_eq t) law_words ≡ true)

-- sides whose names are words
pub record AreLawful (sides : PatternOf Text × PatternOf Text) : Type 0 where
  pub first : PatternNames IsWord sides.0
  pub second : PatternNames IsWord sides.1
  pub wholes : HasWholeSelectors sides.0 × HasWholeSelectors sides.1

w : (true ≡ true) × (true ≡ true)
w = (refl, refl)

-- so are those of all laws
laws_lawful : AllByRecursion AreLawful laws
laws_lawful = (
  record { first = (w, w, ((tt, tt, (w, tt)), ((tt, tt, (w, tt)), tt))); second = (w, w, ((tt, tt, (w, tt)), ((tt, tt, (w, tt)), tt))); wholes = ((tt, tt, ((tt, tt), ((tt, tt), tt))), (tt, tt, ((tt, tt), ((tt, tt), tt)))) },
  (
    record { first = (w, w, ((tt, tt, (w, tt)), tt)); second = (w, w, ((tt, tt, (w, tt)), ((tt, tt, (w, tt)), tt))); wholes = ((tt, tt, ((tt, tt), tt)), (tt, tt, ((tt, tt), ((tt, tt), tt)))) },
    (
      record { first = (w, w, ((tt, tt, (w, tt)), tt)); second = (w, w, ((tt, tt, (w, tt)), ((tt, tt, (w, tt)), tt))); wholes = ((tt, tt, ((tt, tt), tt)), (tt, tt, ((tt, tt), ((tt, tt), tt)))) },
      (
        record { first = (w, w, ((tt, tt, (w, tt)), tt)); second = (w, w, ((tt, tt, (w, tt)), ((tt, tt, (w, tt)), tt))); wholes = ((tt, tt, ((tt, tt), tt)), (tt, tt, ((tt, tt), ((tt, tt), tt)))) },
        (
          record { first = (w, w, ((tt, tt, (w, tt)), tt)); second = (w, w, ((tt, tt, (w, tt)), ((tt, tt, (w, tt)), tt))); wholes = ((tt, tt, ((tt, tt), tt)), (tt, tt, ((tt, tt), ((tt, tt), tt)))) },
          (
            record { first = (w, w, ((tt, tt, (w, tt)), tt)); second = (w, w, ((tt, tt, (w, tt)), ((tt, tt, (w, tt)), tt))); wholes = ((tt, tt, ((tt, tt), tt)), (tt, tt, ((tt, tt), ((tt, tt), tt)))) },
            (
              record { first = ((w, w, ((tt, tt, (w, tt)), tt)), w, ((tt, tt, (w, tt)), tt)); second = (w, w, ((tt, tt, ((w, w, ((tt, tt, (w, tt)), tt)), tt)), tt)); wholes = (((tt, tt, ((tt, tt), tt)), tt, ((tt, tt), tt)), (tt, tt, (((tt, tt, ((tt, tt), tt)), tt), tt))) },
              (
                record { first = ((w, w, ((tt, tt, (w, tt)), tt)), w, ((tt, tt, (w, tt)), tt)); second = (w, w, ((tt, tt, ((w, w, ((tt, tt, (w, tt)), tt)), tt)), tt)); wholes = (((tt, tt, ((tt, tt), tt)), tt, ((tt, tt), tt)), (tt, tt, (((tt, tt, ((tt, tt), tt)), tt), tt))) },
                (
                  record { first = (tt, tt, (w, ((w, (w, tt, (w, tt, tt))), tt))); second = (tt, tt, (w, ((w, w, tt), ((w, w, tt), tt)))); wholes = ((tt, ((tt, (tt, tt, (tt, tt, tt))), tt)), (tt, ((tt, tt, tt), ((tt, tt, tt), tt)))) },
                  (
                    record { first = (tt, tt, (w, ((w, w, ((tt, tt, (w, tt)), ((tt, tt, (w, tt)), tt))), tt))); second = (tt, tt, (w, ((w, w, ((tt, tt, (w, tt)), ((tt, tt, (w, tt)), tt))), tt))); wholes = ((tt, ((tt, tt, ((tt, tt), ((tt, tt), tt))), tt)), (tt, ((tt, tt, ((tt, tt), ((tt, tt), tt))), tt))) },
                    tt,
                  ),
                ),
              ),
            ),
          ),
        ),
      ),
    ),
  ),
)

numbered_lawful : (n : ℕ) (ls : List (PatternOf Text × PatternOf Text)) (l : PatternOf Text × PatternOf Text) → AllByRecursion AreLawful ls → numbered_law n ls ≡ Some l → AreLawful l
numbered_lawful n [] l h e = let bad : ⊥ = cc in absurd bad
numbered_lawful n (k ∷ ks) l h e = by (nat_eq n 1) e (numbered_lawful (n - 1) ks l h.1)
  where
    by : (b : Bool) → (if b then Some k else numbered_law (n - 1) ks) ≡ Some l → (numbered_law (n - 1) ks ≡ Some l → AreLawful l) → AreLawful l
    by true f g = let same : k ≡ l = cc in subst AreLawful same h.0
    by false f g = g f

turned_lawful : (o : Option (PatternOf Text × PatternOf Text)) (l : PatternOf Text × PatternOf Text) → ((k : PatternOf Text × PatternOf Text) → o ≡ Some k → AreLawful k) → option_map (λ (k : PatternOf Text × PatternOf Text). (k.1, k.0)) o ≡ Some l → AreLawful l
turned_lawful None l h e = let bad : ⊥ = cc in absurd bad
turned_lawful (Some k) l h e =
    let same : (k.1, k.0) ≡ l = cc in
    let is = h k refl in
    subst AreLawful same (record { first = is.second; second = is.first; wholes = (is.wholes.1, is.wholes.0) })

-- and those of a step
pub sides_lawful : (x : CertStep) (l : PatternOf Text × PatternOf Text) → sides_of x ≡ Some l → AreLawful l
sides_lawful x l e = by x.forward e
  where
    back : (b : Bool) → (if b then option_map (λ (k : PatternOf Text × PatternOf Text). (k.1, k.0)) (numbered_law x.law laws) else None) ≡ Some l → AreLawful l
    back true f = turned_lawful (numbered_law x.law laws) l (λ k g. numbered_lawful x.law laws k laws_lawful g) f
    back false f = let bad : ⊥ = cc in absurd bad

    by : (b : Bool) → (if b then numbered_law x.law laws else if goes_back x.law then option_map (λ (k : PatternOf Text × PatternOf Text). (k.1, k.0)) (numbered_law x.law laws) else None) ≡ Some l → AreLawful l
    by true f = numbered_lawful x.law laws l laws_lawful f
    by false f = back (goes_back x.law) f

-- the sides of a law over texts are those over marks
pub are_sides : (f : ℕ → Text) (rows : List Row) → AllByRecursion (λ (r : Row). IsNameFor r.0 r.1) rows → (l : PatternOf Text × PatternOf Text) → AreLawful l → AreSides (mark_in (shown f rows)) l
are_sides f rows h l is = record {
  first = pattern_same IsWord (mark_in (shown f rows)) plain (λ t w. plain_in f rows h t w.0) l.0 is.first;
  second = pattern_same IsWord (mark_in (shown f rows)) plain (λ t w. plain_in f rows h t w.0) l.1 is.second;
  whole = is.wholes.1;
}

-- words have numbers in a table that has them
module _ (names : List Text) (h : HasWords names) where
  all_words : (ws : List Text) (t : Text) → AllByRecursion (HasText names) ws → list_any (text_eq t) ws ≡ true → HasText names t
  all_words [] t k e = let bad : ⊥ = cc in absurd bad
  all_words (w ∷ ws) t k e = by (text_eq t w) refl e (all_words ws t k.1)
    where
      by : (b : Bool) → text_eq t w ≡ b → (b || list_any (text_eq t) ws) ≡ true → (list_any (text_eq t) ws ≡ true → HasText names t) → HasText names t
      by true f g more = subst (HasText names) (sym (text_told t w f)) k.0
      by false f g more = more g

  -- a pattern of words, by their numbers
  pub by_texts : (p : PatternOf Text) → PatternNames IsWord p → map_pattern (name_at names) (by_numbers names p) ≡ p
  by_texts p w = pattern_back IsWord (number_at names) (name_at names) (λ t k. ap (λ (o : Option Text). unwrap_or o []) (text_at names t (all_words law_words t h k.1))) p w

  pub numbers_known : (p : PatternOf Text) → PatternNames IsWord p → PatternNames (λ n. n < length names) (by_numbers names p)
  numbers_known p w = pattern_there IsWord (number_at names) (λ n. n < length names) (λ t k. slice_get_within names (number_at names t) t (text_at names t (all_words law_words t h k.1))) p w

-- a table that grows keeps its words
any_still : (t : Text) (names more : List Text) → HasText names t → HasText (names ++ more) t
any_still t [] more h = let bad : ⊥ = cc in absurd bad
any_still t (n ∷ names) more h = by (text_eq t n) h (any_still t names more)
  where
    by : (b : Bool) → (b || list_any (text_eq t) names) ≡ true → (list_any (text_eq t) names ≡ true → list_any (text_eq t) (names ++ more) ≡ true) → (b || list_any (text_eq t) (names ++ more)) ≡ true
    by true e f = refl
    by false e f = f e

pub text_still : {names later : List Text} (g : Grows names later) (t : Text) → HasText names t → HasText later t
text_still {names} g t h = subst (λ (ns : List Text). HasText ns t) (sym g.grown) (any_still t names g.more h)

pub texts_still : {names later : List Text} (g : Grows names later) (ws : List Text) → AllByRecursion (HasText names) ws → AllByRecursion (HasText later) ws
texts_still g [] h = tt
texts_still g (w ∷ ws) h = (text_still g w h.0, texts_still g ws h.1)

pub words_still : {names later : List Text} (g : Grows names later) → HasWords names → HasWords later
words_still g h = texts_still g law_words h
