-- One step on a tree over numbers is the step over the marks.
use Rattle.std.proofs.Common.{◌≡◌, ℕ, ◌<◌, true, false, List, ◌∷◌, length, Option, Some, None, refl, sym, ap, subst, ◌∙◌}
use Rattle.std.specs.Prelude.{option_map, option_and_then, Result, Ok, Err, OnOk, OnErr, is_ok}
use Rattle.rb_base.specs.Names.{name_at, HasNoTwice}
use Rattle.tree_model.specs.Tree.{TreeOf, SequenceOf, map_names}
use Rattle.tree_model.specs.AllNames.{AllNames}
use Rattle.tree_model.specs.Path.{part_at, part_in, replaced, replaced_in}
use Rattle.tree_model.proofs.Parts.{part_at-map_names, replaced-map_names}
use Rattle.image_model.specs.ImageNames.{OptionNames}
use Rattle.wider_slots.proofs.Trees.{part_in-names, replaced_in-names}
use Rattle.event_trees.specs.Naming.{Grows}
use Rattle.rewritten_code.proofs.Growing.{tree_known}
use Rattle.pattern_model.specs.Patterns.{PatternOf}
use Rattle.pattern_model.specs.Named.{map_pattern}
use Rattle.patterns.specs.Names.{PatternNames}
use Rattle.certified_model.specs.Marks.{Text, Mark}
use Rattle.certified_model.specs.Certificates.{CertStep, sides_of, turned, take_step}
use Rattle.text_steps.specs.TextSteps.{AreSides}
use Rattle.text_steps.specs.MarkTexts.{mark_in}
use Rattle.derivations.specs.Numbered.{Table}
use Rattle.derivations.specs.Words.{HasWords, by_numbers}
use Rattle.derivations.specs.Turned.{turned_at}
use Rattle.derivations.specs.Taken.{only, IsTable, mark_at, marks_of, AreKnown, IsOne, IsMade, IsTaken}
use Rattle.derivations.proofs.MarkTexts.{texts}
use Rattle.derivations.proofs.Growing.{same_marks, still_table, same_texts}
use Rattle.derivations.proofs.LawWords.{AreLawful, sides_lawful, are_sides, by_texts, numbers_known}
use Rattle.derivations.proofs.TurnedMarks.{mark_turned, marks_are}

abbrev pub Sides : Type 0 → Type 0
Sides N = PatternOf N × PatternOf N

-- sides of words, by their numbers
abbrev pub numbered_sides : List Text → Sides Text → Sides ℕ
numbered_sides names s = (by_numbers names s.0, by_numbers names s.1)

-- what the sides of a step are of
sides_are : (names : List Text) (o : Option (Sides Text)) (s : Sides ℕ) → Some s ≡ option_map (numbered_sides names) o → (l : Sides Text) × (o ≡ Some l) × (s ≡ numbered_sides names l)
sides_are names None s e = let bad : ⊥ = cc in absurd bad
sides_are names (Some l) s e = (l, refl, cc)

-- a step whose law has sides
takes_some : (x : CertStep) (m : TreeOf Mark) (l : Sides Text) → sides_of x ≡ Some l → take_step x m ≡ option_and_then (λ u. option_map (λ v. replaced m x.path v) (turned l u)) (part_at m x.path)
takes_some x m l e = ap (λ (o : Option (Sides Text)). option_and_then (λ sides. option_and_then (λ u. option_map (λ v. replaced m x.path v) (turned sides u)) (part_at m x.path)) o) e

module _ (names : List Text) (distinct : HasNoTwice names) (words : HasWords names) (table : Table) (h : IsTable names table) (x : CertStep) (s : Sides ℕ) (is : Some s ≡ option_map (numbered_sides names) (sides_of x)) where
  abbrev found : (l : Sides Text) × (sides_of x ≡ Some l) × (s ≡ numbered_sides names l)
  found = sides_are names (sides_of x) s is

  lawful : AreLawful found.0
  lawful = sides_lawful x found.0 found.1

  -- the sides have known names
  pub first_known : PatternNames (λ n. n < length names) s.0
  first_known = subst (λ (r : Sides ℕ). PatternNames (λ n. n < length names) r.0) (sym found.2) (numbers_known names words found.0.0 lawful.first)

  pub second_known : PatternNames (λ n. n < length names) s.1
  second_known = subst (λ (r : Sides ℕ). PatternNames (λ n. n < length names) r.1) (sym found.2) (numbers_known names words found.0.1 lawful.second)

  -- and are those of the law
  side_texts : ◌≡◌ {A = Sides Text} (map_pattern (name_at names) s.0, map_pattern (name_at names) s.1) found.0
  side_texts =
      ap (λ (r : Sides ℕ). (map_pattern (name_at names) r.0, map_pattern (name_at names) r.1)) found.2
      ∙ (λ i. (by_texts names words found.0.0 lawful.first i, by_texts names words found.0.1 lawful.second i))

  module _ (t : TreeOf ℕ) (known : AreKnown names t) where
    abbrev marks : TreeOf Mark
    marks = marks_of names table t

    -- the path leads nowhere
    pub takes_nowhere : part_at t x.path ≡ None → take_step x marks ≡ None
    takes_nowhere e =
        takes_some x marks found.0 found.1
        ∙ ap (option_and_then (λ u. option_map (λ v. replaced marks x.path v) (turned found.0 u))) (part_at-map_names (mark_at names table) t x.path ∙ ap (option_map (map_names (mark_at names table))) e)

    module _ (u : TreeOf ℕ) (part : part_at t x.path ≡ Some u) where
      -- which is known
      pub part_known : AreKnown names u
      part_known = by (part_at t x.path) part (part_in-names (λ n. n < length names) (only t) (0 ∷ x.path) (record { temporaries = tt; statements = (known, tt) }))
        where
          by : (o : Option (TreeOf ℕ)) → o ≡ Some u → OptionNames (AllNames (λ n. n < length names)) o → AreKnown names u
          by None e a = let bad : ⊥ = cc in absurd bad
          by (Some v) e a = let same : v ≡ u = cc in subst (AreKnown names) same a

      part_marks : part_at marks x.path ≡ Some (marks_of names table u)
      part_marks = part_at-map_names (mark_at names table) t x.path ∙ ap (option_map (map_names (mark_at names table))) part

      law_at : take_step x marks ≡ option_map (λ v. replaced marks x.path v) (option_map (map_names (mark_in (texts names distinct table h))) (turned_at table names s u))
      law_at =
          takes_some x marks found.0 found.1
          ∙ ap (option_and_then (λ w. option_map (λ v. replaced marks x.path v) (turned found.0 w))) part_marks
          ∙ ap (option_map (λ v. replaced marks x.path v))
          (ap (λ (r : Sides Text). turned r (marks_of names table u)) (sym side_texts)
          ∙ sym (mark_turned names distinct table h s first_known u part_known (subst (AreSides (mark_in (texts names distinct table h))) (sym side_texts) (are_sides (name_at names) h.named.rows h.named.named found.0 lawful))))

      -- the law does not fit there
      pub takes_unfit : turned_at table names s u ≡ None → take_step x marks ≡ None
      takes_unfit e = law_at ∙ ap (λ (o : Option (TreeOf Text)). option_map (λ v. replaced marks x.path v) (option_map (map_names (mark_in (texts names distinct table h))) o)) e

      -- it fits
      module _ {later : List Text} (g : Grows names later) (apart : HasNoTwice later) (v : TreeOf ℕ) (turns : Some (map_names (name_at later) v) ≡ turned_at table names s u) (made : AreKnown later v) where
        pub step_made : (after : SequenceOf ℕ) → after ≡ replaced_in (only t) (0 ∷ x.path) v → IsMade names later table x t after
        step_made after e = record {
          tree = replaced t x.path v;
          is = e;
          known = (replaced_in-names (λ n. n < length later) v made (only t) (0 ∷ x.path) (record { temporaries = tt; statements = (tree_known g t known, tt) })).statements.0;
          made =
              law_at
              ∙ ap (λ (o : Option (TreeOf Text)). option_map (λ w. replaced marks x.path w) (option_map (map_names (mark_in (texts names distinct table h))) o)) (sym turns)
              ∙ ap Some
              ((λ i. replaced (sym (same_marks g distinct table h t known) i) x.path (new i))
              ∙ replaced-map_names (mark_at later table) t x.path v);
        }
          where
            new : map_names (mark_in (texts names distinct table h)) (map_names (name_at later) v) ≡ marks_of later table v
            new =
                ap (λ (rows : List (Text × Mark)). map_names (mark_in rows) (map_names (name_at later) v)) (sym (same_texts g distinct table h))
                ∙ marks_are later apart table (still_table h g) v made

-- a step of the program
module _ (names : List Text) (table : Table) (x : CertStep) (before after : SequenceOf ℕ) where
  module _ (distinct : HasNoTwice names) (words : HasWords names) (h : IsTable names table) (s : Sides ℕ) (o : Option (Sides ℕ)) (some : o ≡ Some s) (e : o ≡ option_map (numbered_sides names) (sides_of x)) where
    abbrev sides : Some s ≡ option_map (numbered_sides names) (sides_of x)
    sides = sym some ∙ e

    -- where its path leads in the one tree
    part_of : (t : TreeOf ℕ) → before ≡ only t → (p : Option (TreeOf ℕ)) → part_in before (0 ∷ x.path) ≡ p → part_at t x.path ≡ p
    part_of t is p f = sym (ap (λ (b : SequenceOf ℕ). part_in b (0 ∷ x.path)) is) ∙ f

    pub taken_nowhere : (later : List Text) → part_in before (0 ∷ x.path) ≡ None → IsTaken names later table x before after false
    taken_nowhere later f t is k = takes_nowhere names distinct words table h x s sides t k (part_of t is None f)

    module _ (u : TreeOf ℕ) (f : part_in before (0 ∷ x.path) ≡ Some u) where
      pub part_is_known : IsOne names before → AreKnown names u
      part_is_known one = part_known names distinct words table h x s sides one.tree one.known u (part_of one.tree one.is (Some u) f)

      pub taken_unfit : (later : List Text) → None ≡ turned_at table names s u → IsTaken names later table x before after false
      taken_unfit later n t is k = takes_unfit names distinct words table h x s sides t k u (part_of t is (Some u) f) (sym n)

      pub taken_on : {later : List Text} (g : Grows names later) (apart : HasNoTwice later) (v : TreeOf ℕ) → Some (map_names (name_at later) v) ≡ turned_at table names s u → AreKnown later v
          → after ≡ replaced_in before (0 ∷ x.path) v → IsTaken names later table x before after true
      taken_on g apart v turns made new t is k =
          step_made names distinct words table h x s sides t k u (part_of t is (Some u) f) g apart v turns made after
          (new ∙ ap (λ (b : SequenceOf ℕ). replaced_in b (0 ∷ x.path) v) is)

-- what is put where a path leads is put
pub ok_of : {A E : Type 0} (r : Result A E) (P : Type 0) (o : Option (TreeOf ℕ)) (u : TreeOf ℕ) → OnOk r P → OnErr r (o ≡ None) → o ≡ Some u → (is_ok r ≡ true) × P
ok_of (Ok a) P o u p n s = (refl, p)
ok_of (Err e) P o u p n s = let bad : None ≡ Some u = sym n ∙ s in let false_fact : ⊥ = cc bad in absurd false_fact
