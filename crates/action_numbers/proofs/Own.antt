-- The conditions that composites have of their own.
use Rattle.std.proofs.Common.{◌≡◌, Bool, true, false, not, ◌&&◌, ℕ, ◌<◌, List, [], ◌∷◌, length, find, Option, option_map, refl, sym, ap, ◌∙◌}
use Rattle.std.specs.List.{AllByRecursion}
use Rattle.rb_base.specs.Names.{HasNoTwice, name_at}
use Rattle.image_model.specs.Image.{ImageOf, map_image}
use Rattle.image_model.specs.ImageNames.{ImageNames}
use Rattle.command_model.specs.Asked.{AskedOf, text_asked}
use Rattle.command_model.specs.PartsOfText.{parts_of_text}
use Rattle.command_model.specs.Commands.{CommandOf, AddInstVar, RemoveClass}
use Rattle.command_model.specs.Conditions.{ConditionOf, NoReflection, IsUserClass, HasVariable}
use Rattle.command_model.specs.Located.{Locating}
use Rattle.command_model.specs.Numbers.{number_asked}
use Rattle.command_model.specs.Holds.{holds}
use Rattle.rename_model.specs.Conditions.{has_no_reflection}
use Rattle.command_numbers.specs.CommandNames.{CommandNames, ConditionNames}
use Rattle.command_numbers.specs.MappedCommands.{map_command, map_condition}
use Rattle.command_numbers.specs.WithoutMove.{IsWithoutMove}
use Rattle.session_model.specs.Actions.{ActionOf, Single, CreateAccessors, ExtractSuperclass, PushUpWithMethods}
use Rattle.session_model.specs.OwnConditions.{first_own_false}
use Rattle.commands.specs.Actions.{ActionNames, map_action}
use Rattle.commands.specs.Views.{asked_by, self_in}

-- what is known of single conditions over the numbers of names
abbrev pub HoldsByNumbers : Type 0
HoldsByNumbers =
    (names : List (List ℕ)) (self_number : ℕ) (part_of : Locating) (i : ImageOf ℕ) (command : CommandOf ℕ) (condition : ConditionOf ℕ) → HasNoTwice names → ImageNames (λ n. n < length names) i
    → CommandNames (λ n. n < length names) command → ConditionNames (λ n. n < length names) condition → IsWithoutMove command condition
    → holds text_asked (map_image (name_at names) i) (map_command (name_at names) command) (map_condition (name_at names) condition) ≡ holds (number_asked names self_number part_of) i command condition

-- a condition, and whether it holds; the first one that does not
abbrev Judged : Type 0 → Type 0
Judged N = ConditionOf N × Bool

abbrev first : {N : Type 0} → List (Judged N) → Option (ConditionOf N)
first {N} js = option_map (λ (j : Judged N). j.0) (find (λ (j : Judged N). not j.1) js)

-- of one and of three conditions, with each name changed
first_of_one : {M N : Type 0} (f : M → N) (q : ConditionOf M) (a b : Bool) → a ≡ b → first ((map_condition f q, a) ∷ []) ≡ option_map (map_condition f) (first ((q, b) ∷ []))
first_of_one f q true true e = refl
first_of_one f q false false e = refl
first_of_one f q true false e = absurd (cc)
first_of_one f q false true e = absurd (cc)

first_of_three : {M N : Type 0} (f : M → N) (p q r : ConditionOf M) (a b c : Bool)
    → first ((map_condition f p, a) ∷ (map_condition f q, b) ∷ (map_condition f r, c) ∷ []) ≡ option_map (map_condition f) (first ((p, a) ∷ (q, b) ∷ (r, c) ∷ []))
first_of_three f p q r false b c = refl
first_of_three f p q r true false c = refl
first_of_three f p q r true true false = refl
first_of_three f p q r true true true = refl

and_true : (a b : Bool) → (a && true) ≡ (b && true) → a ≡ b
and_true true true e = refl
and_true false false e = refl
and_true true false e = absurd (cc)
and_true false true e = absurd (cc)

module _ (law : HoldsByNumbers) (names : List (List ℕ)) (i : ImageOf ℕ) (distinct : HasNoTwice names) (known : ImageNames (λ n. n < length names) i) where
  abbrev text : ℕ → List ℕ
  text = name_at names

  -- whether code of a user is reflective
  reflects : (c : ℕ) → c < length names → has_no_reflection text_asked.command_words (map_image text i) ≡ has_no_reflection (asked_by names).command_words i
  reflects c h =
      and_true (has_no_reflection text_asked.command_words (map_image text i)) (has_no_reflection (asked_by names).command_words i)
      (law names (self_in names) parts_of_text i (RemoveClass c) NoReflection distinct known h tt tt)

  pub own-numbers : (action : ActionOf ℕ) → ActionNames (λ n. n < length names) action
      → first_own_false text_asked (map_image text i) (map_action text action) ≡ option_map (map_condition text) (first_own_false (asked_by names) i action)
  own-numbers (Single command) h = refl
  own-numbers (CreateAccessors c x s parameter) h =
      (λ j. first
      ((NoReflection, reflects c h.0 j)
      ∷ (IsUserClass (text c), law names (self_in names) parts_of_text i (AddInstVar c x) (IsUserClass c) distinct known (h.0, h.1) h.0 tt j)
      ∷ (HasVariable (text c) (text x), law names (self_in names) parts_of_text i (AddInstVar c x) (HasVariable c x) distinct known (h.0, h.1) (h.0, h.1) tt j)
      ∷ []))
      ∙ first_of_three text NoReflection (IsUserClass c) (HasVariable c x)
      (has_no_reflection (asked_by names).command_words i) (holds (asked_by names) i (AddInstVar c x) (IsUserClass c)) (holds (asked_by names) i (AddInstVar c x) (HasVariable c x))
  own-numbers (ExtractSuperclass d p under) h =
      first_of_one text NoReflection (has_no_reflection text_asked.command_words (map_image text i)) (has_no_reflection (asked_by names).command_words i) (reflects d h.0)
  own-numbers (PushUpWithMethods c x) h =
      first_of_one text NoReflection (has_no_reflection text_asked.command_words (map_image text i)) (has_no_reflection (asked_by names).command_words i) (reflects c h.0)
