-- The changes by which a rule is applied in an image.
use Rattle.std.specs.Prelude.{◌≡◌, ℕ, zero, suc, ◌<◌, Bool, true, false, not, ◌&&◌, if◌then◌else◌, List, [], ◌∷◌, ◌++◌, length, map, Option, Some, slice_get}
use Rattle.std.specs.List.{AllByRecursion, concat}
use Rattle.rb_base.specs.Names.{name_at, text_eq, HasNoTwice}
use Rattle.tree_model.specs.Tree.{SequenceOf, map_sequence}
use Rattle.tree_model.specs.AllNames.{SequenceNames}
use Rattle.st_tree.specs.View.{sequence_of}
use Rattle.event_trees.specs.Naming.{Grows}
use Rattle.query_model.specs.Lines.{Text}
use Rattle.image_model.specs.Image.{ImageOf}
use Rattle.class_table.specs.declared.record.MethodRec.{MethodRec}
use Rattle.class_table.specs.declared.record.DoIt.{DoIt}
use Rattle.class_table.specs.declared.record.Place.{Place}
use Rattle.class_table.specs.declared.record.Place.TheVariants as place
use Rattle.class_table.specs.Slots.{Slots}
use Rattle.class_table.specs.View.{live_at, image_of}
use Rattle.class_table.specs.Valid.{IsOrderly}
use Rattle.change_set.specs.declared.change.Change.{Change}
use Rattle.change_set.specs.declared.change.Change.TheVariants as change
use Rattle.change_set.specs.Changes.{all_applied, CanApplyAll}
use Rattle.wider_slots.specs.Closed.{FitsIn}
use Rattle.reference_index.specs.Mentioned.{DiffersAtMost}
use Rattle.pattern_model.specs.Words.{text_pattern_words}
use Rattle.pattern_model.specs.Rewritten.{RuleOf, rewritten_sequence}
use Rattle.patterns.specs.declared.tree.Rule.{Rule}
use Rattle.rewrite_model.specs.Notes.{equal_sequence}
use Rattle.rewrite_model.specs.Rewritten.{rewritten_image}
use Rattle.remade_plans.specs.Remade.{Remaking, change_at}
use Rattle.image_rewriting.specs.Changed.{rule_of}

-- the place of a text in a table, its number
abbrev pub place_of : List Text → Text → ℕ
place_of [] t = 0
place_of (x ∷ xs) t = if text_eq t x then 0 else suc (place_of xs t)

-- the slots with other names
abbrev pub renamed : Slots → List Text → Slots
renamed s names = record s { names = names }

module _ (names : List Text) (r : Rule) where
  -- what the rule makes of a body, over texts and over numbers, and whether that is another body, comments counted
  abbrev pub text_after : SequenceOf ℕ → SequenceOf Text
  text_after b = rewritten_sequence text_pattern_words concat (rule_of names r) (map_sequence (name_at names) b)

  abbrev pub number_after : SequenceOf ℕ → SequenceOf ℕ
  number_after b = map_sequence (place_of names) (text_after b)

  abbrev pub is_changed : SequenceOf ℕ → Bool
  is_changed b = not (equal_sequence text_eq (map_sequence (name_at names) b) (text_after b))

  -- what is made anew
  abbrev pub remaking : Remaking
  remaking = record {
    is_method_remade = λ m. not m.kernel && is_changed m.tree.body;
    method_after = λ m. record m.tree { body = number_after m.tree.body };
    is_doit_remade = λ d. is_changed d.body;
    body_after = λ b. number_after b;
  }

  -- each text in what the rule makes of a body has a number
  pub record HasNumbers (b : SequenceOf ℕ) : Type 0 where
    pub texts : map_sequence (name_at names) (number_after b) ≡ text_after b
    pub known : SequenceNames (λ n. n < length names) (number_after b)

  -- the same of the code at a place, where the rule changes it
  abbrev pub HasNumbersAt : Slots → Place → Type 0
  HasNumbersAt s (place.Method k) = (m : MethodRec) → live_at s.methods s.method_order k ≡ Some m → m.kernel ≡ false → is_changed (sequence_of m.tree.body) ≡ true → HasNumbers (sequence_of m.tree.body)
  HasNumbersAt s (place.DoIt n) = (d : DoIt) → slice_get s.doits n ≡ Some d → is_changed (sequence_of d.body) ≡ true → HasNumbers (sequence_of d.body)

-- this is the change of the code at a place, whatever names the table has later
pub record IsFound (s : Slots) (names : List Text) (r : Rule) (p : Place) (found : Option Change) : Type 0 where
  pub change : (later : List Text) → Grows names later → HasNoTwice later → found ≡ change_at (renamed s later) (remaking later r) p
  pub numbers : (later : List Text) → Grows names later → HasNoTwice later → HasNumbersAt later r s p

-- the places of the first do-its, and those of all code
abbrev pub doit_places : ℕ → List Place
doit_places zero = []
doit_places (suc n) = doit_places n ++ place.DoIt n ∷ []

abbrev pub places_of : Slots → List Place
places_of s = map place.Method s.method_order ++ doit_places (length s.doits)

-- what a change puts in stands there: a live method of a user, or a do-it
abbrev pub StandsIn : Slots → Change → Type 0
StandsIn s (change.Class id rec) = ⊥
StandsIn s (change.Method k m) = (m.kernel ≡ false) × (live_at s.methods s.method_order k ≡ Some m)
StandsIn s (change.DoIt n d) = slice_get s.doits n ≡ Some d
StandsIn s (change.Part at path part source) = ⊥
StandsIn s (change.Live what at) = ⊥

-- The changes can be applied, each at its turn, and make the image what the rule makes of it, over the same table of names; what each puts in stands there then, and code that mentions other names then stands at one of the places.
pub record IsRulePlan (s : Slots) (rule : RuleOf Text) (changes : List Change) (places : List Place) : Type 0 where
  pub can : CanApplyAll s changes
  pub fit : AllByRecursion (FitsIn s) changes
  pub effect : image_of (all_applied s changes) ≡ rewritten_image rule (image_of s)
  pub names : (all_applied s changes).names ≡ s.names
  pub orderly : IsOrderly (all_applied s changes)
  pub standing : AllByRecursion (StandsIn (all_applied s changes)) changes
  pub touched : DiffersAtMost s (all_applied s changes) places
