-- Questions on the code at places.
use Rattle.std.specs.Prelude.{ℕ, Bool, false, ◌&&◌, Option, slice_get}
use Rattle.std.specs.Option.{option_map_or}
use Rattle.image_model.specs.Image.{EntryOf, DoItOf, ImageOf}
use Rattle.class_table.specs.declared.record.MethodRec.{MethodRec}
use Rattle.class_table.specs.declared.record.DoIt.{DoIt}
use Rattle.class_table.specs.declared.record.Place.{Place}
use Rattle.class_table.specs.declared.record.Place.TheVariants as place
use Rattle.class_table.specs.Slots.{Slots}
use Rattle.class_table.specs.View.{entry_of, doit_of, live_at, number_image}
use Rattle.code_questions.specs.declared.question.Question.{Question}
use Rattle.code_questions.specs.Questions.{is_method_found, is_doit_found}

-- whether the code at a place passes a test of methods or one of do-its; where there is none, it does not
abbrev pub passes_at : (EntryOf ℕ → Bool) → (DoItOf ℕ → Bool) → Slots → Place → Bool
passes_at in_method in_doit s (place.Method k) = option_map_or (λ (m : MethodRec). in_method (entry_of s.classes m)) (live_at s.methods s.method_order k) false
passes_at in_method in_doit s (place.DoIt n) = option_map_or (λ (d : DoIt). in_doit (doit_of d)) (slice_get s.doits n) false

-- whether the code at a place is asked and answers the question
abbrev pub is_place_found : Slots → Question → Place → Bool
is_place_found s q p = passes_at (is_method_found (number_image s) q) (is_doit_found q) s p
