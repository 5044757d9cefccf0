-- Names by which code of the user looks at the program itself, as they are looked for by their texts.
use Rattle.std.specs.Prelude.{ℕ, List, [], ◌∷◌, Bool, false, codes}
use Rattle.std.specs.List.{list_any}
use Rattle.std.specs.Option.{option_map_or}
use Rattle.rb_base.specs.Names.{number_in}
use Rattle.class_table.specs.Slots.{Slots}
use Rattle.class_table.specs.View.{number_image}
use Rattle.code_questions.specs.declared.question.Way.{Way}
use Rattle.code_questions.specs.declared.question.Whose.TheVariants as whose
use Rattle.code_questions.specs.Questions.{is_found}

-- the names that stand for the program itself or for what runs it
abbrev pub reflective_names : List (List ℕ)
reflective_names = codes "thisContext" ∷ codes "Smalltalk" ∷ []

-- whether a text is a name that code of the user has in a way
unfoldable pub is_text_found : Slots → Way → List ℕ → Bool
is_text_found s how t = option_map_or (λ n. is_found (number_image s) (record { whose = whose.Users; what = how; name = n })) (number_in s.names t) false

-- whether one of the texts is
abbrev pub is_one_found : Slots → Way → List (List ℕ) → Bool
is_one_found s how texts = list_any (is_text_found s how) texts
