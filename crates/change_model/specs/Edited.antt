-- What edits make, one after the other, by the rules of file-outs.
use Rattle.std.specs.Prelude.{◌≡◌, ℕ, suc, ◌-◌, ◌==◌, nat_le, List, [], ◌∷◌, ◌++◌, length, slice_set, false, not, ◌&&◌, ◌||◌, Some, None, Result, Ok, Err}
use Rattle.std.specs.Option.{option_map_or}
use Rattle.std.specs.Result.{result_map_both}
use Rattle.rb_base.specs.Names.{text_eq}
use Rattle.token_model.specs.declared.kind.Dialect.TheVariants.{Second}
use Rattle.chunk_format.specs.Blank.{blank_len}
use Rattle.image_model.specs.Image.{EntryOf, DoItOf, ImageOf}
use Rattle.file_model.specs.Causes.{Cause, UnknownDefinition, Condition, when, first_cause, unless}
use Rattle.file_model.specs.Changes.{ChangeOf, DefineAt}
use Rattle.file_model.specs.Filing.{Text}
use Rattle.file_model.specs.Forms.{form_of, is_doit}
use Rattle.file_model.specs.Places.{PlacesOf, no_places, places_after, opened_at, with_method_place, placed}
use Rattle.file_model.specs.Refusals.{run_refusals, method_refusals}
use Rattle.file_model.specs.Applied.{changed, with_method}
use Rattle.file_model.specs.Written.{run_of}
use Rattle.change_model.specs.Edits.{Edit, Settle, Change, Put, Replace}

-- the image while edits are made, and the places that are stated and not settled yet
pub record Stage : Type 0 where
  pub image : ImageOf Text
  pub places : PlacesOf Text

-- the image with a method of a user in place of the former one, or last
abbrev pub with_put : EntryOf Text → ImageOf Text → ImageOf Text
with_put m i = record i { methods = with_method text_eq false (run_of m) m.source m.tree i.methods }

-- the image with another do-it of a number
abbrev pub with_doit_at : ℕ → DoItOf Text → ImageOf Text → ImageOf Text
with_doit_at k d i = record i { doits = slice_set i.doits (k - 1) d }

-- the places once a method is put in at a place
abbrev pub places_put : EntryOf Text → ℕ → PlacesOf Text → PlacesOf Text
places_put m k places = opened_at (Some (suc k)) (with_method_place (run_of m).class m.meta m.tree.selector k places)

-- what refuses a place that is stated: places are counted from 1
abbrev pub place_refusals : ℕ → List Condition
place_refusals k = when (not (nat_le 1 k)) UnknownDefinition ∷ []

-- what refuses the place that a change states, where it states one
abbrev pub change_refusals : ChangeOf Text → List Condition
change_refusals (DefineAt d k) = place_refusals k
change_refusals c = []

-- what refuses a method that is put in at a place
abbrev pub put_refusals : EntryOf Text → ℕ → ImageOf Text → List Condition
put_refusals m k i =
    place_refusals k ++ (run_refusals text_eq i.classes (run_of m) ++ method_refusals text_eq i.methods (run_of m) m.tree.selector)

-- what refuses the replacement of a do-it: there is none of its number, or the new one is no do-it as a chunk of its own
abbrev pub doit_refusals : ℕ → DoItOf Text → ImageOf Text → List Condition
doit_refusals k d i =
    when (not (nat_le 1 k && nat_le k (length i.doits))) UnknownDefinition
    ∷ when (length d.source == 0 || not (blank_len d.source == 0)) UnknownDefinition
    ∷ when (not (is_doit (form_of Second false d.body))) UnknownDefinition ∷ []

-- what an edit makes, or the cause of its refusal; what the reader of its chunks refuses before that, as a name that is no identifier, is not asked here
abbrev pub edited : Edit → Stage → Result Stage Cause
edited Settle s = Ok (record { image = placed text_eq s.places s.image; places = no_places })
edited (Change c) s =
    option_map_or Err (first_cause (change_refusals c))
    (result_map_both (λ i. record { image = i; places = places_after text_eq c s.places }) (λ e. e) (changed text_eq false c s.image))
edited (Put m k) s = unless (put_refusals m k s.image) (record { image = with_put m s.image; places = places_put m k s.places })
edited (Replace k d) s =
    unless (doit_refusals k d s.image) (record { image = with_doit_at k d s.image; places = opened_at None s.places })

-- edits one after the other
pub data AreMade : List Edit → Stage → Stage → Type 0 where
  Over : {s : Stage} → AreMade [] s s
  Made : {e : Edit} {es : List Edit} {s t u : Stage} → edited e s ≡ Ok t → AreMade es t u → AreMade (e ∷ es) s u
