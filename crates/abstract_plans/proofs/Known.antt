-- Each name in code that is made anew has a text, since those in what the command makes of the image have.
use Rattle.std.proofs.Common.{ℕ, ◌<◌, false, List, [], ◌∷◌, ◌++◌, length, map}
use Rattle.std.specs.List.{AllByRecursion}
use Rattle.image_model.specs.Image.{EntryOf}
use Rattle.image_model.specs.ImageNames.{EntryNames, ImageNames}
use Rattle.image_model.specs.Words.{number_words}
use Rattle.class_table.specs.Slots.{Slots}
use Rattle.class_table.specs.View.{number_image}
use Rattle.command_model.specs.Accessors.{getter, setter_of, accessing, variable_abstracted}
use Rattle.command_model.specs.MethodEffects.{new_method}
use Rattle.command_model.specs.Numbers.{number_writing}
use Rattle.abstracted_code.specs.declared.abstraction.Abstraction.{Abstraction}
use Rattle.remade_plans.specs.Remade.{entry_after, image_after}
use Rattle.abstract_plans.specs.Abstracted.{remaking_of}

-- a fact of all items, for the first ones
all-first : {X : Type 0} (P : X → Type 0) (xs ys : List X) → AllByRecursion P (xs ++ ys) → AllByRecursion P xs
all-first P [] ys h = tt
all-first P (x ∷ xs) ys h = (h.0, all-first P xs ys h.1)

pub known-after : (s : Slots) (a : Abstraction) → ImageNames (λ n. n < length s.names) (variable_abstracted (number_words s.names) (number_writing s.names) a.self_name a.class a.variable a.setter a.parameter (number_image s))
    → ImageNames (λ n. n < length s.names) (image_after s (remaking_of s a))
known-after s a h =
    let made : List (EntryOf ℕ) = map (entry_after s (remaking_of s a)) (number_image s).methods in
    let w = number_writing s.names in
    let get : EntryOf ℕ = new_method a.class false accessing (w.method_text (getter a.variable)) (getter a.variable) in
    let set : EntryOf ℕ = new_method a.class false accessing (w.method_text (setter_of a.variable a.setter a.parameter)) (setter_of a.variable a.setter a.parameter) in
    record {
      classes = h.classes;
      methods = all-first (EntryNames (λ n. n < length s.names)) made (get ∷ []) (all-first (EntryNames (λ n. n < length s.names)) (made ++ get ∷ []) (set ∷ []) h.methods);
      doits = h.doits;
    }
