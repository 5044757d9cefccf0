-- The maps of classes and selectors say what the renaming of the present version says.
use Rattle.std.proofs.Common.{◌≡◌, ◌<◌, ℕ, List, [], ◌∷◌, ◌++◌, length, map, Some, None, refl, sym, ap, ◌∙◌, subst, arith}
use Rattle.std.specs.Prelude.{Bool, true, false, cond, flat_map, option_map, unwrap_or, Result, Ok, Err, IfOk}
use Rattle.std.specs.List.{AllByRecursion}
use Rattle.std.proofs.lemmas.Grind.{flat_map-append}
use Rattle.rb_base.specs.Names.{HasNoTwice, name_at, text_eq}
use Rattle.image_model.specs.Image.{ImageOf}
use Rattle.run_model.specs.Values.{Name}
use Rattle.run_model.specs.Renamings.{Renaming, no_renaming, composed, mapped, class_image, selector_image}
use Rattle.run_model.proofs.RenamingLemmas.{is-composite}
use Rattle.class_table.specs.Slots.{Slots}
use Rattle.name_meanings.specs.declared.meaning.VariableKind.TheVariants as kind
use Rattle.commands.specs.declared.command.Renaming.TheVariants as renaming
use Rattle.new_names.specs.NewNames.{IsKnownName, map_of, texts_of, text_after}
use Rattle.new_names.specs.Shown.{ShowsTheSame}
use Rattle.new_names.specs.declared.compose.NewName.{NewName}
use Rattle.session.specs.Log.{DoneCommand, Done, Log, RenamesNames, CommandsKnown, EntriesKnown, IsLogOf}
use Rattle.session.specs.History.{renaming_in, renames_done, images_judged, renamed_along, history_of}
use Rattle.session.specs.Called.{class_named, selector_named, classes_called, selectors_called, shown_by}
use Rattle.session.specs.declared.renames.Renames.{Renames}
use Rattle.session.specs.declared.renames.Renames.TheVariants as renames
use Rattle.session.specs.declared.renames.AllRenames.{AllRenames}
use Rattle.session.proofs.Renamed.{of_entry, all_of, all-first, judged-length, all-renamed}

all-both : {X : Type 0} (P : X → Type 0) (xs ys : List X) → AllByRecursion P xs → AllByRecursion P ys → AllByRecursion P (xs ++ ys)
all-both P [] ys left right = right
all-both P (x ∷ xs) ys left right = (left.0, all-both P xs ys left.1 right)

-- a map with one entry
one-entry : (a b t : Name) → mapped text_eq ((a, b) ∷ []) t t ≡ cond (text_eq t a) b t
one-entry a b t = by (text_eq t a)
  where
    by : (c : Bool) → unwrap_or (option_map (λ (e : Name × Name). e.1) (cond c (Some (a, b)) None)) t ≡ cond c b t
    by true = refl
    by false = refl

module _ (names : List (List ℕ)) where
  -- what one command renames
  class-one : (i : ImageOf Name) (x : Renames) (t : Name) → class_image (renaming_in names i x) t ≡ text_after names (class_named x) t
  class-one i renames.Nothing t = refl
  class-one i (renames.Renaming (renaming.Class c d)) t = one-entry (name_at names c) (name_at names d) t
  class-one i (renames.Renaming (renaming.Variable kind.Instance c x y)) t = refl
  class-one i (renames.Renaming (renaming.Variable kind.ClassSide c x y)) t = refl
  class-one i (renames.Renaming (renaming.Variable kind.Shared c x y)) t = refl
  class-one i (renames.Renaming (renaming.Selector s u)) t = refl
  class-one i (renames.Moved c x d) t = refl
  class-one i (renames.Temporary m x y) t = refl

  selector-one : (i : ImageOf Name) (x : Renames) (t : Name) → selector_image (renaming_in names i x) t ≡ text_after names (selector_named x) t
  selector-one i renames.Nothing t = refl
  selector-one i (renames.Renaming (renaming.Class c d)) t = refl
  selector-one i (renames.Renaming (renaming.Variable kind.Instance c x y)) t = refl
  selector-one i (renames.Renaming (renaming.Variable kind.ClassSide c x y)) t = refl
  selector-one i (renames.Renaming (renaming.Variable kind.Shared c x y)) t = refl
  selector-one i (renames.Renaming (renaming.Selector s u)) t = one-entry (name_at names s) (name_at names u) t
  selector-one i (renames.Moved c x d) t = refl
  selector-one i (renames.Temporary m x y) t = refl

  class-known : (x : Renames) → RenamesNames (λ n. n < length names) x → AllByRecursion (IsKnownName names) (class_named x)
  class-known renames.Nothing h = tt
  class-known (renames.Renaming (renaming.Class c d)) h = (record { from = h.0; to = h.1 }, tt)
  class-known (renames.Renaming (renaming.Variable k c x y)) h = tt
  class-known (renames.Renaming (renaming.Selector s u)) h = tt
  class-known (renames.Moved c x d) h = tt
  class-known (renames.Temporary m x y) h = tt

  selector-known : (x : Renames) → RenamesNames (λ n. n < length names) x → AllByRecursion (IsKnownName names) (selector_named x)
  selector-known renames.Nothing h = tt
  selector-known (renames.Renaming (renaming.Class c d)) h = tt
  selector-known (renames.Renaming (renaming.Variable k c x y)) h = tt
  selector-known (renames.Renaming (renaming.Selector s u)) h = (record { from = h.0; to = h.1 }, tt)
  selector-known (renames.Moved c x d) h = tt
  selector-known (renames.Temporary m x y) h = tt

  -- new names in two parts
  parts : (es fs : List NewName) (t : Name) → text_after names (es ++ fs) t ≡ text_after names fs (text_after names es t)
  parts [] fs t = refl
  parts (e ∷ es) fs t = parts es fs (cond (text_eq t (name_at names e.from)) (name_at names e.to) t)

  module _ (named : Renames → List NewName) (image : Renaming → Name → Name) (both : (r q : Renaming) (t : Name) → image (composed r q) t ≡ image q (image r t))
      (one : (i : ImageOf Name) (x : Renames) (t : Name) → image (renaming_in names i x) t ≡ text_after names (named x) t)
      (known : (x : Renames) → RenamesNames (λ n. n < length names) x → AllByRecursion (IsKnownName names) (named x)) where
    -- one command after the other
    along : (r : Renaming) (is : List (ImageOf Name)) (xs : List Renames) (t : Name) → length is ≡ length xs → image (renamed_along names r is xs) t ≡ text_after names (flat_map named xs) (image r t)
    along r [] [] t h = refl
    along r [] (x ∷ xs) t h = absurd (omega arith)
    along r (i ∷ is) [] t h = absurd (omega arith)
    along r (i ∷ is) (x ∷ xs) t h =
        along (composed r (renaming_in names i x)) is xs t (omega arith)
        ∙ ap (text_after names (flat_map named xs)) (both r (renaming_in names i x) t ∙ one i x (image r t))
        ∙ sym (parts (named x) (flat_map named xs) (image r t))

    -- the names have texts
    commands-known : (ds : List DoneCommand) → CommandsKnown (length names) ds → AllByRecursion (IsKnownName names) (flat_map named (map (λ (d : DoneCommand). d.renames) ds))
    commands-known [] h = tt
    commands-known (d ∷ ds) h = all-both (IsKnownName names) (named d.renames) _ (known d.renames h.0) (commands-known ds h.1)

    entries-known : (es : List Done) → EntriesKnown (length names) es → AllByRecursion (IsKnownName names) (flat_map named (all_of es))
    entries-known [] h = tt
    entries-known (e ∷ es) h =
        subst (AllByRecursion (IsKnownName names)) (sym (ap (flat_map named) (all-first e es) ∙ flat_map-append named (all_of es) (of_entry e)))
        (all-both (IsKnownName names) (flat_map named (all_of es)) (flat_map named (of_entry e)) (entries-known es h.1) (commands-known e.commands h.0))

-- By the law of names one after the other.
module _ (law : (names : List (List ℕ)) (news : List NewName) (t : Name) → HasNoTwice names → AllByRecursion (IsKnownName names) news → mapped text_eq (texts_of names (map_of news)) t t ≡ text_after names news t) where
  pub names-shown : (s : Slots) (log : Log) → IsLogOf s log → (r : AllRenames) → r.classes.items ≡ classes_called (renames_done log) → r.selectors.items ≡ selectors_called (renames_done log) →
      ShowsTheSame (history_of s log).now.renaming (shown_by s.names r)
  names-shown s log is r classes selectors =
      let names = s.names in
      let back = log.back in
      record {
        classes = λ c.
            ap (λ (q : Renaming). class_image q c) (all-renamed s back)
            ∙ along names class_named class_image (λ r q. (is-composite r q).classes) (class-one names) (class-known names) no_renaming (images_judged s back) (all_of back) c (judged-length s back)
            ∙ sym (law names (flat_map class_named (all_of back)) c is.orderly.names_distinct (entries-known names class_named class_image (λ r q. (is-composite r q).classes) (class-one names) (class-known names) back is.back_known))
            ∙ ap (λ (es : List NewName). mapped text_eq (texts_of names es) c c) (sym classes);
        selectors = λ c.
            ap (λ (q : Renaming). selector_image q c) (all-renamed s back)
            ∙ along names selector_named selector_image (λ r q. (is-composite r q).selectors) (selector-one names) (selector-known names) no_renaming (images_judged s back) (all_of back) c (judged-length s back)
            ∙ sym (law names (flat_map selector_named (all_of back)) c is.orderly.names_distinct (entries-known names selector_named selector_image (λ r q. (is-composite r q).selectors) (selector-one names) (selector-known names) back is.back_known))
            ∙ ap (λ (es : List NewName). mapped text_eq (texts_of names es) c c) (sym selectors);
      }

  -- so it is of what is told, if it is
  pub told-shown : {E : Type 0} (s : Slots) (log : Log) → IsLogOf s log → (xs : List Renames) → xs ≡ renames_done log → (told : Result AllRenames E) → IfOk told (λ r. r.classes.items ≡ classes_called xs) →
      IfOk told (λ r. r.selectors.items ≡ selectors_called xs) → IfOk told (λ r. ShowsTheSame (history_of s log).now.renaming (shown_by s.names r))
  told-shown s log is xs all (Ok r) classes selectors = names-shown s log is r (classes ∙ ap classes_called all) (selectors ∙ ap selectors_called all)
  told-shown s log is xs all (Err e) classes selectors = tt

-- the commands of what is told
pub told-commands : {E : Type 0} (xs ys : List Renames) → xs ≡ ys → (told : Result AllRenames E) → IfOk told (λ r. r.commands.items ≡ xs) → IfOk told (λ r. r.commands.items ≡ ys)
told-commands xs ys same (Ok r) is = is ∙ same
told-commands xs ys same (Err e) is = tt

pub told-renaming : {E : Type 0} (s : Slots) (log : Log) (told : Result AllRenames E) → IfOk told (λ r. r.commands.items ≡ renames_done log) →
    IfOk told (λ r. (history_of s log).now.renaming ≡ renamed_along s.names no_renaming (images_judged s log.back) r.commands.items)
told-renaming s log (Ok r) is = all-renamed s log.back ∙ ap (renamed_along s.names no_renaming (images_judged s log.back)) (sym is)
told-renaming s log (Err e) is = tt
