-- What becomes of what was read where a chunk is taken.
use Rattle.std.specs.Global.{Box}
use Rattle.std.proofs.Common.{◌≡◌, ℕ, zero, suc, ◌+◌, Bool, true, false, List, [], ◌∷◌, ◌++◌, map, Option, Some, None, Result, Ok, Err, option_map, refl, sym, ap, subst, ◌∙◌, true≢false}
use Rattle.std.specs.Prelude.{is_some, nat_eq, slice_set, IfNone, if◌then◌else◌}
use Rattle.std.specs.List.{AllByRecursion}
use Rattle.std.specs.Option.{ForSome, option_map_or}
use Rattle.std.specs.Result.{result_map_both, IfOk}
use Rattle.std.proofs.lemmas.List.{map-set}
use Rattle.rb_base.specs.Names.{text_eq, name_at}
use Rattle.image_model.specs.Image.{DoItOf, ImageOf, map_doit, map_image, plus}
use Rattle.image_model.specs.ImageNames.{DoItNames, ImageNames}
use Rattle.file_model.specs.Causes.{Cause, Condition, first_cause, unless}
use Rattle.file_model.specs.Changes.{ChangeOf, RunOf, map_change, map_run}
use Rattle.file_model.specs.Applied.{changed}
use Rattle.file_model.specs.Refusals.{run_refusals}
use Rattle.file_model.specs.Places.{PlacesOf, no_places, opened_at, places_after, placed, map_places}
use Rattle.file_model.specs.Filing.{Text, Filing, begun, goes_on, with_doit}
use Rattle.file_numbers.specs.PlacesNames.{PlacesNames}
use Rattle.file_faults.specs.declared.fault.ImageCause.{ImageCause}
use Rattle.file_faults.specs.Faults.{cause_of}
use Rattle.image_draft.specs.Drafted.{Makes}
use Rattle.placed_draft.specs.declared.placed_draft.PlacedDraft.{PlacedDraft}
use Rattle.placed_draft.specs.Placed.{image_of, places_of, IsWhole}
use Rattle.file_reading.specs.declared.reading.Progress.{Progress}
use Rattle.file_reading.specs.declared.reading.Stop.{Stop}
use Rattle.file_reading.specs.declared.reading.Stop.TheVariants as stop
use Rattle.file_reading.specs.Filed.{filed, image_so_far, places_so_far, run_in, is_at_head, IsNumberIn, IsSoundSoFar}
use Rattle.file_reading.specs.Answers.{Answers, change_taken}

-- a fact that follows
pub Answers-weaker : (P Q : Result Filing Cause → Type 0) → ((r : Result Filing Cause) → P r → Q r) → (a : Result Progress Stop) → Answers P a → Answers Q a
Answers-weaker P Q h (Ok new) p = (p.0, h (Ok (filed new)) p.1)
Answers-weaker P Q h (Err (stop.Refused cause)) p = (p.0, p.1, h (Err p.0) p.2)
Answers-weaker P Q h (Err stop.Memory) p = tt

-- the answer by a cause, where there is one
pub told : (P : Result Filing Cause → Type 0) (new : Progress) (cause : Option ImageCause) (a : Result Progress Stop) → (cause ≡ None → Answers P (Ok new)) → ((k : ImageCause) → cause ≡ Some k → Answers P (Err (stop.Refused k)))
    → a ≡ option_map_or (λ k. Err (stop.Refused k)) cause (Ok new) → Answers P a
told P new None a kept refused is = subst (Answers P) (sym is) (kept refl)
told P new (Some k) a kept refused is = subst (Answers P) (sym is) (refused k refl)

-- what is read with a draft and a table of names
abbrev pub with_draft : List Text → Box PlacedDraft → Progress
with_draft names d = record { names = names; draft = d }

-- no run is none of a class
pub no_run : {X : Type 0} (P : X → Type 0) → ForSome None P
no_run P x e = absurd (cc)

-- the one run is one of a class
pub one_run : (names : List Text) (r : RunOf ℕ) → IsNumberIn names r.class → ForSome (Some r) (λ q. IsNumberIn names q.class)
one_run names r h q e = let same : r ≡ q = cc in subst (λ (x : RunOf ℕ). IsNumberIn names x.class) same h

-- where there is no cause
pub at_none : {X : Type 0} (P : Type 0) (o : Option X) → o ≡ None → IfNone o P → P
at_none P None e p = p
at_none P (Some x) e p = absurd (cc)

-- one more item at the end
map-last : {X Y : Type 0} (f : X → Y) (xs : List X) (x : X) → map f (xs ++ x ∷ []) ≡ map f xs ++ f x ∷ []
map-last f [] x = refl
map-last f (y ∷ ys) x = ap (λ zs. f y ∷ zs) (map-last f ys x)

all-last : {X : Type 0} (P : X → Type 0) (xs : List X) (x : X) → AllByRecursion P xs → P x → AllByRecursion P (xs ++ x ∷ [])
all-last P [] x all p = (p, tt)
all-last P (y ∷ ys) x all p = (all.0, all-last P ys x all.1 p)

-- one item in the place of another
all-set : {X : Type 0} (P : X → Type 0) (xs : List X) (n : ℕ) (x : X) → AllByRecursion P xs → P x → AllByRecursion P (slice_set xs n x)
all-set P [] n x all p = tt
all-set P (y ∷ ys) zero x all p = (p, all.1)
all-set P (y ∷ ys) (suc n) x all p = (all.0, all-set P ys n x all.1 p)

module _ (names : List Text) where
  -- a change over numbers was made, and reading goes on in a run or outside
  pub went_on : (n : Result (ImageOf ℕ) Cause) (t : Result (ImageOf Text) Cause) (run : Option (RunOf ℕ)) (places : PlacesOf ℕ) (stated : PlacesOf Text) (later : Box PlacedDraft)
      → t ≡ result_map_both (map_image (name_at names)) (λ e. e) n → IfOk n (ImageNames (IsNumberIn names)) → ForSome run (λ r. IsNumberIn names r.class)
      → stated ≡ map_places (name_at names) places → PlacesNames (IsNumberIn names) places
      → n ≡ Ok (image_of later.value) → run_in later.value ≡ run → is_at_head later.value ≡ false → places_of later.value ≡ places → IsWhole later.value
      → Answers (λ r. r ≡ result_map_both (goes_on stated (option_map (map_run (name_at names)) run)) (λ e. e) t) (Ok (with_draft names later))
  went_on n t run places stated later same known there same_places known_places made runs head left whole = (sound, ap Ok first ∙ second ∙ third)
    where
      f : ℕ → Text
      f = name_at names

      sound : IsSoundSoFar (with_draft names later)
      sound = record {
        whole = whole;
        image = subst (λ (o : Result (ImageOf ℕ) Cause). IfOk o (ImageNames (IsNumberIn names))) made known;
        run = λ r e. there r (sym runs ∙ e);
        places = subst (PlacesNames (IsNumberIn names)) (sym left) known_places;
      }

      first : filed (with_draft names later) ≡ goes_on stated (option_map (map_run f) run) (map_image f (image_of later.value))
      first = λ i. record {
        image = map_image f (image_of later.value);
        run = option_map (map_run f) (runs i);
        at_head = head i;
        places = (ap (map_places f) left ∙ sym same_places) i;
      }

      second : ◌≡◌ {A = Result Filing Cause} (Ok (goes_on stated (option_map (map_run f) run) (map_image f (image_of later.value))))
          (result_map_both (goes_on stated (option_map (map_run f) run)) (λ (e : Cause). e) (result_map_both (map_image f) (λ (e : Cause). e) n))
      second = ap (λ (o : Result (ImageOf ℕ) Cause). result_map_both (goes_on stated (option_map (map_run f) run)) (λ (e : Cause). e) (result_map_both (map_image f) (λ (e : Cause). e) o)) (sym made)

      third : ◌≡◌ {A = Result Filing Cause} (result_map_both (goes_on stated (option_map (map_run f) run)) (λ (e : Cause). e) (result_map_both (map_image f) (λ (e : Cause). e) n))
          (result_map_both (goes_on stated (option_map (map_run f) run)) (λ (e : Cause). e) t)
      third = ap (result_map_both (goes_on stated (option_map (map_run f) run)) (λ (e : Cause). e)) (sym same)

  -- a change over numbers is refused
  pub was_refused : (n : Result (ImageOf ℕ) Cause) (t : Result (ImageOf Text) Cause) (run : Option (RunOf Text)) (stated : PlacesOf Text) (cause : ImageCause) (x : ImageOf ℕ)
      → t ≡ result_map_both (map_image (name_at names)) (λ e. e) n → Makes (Some cause) n x
      → Answers (λ r. r ≡ result_map_both (goes_on stated run) (λ e. e) t) (Err (stop.Refused cause))
  was_refused n t run stated cause x same made = (
    made.0,
    made.1,
    ap (λ (o : Result (ImageOf ℕ) Cause). result_map_both (goes_on stated run) (λ (e : Cause). e) (result_map_both (map_image (name_at names)) (λ (e : Cause). e) o)) (sym made.2)
        ∙ ap (result_map_both (goes_on stated run) (λ (e : Cause). e)) (sym same),
  )

  module _ (old : Box PlacedDraft) (sound : IsSoundSoFar (with_draft names old)) where
    -- classes or methods were changed, and places are stated or forgotten with them
    pub was_changed : (kernel : Bool) (change : ChangeOf ℕ) (cause : Option ImageCause) (later : Box PlacedDraft)
        → changed text_eq kernel (map_change (name_at names) change) (image_so_far (with_draft names old)) ≡ result_map_both (map_image (name_at names)) (λ e. e) (changed nat_eq kernel change (image_of old.value))
        → IfOk (changed nat_eq kernel change (image_of old.value)) (ImageNames (IsNumberIn names))
        → places_after text_eq (map_change (name_at names) change) (places_so_far (with_draft names old)) ≡ map_places (name_at names) (places_after nat_eq change (places_of old.value))
        → PlacesNames (IsNumberIn names) (places_after nat_eq change (places_of old.value))
        → cause ≡ None → Makes cause (changed nat_eq kernel change (image_of old.value)) (image_of later.value)
        → IfNone cause (run_in later.value ≡ None) → IfNone cause (is_at_head later.value ≡ false) → IfNone cause (places_of later.value ≡ places_after nat_eq change (places_of old.value)) → IfNone cause (IsWhole later.value)
        → Answers (λ r. r ≡ change_taken kernel (filed (with_draft names old)) (map_change (name_at names) change)) (Ok (with_draft names later))
    was_changed kernel change cause later same known same_places known_places none made runs head left whole =
        went_on (changed nat_eq kernel change (image_of old.value)) (changed text_eq kernel (map_change (name_at names) change) (image_so_far (with_draft names old))) None (places_after nat_eq change (places_of old.value)) (places_after text_eq (map_change (name_at names) change) (places_so_far (with_draft names old))) later
        same known (no_run (λ (r : RunOf ℕ). IsNumberIn names r.class)) same_places known_places
        (subst (λ (o : Option ImageCause). Makes o (changed nat_eq kernel change (image_of old.value)) (image_of later.value)) none made)
        (at_none (run_in later.value ≡ None) cause none runs)
        (at_none (is_at_head later.value ≡ false) cause none head)
        (at_none (places_of later.value ≡ places_after nat_eq change (places_of old.value)) cause none left)
        (at_none (IsWhole later.value) cause none whole)

    -- they were not
    pub was_not_changed : (kernel : Bool) (change : ChangeOf ℕ) (o : Option ImageCause) (cause : ImageCause) (later : Box PlacedDraft)
        → changed text_eq kernel (map_change (name_at names) change) (image_so_far (with_draft names old)) ≡ result_map_both (map_image (name_at names)) (λ e. e) (changed nat_eq kernel change (image_of old.value))
        → o ≡ Some cause → Makes o (changed nat_eq kernel change (image_of old.value)) (image_of later.value)
        → Answers (λ r. r ≡ change_taken kernel (filed (with_draft names old)) (map_change (name_at names) change)) (Err (stop.Refused cause))
    was_not_changed kernel change o cause later same is made =
        was_refused (changed nat_eq kernel change (image_of old.value)) (changed text_eq kernel (map_change (name_at names) change) (image_so_far (with_draft names old))) None (places_after text_eq (map_change (name_at names) change) (places_so_far (with_draft names old))) cause (image_of later.value)
        same (subst (λ (x : Option ImageCause). Makes x (changed nat_eq kernel change (image_of old.value)) (image_of later.value)) is made)

    -- a run of methods was begun
    pub was_opened : (run : RunOf ℕ) (place : Option ℕ) (later : Box PlacedDraft) (conditions : List Condition) → IsNumberIn names run.class
        → conditions ≡ run_refusals nat_eq (image_of old.value).classes run → None ≡ first_cause (run_refusals nat_eq (image_of old.value).classes run)
        → image_of later.value ≡ image_of old.value → run_in later.value ≡ Some run → is_at_head later.value ≡ false → places_of later.value ≡ opened_at place (places_of old.value) → IsWhole later.value
        → Answers (λ r. r ≡ unless conditions (goes_on (opened_at place (places_so_far (with_draft names old))) (Some (map_run (name_at names) run)) (image_so_far (with_draft names old)))) (Ok (with_draft names later))
    was_opened run place later conditions known same none image runs head left whole = (opened, result)
      where
        f : ℕ → Text
        f = name_at names

        opened : IsSoundSoFar (with_draft names later)
        opened = record {
          whole = whole;
          image = subst (ImageNames (IsNumberIn names)) (sym image) sound.image;
          run = subst (λ (o : Option (RunOf ℕ)). ForSome o (λ r. IsNumberIn names r.class)) (sym runs) (one_run names run known);
          places = subst (PlacesNames (IsNumberIn names)) (sym left) (record { classes = sound.places.classes; methods = sound.places.methods });
        }

        last : Filing
        last = goes_on (opened_at place (places_so_far (with_draft names old))) (Some (map_run f run)) (image_so_far (with_draft names old))

        is_last : filed (with_draft names later) ≡ last
        is_last = λ i. record {
          image = map_image f (image i);
          run = option_map (map_run f) (runs i);
          at_head = head i;
          places = map_places f (left i);
        }

        result : ◌≡◌ {A = Result Filing Cause} (Ok (filed (with_draft names later))) (unless conditions last)
        result = ap Ok is_last ∙ ap (λ (o : Option Cause). option_map_or Err o (Ok last)) (none ∙ sym (ap first_cause same))

    -- another text begins
    pub was_begun : (later : Box PlacedDraft) → image_of later.value ≡ image_of old.value → run_in later.value ≡ None → is_at_head later.value ≡ true → places_of later.value ≡ no_places → IsWhole later.value
        → IsSoundSoFar (with_draft names later) × (filed (with_draft names later) ≡ begun (image_so_far (with_draft names old)))
    was_begun later image runs head left whole = (
      record {
        whole = whole;
        image = subst (ImageNames (IsNumberIn names)) (sym image) sound.image;
        run = subst (λ (o : Option (RunOf ℕ)). ForSome o (λ r. IsNumberIn names r.class)) (sym runs) (no_run (λ (r : RunOf ℕ). IsNumberIn names r.class));
        places = subst (PlacesNames (IsNumberIn names)) (sym left) (record { classes = tt; methods = tt });
      },
      λ i. record {
        image = map_image (name_at names) (image i);
        run = option_map (map_run (name_at names)) (runs i);
        at_head = head i;
        places = map_places (name_at names) (left i);
      },
    )

    -- a run of methods ends
    pub was_ended : (later : Box PlacedDraft) → image_of later.value ≡ image_of old.value → run_in later.value ≡ None → is_at_head later.value ≡ is_at_head old.value → places_of later.value ≡ places_of old.value → IsWhole later.value
        → IsSoundSoFar (with_draft names later) × (filed (with_draft names later) ≡ record (filed (with_draft names old)) { run = None })
    was_ended later image runs head left whole = (
      record {
        whole = whole;
        image = subst (ImageNames (IsNumberIn names)) (sym image) sound.image;
        run = subst (λ (o : Option (RunOf ℕ)). ForSome o (λ r. IsNumberIn names r.class)) (sym runs) (no_run (λ (r : RunOf ℕ). IsNumberIn names r.class));
        places = subst (PlacesNames (IsNumberIn names)) (sym left) sound.places;
      },
      λ i. record {
        image = map_image (name_at names) (image i);
        run = option_map (map_run (name_at names)) (runs i);
        at_head = head i;
        places = map_places (name_at names) (left i);
      },
    )

    -- a run of methods is refused
    pub was_not_opened : (run : RunOf ℕ) (conditions : List Condition) (f : Filing) (cause : ImageCause) → conditions ≡ run_refusals nat_eq (image_of old.value).classes run
        → cause_of cause ≡ first_cause (run_refusals nat_eq (image_of old.value).classes run) → true ≡ is_some (first_cause (run_refusals nat_eq (image_of old.value).classes run))
        → Answers (λ r. r ≡ unless conditions f) (Err (stop.Refused cause))
    was_not_opened run conditions f cause same tells some = by (first_cause (run_refusals nat_eq (image_of old.value).classes run)) refl
      where
        by : (o : Option Cause) → first_cause (run_refusals nat_eq (image_of old.value).classes run) ≡ o → Answers (λ r. r ≡ unless conditions f) (Err (stop.Refused cause))
        by None e = absurd (true≢false (some ∙ ap is_some e))
        by (Some k) e = (k, tells ∙ e, ap (λ (o : Option Cause). option_map_or Err o (Ok f)) (sym e ∙ sym (ap first_cause same)))

    -- methods and classes were put at their places
    pub was_settled : (later : Box PlacedDraft) (made : ImageOf Text) → made ≡ map_image (name_at names) (placed nat_eq (places_of old.value) (image_of old.value)) → ImageNames (IsNumberIn names) (placed nat_eq (places_of old.value) (image_of old.value))
        → image_of later.value ≡ placed nat_eq (places_of old.value) (image_of old.value) → run_in later.value ≡ None → is_at_head later.value ≡ false → places_of later.value ≡ no_places → IsWhole later.value
        → Answers (λ r. r ≡ Ok (goes_on no_places None made)) (Ok (with_draft names later))
    was_settled later made same known image runs head left whole = (settled, ap Ok result)
      where
        f : ℕ → Text
        f = name_at names

        settled : IsSoundSoFar (with_draft names later)
        settled = record {
          whole = whole;
          image = subst (ImageNames (IsNumberIn names)) (sym image) known;
          run = subst (λ (o : Option (RunOf ℕ)). ForSome o (λ r. IsNumberIn names r.class)) (sym runs) (no_run (λ (r : RunOf ℕ). IsNumberIn names r.class));
          places = subst (PlacesNames (IsNumberIn names)) (sym left) (record { classes = tt; methods = tt });
        }

        result : filed (with_draft names later) ≡ goes_on no_places None made
        result = λ i. record {
          image = (ap (map_image f) image ∙ sym same) i;
          run = option_map (map_run f) (runs i);
          at_head = head i;
          places = map_places f (left i);
        }

    -- a do-it was put at the end
    pub was_added : (d : DoItOf ℕ) (later : Box PlacedDraft) → DoItNames (IsNumberIn names) d
        → image_of later.value ≡ record (plus (image_of old.value) d) { heads = if is_at_head old.value then (image_of old.value).heads + 1 else (image_of old.value).heads }
        → run_in later.value ≡ run_in old.value → is_at_head later.value ≡ is_at_head old.value → places_of later.value ≡ places_of old.value → IsWhole later.value
        → Answers (λ r. r ≡ Ok (with_doit (filed (with_draft names old)) (map_doit (name_at names) d))) (Ok (with_draft names later))
    was_added d later known image runs head left whole = (added, ap Ok result)
      where
        f : ℕ → Text
        f = name_at names

        added : IsSoundSoFar (with_draft names later)
        added = record {
          whole = whole;
          image = subst (ImageNames (IsNumberIn names)) (sym image) (record {
            classes = sound.image.classes;
            methods = sound.image.methods;
            doits = all-last (DoItNames (IsNumberIn names)) (image_of old.value).doits d sound.image.doits known;
          });
          run = λ r e. sound.run r (sym runs ∙ e);
          places = subst (PlacesNames (IsNumberIn names)) (sym left) sound.places;
        }

        named : image_so_far (with_draft names later) ≡ record (plus (image_so_far (with_draft names old)) (map_doit f d)) { heads = if is_at_head old.value then (image_of old.value).heads + 1 else (image_of old.value).heads }
        named = ap (map_image f) image ∙ (λ i. record (image_so_far (with_draft names old)) {
          doits = map-last (map_doit f) (image_of old.value).doits d i;
          heads = if is_at_head old.value then (image_of old.value).heads + 1 else (image_of old.value).heads;
        })

        result : filed (with_draft names later) ≡ with_doit (filed (with_draft names old)) (map_doit f d)
        result = λ i. record { image = named i; run = option_map (map_run f) (runs i); at_head = head i; places = map_places f (left i) }

    -- a do-it was put in the place of another
    pub was_replaced : (n : ℕ) (d : DoItOf ℕ) (later : Box PlacedDraft) → DoItNames (IsNumberIn names) d
        → image_of later.value ≡ record (image_of old.value) { doits = slice_set (image_of old.value).doits n d }
        → run_in later.value ≡ None → is_at_head later.value ≡ false → places_of later.value ≡ opened_at None (places_of old.value) → IsWhole later.value
        → IsSoundSoFar (with_draft names later)
        × (filed (with_draft names later) ≡ goes_on (opened_at None (places_so_far (with_draft names old))) None (record (image_so_far (with_draft names old)) { doits = slice_set (image_so_far (with_draft names old)).doits n (map_doit (name_at names) d) }))
    was_replaced n d later known image runs head left whole = (replaced, result)
      where
        f : ℕ → Text
        f = name_at names

        replaced : IsSoundSoFar (with_draft names later)
        replaced = record {
          whole = whole;
          image = subst (ImageNames (IsNumberIn names)) (sym image) (record {
            classes = sound.image.classes;
            methods = sound.image.methods;
            doits = all-set (DoItNames (IsNumberIn names)) (image_of old.value).doits n d sound.image.doits known;
          });
          run = subst (λ (o : Option (RunOf ℕ)). ForSome o (λ r. IsNumberIn names r.class)) (sym runs) (no_run (λ (r : RunOf ℕ). IsNumberIn names r.class));
          places = subst (PlacesNames (IsNumberIn names)) (sym left) (record { classes = sound.places.classes; methods = sound.places.methods });
        }

        named : image_so_far (with_draft names later) ≡ record (image_so_far (with_draft names old)) { doits = slice_set (image_so_far (with_draft names old)).doits n (map_doit f d) }
        named = ap (map_image f) image ∙ (λ i. record (image_so_far (with_draft names old)) { doits = map-set (map_doit f) (image_of old.value).doits n d i })

        result : filed (with_draft names later) ≡ goes_on (opened_at None (places_so_far (with_draft names old))) None (record (image_so_far (with_draft names old)) { doits = slice_set (image_so_far (with_draft names old)).doits n (map_doit f d) })
        result = λ i. record { image = named i; run = option_map (map_run f) (runs i); at_head = head i; places = map_places f (left i) }
