-- An edit makes what its chunks make.
use Rattle.std.proofs.Common.{◌≡◌, List, [], ◌∷◌, ◌++◌, length, Bool, true, false, not, Option, Some, None, Ok, Err, refl, ap, sym, ◌∙◌, ℕ}
use Rattle.std.specs.Prelude.{Result, ◌-◌, ◌==◌, ◌&&◌, ◌||◌, nat_le, slice_set, if◌then◌else◌}
use Rattle.std.specs.Option.{option_map_or}
use Rattle.std.specs.Result.{result_map_both}
use Rattle.rb_base.specs.Names.{text_eq}
use Rattle.token_model.specs.declared.kind.Dialect.{Dialect}
use Rattle.token_model.specs.declared.kind.Dialect.TheVariants.{Second}
use Rattle.chunk_format.specs.Blank.{blank_len}
use Rattle.image_model.specs.Image.{EntryOf, DoItOf, ImageOf}
use Rattle.file_model.specs.Applied.{changed}
use Rattle.file_model.specs.Causes.{Cause, UnknownDefinition, Condition, when, first_cause, unless}
use Rattle.file_model.specs.Changes.{ChangeOf}
use Rattle.file_model.specs.Filing.{Text, Filing, ReplacementChunk, goes_on, form_taken, taken}
use Rattle.file_model.specs.Forms.{Changes, Settles, form_of, is_doit}
use Rattle.file_model.specs.Numerals.{place_in}
use Rattle.file_model.specs.Places.{no_places, places_after, opened_at, places_behind, placed}
use Rattle.file_model.specs.Refusals.{run_refusals, method_refusals}
use Rattle.file_model.specs.Written.{run_of}
use Rattle.change_model.specs.Edits.{Settle, Change, Put, Replace}
use Rattle.change_model.specs.Edited.{Stage, with_put, with_doit_at, places_put, place_refusals, change_refusals, edited}
use Rattle.change_laws.specs.Chunks.{stage_of, rests, IsPutByChunks}

pub change_taken : (f : Filing) (d : DoItOf Text) (c : ChangeOf Text) (t : Stage) → edited (Change c) (stage_of f) ≡ Ok t → form_taken false f d (Changes c) ≡ Ok (rests t)
change_taken f d c t e = stated (first_cause (change_refusals c)) e
  where
    by : (r : Result (ImageOf Text) Cause) → result_map_both (λ i. record { image = i; places = places_after text_eq c f.places }) (λ x. x) r ≡ Ok t → result_map_both (goes_on (places_after text_eq c f.places) None) (λ x. x) r ≡ Ok (rests t)
    by (Ok i) g = let same : ◌≡◌ {A = Stage} (record { image = i; places = places_after text_eq c f.places }) t = cc in ap (λ (s : Stage). Ok (rests s)) same
    by (Err x) g = absurd (cc)

    stated : (o : Option Cause) → option_map_or Err o (result_map_both (λ i. record { image = i; places = places_after text_eq c f.places }) (λ x. x) (changed text_eq false c f.image)) ≡ Ok t → form_taken false f d (Changes c) ≡ Ok (rests t)
    stated None g = by (changed text_eq false c f.image) g
    stated (Some x) g = absurd (cc)

pub settle_taken : (f : Filing) (d : DoItOf Text) (t : Stage) → edited Settle (stage_of f) ≡ Ok t → form_taken false f d Settles ≡ Ok (rests t)
settle_taken f d t e = let same : ◌≡◌ {A = Stage} (record { image = placed text_eq f.places f.image; places = no_places }) t = cc in ap (λ (s : Stage). Ok (rests s)) same

none_both : (cs ds : List Condition) → first_cause cs ≡ None → first_cause (cs ++ ds) ≡ first_cause ds
none_both [] ds q = refl
none_both (c ∷ cs) ds q = by c.holds q (λ r. none_both cs ds r)
  where
    by : (b : Bool) → (if b then Some c.cause else first_cause cs) ≡ None → (first_cause cs ≡ None → first_cause (cs ++ ds) ≡ first_cause ds) → (if b then Some c.cause else first_cause (cs ++ ds)) ≡ first_cause ds
    by true q rest = absurd (cc)
    by false q rest = rest q

none_first : (cs ds : List Condition) → first_cause (cs ++ ds) ≡ None → first_cause cs ≡ None
none_first [] ds q = refl
none_first (c ∷ cs) ds q = by c.holds q (λ r. none_first cs ds r)
  where
    by : (b : Bool) → (if b then Some c.cause else first_cause (cs ++ ds)) ≡ None → (first_cause (cs ++ ds) ≡ None → first_cause cs ≡ None) → (if b then Some c.cause else first_cause cs) ≡ None
    by true q rest = absurd (cc)
    by false q rest = rest q

pub put_taken : (dialect : Dialect) (f : Filing) (d : DoItOf Text) (m : EntryOf Text) (k : ℕ) (t : Stage) → edited (Put m k) (stage_of f) ≡ Ok t → IsPutByChunks dialect f d m k t
put_taken dialect f d m k t e = by (first_cause (place_refusals k ++ (runs ++ methods))) refl e
  where
    runs : List Condition
    runs = run_refusals text_eq f.image.classes (run_of m)

    methods : List Condition
    methods = method_refusals text_eq f.image.methods (run_of m) m.tree.selector

    end : Stage
    end = record { image = with_put m f.image; places = places_put m k f.places }

    at : first_cause (runs ++ methods) ≡ None → end ≡ t → IsPutByChunks dialect f d m k t
    at q same =
        let g : first_cause runs ≡ None = none_first runs methods q in
        let h : first_cause methods ≡ None = sym (none_both runs methods g) ∙ q in
        record {
          opens = ap (λ o. option_map_or Err o (Ok (goes_on (opened_at (Some k) f.places) (Some (run_of m)) f.image))) g;
          puts = ap (λ o. result_map_both (goes_on (places_behind (run_of m).class m.meta m.tree.selector (opened_at (Some k) f.places)) (Some (run_of m))) (λ (x : Cause). x) (option_map_or Err o (Ok (with_put m f.image)))) h
              ∙ ap (λ (s : Stage). Ok (goes_on s.places (Some (run_of m)) s.image)) same;
          ends = refl;
        }

    by : (a : Option Cause) → first_cause (place_refusals k ++ (runs ++ methods)) ≡ a → option_map_or Err a (Ok end) ≡ Ok t → IsPutByChunks dialect f d m k t
    by None q l = at (sym (none_both (place_refusals k) (runs ++ methods) (none_first (place_refusals k) (runs ++ methods) q)) ∙ q) (cc)
    by (Some x) q l = absurd (cc)

-- by what is asked of a replacement
replaced_by : (s t : Stage) (from to empty is : Bool) →
    unless (when (not (from && to)) UnknownDefinition ∷ when empty UnknownDefinition ∷ when (not is) UnknownDefinition ∷ []) s ≡ Ok t →
    unless (when (not to) UnknownDefinition ∷ when empty UnknownDefinition ∷ when (not is) UnknownDefinition ∷ []) (rests s) ≡ Ok (rests t)
replaced_by s t true true false true e = let same : s ≡ t = cc in ap (λ (x : Stage). Ok (rests x)) same
replaced_by s t true true false false e = absurd (cc)
replaced_by s t true true true is e = absurd (cc)
replaced_by s t true false empty is e = absurd (cc)
replaced_by s t false to empty is e = absurd (cc)

pub replacement_taken : (f : Filing) (numeral : Text) (k : ℕ) (d : DoItOf Text) (t : Stage) → place_in numeral ≡ Some k → edited (Replace k d) (stage_of f) ≡ Ok t →
    taken Second false f (ReplacementChunk (record { numeral = numeral; source = d.source }) d.body) ≡ Ok (rests t)
replacement_taken f numeral k d t number e =
    ap (λ (o : Option ℕ). unless (when (not (option_map_or (λ n. nat_le n (length f.image.doits)) o false)) UnknownDefinition ∷ when (length d.source == 0 || not (blank_len d.source == 0)) UnknownDefinition ∷ when (not (is_doit (form_of Second false d.body))) UnknownDefinition ∷ [])
    (goes_on (opened_at None f.places) None (record f.image { doits = option_map_or (λ n. slice_set f.image.doits (n - 1) d) o f.image.doits }))) number
    ∙ replaced_by (record { image = with_doit_at k d f.image; places = opened_at None f.places }) t (nat_le 1 k) (nat_le k (length f.image.doits)) (length d.source == 0 || not (blank_len d.source == 0)) (is_doit (form_of Second false d.body)) e
