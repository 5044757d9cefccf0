-- The texts of edits, one after the other.
use Rattle.std.proofs.Common.{◌≡◌, ℕ, zero, suc, ◌+◌, Bool, true, false, cond, not, List, [], ◌∷◌, ◌++◌, map, filter, take, Some, slice_get, refl, sym, ap, ◌∙◌, arith}
use Rattle.std.specs.Prelude.{◌&&◌, if◌then◌else◌, flat_map, reverse}
use Rattle.std.proofs.lemmas.Grind.{flat_map-append}
use Rattle.std.proofs.lemmas.List.{reverse-append}
use Rattle.std.proofs.lemmas.List.Elements.{filter-append}
use Rattle.image_model.specs.Image.{ClassOf, EntryOf, ImageOf}
use Rattle.file_model.specs.Changes.{RemoveClass}
use Rattle.file_model.specs.Filing.{Text}
use Rattle.file_model.specs.Places.{PlacedOf}
use Rattle.file_model.specs.Written.{user_classes, paragraph}
use Rattle.change_model.specs.Differs.{is_among, differing_from}
use Rattle.change_model.specs.Edits.{Edit, Change, Put, cleared, removal, clearings, class_removals, class_filings, method_removals, method_filings, replacements, edits}
use Rattle.change_model.specs.Equal.{is_namesake}
use Rattle.change_model.specs.Text.{edit_text}
use Rattle.change_file.specs.Partners.{is_listed}
use Rattle.change_file.specs.Texts.{edit_texts, removal_text, put_text}
use Rattle.change_file.specs.Shown.{Shown, shown, placed_shown, key_shown}

-- two lists of edits
pub texts_append : (xs ys : List Edit) → edit_texts (xs ++ ys) ≡ edit_texts xs ++ edit_texts ys
texts_append xs ys = flat_map-append edit_text xs ys

-- the clearing of one class that differs
abbrev pub clearing_text : ImageOf Text → ClassOf Text → Text
clearing_text j c = if is_among is_namesake (user_classes j) c then edit_texts (cleared j c) else []

-- those of classes that differ
pub clearings_written : (j : ImageOf Text) (stay : ClassOf Text → Bool) (k : ℕ) (xs : List (ClassOf Text))
    → flat_map (λ (p : PlacedOf (ClassOf Text)). clearing_text j p.item) (differing_from k stay xs)
    ≡ edit_texts (flat_map (cleared j) (filter (λ (c : ClassOf Text). not (stay c) && is_among is_namesake (user_classes j) c) xs))
clearings_written j stay k [] = refl
clearings_written j stay k (x ∷ xs) = by (stay x) (is_among is_namesake (user_classes j) x) (clearings_written j stay (suc k) xs)
  where
    texts : List (PlacedOf (ClassOf Text)) → Text
    texts ps = flat_map (λ (p : PlacedOf (ClassOf Text)). clearing_text j p.item) ps

    left : List (ClassOf Text)
    left = filter (λ (c : ClassOf Text). not (stay c) && is_among is_namesake (user_classes j) c) xs

    by : (a b : Bool) → texts (differing_from (suc k) stay xs) ≡ edit_texts (flat_map (cleared j) left)
        → flat_map (λ (p : PlacedOf (ClassOf Text)). clearing_text j p.item) (if a then differing_from (suc k) stay xs else record { place = k; item = x } ∷ differing_from (suc k) stay xs)
        ≡ edit_texts (flat_map (cleared j) (cond (not a && is_among is_namesake (user_classes j) x) (x ∷ left) left))
    by true b rest = rest
    by false b rest = among (is_among is_namesake (user_classes j) x)
      where
        among : (d : Bool) → (if d then edit_texts (cleared j x) else []) ++ texts (differing_from (suc k) stay xs) ≡ edit_texts (flat_map (cleared j) (cond d (x ∷ left) left))
        among true = ap (λ (t : Text). edit_texts (cleared j x) ++ t) rest ∙ sym (texts_append (cleared j x) (flat_map (cleared j) left))
        among false = rest

-- the removals of classes, the last one first
abbrev pub removals_text : (ClassOf Text → Bool) → List (ClassOf Text) → Text
removals_text p xs = edit_texts (map (λ (c : ClassOf Text). Change (RemoveClass c.name)) (reverse (filter p xs)))

abbrev pub removed_text : (ClassOf Text → Bool) → ClassOf Text → Text
removed_text p x = if p x then edit_text (Change (RemoveClass x.name)) else []

pub removals_last : (p : ClassOf Text → Bool) (xs : List (ClassOf Text)) (x : ClassOf Text) → removals_text p (xs ++ x ∷ []) ≡ removed_text p x ++ removals_text p xs
removals_last p xs x =
    ap (λ (cs : List (ClassOf Text)). edit_texts (map (λ (c : ClassOf Text). Change (RemoveClass c.name)) (reverse cs))) (filter-append p xs (x ∷ []))
    ∙ ap (λ (cs : List (ClassOf Text)). edit_texts (map (λ (c : ClassOf Text). Change (RemoveClass c.name)) cs)) (reverse-append (filter p xs) (filter p (x ∷ [])))
    ∙ by (p x)
  where
    by : (b : Bool) → edit_texts (map (λ (c : ClassOf Text). Change (RemoveClass c.name)) (reverse (cond b (x ∷ []) []) ++ reverse (filter p xs))) ≡ (if b then edit_text (Change (RemoveClass x.name)) else []) ++ removals_text p xs
    by true = refl
    by false = refl

-- the items up to a place, and the one at it
pub take_last : {X : Type 0} (xs : List X) (n : ℕ) (x : X) → slice_get xs n ≡ Some x → take (n + 1) xs ≡ take n xs ++ x ∷ []
take_last [] n x e = absurd (cc)
take_last (y ∷ ys) zero x e = let same : y ≡ x = cc in ap (λ z. z ∷ []) same
take_last (y ∷ ys) (suc n) x e = ap (λ k. take k (y ∷ ys)) (let next : suc n + 1 ≡ suc (n + 1) = omega arith in next) ∙ ap (λ zs. y ∷ zs) (take_last ys n x e)

-- the removals of methods
abbrev pub removal_at : List Text → List Text → Shown → Text
removal_at keys classes m = if not (is_listed keys (key_shown m)) && is_listed classes m.run.class then paragraph (removal_text m) else []

pub method_removals_written : (keys classes : List Text) (p : EntryOf Text → Bool) (ms : List (EntryOf Text))
    → ((m : EntryOf Text) → (not (is_listed keys (key_shown (shown m))) && is_listed classes (shown m).run.class) ≡ p m)
    → flat_map (removal_at keys classes) (map shown ms) ≡ edit_texts (map removal (filter p ms))
method_removals_written keys classes p [] same = refl
method_removals_written keys classes p (m ∷ ms) same =
    ap (λ (b : Bool). (if b then paragraph (removal_text (shown m)) else []) ++ flat_map (removal_at keys classes) (map shown ms)) (same m)
    ∙ by (p m) (method_removals_written keys classes p ms same)
  where
    by : (b : Bool) → flat_map (removal_at keys classes) (map shown ms) ≡ edit_texts (map removal (filter p ms))
        → (if b then paragraph (removal_text (shown m)) else []) ++ flat_map (removal_at keys classes) (map shown ms) ≡ edit_texts (map removal (cond b (m ∷ filter p ms) (filter p ms)))
    by true rest = ap (λ (t : Text). paragraph (removal_text (shown m)) ++ t) rest
    by false rest = rest

-- the methods that are put in
pub puts_written : (ps : List (PlacedOf (EntryOf Text))) → flat_map put_text (map placed_shown ps) ≡ edit_texts (map (λ (p : PlacedOf (EntryOf Text)). Put p.item p.place) ps)
puts_written [] = refl
puts_written (p ∷ ps) = ap (λ (t : Text). put_text (placed_shown p) ++ t) (puts_written ps)

-- all edits
pub edits_written : (i j : ImageOf Text) → edit_texts (edits i j)
    ≡ edit_texts (clearings i j) ++ (edit_texts (class_removals i j) ++ (edit_texts (class_filings i j) ++ (edit_texts (method_removals i j) ++ (edit_texts (method_filings i j) ++ edit_texts (replacements i j)))))
edits_written i j =
    texts_append (clearings i j) _
    ∙ ap (λ (t : Text). edit_texts (clearings i j) ++ t) (texts_append (class_removals i j) _
    ∙ ap (λ (t : Text). edit_texts (class_removals i j) ++ t) (texts_append (class_filings i j) _
    ∙ ap (λ (t : Text). edit_texts (class_filings i j) ++ t) (texts_append (method_removals i j) _
    ∙ ap (λ (t : Text). edit_texts (method_removals i j) ++ t) (texts_append (method_filings i j) (replacements i j)))))
