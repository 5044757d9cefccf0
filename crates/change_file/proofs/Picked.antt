-- Items that are picked out of a list by their places, and walks that gather them.
use Rattle.std.proofs.Common.{◌≡◌, ℕ, zero, suc, ◌+◌, ◌-◌, ◌<◌, ◌≤◌, Bool, true, false, cond, not, List, [], ◌∷◌, ◌++◌, length, map, filter, drop, get_or, Option, None, Some, slice_get, refl, sym, ap, ◌∙◌, arith, append_assoc, append-nil}
use Rattle.std.specs.Prelude.{if◌then◌else◌}
use Rattle.std.specs.List.{cons_option, filter_map}
use Rattle.std.specs.Option.{option_map}
use Rattle.std.proofs.lemmas.List.{map-append}
use Rattle.std.proofs.lemmas.Option.{slice_get-map, slice_get-get_or}
use Rattle.rb_base.specs.Names.{text_eq}
use Rattle.file_model.specs.Filing.{Text}
use Rattle.file_model.specs.Places.{PlacedOf}
use Rattle.change_model.specs.Differs.{is_among, stays, differing_from, differing}
use Rattle.change_laws.proofs.Tests.{at_map}
use Rattle.change_file.specs.declared.classes.PlacedClass.{PlacedClass}
use Rattle.change_file.specs.declared.methods.PlacedMethod.{PlacedMethod}
use Rattle.change_file.specs.declared.differences.Member.{Member}
use Rattle.change_file.specs.declared.differences.Member.TheVariants.{Earlier, Later}
use Rattle.change_file.specs.Members.{member_in}
use Rattle.change_file.specs.Partners.{is_listed, places_from}
use Rattle.change_file.proofs.KeyWalks.{drop_item, drop_end, moved}
use Rattle.change_file.proofs.Pairs.{among_listed}

module _ {A B M : Type 0} (f : A → Option B) (wrap : B → M) (xs : List A) (n : ℕ) where
  gathered_first : (x : A) (o : Option B) → slice_get xs n ≡ Some x → f x ≡ o → map wrap (filter_map f (drop n xs)) ≡ map wrap (cons_option o (filter_map f (drop (n + 1) xs)))
  gathered_first x o e h =
      ap (λ (ys : List A). map wrap (filter_map f ys)) (drop_item xs n x e)
      ∙ ap (λ (p : Option B). map wrap (cons_option p (filter_map f (drop (n + 1) xs)))) h

  -- what is given of one more item is put behind the rest
  pub gathered_taken : (x : A) (y : B) (out new whole : List M) → slice_get xs n ≡ Some x → f x ≡ Some y → out ++ map wrap (filter_map f (drop n xs)) ≡ whole → new ≡ out ++ wrap y ∷ []
      → new ++ map wrap (filter_map f (drop (n + 1) xs)) ≡ whole
  gathered_taken x y out new whole e h so_far put =
      ap (λ (ms : List M). ms ++ map wrap (filter_map f (drop (n + 1) xs))) put
      ∙ moved out (map wrap (filter_map f (drop (n + 1) xs))) whole (wrap y) (ap (λ (ms : List M). out ++ ms) (sym (gathered_first x (Some y) e h)) ∙ so_far)

  -- nothing is given of it
  pub gathered_left : (x : A) (out new whole : List M) → slice_get xs n ≡ Some x → f x ≡ None → out ++ map wrap (filter_map f (drop n xs)) ≡ whole → new ≡ out
      → new ++ map wrap (filter_map f (drop (n + 1) xs)) ≡ whole
  gathered_left x out new whole e h so_far same =
      ap (λ (ms : List M). ms ++ map wrap (filter_map f (drop (n + 1) xs))) same ∙ ap (λ (ms : List M). out ++ ms) (sym (gathered_first x None e h)) ∙ so_far

-- all items are shown
pub shown_end : {A B : Type 0} (show : A → B) (xs : List A) (n : ℕ) (out whole : List B) → length xs ≤ n → out ++ map show (drop n xs) ≡ whole → out ≡ whole
shown_end {A} show xs n out whole l so_far = sym (append-nil out) ∙ ap (λ (ys : List A). out ++ map show ys) (sym (drop_end xs n l)) ∙ so_far

-- the item behind those before it
behind_front : {X : Type 0} (front xs : List X) (x : X) → slice_get (front ++ x ∷ xs) (length front) ≡ Some x
behind_front [] xs x = refl
behind_front (y ∷ front) xs x = behind_front front xs x

grown : {X : Type 0} (front : List X) (x : X) → length (front ++ x ∷ []) ≡ suc (length front)
grown [] x = refl
grown (y ∷ front) x = ap suc (grown front x)

-- the places, from 0, of items that differ
abbrev pub place_before : {X : Type 0} → PlacedOf X → ℕ
place_before p = p.place - 1

abbrev pub class_before : PlacedClass → ℕ
class_before p = p.place - 1

abbrev pub method_before : PlacedMethod → ℕ
method_before p = p.place - 1

-- what is shown in two steps
pub map_twice : {A B C : Type 0} (f : A → B) (g : B → C) (xs : List A) → map (λ x. g (f x)) xs ≡ map g (map f xs)
map_twice f g [] = refl
map_twice {A} {B} {C} f g (x ∷ xs) = ap (λ (ys : List C). g (f x) ∷ ys) (map_twice f g xs)

module _ {X : Type 0} (stay : X → Bool) where
  -- what stands at the places of those that differ
  at_differing : (front xs : List X) (k : ℕ) → k ≡ length front
      → filter_map (slice_get (front ++ xs)) (map place_before (differing_from (suc k) stay xs)) ≡ filter (λ x. not (stay x)) xs
  at_differing front [] k e = refl
  at_differing front (x ∷ xs) k e = by (stay x) (at_differing (front ++ x ∷ []) xs (suc k) (ap suc e ∙ sym (grown front x)))
    where
      more : filter_map (slice_get ((front ++ x ∷ []) ++ xs)) (map place_before (differing_from (suc (suc k)) stay xs)) ≡ filter (λ x. not (stay x)) xs
          → filter_map (slice_get (front ++ x ∷ xs)) (map place_before (differing_from (suc (suc k)) stay xs)) ≡ filter (λ x. not (stay x)) xs
      more rest = ap (λ (ys : List X). filter_map (slice_get ys) (map place_before (differing_from (suc (suc k)) stay xs))) (sym (append_assoc front (x ∷ []) xs)) ∙ rest

      here : slice_get (front ++ x ∷ xs) (suc k - 1) ≡ Some x
      here = let one : suc k - 1 ≡ length front = omega (arith, e) in ap (slice_get (front ++ x ∷ xs)) one ∙ behind_front front xs x

      by : (b : Bool) → filter_map (slice_get ((front ++ x ∷ []) ++ xs)) (map place_before (differing_from (suc (suc k)) stay xs)) ≡ filter (λ x. not (stay x)) xs
          → filter_map (slice_get (front ++ x ∷ xs)) (map place_before (if b then differing_from (suc (suc k)) stay xs else record { place = suc k; item = x } ∷ differing_from (suc (suc k)) stay xs))
          ≡ cond (not b) (x ∷ filter (λ x. not (stay x)) xs) (filter (λ x. not (stay x)) xs)
      by true rest = more rest
      by false rest = λ j. cons_option (here j) (more rest j)

  -- their places are above 0
  place_above : (xs : List X) (k n m : ℕ) → slice_get (map (λ (p : PlacedOf X). p.place) (differing_from (suc k) stay xs)) n ≡ Some m → 1 ≤ m
  place_above [] k n m e = absurd (cc)
  place_above (x ∷ xs) k n m e = by (stay x) n (place_above xs (suc k)) e
    where
      by : (b : Bool) (n : ℕ) → ((i j : ℕ) → slice_get (map (λ (p : PlacedOf X). p.place) (differing_from (suc (suc k)) stay xs)) i ≡ Some j → 1 ≤ j)
          → slice_get (map (λ (p : PlacedOf X). p.place) (if b then differing_from (suc (suc k)) stay xs else record { place = suc k; item = x } ∷ differing_from (suc (suc k)) stay xs)) n ≡ Some m → 1 ≤ m
      by true n rest f = rest n m f
      by false zero rest f = let one : suc k ≡ m = cc in omega (arith, one)
      by false (suc n) rest f = rest n m f

  -- so are those of what is shown of them
  pub above_nothing : {P : Type 0} (place : P → ℕ) (ps : List P) (xs : List X) (n : ℕ) (d : P) → map place ps ≡ map (λ (p : PlacedOf X). p.place) (differing_from 1 stay xs) → n < length ps → 1 ≤ place (get_or ps n d)
  above_nothing place ps xs n d same l =
      place_above xs 0 n (place (get_or ps n d)) (ap (λ (ns : List ℕ). slice_get ns n) (sym same) ∙ at_map place ps n (get_or ps n d) (slice_get-get_or ps n d l))

-- what stands at the places of those whose keys pass
at_places : {X : Type 0} (key : X → Text) (p : Text → Bool) (front xs : List X) (k : ℕ) → k ≡ length front
    → filter_map (slice_get (front ++ xs)) (places_from k p (map key xs)) ≡ filter (λ x. p (key x)) xs
at_places key p front [] k e = refl
at_places {X} key p front (x ∷ xs) k e = by (p (key x)) (at_places key p (front ++ x ∷ []) xs (suc k) (ap suc e ∙ sym (grown front x)))
  where
    more : filter_map (slice_get ((front ++ x ∷ []) ++ xs)) (places_from (suc k) p (map key xs)) ≡ filter (λ x. p (key x)) xs
        → filter_map (slice_get (front ++ x ∷ xs)) (places_from (suc k) p (map key xs)) ≡ filter (λ x. p (key x)) xs
    more rest = ap (λ (ys : List X). filter_map (slice_get ys) (places_from (suc k) p (map key xs))) (sym (append_assoc front (x ∷ []) xs)) ∙ rest

    by : (b : Bool) → filter_map (slice_get ((front ++ x ∷ []) ++ xs)) (places_from (suc k) p (map key xs)) ≡ filter (λ x. p (key x)) xs
        → filter_map (slice_get (front ++ x ∷ xs)) (if b then k ∷ places_from (suc k) p (map key xs) else places_from (suc k) p (map key xs))
        ≡ cond b (x ∷ filter (λ x. p (key x)) xs) (filter (λ x. p (key x)) xs)
    by true rest = λ j. cons_option ((ap (slice_get (front ++ x ∷ xs)) e ∙ behind_front front xs x) j) (more rest j)
    by false rest = more rest

-- what is in the slots that stand at places
in_slots : {X : Type 0} (shows : ℕ → Option X) (slots : List ℕ) (xs : List X) → map shows slots ≡ map Some xs → (places : List ℕ) → map shows (filter_map (slice_get slots) places) ≡ map Some (filter_map (slice_get xs) places)
in_slots shows slots xs e [] = refl
in_slots {X} shows slots xs e (n ∷ places) = by (slice_get slots n) (slice_get xs n) (sym (slice_get-map shows slots n) ∙ ap (λ (os : List (Option X)). slice_get os n) e ∙ slice_get-map Some xs n) (in_slots shows slots xs e places)
  where
    by : (o : Option ℕ) (p : Option X) → option_map shows o ≡ option_map Some p → map shows (filter_map (slice_get slots) places) ≡ map Some (filter_map (slice_get xs) places)
        → map shows (cons_option o (filter_map (slice_get slots) places)) ≡ map Some (cons_option p (filter_map (slice_get xs) places))
    by None None f rest = rest
    by None (Some x) f rest = absurd (cc)
    by (Some k) None f rest = absurd (cc)
    by (Some k) (Some x) f rest = let one : shows k ≡ Some x = cc in λ j. one j ∷ rest j

-- the members of each image alone
earlier_members : {X : Type 0} (e l : ℕ → Option X) (ks : List ℕ) → map (member_in e l) (map Earlier ks) ≡ map e ks
earlier_members e l [] = refl
earlier_members {X} e l (k ∷ ks) = ap (λ (os : List (Option X)). e k ∷ os) (earlier_members e l ks)

later_members : {X : Type 0} (e l : ℕ → Option X) (ks : List ℕ) → map (member_in e l) (map Later ks) ≡ map l ks
later_members e l [] = refl
later_members {X} e l (k ∷ ks) = ap (λ (os : List (Option X)). l k ∷ os) (later_members e l ks)

module _ {X : Type 0} (key : X → Text) (alike equal : X → X → Bool) (tells : (x y : X) → alike x y ≡ text_eq (key x) (key y)) (e l : ℕ → Option X) (xs ys : List X) (slots others : List ℕ)
    (in_earlier : map e slots ≡ map Some xs) (in_later : map l others ≡ map Some ys) where
  -- the members that differ
  pub members_differ : (places lone : List ℕ) (found : List (Member ℕ)) → places ≡ map place_before (differing_from 1 (stays alike equal xs ys) xs) → lone ≡ places_from 0 (λ t. not (is_listed (map key xs) t)) (map key ys)
      → found ≡ map Earlier (filter_map (slice_get slots) places) ++ map Later (filter_map (slice_get others) lone) → map (member_in e l) found ≡ map Some (differing alike equal xs ys)
  members_differ places lone found p q is =
      ap (map (member_in e l)) is
      ∙ map-append (member_in e l) (map Earlier (filter_map (slice_get slots) places)) (map Later (filter_map (slice_get others) lone))
      ∙ (λ j. (earlier_members e l (filter_map (slice_get slots) places) ∙ in_slots e slots xs in_earlier places ∙ ap (map Some) first) j
      ++ (later_members e l (filter_map (slice_get others) lone) ∙ in_slots l others ys in_later lone ∙ ap (map Some) second) j)
      ∙ sym (map-append Some (filter (λ x. not (stays alike equal xs ys x)) xs) (filter (λ y. not (is_among alike xs y)) ys))
    where
      first : filter_map (slice_get xs) places ≡ filter (λ x. not (stays alike equal xs ys x)) xs
      first = ap (filter_map (slice_get xs)) p ∙ at_differing (stays alike equal xs ys) [] xs 0 refl

      second : filter_map (slice_get ys) lone ≡ filter (λ y. not (is_among alike xs y)) ys
      second =
          ap (filter_map (slice_get ys)) q ∙ at_places key (λ t. not (is_listed (map key xs) t)) [] ys 0 refl
          ∙ ap (λ (r : X → Bool). filter r ys) (λ j y. not (sym (among_listed key alike tells xs y) j))
