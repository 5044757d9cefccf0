-- Which classes can be taken, once one more is taken.
use Rattle.std.proofs.Common.{◌≡◌, ◌≢◌, ◌⊎◌, inl, inr, ℕ, zero, suc, ◌<◌, ◌≤◌, Bool, true, false, not, cond, ◌&&◌, List, [], ◌∷◌, ◌++◌, length, find, is_some, slice_get, slice_set, nat_eq, nat_lt, Option, Some, None, refl, sym, ap, ◌∙◌, arith, true≢false, subst}
use Rattle.std.specs.Prelude.{◌||◌, if◌then◌else◌}
use Rattle.std.specs.Option.{option_map_or}
use Rattle.std.proofs.lemmas.Bool.{ltb-true, ltb-false, lt-ltb, le-ltb}
use Rattle.std.proofs.lemmas.Bool.Decides.{eqb_tells}
use Rattle.std.proofs.lemmas.List.{length-append}
use Rattle.image_model.specs.Image.{ClassOf}
use Rattle.file_model.specs.Hierarchy.{stands_in, can_follow, without_first, settle_behind}
use Rattle.draft_orders.specs.Chains.{is_named, is_below, last_before}
use Rattle.draft_orders.specs.Settling.{is_there, left, fits, fits_at}
use Rattle.draft_orders.proofs.Chained.{reach, last_is, none_behind, past_end, front_same, at_end}

or_false : (b : Bool) → (b || false) ≡ b
or_false true = refl
or_false false = refl

and_false : (b : Bool) → (b && false) ≡ false
and_false true = refl
and_false false = refl

other_eq : (j k : ℕ) → j < k → nat_eq j k ≡ false
other_eq j k h = by (eqb_tells j k)
  where
    by : ((nat_eq j k ≡ true) × (j ≡ k)) ⊎ ((nat_eq j k ≡ false) × (j ≢ k)) → nat_eq j k ≡ false
    by (inl s) = absurd (omega (arith, s.1))
    by (inr s) = s.0

above_eq : (j k : ℕ) → k < j → nat_eq j k ≡ false
above_eq j k h = by (eqb_tells j k)
  where
    by : ((nat_eq j k ≡ true) × (j ≡ k)) ⊎ ((nat_eq j k ≡ false) × (j ≢ k)) → nat_eq j k ≡ false
    by (inl s) = absurd (omega (arith, s.1))
    by (inr s) = s.0

same_eq : (k : ℕ) → nat_eq k k ≡ true
same_eq k = by (eqb_tells k k)
  where
    by : ((nat_eq k k ≡ true) × (k ≡ k)) ⊎ ((nat_eq k k ≡ false) × (k ≢ k)) → nat_eq k k ≡ true
    by (inl s) = s.0
    by (inr s) = absurd (s.1 refl)

-- what is ready while the classes below one are gone through, from the last one back
abbrev pub Woken : (ℕ → Bool) → (ℕ → Bool) → (ℕ → Bool) → ℕ → (ℕ → Bool) → Type 0
Woken p there start bound now = (j : ℕ) → now j ≡ (start j || (not (nat_lt j bound) && (p j && there j)))

pub woken_first : (p there start : ℕ → Bool) (size : ℕ) (next : Option ℕ) → next ≡ last_before p size → ((j : ℕ) → size ≤ j → p j ≡ false) → Woken p there start (reach next) start
woken_first p there start size next e past j = by (nat_lt j (reach next)) (nat_lt j size) refl refl
  where
    gone : p j ≡ false → start j ≡ (start j || (not false && (p j && there j)))
    gone h = sym (ap (λ b. start j || (b && there j)) h ∙ or_false (start j))

    by : (s t : Bool) → nat_lt j (reach next) ≡ s → nat_lt j size ≡ t → start j ≡ (start j || (not s && (p j && there j)))
    by true t f g = sym (or_false (start j))
    by false true f g = gone (none_behind p size j (subst (λ (o : Option ℕ). reach o ≤ j) e (ltb-false j (reach next) f)) (ltb-true j size g))
    by false false f g = gone (past j (ltb-false j size g))

pub reach_less : (p : ℕ → Bool) (place : ℕ) (next : Option ℕ) → next ≡ last_before p place → reach next ≤ place
reach_less p place None e = omega arith
reach_less p place (Some k) e = omega (arith, (last_is p place k (sym e)).1)

pub woken_more : (p there start now new : ℕ → Bool) (place : ℕ) (next : Option ℕ) → p place ≡ true → next ≡ last_before p place → Woken p there start (suc place) now → ((j : ℕ) → new j ≡ (now j || (nat_eq place j && there j)))
    → Woken p there start (reach next) new
woken_more p there start now new place next passes e woken one j =
    one j ∙ ap (λ b. b || (nat_eq place j && there j)) (woken j) ∙ by (nat_lt j place) (nat_lt place j) refl refl
  where
    low : reach next ≤ place
    low = reach_less p place next e

    both : (a : Bool) → ((a || false) || false) ≡ (a || false)
    both true = refl
    both false = refl

    behind : j < place → (b : Bool) → nat_lt j (reach next) ≡ b → ((start j || false) || false) ≡ (start j || (not b && (p j && there j)))
    behind h true f = both (start j)
    behind h false f =
        both (start j)
        ∙ ap (λ b. start j || (b && there j)) (sym (none_behind p place j (subst (λ (o : Option ℕ). reach o ≤ j) e (ltb-false j (reach next) f)) h))

    own : (a b : Bool) → ((a || false) || (true && b)) ≡ (a || (true && (true && b)))
    own true b = refl
    own false b = refl

    front : (a b : Bool) → ((a || (true && b)) || false) ≡ (a || (true && b))
    front true b = refl
    front false true = refl
    front false false = refl

    by : (s t : Bool) → nat_lt j place ≡ s → nat_lt place j ≡ t → ((start j || (not (nat_lt j (suc place)) && (p j && there j))) || (nat_eq place j && there j)) ≡ (start j || (not (nat_lt j (reach next)) && (p j && there j)))
    by true t f g =
        let h : j < place = ltb-true j place f in
        (λ i. (start j || (not (lt-ltb j (suc place) (omega (arith, h)) i) && (p j && there j))) || (above_eq place j h i && there j)) ∙ behind h (nat_lt j (reach next)) refl
    by false true f g =
        let h : place < j = ltb-true place j g in
        (λ i. (start j || (not (le-ltb j (suc place) (omega (arith, h)) i) && (p j && there j))) || (other_eq place j h i && there j))
        ∙ front (start j) (p j && there j) ∙ (λ i. start j || (not (sym (le-ltb j (reach next) (omega (arith, h, low))) i) && (p j && there j)))
    by false false f g =
        let h : j ≡ place = omega (arith, ltb-false j place f, ltb-false place j g) in
        (λ i. (start j || (not (lt-ltb j (suc place) (omega (arith, h)) i) && (p j && there j))) || (eq_at h i && there j))
        ∙ own (start j) (there j)
        ∙ (λ i. start j || (not (sym (le-ltb j (reach next) (omega (arith, h, low))) i) && (sym (ap p h ∙ passes) i && there j)))
      where
        eq_at : j ≡ place → nat_eq place j ≡ true
        eq_at h = ap (nat_eq place) h ∙ same_eq place

pub woken_all : (p there start now : ℕ → Bool) → Woken p there start 0 now → (j : ℕ) → now j ≡ (start j || (p j && there j))
woken_all p there start now woken j = woken j ∙ ap (λ b. start j || (not b && (p j && there j))) (le-ltb j 0 (omega arith))

-- lists of slots
pub set_same : {X : Type 0} (xs : List X) (k : ℕ) (x y : X) → slice_get xs k ≡ Some x → slice_get (slice_set xs k y) k ≡ Some y
set_same [] k x y e = absurd (no e)
  where
    no : None ≡ Some x → ⊥
    no e = cc
set_same (z ∷ zs) zero x y e = refl
set_same (z ∷ zs) (suc k) x y e = set_same zs k x y e

pub set_other : {X : Type 0} (xs : List X) (k j : ℕ) (y : X) → nat_eq k j ≡ false → slice_get (slice_set xs k y) j ≡ slice_get xs j
set_other [] k j y e = refl
set_other (z ∷ zs) zero zero y e = absurd (true≢false e)
set_other (z ∷ zs) zero (suc j) y e = refl
set_other (z ∷ zs) (suc k) zero y e = refl
set_other (z ∷ zs) (suc k) (suc j) y e = set_other zs k j y (less k j e)
  where
    less : (k j : ℕ) → nat_eq (suc k) (suc j) ≡ false → nat_eq k j ≡ false
    less k j e = by (eqb_tells k j)
      where
        by : ((nat_eq k j ≡ true) × (k ≡ j)) ⊎ ((nat_eq k j ≡ false) × (k ≢ j)) → nat_eq k j ≡ false
        by (inl s) = absurd (true≢false (sym (same_eq (suc k)) ∙ ap (λ m. nat_eq (suc k) (suc m)) s.1 ∙ e))
        by (inr s) = s.0

pub set_length : {X : Type 0} (xs : List X) (k : ℕ) (y : X) → length (slice_set xs k y) ≡ length xs
set_length [] k y = refl
set_length (z ∷ zs) zero y = refl
set_length (z ∷ zs) (suc k) y = ap suc (set_length zs k y)

-- one class more at the end of those that are not taken
pub left_more : (slots : List (Option (ClassOf ℕ))) (c : ClassOf ℕ) → left (slots ++ Some c ∷ []) ≡ left slots ++ c ∷ []
left_more [] c = refl
left_more (None ∷ slots) c = left_more slots c
left_more (Some d ∷ slots) c = ap (λ (r : List (ClassOf ℕ)). d ∷ r) (left_more slots c)

-- the first class that can be taken, and those without it
pub first_left : (p : ClassOf ℕ → Bool) (slots : List (Option (ClassOf ℕ))) (k : ℕ) (c : ClassOf ℕ) → slice_get slots k ≡ Some (Some c) → p c ≡ true
    → ((j : ℕ) → j < k → option_map_or (λ (o : Option (ClassOf ℕ)). option_map_or p o false) (slice_get slots j) false ≡ false)
    → (find p (left slots) ≡ Some c) × (without_first p (left slots) ≡ left (slice_set slots k None))
first_left p [] k c e t h = absurd (no e)
  where
    no : None ≡ Some (Some c) → ⊥
    no e = cc
first_left p (None ∷ slots) zero c e t h = absurd (no e)
  where
    no : Some None ≡ Some (Some c) → ⊥
    no e = cc
first_left p (Some d ∷ slots) zero c e t h =
    let same : d ≡ c = inside d c e in
    let passes : p d ≡ true = ap p same ∙ t in
    (ap (λ b. cond b (Some d) (find p (left slots))) passes ∙ ap Some same, ap (λ b. cond b (left slots) (d ∷ without_first p (left slots))) passes)
  where
    inside : (d c : ClassOf ℕ) → Some (Some d) ≡ Some (Some c) → d ≡ c
    inside d c e = cc
first_left p (None ∷ slots) (suc k) c e t h = first_left p slots k c e t (λ j l. h (suc j) (omega arith))
first_left p (Some d ∷ slots) (suc k) c e t h =
    let fails : p d ≡ false = h 0 (omega arith) in
    let more : (find p (left slots) ≡ Some c) × (without_first p (left slots) ≡ left (slice_set slots k None)) = first_left p slots k c e t (λ j l. h (suc j) (omega arith)) in
    (ap (λ b. cond b (Some d) (find p (left slots))) fails ∙ more.0, ap (λ b. cond b (left slots) (d ∷ without_first p (left slots))) fails ∙ ap (λ (r : List (ClassOf ℕ)). d ∷ r) more.1)

pub none_left : (p : ClassOf ℕ → Bool) (slots : List (Option (ClassOf ℕ))) → ((j : ℕ) → option_map_or (λ (o : Option (ClassOf ℕ)). option_map_or p o false) (slice_get slots j) false ≡ false) → find p (left slots) ≡ None
none_left p [] h = refl
none_left p (None ∷ slots) h = none_left p slots (λ j. h (suc j))
none_left p (Some d ∷ slots) h = ap (λ b. cond b (Some d) (find p (left slots))) (h 0) ∙ none_left p slots (λ j. h (suc j))

-- where none can be taken, those that are taken are all
pub settled_none : (n : ℕ) (taken rest : List (ClassOf ℕ)) → find (can_follow nat_eq taken) rest ≡ None → settle_behind nat_eq n taken rest ≡ taken
settled_none zero taken rest e = refl
settled_none (suc n) taken rest e = ap (λ (o : Option (ClassOf ℕ)). option_map_or (λ c. settle_behind nat_eq n (taken ++ c ∷ []) (without_first (can_follow nat_eq taken) rest)) o taken) e

-- a class can be taken behind one more if it could be before, or that is its superclass
any_more : (n : ℕ) (taken : List (ClassOf ℕ)) (c : ClassOf ℕ) → stands_in nat_eq n (taken ++ c ∷ []) ≡ (stands_in nat_eq n taken || nat_eq n c.name)
any_more n [] c = or_false (nat_eq n c.name)
any_more n (d ∷ taken) c = ap (λ b. nat_eq n d.name || b) (any_more n taken c) ∙ joined (nat_eq n d.name) (stands_in nat_eq n taken) (nat_eq n c.name)
  where
    joined : (a b c : Bool) → (a || (b || c)) ≡ ((a || b) || c)
    joined true b c = refl
    joined false b c = refl

follow_more : (taken : List (ClassOf ℕ)) (c d : ClassOf ℕ) → can_follow nat_eq (taken ++ c ∷ []) d ≡ (can_follow nat_eq taken d || is_named c.name d.superclass)
follow_more taken c d = by d.superclass
  where
    by : (o : Option ℕ) → option_map_or (λ n. stands_in nat_eq n (taken ++ c ∷ [])) o true ≡ (option_map_or (λ n. stands_in nat_eq n taken) o true || is_named c.name o)
    by None = refl
    by (Some n) = any_more n taken c

-- what is ready behind one more
pub ready_behind : (above : List (Option ℕ)) (slots : List (Option (ClassOf ℕ))) (taken : List (ClassOf ℕ)) (k : ℕ) (c : ClassOf ℕ) (before popped new : ℕ → Bool)
    → ((j : ℕ) (d : ClassOf ℕ) → slice_get slots j ≡ Some (Some d) → slice_get above j ≡ Some d.superclass)
    → slice_get slots k ≡ Some (Some c)
    → ((j : ℕ) → before j ≡ fits_at taken slots j)
    → ((j : ℕ) → popped j ≡ (if nat_eq k j then false else before j))
    → ((j : ℕ) → new j ≡ (popped j || (is_below above c.name j && is_there (slice_set slots k None) j)))
    → (j : ℕ) → new j ≡ fits_at (taken ++ c ∷ []) (slice_set slots k None) j
ready_behind above slots taken k c before popped new known at was out woken j = woken j ∙ ap (λ b. b || (is_below above c.name j && is_there (slice_set slots k None) j)) (out j) ∙ by (eqb_tells k j)
  where
    other : (s : Option (Option (ClassOf ℕ))) → slice_get slots j ≡ s
        → (option_map_or (fits taken) s false || (is_below above c.name j && option_map_or (λ (o : Option (ClassOf ℕ)). is_some o) s false)) ≡ option_map_or (fits (taken ++ c ∷ [])) s false
    other None e = and_false (is_below above c.name j)
    other (Some None) e = and_false (is_below above c.name j)
    other (Some (Some d)) e =
        ap (λ b. can_follow nat_eq taken d || (b && true)) (ap (λ (s : Option (Option ℕ)). option_map_or (is_named c.name) s false) (known j d e))
        ∙ ap (λ b. can_follow nat_eq taken d || b) (and_true (is_named c.name d.superclass)) ∙ sym (follow_more taken c d)
      where
        and_true : (b : Bool) → (b && true) ≡ b
        and_true true = refl
        and_true false = refl

    by : ((nat_eq k j ≡ true) × (k ≡ j)) ⊎ ((nat_eq k j ≡ false) × (k ≢ j))
        → ((if nat_eq k j then false else before j) || (is_below above c.name j && is_there (slice_set slots k None) j)) ≡ fits_at (taken ++ c ∷ []) (slice_set slots k None) j
    by (inl s) =
        let gone : slice_get (slice_set slots k None) j ≡ Some None = ap (slice_get (slice_set slots k None)) (sym s.1) ∙ set_same slots k (Some c) None at in
        (λ i. (cond (s.0 i) false (before j)) || (is_below above c.name j && option_map_or (λ (o : Option (ClassOf ℕ)). is_some o) (gone i) false))
        ∙ and_false (is_below above c.name j) ∙ ap (λ (o : Option (Option (ClassOf ℕ))). option_map_or (fits (taken ++ c ∷ [])) o false) (sym gone)
    by (inr s) =
        let stays : slice_get (slice_set slots k None) j ≡ slice_get slots j = set_other slots k j None s.0 in
        (λ i. (cond (s.0 i) false (was j i)) || (is_below above c.name j && option_map_or (λ (o : Option (ClassOf ℕ)). is_some o) (stays i) false))
        ∙ other (slice_get slots j) refl ∙ ap (λ (o : Option (Option (ClassOf ℕ))). option_map_or (fits (taken ++ c ∷ [])) o false) (sym stays)

-- the superclasses of those that are left are known
pub known_behind : (above : List (Option ℕ)) (slots : List (Option (ClassOf ℕ))) (k : ℕ) (c : ClassOf ℕ) → slice_get slots k ≡ Some (Some c)
    → ((j : ℕ) (d : ClassOf ℕ) → slice_get slots j ≡ Some (Some d) → slice_get above j ≡ Some d.superclass)
    → (j : ℕ) (d : ClassOf ℕ) → slice_get (slice_set slots k None) j ≡ Some (Some d) → slice_get above j ≡ Some d.superclass
known_behind above slots k c at known j d e = by (eqb_tells k j)
  where
    no : Some None ≡ Some (Some d) → ⊥
    no e = cc

    by : ((nat_eq k j ≡ true) × (k ≡ j)) ⊎ ((nat_eq k j ≡ false) × (k ≢ j)) → slice_get above j ≡ Some d.superclass
    by (inl s) = absurd (no (sym (ap (slice_get (slice_set slots k None)) (sym s.1) ∙ set_same slots k (Some c) None at) ∙ e))
    by (inr s) = known j d (sym (set_other slots k j None s.0) ∙ e)

-- one more class, before any is taken
pub ready_more : (slots : List (Option (ClassOf ℕ))) (c : ClassOf ℕ) (before new : ℕ → Bool)
    → ((j : ℕ) → before j ≡ fits_at [] slots j)
    → ((j : ℕ) → new j ≡ (before j || (nat_eq (length slots) j && not (is_some c.superclass))))
    → (j : ℕ) → new j ≡ fits_at [] (slots ++ Some c ∷ []) j
ready_more slots c before new was put j = put j ∙ by (nat_lt j (length slots)) (nat_lt (length slots) j) refl refl
  where
    free : (o : Option ℕ) → not (is_some o) ≡ option_map_or (λ (n : ℕ). stands_in nat_eq n []) o true
    free None = refl
    free (Some n) = refl

    by : (s t : Bool) → nat_lt j (length slots) ≡ s → nat_lt (length slots) j ≡ t → (before j || (nat_eq (length slots) j && not (is_some c.superclass))) ≡ fits_at [] (slots ++ Some c ∷ []) j
    by true t f g =
        let h : j < length slots = ltb-true j (length slots) f in
        (λ i. before j || (above_eq (length slots) j h i && not (is_some c.superclass))) ∙ or_false (before j) ∙ was j
        ∙ ap (λ (o : Option (Option (ClassOf ℕ))). option_map_or (fits []) o false) (sym (front_same slots (Some c) j h))
    by false true f g =
        let h : length slots < j = ltb-true (length slots) j g in
        let past : slice_get slots j ≡ None = past_end slots j (omega (arith, h)) in
        let longer : slice_get (slots ++ Some c ∷ []) j ≡ None = past_end (slots ++ Some c ∷ []) j (omega (arith, h, length-append slots (Some c ∷ []))) in
        (λ i. before j || (other_eq (length slots) j h i && not (is_some c.superclass))) ∙ or_false (before j) ∙ was j
        ∙ ap (λ (o : Option (Option (ClassOf ℕ))). option_map_or (fits []) o false) (past ∙ sym longer)
    by false false f g =
        let h : j ≡ length slots = omega (arith, ltb-false j (length slots) f, ltb-false (length slots) j g) in
        let nothing : before j ≡ false = was j ∙ ap (λ (o : Option (Option (ClassOf ℕ))). option_map_or (fits []) o false) (past_end slots j (omega (arith, h))) in
        let last : slice_get (slots ++ Some c ∷ []) j ≡ Some (Some c) = ap (slice_get (slots ++ Some c ∷ [])) h ∙ at_end slots (Some c) in
        (λ i. nothing i || ((ap (nat_eq (length slots)) h ∙ same_eq (length slots)) i && not (is_some c.superclass)))
        ∙ free c.superclass ∙ ap (λ (o : Option (Option (ClassOf ℕ))). option_map_or (fits []) o false) (sym last)

pub known_more : (above : List (Option ℕ)) (slots : List (Option (ClassOf ℕ))) (c : ClassOf ℕ) → length above ≡ length slots
    → ((j : ℕ) (d : ClassOf ℕ) → slice_get slots j ≡ Some (Some d) → slice_get above j ≡ Some d.superclass)
    → (j : ℕ) (d : ClassOf ℕ) → slice_get (slots ++ Some c ∷ []) j ≡ Some (Some d) → slice_get (above ++ c.superclass ∷ []) j ≡ Some d.superclass
known_more above slots c size known j d e = by (nat_lt j (length slots)) (nat_lt (length slots) j) refl refl
  where
    inside : Some (Some c) ≡ Some (Some d) → c ≡ d
    inside e = cc

    no : None ≡ Some (Some d) → ⊥
    no e = cc

    by : (s t : Bool) → nat_lt j (length slots) ≡ s → nat_lt (length slots) j ≡ t → slice_get (above ++ c.superclass ∷ []) j ≡ Some d.superclass
    by true t f g =
        let h : j < length slots = ltb-true j (length slots) f in
        front_same above c.superclass j (omega (arith, h, size)) ∙ known j d (sym (front_same slots (Some c) j h) ∙ e)
    by false true f g =
        let h : length slots < j = ltb-true (length slots) j g in
        absurd (no (sym (past_end (slots ++ Some c ∷ []) j (omega (arith, h, length-append slots (Some c ∷ [])))) ∙ e))
    by false false f g =
        let h : j ≡ length slots = omega (arith, ltb-false j (length slots) f, ltb-false (length slots) j g) in
        let one : c ≡ d = inside (sym (ap (slice_get (slots ++ Some c ∷ [])) h ∙ at_end slots (Some c)) ∙ e) in
        ap (slice_get (above ++ c.superclass ∷ [])) (h ∙ sym size) ∙ at_end above c.superclass ∙ ap (λ (x : ClassOf ℕ). Some x.superclass) one

-- none before the least one is ready
pub least_first : (before : ℕ → Bool) (k : ℕ) → ((j : ℕ) → before j ≡ true → k ≤ j) → (j : ℕ) → j < k → before j ≡ false
least_first before k least j h = by (before j) refl
  where
    by : (b : Bool) → before j ≡ b → before j ≡ false
    by true e = absurd (omega (arith, least j e))
    by false e = e

-- what can be taken is there
pub taken_there : (taken : List (ClassOf ℕ)) (slots : List (Option (ClassOf ℕ))) (k : ℕ) → fits_at taken slots k ≡ true → k < length slots
taken_there taken slots k h = by (nat_lt k (length slots)) refl
  where
    by : (b : Bool) → nat_lt k (length slots) ≡ b → k < length slots
    by true e = ltb-true k (length slots) e
    by false e = absurd (true≢false (sym h ∙ ap (λ (o : Option (Option (ClassOf ℕ))). option_map_or (fits taken) o false) (past_end slots k (ltb-false k (length slots) e))))
