-- What slots hold when sources are changed.
use Rattle.std.proofs.Common.{◌≡◌, ◌≢◌, ◌⊎◌, inl, inr, ℕ, zero, suc, ◌+◌, ◌<◌, ◌≤◌, ◌||◌, Bool, true, false, not, List, [], ◌∷◌, length, map, Option, None, Some, option_map, slice_get, set, get_or, take, ◌++◌, refl, sym, ap, subst, ◌∙◌, arith, true≢false}
use Rattle.std.specs.Prelude.{if◌then◌else◌}
use Rattle.std.specs.List.{list_any}
use Rattle.std.specs.Option.{option_map_or}
use Rattle.std.proofs.Math.Dec.{eqb}
use Rattle.std.proofs.lemmas.Bool.Decides.{eqb_tells}
use Rattle.std.proofs.lemmas.List.{set-get_or, length-set, take_more}
use Rattle.std.proofs.lemmas.Option.{slice_get_within, get_or_from_slice_get}
use Rattle.class_table.specs.declared.record.MethodRec.{MethodRec}
use Rattle.class_table.specs.declared.record.DoIt.{DoIt}
use Rattle.class_table.specs.declared.record.Place.TheVariants as place
use Rattle.class_table.specs.declared.record.MethodInfo.{MethodInfo}
use Rattle.class_table.specs.Info.{IsInfoOf}
use Rattle.class_table.specs.Slots.{Slots}
use Rattle.class_table.specs.Changing.{changed_at, with_source}
use Rattle.class_table.specs.View.{live_at}
use Rattle.class_table.specs.Valid.{IsLive}
use Rattle.class_table.proofs.OrderLemmas.{get-set_same, get-set_other}
use Rattle.canonical_image.specs.Sources.{method_text, doit_text, canonical_rec, canonical_doit_rec, all_changed, first_changed, is_user}

-- what a live slot holds is there
pub live_at-live : {X : Type 0} (xs : List X) (order : List ℕ) (k : ℕ) → IsLive order k → live_at xs order k ≡ slice_get xs k
live_at-live xs order k l = ap (λ (b : Bool). if b then slice_get xs k else None) l

-- what is lent of a record is that of a record that is there
pub held : {X Y : Type 0} (f : X → Y) (o : Option X) (y : Y) → Some y ≡ option_map f o → (x : X) × (o ≡ Some x) × (y ≡ f x)
held f None y e = absurd (cc)
held f (Some x) y e = (x, refl, cc)

-- nothing is lent where nothing is there
pub none_held : {X Y : Type 0} (f : X → Y) (o : Option X) (x : X) → None ≡ option_map f o → o ≡ Some x → ⊥
none_held f None x e h = cc
none_held f (Some z) x e h = cc

-- a method of the user is there
pub user_there : (o : Option MethodRec) → is_user o ≡ true → (m : MethodRec) × (o ≡ Some m) × (m.kernel ≡ false)
user_there None h = absurd (true≢false (sym h))
user_there (Some m) h = (m, refl, by m.kernel h)
  where
    by : (b : Bool) → not b ≡ true → b ≡ false
    by true e = absurd (true≢false (sym e))
    by false e = refl

-- the item at a place is put where it stands
set_same : {X : Type 0} (xs : List X) (k : ℕ) (x : X) → slice_get xs k ≡ Some x → set xs k x ≡ xs
set_same xs k x e = ap (set xs k) (sym (get_or_from_slice_get xs k x x e)) ∙ set-get_or xs k x

-- the canonical text of a method of the user is put in
pub swapped : (s : Slots) (k : ℕ) (m : MethodRec) (text : List ℕ) → slice_get s.methods k ≡ Some m → m.kernel ≡ false → text ≡ method_text s.names m
    → with_source s (place.Method k) text ≡ record s { methods = changed_at (canonical_rec s.names) s.methods k }
swapped s k m text e user same =
    ap (λ (o : Option MethodRec). let t : Slots = record s { methods = option_map_or (λ (x : MethodRec). set s.methods k (record x { source = text })) o s.methods } in t) e
    ∙ ap (λ (u : List ℕ). let t : Slots = record s { methods = set s.methods k (record m { source = u }) } in t) (same ∙ sym (ap (λ (b : Bool). if b then m.source else method_text s.names m) user))
    ∙ sym (ap (λ (o : Option MethodRec). let t : Slots = record s { methods = option_map_or (λ (x : MethodRec). set s.methods k (canonical_rec s.names x)) o s.methods } in t) e)

-- a method of the kernel stays
kernel_stays : (names : List (List ℕ)) (m : MethodRec) → m.kernel ≡ true → canonical_rec names m ≡ m
kernel_stays names m kernel = ap (λ (b : Bool). let x : MethodRec = record m { source = if b then m.source else method_text names m } in x) kernel

-- what is no method of the user stays
pub stayed : (s : Slots) (k : ℕ) → is_user (slice_get s.methods k) ≡ false → s ≡ record s { methods = changed_at (canonical_rec s.names) s.methods k }
stayed s k h = sym (ap (λ (xs : List MethodRec). let t : Slots = record s { methods = xs } in t) (by (slice_get s.methods k) refl h))
  where
    by : (o : Option MethodRec) → slice_get s.methods k ≡ o → is_user o ≡ false → option_map_or (λ (x : MethodRec). set s.methods k (canonical_rec s.names x)) o s.methods ≡ s.methods
    by None e f = refl
    by (Some m) e f = ap (set s.methods k) (kernel_stays s.names m (at m.kernel f)) ∙ set_same s.methods k m e
      where
        at : (b : Bool) → not b ≡ false → b ≡ true
        at true q = refl
        at false q = absurd (true≢false q)

-- the canonical text of a do-it is put in
pub swapped_doit : (s : Slots) (k : ℕ) (d : DoIt) (text : List ℕ) → slice_get s.doits k ≡ Some d → text ≡ doit_text s.names d
    → with_source s (place.DoIt k) text ≡ record s { doits = changed_at (canonical_doit_rec s.names) s.doits k }
swapped_doit s k d text e same =
    ap (λ (o : Option DoIt). let t : Slots = record s { doits = option_map_or (λ (x : DoIt). set s.doits k (record x { source = text })) o s.doits } in t) e
    ∙ ap (λ (u : List ℕ). let t : Slots = record s { doits = set s.doits k (record d { source = u }) } in t) same
    ∙ sym (ap (λ (o : Option DoIt). let t : Slots = record s { doits = option_map_or (λ (x : DoIt). set s.doits k (canonical_doit_rec s.names x)) o s.doits } in t) e)

-- the item at a place, changed where a test says so
pub changed_if : {X : Type 0} → (X → X) → Bool → Option X → Option X
changed_if f b o = if b then option_map f o else o

-- what the slots hold when one is changed
pub get_changed : {X : Type 0} (f : X → X) (xs : List X) (k j : ℕ) → slice_get (changed_at f xs k) j ≡ (if eqb j k then option_map f (slice_get xs j) else slice_get xs j)
get_changed {X} f xs k j = by (slice_get xs k) refl (eqb_tells j k)
  where
    by : (o : Option X) → slice_get xs k ≡ o → ((eqb j k ≡ true) × (j ≡ k)) ⊎ ((eqb j k ≡ false) × (j ≢ k))
        → slice_get (option_map_or (λ x. set xs k (f x)) o xs) j ≡ (if eqb j k then option_map f (slice_get xs j) else slice_get xs j)
    by None e (inl t) =
        ap (slice_get xs) t.1 ∙ e ∙ sym (ap (λ (b : Bool). if b then option_map f (slice_get xs j) else slice_get xs j) t.0 ∙ ap (option_map f) (ap (slice_get xs) t.1 ∙ e))
    by None e (inr t) = sym (ap (λ (b : Bool). if b then option_map f (slice_get xs j) else slice_get xs j) t.0)
    by (Some x) e (inl t) =
        ap (slice_get (set xs k (f x))) t.1 ∙ get-set_same xs k (f x) (slice_get_within xs k x e)
        ∙ sym (ap (λ (b : Bool). if b then option_map f (slice_get xs j) else slice_get xs j) t.0 ∙ ap (option_map f) (ap (slice_get xs) t.1 ∙ e))
    by (Some x) e (inr t) =
        get-set_other xs k j (f x) (λ q. t.1 (sym q)) ∙ sym (ap (λ (b : Bool). if b then option_map f (slice_get xs j) else slice_get xs j) t.0)

-- there are as many slots when one is changed
pub length-changed : {X : Type 0} (f : X → X) (xs : List X) (k : ℕ) → length (changed_at f xs k) ≡ length xs
length-changed f xs k = by (slice_get xs k)
  where
    by : (o : Option _) → length (option_map_or (λ x. set xs k (f x)) o xs) ≡ length xs
    by None = refl
    by (Some x) = length-set xs k (f x)

-- a method that is changed twice is as one that is changed once
canonical_twice : (names : List (List ℕ)) (m : MethodRec) → canonical_rec names (canonical_rec names m) ≡ canonical_rec names m
canonical_twice names m = ap (λ (t : List ℕ). let x : MethodRec = record m { source = t } in x) (by m.kernel)
  where
    by : (b : Bool) → (if b then (if b then m.source else method_text names m) else method_text names m) ≡ (if b then m.source else method_text names m)
    by true = refl
    by false = refl

-- what the slots hold when those of an order are changed
pub get_all_changed : (names : List (List ℕ)) (xs : List MethodRec) (ks : List ℕ) (j : ℕ)
    → slice_get (all_changed (canonical_rec names) xs ks) j ≡ (if list_any (eqb j) ks then option_map (canonical_rec names) (slice_get xs j) else slice_get xs j)
get_all_changed names xs [] j = refl
get_all_changed names xs (k ∷ ks) j =
    get_all_changed names (changed_at (canonical_rec names) xs k) ks j
    ∙ ap (λ (o : Option MethodRec). if list_any (eqb j) ks then option_map (canonical_rec names) o else o) (get_changed (canonical_rec names) xs k j)
    ∙ by (list_any (eqb j) ks) (eqb j k) (slice_get xs j)
  where
    by : (b c : Bool) (o : Option MethodRec) → (if b then option_map (canonical_rec names) (if c then option_map (canonical_rec names) o else o) else (if c then option_map (canonical_rec names) o else o)) ≡ (if c || b then option_map (canonical_rec names) o else o)
    by true true None = refl
    by true true (Some m) = ap Some (canonical_twice names m)
    by true false o = refl
    by false true o = refl
    by false false o = refl

-- one more of the first do-its is changed
pub first_more : (f : DoIt → DoIt) (n : ℕ) (xs : List DoIt) → changed_at f (first_changed f n xs) n ≡ first_changed f (suc n) xs
first_more f zero [] = refl
first_more f zero (x ∷ xs) = refl
first_more f (suc n) [] = refl
first_more f (suc n) (x ∷ xs) = by (slice_get (first_changed f n xs) n) (first_more f n xs)
  where
    by : (o : Option DoIt) → option_map_or (λ (d : DoIt). set (first_changed f n xs) n (f d)) o (first_changed f n xs) ≡ first_changed f (suc n) xs
        → option_map_or (λ (d : DoIt). set (f x ∷ first_changed f n xs) (suc n) (f d)) o (f x ∷ first_changed f n xs) ≡ f x ∷ first_changed f (suc n) xs
    by None h = ap (λ (ys : List DoIt). f x ∷ ys) h
    by (Some d) h = ap (λ (ys : List DoIt). f x ∷ ys) h

-- all do-its are changed
pub first_all : (f : DoIt → DoIt) (n : ℕ) (xs : List DoIt) → length xs ≤ n → first_changed f n xs ≡ map f xs
first_all f zero [] h = refl
first_all f zero (x ∷ xs) h = absurd (omega arith)
first_all f (suc n) [] h = refl
first_all f (suc n) (x ∷ xs) h = ap (λ (ys : List DoIt). f x ∷ ys) (first_all f n xs (omega arith))

-- there are as many do-its when the first ones are changed
pub length-first : (f : DoIt → DoIt) (n : ℕ) (xs : List DoIt) → length (first_changed f n xs) ≡ length xs
length-first f zero xs = refl
length-first f (suc n) [] = refl
length-first f (suc n) (x ∷ xs) = ap suc (length-first f n xs)

-- the next do-it is not changed yet
pub first_next : (f : DoIt → DoIt) (n : ℕ) (xs : List DoIt) → slice_get (first_changed f n xs) n ≡ slice_get xs n
first_next f zero xs = refl
first_next f (suc n) [] = refl
first_next f (suc n) (x ∷ xs) = first_next f n xs

-- what is told of a method is told of one that is there
pub told : (info : MethodInfo) (o : Option MethodRec) → IsInfoOf (Some info) o → (m : MethodRec) × (o ≡ Some m) × (info.kernel ≡ m.kernel)
told info None h = absurd h
told info (Some m) h = (m, refl, h.kernel)

-- nothing is told where nothing is
pub untold : (o : Option MethodRec) → IsInfoOf None o → o ≡ None
untold None h = refl
untold (Some m) h = absurd h

-- the slot at a place of an order, after those before it
pub next_slot : (xs ys : List ℕ) (p k : ℕ) → ys ≡ xs → p < length ys → k ≡ get_or ys p k → take p xs ++ k ∷ [] ≡ take (p + 1) xs
next_slot xs ys p k same there is =
    subst (λ (zs : List ℕ). take p zs ++ k ∷ [] ≡ take (p + 1) zs) same (ap (λ (j : ℕ). take p ys ++ j ∷ []) is ∙ sym (take_more ys p k there))

-- one more slot of an order is changed
pub all_more : (f : MethodRec → MethodRec) (xs : List MethodRec) (ks : List ℕ) (k : ℕ) → changed_at f (all_changed f xs ks) k ≡ all_changed f xs (ks ++ k ∷ [])
all_more f xs [] k = refl
all_more f xs (j ∷ ks) k = all_more f (changed_at f xs j) ks k
