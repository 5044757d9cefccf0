-- A class that is put behind another one, and the places of the classes then.
use Rattle.std.proofs.Common.{◌≡◌, ℕ, zero, suc, ◌+◌, ◌-◌, ◌<◌, ◌≤◌, Bool, true, false, cond, List, [], ◌∷◌, ◌++◌, length, take, drop, get_or, option_map, Option, Some, None, nat_eq, refl, sym, ap, subst, ◌∙◌, arith, append_assoc, length-append}
use Rattle.std.specs.List.{insert, AllByRecursion}
use Rattle.std.proofs.lemmas.List.{append-nil, take_all, take-append-drop, length-take-le, get_or-take, drop_all, drop_more}
use Rattle.std.specs.Option.{option_or}
use Rattle.image_model.specs.Image.{ClassOf}
use Rattle.file_model.specs.Hierarchy.{has_class}
use Rattle.file_laws.proofs.Defined.{has_stands}
use Rattle.file_laws.proofs.Moves.{All-append}
use Rattle.file_laws.proofs.Repeats.{none_pass}
use Rattle.image_draft.specs.Names.{NamesDiffer}
use Rattle.image_draft.specs.Alone.{put_back}
use Rattle.image_draft.specs.Table.{place_at, place_in, IsPlaceTable}
use Rattle.image_draft.proofs.ClassPlaces.{place_cons, same_back}
use Rattle.image_draft.proofs.Numbers.{nat_itself, nat_equal}
use Rattle.image_draft.proofs.Passed.{place_append}

-- the items between two places, turned by one, put the first behind the others
pub turned : {X : Type 0} (k j l : ℕ) (xs : List X) → k + l ≡ suc j → j < length xs → k ≤ j
    → take k xs ++ ((drop 1 (take l (drop k xs)) ++ take 1 (take l (drop k xs))) ++ drop l (drop k xs)) ≡ put_back k j xs
turned k j l [] e less le = absurd (omega (arith, less))
turned zero j l (x ∷ xs) e less le =
    let same : suc j ≡ l = omega (arith, e) in
    subst (λ (m : ℕ). (drop 1 (take m (x ∷ xs)) ++ take 1 (take m (x ∷ xs))) ++ drop m (x ∷ xs) ≡ insert xs j x) same (append_assoc (take j xs) (x ∷ []) (drop j xs))
turned (suc k) zero l (x ∷ xs) e less le = absurd (omega (arith, le))
turned (suc k) (suc j) l (x ∷ xs) e less le = ap (λ ys. x ∷ ys) (turned k j l xs (omega (arith, e)) (omega (arith, less)) (omega (arith, le)))

-- as many are there then
pub length_put_back : {X : Type 0} (k j : ℕ) (xs : List X) → length (put_back k j xs) ≡ length xs
length_put_back k j [] = refl
length_put_back zero j (x ∷ xs) =
    let with : length (take j xs ++ x ∷ drop j xs) ≡ length (take j xs) + length (x ∷ drop j xs) = length-append (take j xs) (x ∷ drop j xs) in
    let without : length (take j xs ++ drop j xs) ≡ length (take j xs) + length (drop j xs) = length-append (take j xs) (drop j xs) in
    let whole : length (take j xs ++ drop j xs) ≡ length xs = ap length (take-append-drop j xs) in
    omega (arith, with, without, whole)
length_put_back (suc k) zero (x ∷ xs) = refl
length_put_back (suc k) (suc j) (x ∷ xs) = ap suc (length_put_back k j xs)

-- the same in a list that is written over
pub turned_within : {X : Type 0} (k j n : ℕ) (xs now ys : List X) → now ≡ xs → length now ≡ n → k < j → j < length xs → ys ≡ drop 1 (take (j + 1 - k) (drop k now)) ++ take 1 (take (j + 1 - k) (drop k now))
    → take n ((take k now ++ (ys ++ drop (j + 1 - k) (drop k now))) ++ drop (length (take k now ++ (ys ++ drop (j + 1 - k) (drop k now)))) xs) ≡ put_back k j xs
turned_within {X} k j n xs now ys value len lower less after =
    ap (λ (zs : List X). take n (zs ++ drop (length zs) xs)) made
    ∙ ap (λ (zs : List X). take n (put_back k j xs ++ zs)) (drop_all (length (put_back k j xs)) xs (omega (arith, length_put_back k j xs)))
    ∙ ap (take n) (append-nil (put_back k j xs)) ∙ take_all n (put_back k j xs) (omega (arith, length_put_back k j xs, len, ap length value))
  where
    made : take k now ++ (ys ++ drop (j + 1 - k) (drop k now)) ≡ put_back k j xs
    made =
        ap (λ (zs : List X). take k now ++ (zs ++ drop (j + 1 - k) (drop k now))) after
        ∙ ap (λ (zs : List X). take k zs ++ ((drop 1 (take (j + 1 - k) (drop k zs)) ++ take 1 (take (j + 1 - k) (drop k zs))) ++ drop (j + 1 - k) (drop k zs))) value
        ∙ turned k j (j + 1 - k) xs (omega (arith, lower)) less (omega (arith, lower))

-- what stands up to an item that is put in
take_inserted : {X : Type 0} (j : ℕ) (xs : List X) (x : X) → j ≤ length xs → take (suc j) (insert xs j x) ≡ take j xs ++ x ∷ []
take_inserted zero xs x le = refl
take_inserted (suc j) [] x le = absurd (omega (arith, le))
take_inserted (suc j) (y ∷ ys) x le = ap (λ zs. y ∷ zs) (take_inserted j ys x (omega (arith, le)))

-- what holds of each item holds of those of a part
module _ {X : Type 0} (P : X → Type 0) where
  all_take : (k : ℕ) (xs : List X) → AllByRecursion P xs → AllByRecursion P (take k xs)
  all_take zero xs all = tt
  all_take (suc k) [] all = tt
  all_take (suc k) (x ∷ xs) all = (all.0, all_take k xs all.1)

  all_drop : (k : ℕ) (xs : List X) → AllByRecursion P xs → AllByRecursion P (drop k xs)
  all_drop zero xs all = all
  all_drop (suc k) [] all = tt
  all_drop (suc k) (x ∷ xs) all = all_drop k xs all.1

  all_put_back : (k j : ℕ) (xs : List X) → AllByRecursion P xs → AllByRecursion P (put_back k j xs)
  all_put_back k j [] all = tt
  all_put_back zero j (x ∷ xs) all = All-append P (take j xs) (x ∷ drop j xs) (all_take j xs all.1) (all.0, all_drop j xs all.1)
  all_put_back (suc k) zero (x ∷ xs) all = all
  all_put_back (suc k) (suc j) (x ∷ xs) all = (all.0, all_put_back k j xs all.1)

-- a name that no class has has no place
unplaced : (q : ℕ) (cs : List (ClassOf ℕ)) → AllByRecursion (λ (c : ClassOf ℕ). nat_eq q c.name ≡ false) cs → place_in cs q ≡ None
unplaced q [] all = refl
unplaced q (x ∷ xs) all = place_cons x xs q ∙ (λ i. cond (all.0 i) (Some 0) (option_map suc (unplaced q xs all.1 i)))

part_unplaced : (k j q : ℕ) (cs : List (ClassOf ℕ)) → has_class nat_eq cs q ≡ false → place_in (drop k (take (suc j) (put_back k j cs))) q ≡ None
part_unplaced k j q cs absent =
    unplaced q (drop k (take (suc j) (put_back k j cs)))
    (all_drop Other k (take (suc j) (put_back k j cs)) (all_take Other (suc j) (put_back k j cs) (all_put_back Other k j cs (none_pass (λ (c : ClassOf ℕ). nat_eq q c.name) cs (sym (has_stands nat_eq nat_itself nat_equal cs q) ∙ absent)))))
  where
    Other : ClassOf ℕ → Type 0
    Other c = nat_eq q c.name ≡ false

-- the names of the classes between the two have their new places, and the others those that they had
places_back : (k j : ℕ) (cs : List (ClassOf ℕ)) → NamesDiffer cs → k ≤ j → j < length cs → (q : ℕ)
    → option_or (option_map (λ (i : ℕ). k + i) (place_in (drop k (take (suc j) (put_back k j cs))) q)) (place_in cs q) ≡ place_in (put_back k j cs) q
places_back k j [] differ le less q = absurd (omega (arith, less))
places_back zero j (x ∷ xs) differ le less q =
    (λ i. option_or (option_map (λ (m : ℕ). 0 + m) (place_in (take_inserted j xs x within i) q)) (place_cons x xs q i))
    ∙ (λ i. option_or (option_map (λ (m : ℕ). 0 + m) (front i)) (cond (nat_eq q x.name) (Some 0) (option_map suc (rest i))))
    ∙ by (nat_eq q x.name) (place_in (take j xs) q) (place_in (drop j xs) q)
    ∙ (λ i. option_or (sym front i) (option_map (λ (m : ℕ). length (take j xs ++ x ∷ []) + m) (place_in (drop j xs) q)))
    ∙ sym (place_append (take j xs ++ x ∷ []) (drop j xs) q)
    ∙ ap (λ (ds : List (ClassOf ℕ)). place_in ds q) (append_assoc (take j xs) (x ∷ []) (drop j xs))
  where
    within : j ≤ length xs
    within = omega (arith, less)

    front : place_in (take j xs ++ x ∷ []) q ≡ option_or (place_in (take j xs) q) (option_map (λ (m : ℕ). length (take j xs) + m) (cond (nat_eq q x.name) (Some 0) None))
    front = place_append (take j xs) (x ∷ []) q ∙ ap (λ (o : Option ℕ). option_or (place_in (take j xs) q) (option_map (λ (m : ℕ). length (take j xs) + m) o)) (place_cons x [] q)

    rest : place_in xs q ≡ option_or (place_in (take j xs) q) (option_map (λ (m : ℕ). length (take j xs) + m) (place_in (drop j xs) q))
    rest = ap (λ (ds : List (ClassOf ℕ)). place_in ds q) (sym (take-append-drop j xs)) ∙ place_append (take j xs) (drop j xs) q

    longer : length (take j xs ++ x ∷ []) ≡ suc (length (take j xs))
    longer = let both : length (take j xs ++ x ∷ []) ≡ length (take j xs) + 1 = length-append (take j xs) (x ∷ []) in omega (arith, both)

    by : (b : Bool) (o r : Option ℕ)
        → option_or (option_map (λ (m : ℕ). 0 + m) (option_or o (option_map (λ (m : ℕ). length (take j xs) + m) (cond b (Some 0) None)))) (cond b (Some 0) (option_map suc (option_or o (option_map (λ (m : ℕ). length (take j xs) + m) r))))
        ≡ option_or (option_or o (option_map (λ (m : ℕ). length (take j xs) + m) (cond b (Some 0) None))) (option_map (λ (m : ℕ). length (take j xs ++ x ∷ []) + m) r)
    by b (Some k) r = ap Some (omega arith)
    by true None r = ap Some (omega arith)
    by false None None = refl
    by false None (Some k) = ap Some (omega (arith, longer))
places_back (suc k) zero (x ∷ xs) differ le less q = absurd (omega (arith, le))
places_back (suc k) (suc j) (x ∷ xs) differ le less q =
    ap (option_or (option_map (λ (i : ℕ). suc k + i) part)) (place_cons x xs q) ∙ by (nat_eq q x.name) refl part refl (places_back k j xs differ.1 (omega (arith, le)) (omega (arith, less)) q) ∙ sym (place_cons x (put_back k j xs) q)
  where
    part : Option ℕ
    part = place_in (drop k (take (suc j) (put_back k j xs))) q

    by : (b : Bool) → nat_eq q x.name ≡ b → (o : Option ℕ) → part ≡ o → option_or (option_map (λ (i : ℕ). k + i) o) (place_in xs q) ≡ place_in (put_back k j xs) q
        → option_or (option_map (λ (i : ℕ). suc k + i) o) (cond b (Some 0) (option_map suc (place_in xs q))) ≡ cond b (Some 0) (option_map suc (place_in (put_back k j xs) q))
    by true e None p rest = refl
    by true e (Some i) p rest = let none : part ≡ None = part_unplaced k j q xs (ap (has_class nat_eq xs) (nat_equal q x.name e) ∙ differ.0) in absurd (cc)
    by false e None p rest = ap (option_map suc) rest
    by false e (Some i) p rest = (let more : Some (suc k + i) ≡ Some (suc (k + i)) = ap Some (omega arith) in more) ∙ ap (option_map suc) rest

-- so a table that has these places is that of the classes as they stand then
pub table_back : (k j : ℕ) (cs new : List (ClassOf ℕ)) (before after : List (Option ℕ)) → NamesDiffer cs → k < j → j < length cs → new ≡ put_back k j cs → IsPlaceTable before cs
    → ((q : ℕ) → place_at after q ≡ option_or (option_map (λ (i : ℕ). k + i) (place_in (drop k (take (j + 1) new)) q)) (place_at before q)) → IsPlaceTable after new
table_back k j cs new before after differ lower less is known noted =
    let le : k ≤ j = omega (arith, lower) in
    let more : j + 1 ≡ suc j = omega arith in
    λ q. noted q
    ∙ (λ i. option_or (option_map (λ (m : ℕ). k + m) (place_in (drop k (take (more i) (is i))) q)) (known q i))
    ∙ places_back k j cs differ le less q ∙ sym (ap (λ (ds : List (ClassOf ℕ)). place_in ds q) is)

-- one place more, the ones behind it being known
placed_more : (cs : List (ClassOf ℕ)) (k : ℕ) (c : ClassOf ℕ) (q : ℕ) (old now after : Option ℕ) → drop k cs ≡ c ∷ drop (k + 1) cs → now ≡ option_or (option_map (λ (i : ℕ). k + 1 + i) (place_in (drop (k + 1) cs) q)) old
    → after ≡ cond (nat_eq c.name q) (Some k) now → after ≡ option_or (option_map (λ (i : ℕ). k + i) (place_in (drop k cs) q)) old
placed_more cs k c q old now after cut known put =
    put ∙ ap (cond (nat_eq c.name q) (Some k)) known ∙ by (nat_eq c.name q) (place_in (drop (k + 1) cs) q)
    ∙ ap (λ (b : Bool). option_or (option_map (λ (i : ℕ). k + i) (cond b (Some 0) (option_map suc (place_in (drop (k + 1) cs) q)))) old) (same_back c.name q)
    ∙ (λ i. option_or (option_map (λ (m : ℕ). k + m) (sym (place_cons c (drop (k + 1) cs) q) i)) old)
    ∙ ap (λ (ds : List (ClassOf ℕ)). option_or (option_map (λ (m : ℕ). k + m) (place_in ds q)) old) (sym cut)
  where
    by : (b : Bool) (o : Option ℕ) → cond b (Some k) (option_or (option_map (λ (i : ℕ). k + 1 + i) o) old) ≡ option_or (option_map (λ (i : ℕ). k + i) (cond b (Some 0) (option_map suc o))) old
    by true o = ap Some (omega arith)
    by false None = refl
    by false (Some i) = ap Some (omega arith)

-- the places are noted from the last to the first: none at first
pub none_noted : (cs : List (ClassOf ℕ)) (to q : ℕ) (o : Option ℕ) → to < length cs → o ≡ option_or (option_map (λ (i : ℕ). to + 1 + i) (place_in (drop (to + 1) (take (to + 1) cs)) q)) o
none_noted cs to q o less =
    let long : length (take (to + 1) cs) ≡ to + 1 = length-take-le (to + 1) cs (omega arith) in
    sym (ap (λ (ds : List (ClassOf ℕ)). option_or (option_map (λ (i : ℕ). to + 1 + i) (place_in ds q)) o) (drop_all (to + 1) (take (to + 1) cs) (omega (arith, long))))

-- and then one more
pub noted_place : (cs : List (ClassOf ℕ)) (to k place : ℕ) (c : ClassOf ℕ) → k + 1 ≡ place → place ≤ to + 1 → to < length cs → c ≡ get_or cs k c → (before now after : List (Option ℕ))
    → ((q : ℕ) → place_at now q ≡ option_or (option_map (λ (i : ℕ). place + i) (place_in (drop place (take (to + 1) cs)) q)) (place_at before q)) → ((q : ℕ) → place_at after q ≡ cond (nat_eq c.name q) (Some k) (place_at now q))
    → (q : ℕ) → place_at after q ≡ option_or (option_map (λ (i : ℕ). k + i) (place_in (drop k (take (to + 1) cs)) q)) (place_at before q)
noted_place cs to k place c next within less at before now after known put q =
    placed_more (take (to + 1) cs) k c q (place_at before q) (place_at now q) (place_at after q) cut
    (subst (λ (m : ℕ). place_at now q ≡ option_or (option_map (λ (i : ℕ). m + i) (place_in (drop m (take (to + 1) cs)) q)) (place_at before q)) (sym next) (known q)) (put q)
  where
    long : length (take (to + 1) cs) ≡ to + 1
    long = length-take-le (to + 1) cs (omega (arith, less))

    cut : drop k (take (to + 1) cs) ≡ c ∷ drop (k + 1) (take (to + 1) cs)
    cut =
        drop_more (take (to + 1) cs) k c (omega (arith, next, within, long))
        ∙ ap (λ (d : ClassOf ℕ). d ∷ drop (k + 1) (take (to + 1) cs)) (get_or-take (to + 1) cs k c (omega (arith, next, within)) ∙ sym at)
