-- A pass that begins at the class of a name, one in which it goes alone, and the table of the classes before it.
use Rattle.std.proofs.Common.{◌≡◌, ℕ, suc, ◌+◌, ◌<◌, ◌≤◌, Bool, true, false, cond, List, [], ◌∷◌, ◌++◌, length, take, drop, get_or, is_some, option_map, Option, Some, None, nat_eq, nat_lt, refl, sym, ap, ◌∙◌, arith}
use Rattle.std.specs.Prelude.{◌||◌, if◌then◌else◌, unwrap_or}
use Rattle.std.specs.List.{insert}
use Rattle.std.specs.Option.{option_map_or, option_or}
use Rattle.std.proofs.lemmas.Bool.{lt-ltb, le-ltb}
use Rattle.std.proofs.lemmas.Option.{slice_get_within}
use Rattle.image_model.specs.Image.{ClassOf}
use Rattle.file_model.specs.Hierarchy.{has_class, has_subclass, stands_in}
use Rattle.file_laws.specs.Settling.{waits, passed}
use Rattle.image_draft.specs.Names.{NamesDiffer}
use Rattle.image_draft.specs.Alone.{put_back}
use Rattle.image_draft.specs.Table.{place_at, place_in, place_before, IsPlaceTable}
use Rattle.image_draft.proofs.Beside.{or_false}
use Rattle.image_draft.proofs.ClassPlaces.{place_cons, place_taken}
use Rattle.image_draft.proofs.Differ.{absent-both, differ_back}
use Rattle.image_draft.proofs.Numbers.{nat_equal}
use Rattle.image_draft.proofs.Places.{placed}

-- no class waits for none
waits_for_none : (n : ℕ) (x : ClassOf ℕ) → waits nat_eq n [] x ≡ nat_eq n x.name
waits_for_none n x = by (nat_eq n x.name) x.superclass
  where
    by : (b : Bool) (o : Option ℕ) → (b || option_map_or (λ (s : ℕ). stands_in nat_eq s []) o false) ≡ b
    by true o = refl
    by false None = refl
    by false (Some s) = refl

-- a class of another name is passed over
passed_over : (n p : ℕ) (x : ClassOf ℕ) (xs : List (ClassOf ℕ)) → nat_eq n x.name ≡ false → passed nat_eq n p [] (x ∷ xs) ≡ x ∷ passed nat_eq n p [] xs
passed_over n p x xs e =
    ap (λ (b : Bool). if b then passed nat_eq n p (x ∷ []) xs else x ∷ (if nat_eq p x.name then [] ++ passed nat_eq n p [] xs else passed nat_eq n p [] xs)) (waits_for_none n x ∙ e)
    ∙ ap (λ (ys : List (ClassOf ℕ)). x ∷ ys) (either (nat_eq p x.name))
  where
    either : (b : Bool) → (if b then [] ++ passed nat_eq n p [] xs else passed nat_eq n p [] xs) ≡ passed nat_eq n p [] xs
    either true = refl
    either false = refl

-- so are all before the class of the name
pub passed_from : (n p : ℕ) (cs : List (ClassOf ℕ)) → take (unwrap_or (place_in cs n) 0) cs ++ passed nat_eq n p [] (drop (unwrap_or (place_in cs n) 0) cs) ≡ passed nat_eq n p [] cs
passed_from n p [] = refl
passed_from n p (x ∷ xs) = ap From (place_cons x xs n) ∙ by (nat_eq n x.name) refl (place_in xs n) (passed_from n p xs)
  where
    From : Option ℕ → List (ClassOf ℕ)
    From o = take (unwrap_or o 0) (x ∷ xs) ++ passed nat_eq n p [] (drop (unwrap_or o 0) (x ∷ xs))

    by : (b : Bool) → nat_eq n x.name ≡ b → (o : Option ℕ) → take (unwrap_or o 0) xs ++ passed nat_eq n p [] (drop (unwrap_or o 0) xs) ≡ passed nat_eq n p [] xs → From (cond b (Some 0) (option_map suc o)) ≡ passed nat_eq n p [] (x ∷ xs)
    by true e o rest = refl
    by false e None rest = refl
    by false e (Some k) rest = ap (λ (ys : List (ClassOf ℕ)). x ∷ ys) rest ∙ sym (passed_over n p x xs e)

-- where no class has the name nothing moves
passed_none : (n p : ℕ) (cs : List (ClassOf ℕ)) → has_class nat_eq cs n ≡ false → passed nat_eq n p [] cs ≡ cs
passed_none n p [] h = refl
passed_none n p (x ∷ xs) h = let parts = absent-both x xs n h in passed_over n p x xs parts.0 ∙ ap (λ (ys : List (ClassOf ℕ)). x ∷ ys) (passed_none n p xs parts.1)

-- a class waits that is the superclass of none
module _ (n p : ℕ) (x : ClassOf ℕ) (named : nat_eq n x.name ≡ true) where
  waits_alone : (y : ClassOf ℕ) → nat_eq n y.name ≡ false → option_map_or (nat_eq n) y.superclass false ≡ false → waits nat_eq n (x ∷ []) y ≡ false
  waits_alone y other above = ap (λ (b : Bool). b || option_map_or (λ (s : ℕ). stands_in nat_eq s (x ∷ [])) y.superclass false) other ∙ by y.superclass above
    where
      by : (o : Option ℕ) → option_map_or (nat_eq n) o false ≡ false → option_map_or (λ (s : ℕ). stands_in nat_eq s (x ∷ [])) o false ≡ false
      by None h = refl
      by (Some s) h = ap (λ (b : Bool). b || false) (ap (nat_eq s) (sym (nat_equal n x.name named)) ∙ differ_back n s h)

  -- it goes behind the other class
  held : (ys : List (ClassOf ℕ)) (t : ℕ) → has_class nat_eq ys n ≡ false → has_subclass nat_eq ys n ≡ false → place_in ys p ≡ Some t → passed nat_eq n p (x ∷ []) ys ≡ insert ys (suc t) x
  held [] t absent free here = absurd (cc)
  held (y ∷ ys) t absent free here = by (nat_eq p y.name) refl (place_in ys p) refl (sym (place_cons y ys p) ∙ here) (λ k h. held ys k names.1 under.1 h)
    where
      names : (nat_eq n y.name ≡ false) × (has_class nat_eq ys n ≡ false)
      names = absent-both y ys n absent

      under : (option_map_or (nat_eq n) y.superclass false ≡ false) × (has_subclass nat_eq ys n ≡ false)
      under = or_false (option_map_or (nat_eq n) y.superclass false) (has_subclass nat_eq ys n) free

      step : (b : Bool) → nat_eq p y.name ≡ b → passed nat_eq n p (x ∷ []) (y ∷ ys) ≡ y ∷ (if b then x ∷ passed nat_eq n p [] ys else passed nat_eq n p (x ∷ []) ys)
      step b e =
          ap (λ (a : Bool). if a then passed nat_eq n p (x ∷ y ∷ []) ys else y ∷ (if nat_eq p y.name then x ∷ passed nat_eq n p [] ys else passed nat_eq n p (x ∷ []) ys)) (waits_alone y names.0 under.0)
          ∙ ap (λ (a : Bool). y ∷ (if a then x ∷ passed nat_eq n p [] ys else passed nat_eq n p (x ∷ []) ys)) e

      by : (b : Bool) → nat_eq p y.name ≡ b → (o : Option ℕ) → place_in ys p ≡ o → cond b (Some 0) (option_map suc o) ≡ Some t → ((k : ℕ) → place_in ys p ≡ Some k → passed nat_eq n p (x ∷ []) ys ≡ insert ys (suc k) x)
          → passed nat_eq n p (x ∷ []) (y ∷ ys) ≡ insert (y ∷ ys) (suc t) x
      by true e o q r rest =
          let first : t ≡ 0 = cc in
          step true e ∙ ap (λ (zs : List (ClassOf ℕ)). y ∷ x ∷ zs) (passed_none n p ys names.1) ∙ ap (λ (k : ℕ). insert (y ∷ ys) (suc k) x) (sym first)
      by false e None q r rest = absurd (cc)
      by false e (Some k) q r rest =
          let later : t ≡ suc k = cc in
          step false e ∙ ap (λ (zs : List (ClassOf ℕ)). y ∷ zs) (rest k q) ∙ ap (λ (m : ℕ). insert (y ∷ ys) (suc m) x) (sym later)

-- so one pass puts it there, and all others stay in their order
pub passed_alone : (n p : ℕ) (cs : List (ClassOf ℕ)) (k j : ℕ) → NamesDiffer cs → has_subclass nat_eq cs n ≡ false → place_in cs n ≡ Some k → place_in cs p ≡ Some j → k < j → passed nat_eq n p [] cs ≡ put_back k j cs
passed_alone n p [] k j differ free here there less = absurd (cc)
passed_alone n p (x ∷ xs) k j differ free here there less =
    by (nat_eq p x.name) (place_in xs p) refl (sym (place_cons x xs p) ∙ there) (nat_eq n x.name) refl (place_in xs n) refl (sym (place_cons x xs n) ∙ here) (λ a b h t l. passed_alone n p xs a b differ.1 under.1 h t l)
  where
    under : (option_map_or (nat_eq n) x.superclass false ≡ false) × (has_subclass nat_eq xs n ≡ false)
    under = or_false (option_map_or (nat_eq n) x.superclass false) (has_subclass nat_eq xs n) free

    by : (d : Bool) (r : Option ℕ) → place_in xs p ≡ r → cond d (Some 0) (option_map suc r) ≡ Some j → (b : Bool) → nat_eq n x.name ≡ b → (o : Option ℕ) → place_in xs n ≡ o → cond b (Some 0) (option_map suc o) ≡ Some k
        → ((a b : ℕ) → place_in xs n ≡ Some a → place_in xs p ≡ Some b → a < b → passed nat_eq n p [] xs ≡ put_back a b xs) → passed nat_eq n p [] (x ∷ xs) ≡ put_back k j (x ∷ xs)
    by true r s t b e o q h next = let first : j ≡ 0 = cc in absurd (omega (arith, less, first))
    by false None s t b e o q h next = absurd (cc)
    by false (Some i) s t true e o q h next =
        let first : k ≡ 0 = cc in
        let later : j ≡ suc i = cc in
        ap (λ (c : Bool). if c then passed nat_eq n p (x ∷ []) xs else x ∷ (if nat_eq p x.name then [] ++ passed nat_eq n p [] xs else passed nat_eq n p [] xs)) (waits_for_none n x ∙ e)
        ∙ held n p x e xs i (ap (has_class nat_eq xs) (nat_equal n x.name e) ∙ differ.0) under.1 s
        ∙ (λ m. put_back (sym first m) (sym later m) (x ∷ xs))
    by false (Some i) s t false e None q h next = absurd (cc)
    by false (Some i) s t false e (Some a) q h next =
        let first : k ≡ suc a = cc in
        let later : j ≡ suc i = cc in
        passed_over n p x xs e ∙ ap (λ (ys : List (ClassOf ℕ)). x ∷ ys) (next a i q s (omega (arith, less, first, later))) ∙ (λ m. put_back (sym first m) (sym later m) (x ∷ xs))

-- which is within the list
pub place_within : (n : ℕ) (cs : List (ClassOf ℕ)) → unwrap_or (place_in cs n) 0 ≤ length cs
place_within n cs = by (place_in cs n) refl
  where
    by : (o : Option ℕ) → place_in cs n ≡ o → unwrap_or o 0 ≤ length cs
    by None e = omega arith
    by (Some k) e = let at = placed (λ (c : ClassOf ℕ). nat_eq n c.name) cs k e in let less : k < length cs = slice_get_within cs k at.0 at.1 in omega (arith, less)

-- the place of a name in two lists behind one another
pub place_append : (xs ys : List (ClassOf ℕ)) (q : ℕ) → place_in (xs ++ ys) q ≡ option_or (place_in xs q) (option_map (λ (k : ℕ). length xs + k) (place_in ys q))
place_append [] ys q = same (place_in ys q)
  where
    same : (o : Option ℕ) → o ≡ option_map (λ (k : ℕ). 0 + k) o
    same None = refl
    same (Some k) = ap Some (omega arith)
place_append (x ∷ xs) ys q =
    place_cons x (xs ++ ys) q ∙ ap (λ (o : Option ℕ). cond (nat_eq q x.name) (Some 0) (option_map suc o)) (place_append xs ys q)
    ∙ by (nat_eq q x.name) (place_in xs q) (place_in ys q)
    ∙ ap (λ (o : Option ℕ). option_or o (option_map (λ (k : ℕ). length (x ∷ xs) + k) (place_in ys q))) (sym (place_cons x xs q))
  where
    later : (k : ℕ) → Some (suc (length xs + k)) ≡ Some (length (x ∷ xs) + k)
    later k = ap Some (omega arith)

    by : (b : Bool) (o r : Option ℕ) → cond b (Some 0) (option_map suc (option_or o (option_map (λ (k : ℕ). length xs + k) r))) ≡ option_or (cond b (Some 0) (option_map suc o)) (option_map (λ (k : ℕ). length (x ∷ xs) + k) r)
    by true o r = refl
    by false None None = refl
    by false None (Some k) = later k
    by false (Some j) r = refl

-- the places of names that are forgotten, those of the classes up to one of them
abbrev pub AreForgotten : ℕ → List (Option ℕ) → List (Option ℕ) → List (ClassOf ℕ) → Type 0
AreForgotten place before after cs = (q : ℕ) → place_at after q ≡ cond (is_some (place_in cs q)) (place_before place (place_at before q)) (place_at before q)

twice_before : (k : ℕ) (o : Option ℕ) → place_before k (place_before k o) ≡ place_before k o
twice_before k None = refl
twice_before k (Some j) = by (nat_lt j k) refl
  where
    by : (b : Bool) → nat_lt j k ≡ b → place_before k (cond b (Some j) None) ≡ cond b (Some j) None
    by true e = ap (λ (t : Bool). cond t (Some j) None) e
    by false e = refl

-- one class more
pub forgotten_more : (place : ℕ) (before between after : List (Option ℕ)) (cs : List (ClassOf ℕ)) (i : ℕ) (c : ClassOf ℕ) → AreForgotten place before between (take i cs)
    → ((q : ℕ) → place_at after q ≡ cond (nat_eq c.name q) (place_before place (place_at between q)) (place_at between q)) → i < length cs → c ≡ get_or cs i c → AreForgotten place before after (take (i + 1) cs)
forgotten_more place before between after cs i c known forgotten less at =
    λ q. forgotten q
    ∙ ap (λ (o : Option ℕ). cond (nat_eq c.name q) (place_before place o) o) (known q)
    ∙ by (nat_eq c.name q) (place_in (take i cs) c.name) (place_in (take i cs) q) (place_at before q) (λ e. ap (place_in (take i cs)) (sym (nat_equal c.name q e)))
    ∙ ap (λ (o : Option ℕ). cond (is_some o) (place_before place (place_at before q)) (place_at before q)) (sym (place_taken cs i c less at q))
  where
    by : (b : Bool) (k m o : Option ℕ) → (b ≡ true → m ≡ k)
        → cond b (place_before place (cond (is_some m) (place_before place o) o)) (cond (is_some m) (place_before place o) o) ≡ cond (is_some (cond (is_some k) m (cond b (Some i) m))) (place_before place o) o
    by true None None o same = refl
    by true None (Some m) o same = twice_before place o
    by true (Some k) None o same = let one : None ≡ Some k = same refl in absurd (cc)
    by true (Some k) (Some m) o same = twice_before place o
    by false None m o same = refl
    by false (Some k) m o same = refl

-- then the table is that of the classes in front
pub table_front : (place : ℕ) (before after : List (Option ℕ)) (front behind : List (ClassOf ℕ)) → length front ≡ place → IsPlaceTable before (front ++ behind) → AreForgotten place before after behind → IsPlaceTable after front
table_front place before after front behind long known forgotten =
    λ q. forgotten q ∙ ap (λ (o : Option ℕ). cond (is_some (place_in behind q)) (place_before place o) o) (known q ∙ place_append front behind q)
    ∙ by q (place_in front q) refl (place_in behind q)
  where
    within : (q j : ℕ) → place_in front q ≡ Some j → j < place
    within q j e = let at = placed (λ (c : ClassOf ℕ). nat_eq q c.name) front j e in let less : j < length front = slice_get_within front j at.0 at.1 in omega (arith, less, long)

    by : (q : ℕ) (o : Option ℕ) → place_in front q ≡ o → (r : Option ℕ) → cond (is_some r) (place_before place (option_or o (option_map (λ (k : ℕ). length front + k) r))) (option_or o (option_map (λ (k : ℕ). length front + k) r)) ≡ o
    by q None e None = refl
    by q None e (Some k) = ap (λ (b : Bool). cond b (Some (length front + k)) None) (le-ltb (length front + k) place (omega (arith, long)))
    by q (Some j) e None = refl
    by q (Some j) e (Some k) = ap (λ (b : Bool). cond b (Some j) None) (lt-ltb j place (within q j e))
