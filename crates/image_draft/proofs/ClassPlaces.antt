-- The places of classes by name.
use Rattle.std.proofs.Common.{◌≡◌, ◌≢◌, ◌⊎◌, inl, inr, ℕ, zero, suc, ◌+◌, ◌<◌, Bool, true, false, not, cond, List, [], ◌∷◌, ◌++◌, length, take, find, position, is_some, option_map, Option, Some, None, slice_get, slice_set, get_or, nat_eq, nat_lt, refl, sym, ap, ◌∙◌, arith, true≢false}
use Rattle.std.specs.Prelude.{◌||◌, if◌then◌else◌}
use Rattle.std.specs.List.{position_or_len}
use Rattle.std.specs.Option.{option_and_then}
use Rattle.std.proofs.lemmas.Bool.{ltb-true, ltb-false, lt-ltb, le-ltb}
use Rattle.std.proofs.lemmas.Bool.Decides.{eqb_tells}
use Rattle.std.proofs.lemmas.List.{take_more, length-take-le}
use Rattle.image_model.specs.Image.{ClassOf}
use Rattle.image_model.specs.Chain.{class_named}
use Rattle.file_model.specs.Hierarchy.{stands_in}
use Rattle.file_laws.specs.Settling.{comes_first}
use Rattle.image_draft.specs.Table.{place_at, place_in, IsPlaceTable, IsNoted, stands_first}
use Rattle.image_draft.proofs.Numbers.{nat_equal}

-- one more on both sides
more_both : (k n : ℕ) → nat_lt (1 + k) (suc n) ≡ nat_lt k n
more_both k n = by (nat_lt k n) refl
  where
    by : (b : Bool) → nat_lt k n ≡ b → nat_lt (1 + k) (suc n) ≡ b
    by true e = lt-ltb (1 + k) (suc n) (omega (arith, ltb-true k n e))
    by false e = le-ltb (1 + k) (suc n) (omega (arith, ltb-false k n e))

-- the first place that passes, of one item more in front
position_cons : {X : Type 0} (p : X → Bool) (x : X) (xs : List X) → position p (x ∷ xs) ≡ cond (p x) (Some 0) (option_map suc (position p xs))
position_cons {X} p x xs = by (p x)
  where
    at : (b : Bool) (k : ℕ) → cond b (Some (1 + k)) None ≡ option_map suc (cond b (Some k) None)
    at true k = ap Some (omega arith)
    at false k = refl

    by : (b : Bool) → cond (nat_lt (cond (not b) (1 + position_or_len p xs) 0) (suc (length xs))) (Some (cond (not b) (1 + position_or_len p xs) 0)) None ≡ cond b (Some 0) (option_map suc (position p xs))
    by true = ap (λ (t : Bool). cond t (Some 0) None) (lt-ltb 0 (suc (length xs)) (omega arith))
    by false = ap (λ (t : Bool). cond t (Some (1 + position_or_len p xs)) None) (more_both (position_or_len p xs) (length xs)) ∙ at (nat_lt (position_or_len p xs) (length xs)) (position_or_len p xs)

-- of a name
pub place_cons : (x : ClassOf ℕ) (xs : List (ClassOf ℕ)) (q : ℕ) → place_in (x ∷ xs) q ≡ cond (nat_eq q x.name) (Some 0) (option_map suc (place_in xs q))
place_cons x xs q = position_cons (λ (c : ClassOf ℕ). nat_eq q c.name) x xs

-- numbers are told apart both ways
pub same_back : (m n : ℕ) → nat_eq m n ≡ nat_eq n m
same_back m n = by (eqb_tells m n) (eqb_tells n m)
  where
    by : ((nat_eq m n ≡ true) × (m ≡ n)) ⊎ ((nat_eq m n ≡ false) × (m ≢ n)) → ((nat_eq n m ≡ true) × (n ≡ m)) ⊎ ((nat_eq n m ≡ false) × (n ≢ m)) → nat_eq m n ≡ nat_eq n m
    by (inl s) (inl t) = s.0 ∙ sym t.0
    by (inl s) (inr t) = absurd (t.1 (sym s.1))
    by (inr s) (inl t) = absurd (s.1 (sym t.1))
    by (inr s) (inr t) = s.0 ∙ sym t.0

-- one class more, at the end
pub place_last : (cs : List (ClassOf ℕ)) (c : ClassOf ℕ) (q : ℕ) → place_in (cs ++ c ∷ []) q ≡ cond (is_some (place_in cs c.name)) (place_in cs q) (cond (nat_eq c.name q) (Some (length cs)) (place_in cs q))
place_last [] c q = place_cons c [] q ∙ ap (λ (b : Bool). cond b (Some 0) None) (same_back q c.name)
place_last (x ∷ xs) c q =
    place_cons x (xs ++ c ∷ []) q
    ∙ ap (λ (o : Option ℕ). cond (nat_eq q x.name) (Some 0) (option_map suc o)) (place_last xs c q)
    ∙ cases (nat_eq q x.name) (nat_eq c.name x.name) (nat_eq c.name q) (is_some (place_in xs c.name)) both_named other_name
    ∙ ap (λ (b : Bool). cond b (cond (nat_eq q x.name) (Some 0) (option_map suc (place_in xs q))) (cond (nat_eq c.name q) (Some (length (x ∷ xs))) (cond (nat_eq q x.name) (Some 0) (option_map suc (place_in xs q))))) (sym (shift (nat_eq c.name x.name) (place_in xs c.name)))
    ∙ (λ i. cond (is_some (sym (place_cons x xs c.name) i)) (sym (place_cons x xs q) i) (cond (nat_eq c.name q) (Some (length (x ∷ xs))) (sym (place_cons x xs q) i)))
  where
    shift : (b : Bool) (o : Option ℕ) → is_some (cond b (Some 0) (option_map suc o)) ≡ cond b true (is_some o)
    shift true o = refl
    shift false None = refl
    shift false (Some k) = refl

    Goal : Bool → Bool → Bool → Bool → Type 0
    Goal f g e known =
        cond f (Some 0) (option_map suc (cond known (place_in xs q) (cond e (Some (length xs)) (place_in xs q))))
        ≡ cond (cond g true known) (cond f (Some 0) (option_map suc (place_in xs q))) (cond e (Some (length (x ∷ xs))) (cond f (Some 0) (option_map suc (place_in xs q))))

    longer : Some (suc (length xs)) ≡ Some (length (x ∷ xs))
    longer = ap Some (omega arith)

    cases : (f g e known : Bool) → (f ≡ true → e ≡ true → g ≡ true) → (g ≡ true → f ≡ false → e ≡ false) → Goal f g e known
    cases true true e true h k = refl
    cases true true e false h k = refl
    cases true false e true h k = refl
    cases true false true false h k = absurd (true≢false (sym (h refl refl)))
    cases true false false false h k = refl
    cases false true true known h k = absurd (true≢false (k refl refl))
    cases false true false true h k = refl
    cases false true false false h k = refl
    cases false false e true h k = refl
    cases false false true false h k = longer
    cases false false false false h k = refl

    both_named : nat_eq q x.name ≡ true → nat_eq c.name q ≡ true → nat_eq c.name x.name ≡ true
    both_named f e = ap (λ (m : ℕ). nat_eq m x.name) (nat_equal c.name q e) ∙ f

    other_name : nat_eq c.name x.name ≡ true → nat_eq q x.name ≡ false → nat_eq c.name q ≡ false
    other_name g f = ap (λ (m : ℕ). nat_eq m q) (nat_equal c.name x.name g) ∙ same_back x.name q ∙ f

-- one class more of those in front
pub place_taken : (cs : List (ClassOf ℕ)) (i : ℕ) (c : ClassOf ℕ) → i < length cs → c ≡ get_or cs i c → (q : ℕ)
    → place_in (take (i + 1) cs) q ≡ cond (is_some (place_in (take i cs) c.name)) (place_in (take i cs) q) (cond (nat_eq c.name q) (Some i) (place_in (take i cs) q))
place_taken cs i c h r q =
    ap (λ (ds : List (ClassOf ℕ)). place_in ds q) (take_more cs i c h ∙ ap (λ (d : ClassOf ℕ). take i cs ++ d ∷ []) (sym r))
    ∙ place_last (take i cs) c q
    ∙ ap (λ (n : ℕ). cond (is_some (place_in (take i cs) c.name)) (place_in (take i cs) q) (cond (nat_eq c.name q) (Some n) (place_in (take i cs) q))) (length-take-le i cs (omega arith))

-- a class of the same name in the place of another
pub place_set : (cs : List (ClassOf ℕ)) (k : ℕ) (c d : ClassOf ℕ) → slice_get cs k ≡ Some c → d.name ≡ c.name → (q : ℕ) → place_in (slice_set cs k d) q ≡ place_in cs q
place_set [] k c d at named q = absurd (cc)
place_set (x ∷ xs) zero c d at named q =
    let one : x ≡ c = cc in
    place_cons d xs q ∙ ap (λ (n : ℕ). cond (nat_eq q n) (Some 0) (option_map suc (place_in xs q))) (named ∙ ap (λ (y : ClassOf ℕ). y.name) (sym one)) ∙ sym (place_cons x xs q)
place_set (x ∷ xs) (suc k) c d at named q =
    place_cons x (slice_set xs k d) q ∙ ap (λ (o : Option ℕ). cond (nat_eq q x.name) (Some 0) (option_map suc o)) (place_set xs k c d at named q) ∙ sym (place_cons x xs q)

-- the first class of a name stands at its place
pub find_place : (cs : List (ClassOf ℕ)) (n : ℕ) → class_named nat_eq cs n ≡ option_and_then (slice_get cs) (place_in cs n)
find_place [] n = refl
find_place (x ∷ xs) n = by (nat_eq n x.name) (find_place xs n) ∙ ap (option_and_then (slice_get (x ∷ xs))) (sym (place_cons x xs n))
  where
    shift : (o : Option ℕ) → option_and_then (slice_get xs) o ≡ option_and_then (slice_get (x ∷ xs)) (option_map suc o)
    shift None = refl
    shift (Some k) = refl

    by : (b : Bool) → find (λ (c : ClassOf ℕ). nat_eq n c.name) xs ≡ option_and_then (slice_get xs) (place_in xs n)
        → cond b (Some x) (find (λ (c : ClassOf ℕ). nat_eq n c.name) xs) ≡ option_and_then (slice_get (x ∷ xs)) (cond b (Some 0) (option_map suc (place_in xs n)))
    by true rest = refl
    by false rest = rest ∙ shift (place_in xs n)

-- a name has a place where a class of that name is there
pub has_place : (cs : List (ClassOf ℕ)) (n : ℕ) → is_some (place_in cs n) ≡ stands_in nat_eq n cs
has_place [] n = refl
has_place (x ∷ xs) n = ap is_some (place_cons x xs n) ∙ by (nat_eq n x.name) (has_place xs n)
  where
    shift : (o : Option ℕ) → is_some (option_map suc o) ≡ is_some o
    shift None = refl
    shift (Some k) = refl

    by : (b : Bool) → is_some (place_in xs n) ≡ stands_in nat_eq n xs → is_some (cond b (Some 0) (option_map suc (place_in xs n))) ≡ (b || stands_in nat_eq n xs)
    by true rest = refl
    by false rest = shift (place_in xs n) ∙ rest

-- a table that has one name more
module _ (before after : List (Option ℕ)) (cs : List (ClassOf ℕ)) (c : ClassOf ℕ) (k : ℕ) (known : IsPlaceTable before cs) (noted : IsNoted before after c.name k) where
  noted_place : (q : ℕ) → place_at after q ≡ cond (is_some (place_in cs c.name)) (place_in cs q) (cond (nat_eq c.name q) (Some k) (place_in cs q))
  noted_place q = noted q ∙ (λ i. cond (is_some (known c.name i)) (known q i) (cond (nat_eq c.name q) (Some k) (known q i)))

-- it is that of the classes with one more at the end
pub table_last : (before after : List (Option ℕ)) (cs new : List (ClassOf ℕ)) (c : ClassOf ℕ) (k : ℕ) → IsPlaceTable before cs → IsNoted before after c.name k → k ≡ length cs → new ≡ cs ++ c ∷ [] → IsPlaceTable after new
table_last before after cs new c k known noted long is =
    λ q. noted_place before after cs c k known noted q
    ∙ ap (λ (n : ℕ). cond (is_some (place_in cs c.name)) (place_in cs q) (cond (nat_eq c.name q) (Some n) (place_in cs q))) long
    ∙ sym (place_last cs c q) ∙ ap (λ (ds : List (ClassOf ℕ)). place_in ds q) (sym is)

-- or that of one more of those in front
pub table_taken : (before after : List (Option ℕ)) (cs : List (ClassOf ℕ)) (i k : ℕ) (c : ClassOf ℕ) → IsPlaceTable before (take i cs) → IsNoted before after c.name k → k ≡ i → i < length cs → c ≡ get_or cs i c → IsPlaceTable after (take (i + 1) cs)
table_taken before after cs i k c known noted place h r =
    λ q. noted_place before after (take i cs) c k known noted q
    ∙ ap (λ (n : ℕ). cond (is_some (place_in (take i cs) c.name)) (place_in (take i cs) q) (cond (nat_eq c.name q) (Some n) (place_in (take i cs) q))) place
    ∙ sym (place_taken cs i c h r q)

-- a table that has one name less is that of the classes whose names were not taken out
pub table_left : (before after : List (Option ℕ)) (cs : List (ClassOf ℕ)) (i : ℕ) (c : ClassOf ℕ)
    → ((q : ℕ) → place_at before q ≡ cond (is_some (place_in (take i cs) q)) None (place_in cs q))
    → ((q : ℕ) → place_at after q ≡ cond (nat_eq c.name q) None (place_at before q))
    → i < length cs → c ≡ get_or cs i c → (q : ℕ)
    → place_at after q ≡ cond (is_some (place_in (take (i + 1) cs) q)) None (place_in cs q)
table_left before after cs i c known forgotten h r q =
    forgotten q
    ∙ ap (λ (o : Option ℕ). cond (nat_eq c.name q) None o) (known q)
    ∙ by (place_in (take i cs) c.name) (place_in (take i cs) q) (nat_eq c.name q) (λ e. ap (place_in (take i cs)) (sym (nat_equal c.name q e)))
    ∙ ap (λ (o : Option ℕ). cond (is_some o) None (place_in cs q)) (sym (place_taken cs i c h r q))
  where
    by : (k m : Option ℕ) (b : Bool) → (b ≡ true → m ≡ k) → cond b None (cond (is_some m) None (place_in cs q)) ≡ cond (is_some (cond (is_some k) m (cond b (Some i) m))) None (place_in cs q)
    by None None true same = refl
    by None (Some m) true same = refl
    by (Some k) None true same = let one : None ≡ Some k = same refl in absurd (cc)
    by (Some k) (Some m) true same = refl
    by None m false same = refl
    by (Some k) m false same = refl

-- a class stands before another where its place does
pub first_placed : (cs : List (ClassOf ℕ)) (p n : ℕ) → stands_first (place_in cs p) (place_in cs n) ≡ comes_first nat_eq p n cs
first_placed [] p n = refl
first_placed (x ∷ xs) p n =
    (λ i. stands_first (place_cons x xs p i) (place_cons x xs n i)) ∙ by (nat_eq n x.name) (nat_eq p x.name) (first_placed xs p n)
  where
    never : (o : Option ℕ) → stands_first (option_map suc o) (Some 0) ≡ false
    never None = refl
    never (Some j) = le-ltb (suc j) 0 (omega arith)

    always : (o : Option ℕ) → stands_first (Some 0) (option_map suc o) ≡ true
    always None = refl
    always (Some k) = lt-ltb 0 (suc k) (omega arith)

    later : (j k : ℕ) (b : Bool) → nat_lt j k ≡ b → nat_lt (suc j) (suc k) ≡ b
    later j k true e = lt-ltb (suc j) (suc k) (omega (arith, ltb-true j k e))
    later j k false e = le-ltb (suc j) (suc k) (omega (arith, ltb-false j k e))

    both : (o q : Option ℕ) → stands_first (option_map suc o) (option_map suc q) ≡ stands_first o q
    both None q = refl
    both (Some j) None = refl
    both (Some j) (Some k) = later j k (nat_lt j k) refl

    by : (named above : Bool) → stands_first (place_in xs p) (place_in xs n) ≡ comes_first nat_eq p n xs
        → stands_first (cond above (Some 0) (option_map suc (place_in xs p))) (cond named (Some 0) (option_map suc (place_in xs n))) ≡ (if named then false else above || comes_first nat_eq p n xs)
    by true true rest = le-ltb 0 0 (omega arith)
    by true false rest = never (place_in xs p)
    by false true rest = always (place_in xs n)
    by false false rest = both (place_in xs p) (place_in xs n) ∙ rest
