-- Classes in the order of names.
use Rattle.std.proofs.Common.{◌≡◌, ℕ, Bool, true, false, not, cond, List, [], ◌∷◌, ◌++◌, filter, is_some, option_map, Option, Some, None, nat_eq, refl, sym, ap, ◌∙◌, true≢false}
use Rattle.std.specs.Prelude.{if◌then◌else◌}
use Rattle.std.specs.List.{AllByRecursion}
use Rattle.image_model.specs.Image.{ClassOf}
use Rattle.image_model.specs.Chain.{class_named}
use Rattle.image_model.specs.Valid.{HasNoRepeat, class_names}
use Rattle.file_model.specs.Hierarchy.{has_class}
use Rattle.file_model.specs.Applied.{changed_class}
use Rattle.file_laws.specs.Orders.{AreSameClasses}
use Rattle.file_laws.proofs.OtherOrder.{found_in, same_itself, named_same}
use Rattle.image_draft.specs.Arranged.{put_in_front, in_order}
use Rattle.placed_draft.proofs.Numbers.{nat_itself, nat_equal}

-- where each name has the same class, the classes are the same
pub in_order_same : (names : List ℕ) (cs ds : List (ClassOf ℕ)) → ((n : ℕ) → class_named nat_eq cs n ≡ class_named nat_eq ds n) → in_order names cs ≡ in_order names ds
in_order_same [] cs ds h = refl
in_order_same (n ∷ ns) cs ds h = (λ i. put_in_front (h n i) (in_order_same ns cs ds h i))

-- the classes in another order are the same in the order of names
pub in_order_moved : (names : List ℕ) (cs ds : List (ClassOf ℕ)) → AreSameClasses cs ds → in_order names cs ≡ in_order names ds
in_order_moved names cs ds m = in_order_same names cs ds (named_same nat_eq nat_itself nat_equal cs ds m)

-- names behind others
pub in_order_behind : (ns ms : List ℕ) (cs : List (ClassOf ℕ)) → in_order (ns ++ ms) cs ≡ in_order ns cs ++ in_order ms cs
in_order_behind [] ms cs = refl
in_order_behind (n ∷ ns) ms cs = by (class_named nat_eq cs n) (in_order_behind ns ms cs)
  where
    by : (c : Option (ClassOf ℕ)) → in_order (ns ++ ms) cs ≡ in_order ns cs ++ in_order ms cs → put_in_front c (in_order (ns ++ ms) cs) ≡ put_in_front c (in_order ns cs) ++ in_order ms cs
    by None h = h
    by (Some d) h = ap (λ ds. d ∷ ds) h

-- the names of classes give them in their order
in_order_found : (xs cs : List (ClassOf ℕ)) → AllByRecursion (λ (c : ClassOf ℕ). class_named nat_eq cs c.name ≡ Some c) xs → in_order (class_names xs) cs ≡ xs
in_order_found [] cs all = refl
in_order_found (x ∷ xs) cs all = (λ i. put_in_front (all.0 i) (in_order_found xs cs all.1 i))

pub in_order_itself : (cs : List (ClassOf ℕ)) → HasNoRepeat (class_names cs) → in_order (class_names cs) cs ≡ cs
in_order_itself cs h = in_order_found cs cs (found_in nat_eq nat_itself nat_equal cs cs (same_itself nat_eq nat_itself nat_equal cs h))

-- each of the names is that of a class
names_found : (xs cs : List (ClassOf ℕ)) → AllByRecursion (λ (c : ClassOf ℕ). class_named nat_eq cs c.name ≡ Some c) xs → AllByRecursion (λ n. has_class nat_eq cs n ≡ true) (class_names xs)
names_found [] cs all = tt
names_found (x ∷ xs) cs all = (ap is_some all.0, names_found xs cs all.1)

pub names_there : (cs : List (ClassOf ℕ)) → HasNoRepeat (class_names cs) → AllByRecursion (λ n. has_class nat_eq cs n ≡ true) (class_names cs)
names_there cs h = names_found cs cs (found_in nat_eq nat_itself nat_equal cs cs (same_itself nat_eq nat_itself nat_equal cs h))

-- the class of a name is changed and keeps its name
module _ (n : ℕ) (f : ClassOf ℕ → ClassOf ℕ) (keeps : (c : ClassOf ℕ) → (f c).name ≡ c.name) where
  -- a class that is the one of the name is another one
  abbrev again : ClassOf ℕ → ClassOf ℕ
  again c = if nat_eq n c.name then f c else c

  again_named : (c : ClassOf ℕ) → (again c).name ≡ c.name
  again_named c = by (nat_eq n c.name)
    where
      by : (b : Bool) → (if b then f c else c).name ≡ c.name
      by true = keeps c
      by false = refl

  named_changed : (cs : List (ClassOf ℕ)) (m : ℕ) → class_named nat_eq (changed_class nat_eq n f cs) m ≡ option_map again (class_named nat_eq cs m)
  named_changed [] m = refl
  named_changed (c ∷ cs) m =
      ap (λ k. cond (nat_eq m k) (Some (again c)) (class_named nat_eq (changed_class nat_eq n f cs) m)) (again_named c) ∙ by (nat_eq m c.name) (named_changed cs m)
    where
      by : (b : Bool) → class_named nat_eq (changed_class nat_eq n f cs) m ≡ option_map again (class_named nat_eq cs m)
          → cond b (Some (again c)) (class_named nat_eq (changed_class nat_eq n f cs) m) ≡ option_map again (cond b (Some c) (class_named nat_eq cs m))
      by true h = refl
      by false h = h

  pub in_order_changed : (names : List ℕ) (cs : List (ClassOf ℕ)) → in_order names (changed_class nat_eq n f cs) ≡ changed_class nat_eq n f (in_order names cs)
  in_order_changed [] cs = refl
  in_order_changed (m ∷ ms) cs = (λ i. put_in_front (named_changed cs m i) (in_order_changed ms cs i)) ∙ by (class_named nat_eq cs m)
    where
      by : (o : Option (ClassOf ℕ)) → put_in_front (option_map again o) (changed_class nat_eq n f (in_order ms cs)) ≡ changed_class nat_eq n f (put_in_front o (in_order ms cs))
      by None = refl
      by (Some c) = refl

-- one class more, of a name that is new
module _ (c : ClassOf ℕ) where
  named_behind : (cs : List (ClassOf ℕ)) (m : ℕ) → has_class nat_eq cs m ≡ true → class_named nat_eq (cs ++ c ∷ []) m ≡ class_named nat_eq cs m
  named_behind [] m there = absurd (true≢false (sym there))
  named_behind (x ∷ xs) m there = by (nat_eq m x.name) there (named_behind xs m)
    where
      by : (b : Bool) → is_some (cond b (Some x) (class_named nat_eq xs m)) ≡ true → (has_class nat_eq xs m ≡ true → class_named nat_eq (xs ++ c ∷ []) m ≡ class_named nat_eq xs m)
          → cond b (Some x) (class_named nat_eq (xs ++ c ∷ []) m) ≡ cond b (Some x) (class_named nat_eq xs m)
      by true h rest = refl
      by false h rest = rest h

  named_last : (cs : List (ClassOf ℕ)) → has_class nat_eq cs c.name ≡ false → class_named nat_eq (cs ++ c ∷ []) c.name ≡ Some c
  named_last [] fresh = ap (λ (b : Bool). cond b (Some c) None) (nat_itself c.name)
  named_last (x ∷ xs) fresh = by (nat_eq c.name x.name) fresh (named_last xs)
    where
      by : (b : Bool) → is_some (cond b (Some x) (class_named nat_eq xs c.name)) ≡ false → (has_class nat_eq xs c.name ≡ false → class_named nat_eq (xs ++ c ∷ []) c.name ≡ Some c)
          → cond b (Some x) (class_named nat_eq (xs ++ c ∷ []) c.name) ≡ Some c
      by true h rest = absurd (true≢false h)
      by false h rest = rest h

  in_order_more : (names : List ℕ) (cs : List (ClassOf ℕ)) → AllByRecursion (λ n. has_class nat_eq cs n ≡ true) names → in_order names (cs ++ c ∷ []) ≡ in_order names cs
  in_order_more [] cs all = refl
  in_order_more (m ∷ ms) cs all = (λ i. put_in_front (named_behind cs m all.0 i) (in_order_more ms cs all.1 i))

  pub in_order_new : (names : List ℕ) (cs : List (ClassOf ℕ)) → AllByRecursion (λ n. has_class nat_eq cs n ≡ true) names → has_class nat_eq cs c.name ≡ false
      → in_order (names ++ c.name ∷ []) (cs ++ c ∷ []) ≡ in_order names cs ++ c ∷ []
  in_order_new names cs all fresh =
      in_order_behind names (c.name ∷ []) (cs ++ c ∷ []) ∙ (λ i. in_order_more names cs all i ++ put_in_front (named_last cs fresh i) [])

  pub names_new : (names : List ℕ) (cs : List (ClassOf ℕ)) → AllByRecursion (λ n. has_class nat_eq cs n ≡ true) names → has_class nat_eq cs c.name ≡ false
      → AllByRecursion (λ n. has_class nat_eq (cs ++ c ∷ []) n ≡ true) (names ++ c.name ∷ [])
  names_new [] cs all fresh = (ap is_some (named_last cs fresh), tt)
  names_new (m ∷ ms) cs all fresh = (ap is_some (named_behind cs m all.0) ∙ all.0, names_new ms cs all.1 fresh)

-- without the class of a name
module _ (n : ℕ) where
  abbrev other_class : ClassOf ℕ → Bool
  other_class c = not (nat_eq n c.name)

  abbrev other_name : ℕ → Bool
  other_name m = not (nat_eq n m)

  named_without : (m : ℕ) → nat_eq n m ≡ false → (cs : List (ClassOf ℕ)) → class_named nat_eq (filter other_class cs) m ≡ class_named nat_eq cs m
  named_without m differs [] = refl
  named_without m differs (c ∷ cs) = by (nat_eq n c.name) refl (named_without m differs cs)
    where
      unlike : n ≡ c.name → (a : Bool) → nat_eq m c.name ≡ a → a ≡ false
      unlike same false q = refl
      unlike same true q = absurd (true≢false (sym (ap (nat_eq n) (nat_equal m c.name q ∙ sym same) ∙ nat_itself n) ∙ differs))

      by : (b : Bool) → nat_eq n c.name ≡ b → class_named nat_eq (filter other_class cs) m ≡ class_named nat_eq cs m
          → class_named nat_eq (cond (not b) (c ∷ filter other_class cs) (filter other_class cs)) m ≡ class_named nat_eq (c ∷ cs) m
      by true e rest = rest ∙ sym (ap (λ (b : Bool). cond b (Some c) (class_named nat_eq cs m)) (unlike (nat_equal n c.name e) (nat_eq m c.name) refl))
      by false e rest = ap (cond (nat_eq m c.name) (Some c)) rest

  -- the class of a name has that name
  has_name : (cs : List (ClassOf ℕ)) (m : ℕ) (c : ClassOf ℕ) → class_named nat_eq cs m ≡ Some c → m ≡ c.name
  has_name [] m c e = absurd (cc)
  has_name (x ∷ xs) m c e = by (nat_eq m x.name) refl e (has_name xs m c)
    where
      by : (b : Bool) → nat_eq m x.name ≡ b → cond b (Some x) (class_named nat_eq xs m) ≡ Some c → (class_named nat_eq xs m ≡ Some c → m ≡ c.name) → m ≡ c.name
      by true q h rest = let same : x ≡ c = cc in nat_equal m x.name q ∙ ap (λ (y : ClassOf ℕ). y.name) same
      by false q h rest = rest h

  pub in_order_without : (names : List ℕ) (cs : List (ClassOf ℕ)) → in_order (filter other_name names) (filter other_class cs) ≡ filter other_class (in_order names cs)
  in_order_without [] cs = refl
  in_order_without (m ∷ ms) cs = by (nat_eq n m) refl (class_named nat_eq cs m) refl (in_order_without ms cs)
    where
      kept : (c : ClassOf ℕ) (b : Bool) → nat_eq n c.name ≡ b → cond (not b) (c ∷ filter other_class (in_order ms cs)) (filter other_class (in_order ms cs)) ≡ filter other_class (c ∷ in_order ms cs)
      kept c b e = ap (λ (a : Bool). cond (not a) (c ∷ filter other_class (in_order ms cs)) (filter other_class (in_order ms cs))) (sym e)

      by : (b : Bool) → nat_eq n m ≡ b → (o : Option (ClassOf ℕ)) → class_named nat_eq cs m ≡ o → in_order (filter other_name ms) (filter other_class cs) ≡ filter other_class (in_order ms cs)
          → in_order (cond (not b) (m ∷ filter other_name ms) (filter other_name ms)) (filter other_class cs) ≡ filter other_class (put_in_front o (in_order ms cs))
      by true q None e rest = rest
      by true q (Some c) e rest = rest ∙ kept c true (ap (nat_eq n) (sym (has_name cs m c e)) ∙ q)
      by false q None e rest = ap (λ (o : Option (ClassOf ℕ)). put_in_front o (in_order (filter other_name ms) (filter other_class cs))) (named_without m q cs ∙ e) ∙ rest
      by false q (Some c) e rest =
          ap (λ (o : Option (ClassOf ℕ)). put_in_front o (in_order (filter other_name ms) (filter other_class cs))) (named_without m q cs ∙ e)
          ∙ ap (λ ds. c ∷ ds) rest ∙ kept c false (ap (nat_eq n) (sym (has_name cs m c e)) ∙ q)

  pub names_without : (names : List ℕ) (cs : List (ClassOf ℕ)) → AllByRecursion (λ m. has_class nat_eq cs m ≡ true) names → AllByRecursion (λ m. has_class nat_eq (filter other_class cs) m ≡ true) (filter other_name names)
  names_without [] cs all = tt
  names_without (m ∷ ms) cs all = by (nat_eq n m) refl (names_without ms cs all.1)
    where
      by : (b : Bool) → nat_eq n m ≡ b → AllByRecursion (λ k. has_class nat_eq (filter other_class cs) k ≡ true) (filter other_name ms)
          → AllByRecursion (λ k. has_class nat_eq (filter other_class cs) k ≡ true) (cond (not b) (m ∷ filter other_name ms) (filter other_name ms))
      by true q rest = rest
      by false q rest = (ap is_some (named_without m q cs) ∙ all.0, rest)
