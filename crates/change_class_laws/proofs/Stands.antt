-- Classes between others of other names.
use Rattle.std.proofs.Common.{◌≡◌, ◌⊎◌, inl, inr, Bool, true, false, cond, not, List, [], ◌∷◌, ◌++◌, map, filter, Option, Some, None, refl, ap, sym, subst, ◌∙◌, true≢false}
use Rattle.std.specs.Prelude.{◌||◌, if◌then◌else◌, is_some}
use Rattle.std.specs.List.{AllByRecursion, list_any}
use Rattle.std.specs.Option.{option_map_or}
use Rattle.std.proofs.lemmas.Bool.{false_from_ne_true}
use Rattle.rb_base.specs.Names.{text_eq}
use Rattle.rb_base.proofs.NamesLemmas.{text_eq-refl}
use Rattle.image_model.specs.Image.{ClassOf}
use Rattle.image_model.specs.Chain.{class_named}
use Rattle.file_model.specs.Applied.{changed_class}
use Rattle.file_model.specs.Filing.{Text}
use Rattle.file_model.specs.Hierarchy.{has_class, is_kernel_class}
use Rattle.file_laws.proofs.Moves.{text_equal}
use Rattle.file_laws.proofs.Settled.{find_behind}
use Rattle.change_model.specs.Equal.{is_namesake}
use Rattle.change_laws.specs.Merged.{Has, AreApart, with_item}
use Rattle.change_laws.proofs.Placing.{all_has, all_from}
use Rattle.change_laws.proofs.Orders.{any_has}
use Rattle.change_laws.proofs.Parts.{finds}
use Rattle.change_laws.proofs.Tests.{namesake_back}

-- items of two lists, one behind the other
module _ {X : Type 0} where
  pub has_front : (z : X) (xs ys : List X) → Has z xs → Has z (xs ++ ys)
  has_front z [] ys h = absurd h
  has_front z (x ∷ xs) ys (inl e) = inl e
  has_front z (x ∷ xs) ys (inr h) = inr (has_front z xs ys h)

  pub has_back : (z : X) (xs ys : List X) → Has z ys → Has z (xs ++ ys)
  has_back z [] ys h = h
  has_back z (x ∷ xs) ys h = inr (has_back z xs ys h)

  pub has_either : (z : X) (xs ys : List X) → Has z (xs ++ ys) → Has z xs ⊎ Has z ys
  has_either z [] ys h = inr h
  has_either z (x ∷ xs) ys (inl e) = inl (inl e)
  has_either z (x ∷ xs) ys (inr h) = by (has_either z xs ys h)
    where
      by : Has z xs ⊎ Has z ys → Has z (x ∷ xs) ⊎ Has z ys
      by (inl k) = inl (inr k)
      by (inr k) = inr k

  -- what is so of each item of the first, of the middle and of the last is so of each
  pub has_three : (P : X → Type 0) (pre : List X) (x : X) (post : List X) → ((z : X) → Has z pre → P z) → P x → ((z : X) → Has z post → P z) → (z : X) → Has z (pre ++ x ∷ post) → P z
  has_three P pre x post f p g z h = by (has_either z pre (x ∷ post) h)
    where
      by : Has z pre ⊎ ((z ≡ x) ⊎ Has z post) → P z
      by (inl k) = f z k
      by (inr (inl e)) = subst P (sym e) p
      by (inr (inr k)) = g z k

  -- an item of a list of other items
  pub record Came {Y : Type 0} (f : Y → X) (ys : List Y) (z : X) : Type 0 where
    pub item : Y
    pub there : Has item ys
    pub is : z ≡ f item

  pub came_from : {Y : Type 0} (f : Y → X) (ys : List Y) (z : X) → Has z (map f ys) → Came f ys z
  came_from f [] z h = absurd h
  came_from f (y ∷ ys) z (inl e) = record { item = y; there = inl refl; is = e }
  came_from f (y ∷ ys) z (inr h) = let c = came_from f ys z h in record { item = c.item; there = inr c.there; is = c.is }

  -- items of lists of which no two are alike
  module _ (alike : X → X → Bool) where
    pub apart_front : (xs ys : List X) → AreApart alike (xs ++ ys) → AreApart alike xs
    apart_front [] ys apart = tt
    apart_front (x ∷ xs) ys apart = (all_from (λ (y : X). alike x y ≡ true → ⊥) xs (λ z h. all_has (λ (y : X). alike x y ≡ true → ⊥) (xs ++ ys) z apart.0 (has_front z xs ys h)), apart_front xs ys apart.1)

    pub apart_back : (xs ys : List X) → AreApart alike (xs ++ ys) → AreApart alike ys
    apart_back [] ys apart = apart
    apart_back (x ∷ xs) ys apart = apart_back xs ys apart.1

    pub apart_between : (xs ys : List X) → AreApart alike (xs ++ ys) → (x y : X) → Has x xs → Has y ys → alike x y ≡ true → ⊥
    apart_between [] ys apart x y h k e = absurd h
    apart_between (z ∷ zs) ys apart x y (inl s) k e = all_has (λ (w : X). alike z w ≡ true → ⊥) (zs ++ ys) y apart.0 (has_back y zs ys k) (ap (λ (w : X). alike w y) (sym s) ∙ e)
    apart_between (z ∷ zs) ys apart x y (inr h) k e = apart_between zs ys apart.1 x y h k e

-- a class that is named otherwise
abbrev pub IsOther : Text → ClassOf Text → Type 0
IsOther n c = text_eq n c.name ≡ false

-- the class of a name stands between others
pub record Stands (n : Text) (pre : List (ClassOf Text)) (c : ClassOf Text) (post : List (ClassOf Text)) : Type 0 where
  pub named : text_eq n c.name ≡ true
  pub before : AllByRecursion (IsOther n) pre
  pub behind : AllByRecursion (IsOther n) post

-- where no two classes are of one name, each stands between others
pub stands_between : (pre : List (ClassOf Text)) (c : ClassOf Text) (post : List (ClassOf Text)) → AreApart is_namesake (pre ++ c ∷ post) → Stands c.name pre c post
stands_between pre c post apart = record {
  named = text_eq-refl c.name;
  before = all_from (IsOther c.name) pre (λ z h. false_from_ne_true (text_eq c.name z.name) (λ e. apart_between is_namesake pre (c ∷ post) apart z c h (inl refl) (namesake_back c z e)));
  behind = all_from (IsOther c.name) post (λ z h. false_from_ne_true (text_eq c.name z.name) (λ e. all_has (λ (y : ClassOf Text). is_namesake c y ≡ true → ⊥) post z (apart_back is_namesake pre (c ∷ post) apart).0 h e));
}

-- a list of classes at a class of a name
pub record Split (n : Text) (cs : List (ClassOf Text)) : Type 0 where
  pub pre : List (ClassOf Text)
  pub class : ClassOf Text
  pub post : List (ClassOf Text)
  pub is : cs ≡ pre ++ class ∷ post
  pub stands : Stands n pre class post

pub split : (n : Text) (cs : List (ClassOf Text)) → AreApart is_namesake cs → list_any (λ (c : ClassOf Text). text_eq n c.name) cs ≡ true → Split n cs
split n [] apart h = absurd (true≢false (sym h))
split n (c ∷ cs) apart h = by (text_eq n c.name) refl h (λ k. split n cs apart.1 k)
  where
    others : text_eq n c.name ≡ true → (z : ClassOf Text) → Has z cs → IsOther n z
    others e z k = false_from_ne_true (text_eq n z.name) (λ f. all_has (λ (y : ClassOf Text). is_namesake c y ≡ true → ⊥) cs z apart.0 k (ap (λ (m : Text). text_eq m z.name) (sym (text_equal n c.name e)) ∙ f))

    by : (b : Bool) → text_eq n c.name ≡ b → (b || list_any (λ (x : ClassOf Text). text_eq n x.name) cs) ≡ true → (list_any (λ (x : ClassOf Text). text_eq n x.name) cs ≡ true → Split n cs) → Split n (c ∷ cs)
    by true e k rest = record { pre = []; class = c; post = cs; is = refl; stands = record { named = e; before = tt; behind = all_from (IsOther n) cs (others e) } }
    by false e k rest =
        let s = rest k in
        record { pre = c ∷ s.pre; class = s.class; post = s.post; is = ap (λ (xs : List (ClassOf Text)). c ∷ xs) s.is; stands = record { named = s.stands.named; before = (e, s.stands.before); behind = s.stands.behind } }

-- classes of other names stay as they are
unchanged : (n : Text) (f : ClassOf Text → ClassOf Text) (cs : List (ClassOf Text)) → AllByRecursion (IsOther n) cs → changed_class text_eq n f cs ≡ cs
unchanged n f [] all = refl
unchanged n f (c ∷ cs) all = λ k. (if all.0 k then f c else c) ∷ unchanged n f cs all.1 k

kept : (n : Text) (cs : List (ClassOf Text)) → AllByRecursion (IsOther n) cs → filter (λ (c : ClassOf Text). not (text_eq n c.name)) cs ≡ cs
kept n [] all = refl
kept n (c ∷ cs) all = λ k. cond (not (all.0 k)) (c ∷ kept n cs all.1 k) (kept n cs all.1 k)

module _ (n : Text) where
  -- the class of the name is it
  pub found_there : (pre : List (ClassOf Text)) (c : ClassOf Text) (post : List (ClassOf Text)) → Stands n pre c post → class_named text_eq (pre ++ c ∷ post) n ≡ Some c
  found_there pre c post s = find_behind (λ (x : ClassOf Text). text_eq n x.name) pre c post s.before s.named

  pub is_there : (pre : List (ClassOf Text)) (c : ClassOf Text) (post : List (ClassOf Text)) → Stands n pre c post → has_class text_eq (pre ++ c ∷ post) n ≡ true
  is_there pre c post s = ap (λ (o : Option (ClassOf Text)). is_some o) (found_there pre c post s)

  pub its_kernel : (pre : List (ClassOf Text)) (c : ClassOf Text) (post : List (ClassOf Text)) → Stands n pre c post → is_kernel_class text_eq (pre ++ c ∷ post) n ≡ c.kernel
  its_kernel pre c post s = ap (λ (o : Option (ClassOf Text)). option_map_or (λ (x : ClassOf Text). x.kernel) o false) (found_there pre c post s)

  -- it is the one that changes
  pub changed_there : (f : ClassOf Text → ClassOf Text) (pre : List (ClassOf Text)) (c : ClassOf Text) (post : List (ClassOf Text)) → Stands n pre c post → changed_class text_eq n f (pre ++ c ∷ post) ≡ pre ++ f c ∷ post
  changed_there f [] c post s = λ k. (if s.named k then f c else c) ∷ unchanged n f post s.behind k
  changed_there f (x ∷ xs) c post s = λ k. (if s.before.0 k then f x else x) ∷ changed_there f xs c post (record { named = s.named; before = s.before.1; behind = s.behind }) k

  -- or is taken out
  pub taken_out : (pre : List (ClassOf Text)) (c : ClassOf Text) (post : List (ClassOf Text)) → Stands n pre c post → filter (λ (x : ClassOf Text). not (text_eq n x.name)) (pre ++ c ∷ post) ≡ pre ++ post
  taken_out [] c post s = λ k. cond (not (s.named k)) (c ∷ kept n post s.behind k) (kept n post s.behind k)
  taken_out (x ∷ xs) c post s =
      let rest = taken_out xs c post (record { named = s.named; before = s.before.1; behind = s.behind }) in
      λ k. cond (not (s.before.0 k)) (x ∷ rest k) (rest k)

-- a class is put in place of the one of its name
pub put_there : (y : ClassOf Text) (pre : List (ClassOf Text)) (c : ClassOf Text) (post : List (ClassOf Text)) → Stands y.name pre c post → with_item is_namesake y (pre ++ c ∷ post) ≡ pre ++ y ∷ post
put_there y pre c post s =
    ap (λ (b : Bool). if b then map (λ (x : ClassOf Text). if is_namesake y x then y else x) (pre ++ c ∷ post) else (pre ++ c ∷ post) ++ y ∷ []) (any_has (is_namesake y) (pre ++ c ∷ post) c (has_back c pre (c ∷ post) (inl refl)) s.named)
    ∙ changed_there y.name (λ (x : ClassOf Text). y) pre c post s

-- a class of a name in a list
pub record Named (cs : List (ClassOf Text)) (n : Text) : Type 0 where
  pub class : ClassOf Text
  pub there : Has class cs
  pub named : class.name ≡ n

pub has_named : (cs : List (ClassOf Text)) (n : Text) → Named cs n → has_class text_eq cs n ≡ true
has_named [] n c = absurd c.there
has_named (x ∷ xs) n c = by (text_eq n x.name) refl c.there (λ h. has_named xs n (record { class = c.class; there = h; named = c.named }))
  where
    by : (b : Bool) → text_eq n x.name ≡ b → (c.class ≡ x) ⊎ Has c.class xs → (Has c.class xs → has_class text_eq xs n ≡ true) → is_some (cond b (Some x) (class_named text_eq xs n)) ≡ true
    by true e h rest = refl
    by false e (inl s) rest = absurd (true≢false (sym (ap (λ (m : Text). text_eq m x.name) (sym c.named ∙ ap (λ (y : ClassOf Text). y.name) s) ∙ text_eq-refl x.name) ∙ e))
    by false e (inr h) rest = rest h

pub named_has : (cs : List (ClassOf Text)) (n : Text) → has_class text_eq cs n ≡ true → Named cs n
named_has cs n h = by (class_named text_eq cs n) refl h
  where
    by : (o : Option (ClassOf Text)) → class_named text_eq cs n ≡ o → is_some o ≡ true → Named cs n
    by (Some c) e k = let f = finds (λ (x : ClassOf Text). text_eq n x.name) cs c e in record { class = c; there = f.there; named = sym (text_equal n c.name f.passes) }
    by None e k = absurd (true≢false (sym k))
