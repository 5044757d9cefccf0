-- The classes that go are removed, the last one first, with their methods.
use Rattle.std.proofs.Common.{◌≡◌, ◌⊎◌, inl, inr, Bool, true, false, cond, not, List, [], ◌∷◌, ◌++◌, map, filter, Ok, refl, ap, sym, subst, ◌∙◌, append_assoc}
use Rattle.std.specs.Prelude.{◌||◌, reverse, if◌then◌else◌}
use Rattle.std.specs.List.{AllByRecursion, list_any}
use Rattle.std.specs.Option.{option_map_or}
use Rattle.std.proofs.lemmas.List.{reverse-append, map-append}
use Rattle.rb_base.specs.Names.{text_eq}
use Rattle.rb_base.proofs.NamesLemmas.{text_eq-refl}
use Rattle.image_model.specs.Image.{ClassOf, EntryOf, ImageOf}
use Rattle.file_model.specs.Applied.{is_of_class}
use Rattle.file_model.specs.Changes.{RemoveClass}
use Rattle.file_model.specs.Filing.{Text}
use Rattle.file_model.specs.Hierarchy.{has_subclass}
use Rattle.file_rereading.proofs.Fresh.{any_none}
use Rattle.change_model.specs.Equal.{is_namesake}
use Rattle.change_model.specs.Edits.{Edit, Change}
use Rattle.change_model.specs.Edited.{edited, AreMade, Over, Made}
use Rattle.change_laws.specs.Merged.{Has, AreApart}
use Rattle.change_laws.proofs.Placing.{all_has, all_from}
use Rattle.change_laws.proofs.Orders.{filter_has}
use Rattle.change_laws.proofs.Removals.{filter_one}
use Rattle.change_laws.proofs.Rest.{made_further}
use Rattle.change_laws.proofs.Tests.{namesake_back}
use Rattle.change_class_laws.proofs.Stands.{has_either, has_three, Came, came_from, IsOther, Stands, is_there, its_kernel, taken_out}
use Rattle.change_class_laws.proofs.Conditions.{with_members, removes_class}

-- a class is not the superclass of another
abbrev pub IsNotAbove : ClassOf Text → ClassOf Text → Type 0
IsNotAbove x c = option_map_or (text_eq x.name) c.superclass false ≡ false

-- the removal of a class
abbrev pub removal_of : ClassOf Text → Edit
removal_of x = Change (RemoveClass x.name)

-- the methods that no class of a list takes along
abbrev pub left : List (ClassOf Text) → List (EntryOf Text) → List (EntryOf Text)
left gs ms = filter (λ (m : EntryOf Text). not (list_any (λ (g : ClassOf Text). is_of_class text_eq g.name m) gs)) ms

all_left : (ms : List (EntryOf Text)) → left [] ms ≡ ms
all_left [] = refl
all_left (m ∷ ms) = ap (λ (ns : List (EntryOf Text)). m ∷ ns) (all_left ms)

left_further : (x : ClassOf Text) (gs : List (ClassOf Text)) (ms : List (EntryOf Text)) → filter (λ (m : EntryOf Text). not (is_of_class text_eq x.name m)) (left gs ms) ≡ left (x ∷ gs) ms
left_further x gs ms =
    filter_one (λ (m : EntryOf Text). not (is_of_class text_eq x.name m)) (λ (m : EntryOf Text). not (list_any (λ (g : ClassOf Text). is_of_class text_eq g.name m) gs))
    (λ (m : EntryOf Text). not (list_any (λ (g : ClassOf Text). is_of_class text_eq g.name m) (x ∷ gs))) ms
    (λ m h. by (is_of_class text_eq x.name m) (list_any (λ (g : ClassOf Text). is_of_class text_eq g.name m) gs))
  where
    by : (a b : Bool) → (if not b then not a else false) ≡ not (a || b)
    by true true = refl
    by true false = refl
    by false true = refl
    by false false = refl

module _ (f : ClassOf Text → ClassOf Text) (named : (x : ClassOf Text) → (f x).name ≡ x.name) (of_kernel : (x : ClassOf Text) → (f x).kernel ≡ x.kernel) (stays : ClassOf Text → Bool) where
  -- no class of the list is above itself or one before it
  abbrev pub Later : List (ClassOf Text) → Type 0
  Later [] = Unit {0}
  Later (z ∷ zs) = AllByRecursion (λ (x : ClassOf Text). IsNotAbove x (f z)) (z ∷ zs) × Later zs

  -- What a class that goes is not: the superclass of a class before the list, of itself, of one before it in the list, or of one that stays.
  pub record CanGo (front xs : List (ClassOf Text)) : Type 0 where
    pub others : (x c : ClassOf Text) → Has x xs → stays x ≡ false → Has c front → IsOther x.name c
    pub not_above : (x c : ClassOf Text) → Has x xs → stays x ≡ false → Has c front → IsNotAbove x c
    pub apart : AreApart is_namesake xs
    pub later : Later xs
    pub of_stays : (x z : ClassOf Text) → Has x xs → Has z xs → stays x ≡ false → stays z ≡ true → IsNotAbove x (f z)
    pub users : (x : ClassOf Text) → Has x xs → x.kernel ≡ false

  other_there : (x z : ClassOf Text) (xs : List (ClassOf Text)) → AreApart is_namesake (x ∷ xs) → Has z xs → IsOther x.name (f z)
  other_there x z xs apart h = ap (text_eq x.name) (named z) ∙ by (text_eq x.name z.name) (all_has (λ (y : ClassOf Text). is_namesake x y ≡ true → ⊥) xs z apart.0 h)
    where
      by : (b : Bool) → (b ≡ true → ⊥) → b ≡ false
      by true k = absurd (k refl)
      by false k = refl

  other_before : (x z : ClassOf Text) (xs : List (ClassOf Text)) → AreApart is_namesake (x ∷ xs) → Has z xs → IsOther z.name (f x)
  other_before x z xs apart h = ap (text_eq z.name) (named x) ∙ by (text_eq z.name x.name) (λ e. all_has (λ (y : ClassOf Text). is_namesake x y ≡ true → ⊥) xs z apart.0 h (namesake_back z x e))
    where
      by : (b : Bool) → (b ≡ true → ⊥) → b ≡ false
      by true k = absurd (k refl)
      by false k = refl

  can_go_further : (front : List (ClassOf Text)) (x : ClassOf Text) (xs : List (ClassOf Text)) → CanGo front (x ∷ xs) → CanGo (front ++ f x ∷ []) xs
  can_go_further front x xs can = record {
    others = λ y c h e k. other_by y c h e (has_either c front (f x ∷ []) k);
    not_above = λ y c h e k. above_by y c h e (has_either c front (f x ∷ []) k);
    apart = can.apart.1;
    later = can.later.1;
    of_stays = λ y z h k e. can.of_stays y z (inr h) (inr k) e;
    users = λ y h. can.users y (inr h);
  }
    where
      other_by : (y c : ClassOf Text) → Has y xs → stays y ≡ false → Has c front ⊎ Has c (f x ∷ []) → IsOther y.name c
      other_by y c h e (inl k) = can.others y c (inr h) e k
      other_by y c h e (inr (inl s)) = ap (λ (z : ClassOf Text). text_eq y.name z.name) s ∙ other_before x y xs can.apart h
      other_by y c h e (inr (inr k)) = absurd k

      above_by : (y c : ClassOf Text) → Has y xs → stays y ≡ false → Has c front ⊎ Has c (f x ∷ []) → IsNotAbove y c
      above_by y c h e (inl k) = can.not_above y c (inr h) e k
      above_by y c h e (inr (inl s)) = ap (λ (z : ClassOf Text). option_map_or (text_eq y.name) z.superclass false) s ∙ all_has (λ (z : ClassOf Text). IsNotAbove z (f x)) (x ∷ xs) y can.later.0 (inr h)
      above_by y c h e (inr (inr k)) = absurd k

  module _ (i : ImageOf Text) where
    -- the last class that is left to go
    goes : (front : List (ClassOf Text)) (x : ClassOf Text) (xs : List (ClassOf Text)) (ms : List (EntryOf Text)) → CanGo front (x ∷ xs) → stays x ≡ false
        → edited (removal_of x) (with_members i (front ++ f x ∷ map f (filter stays xs)) ms) ≡ Ok (with_members i (front ++ map f (filter stays xs)) (filter (λ (m : EntryOf Text). not (is_of_class text_eq x.name m)) ms))
    goes front x xs ms can e =
        removes_class i cs ms x.name (is_there x.name front (f x) rest stands) (its_kernel x.name front (f x) rest stands ∙ of_kernel x ∙ can.users x (inl refl)) alone
        ∙ ap (λ (ns : List (ClassOf Text)). Ok (with_members i ns (filter (λ (m : EntryOf Text). not (is_of_class text_eq x.name m)) ms))) (taken_out x.name front (f x) rest stands)
      where
        rest : List (ClassOf Text)
        rest = map f (filter stays xs)

        cs : List (ClassOf Text)
        cs = front ++ f x ∷ rest

        behind : (z : ClassOf Text) → Came f (filter stays xs) z → IsOther x.name z
        behind z came = ap (λ (y : ClassOf Text). text_eq x.name y.name) came.is ∙ other_there x came.item xs can.apart (filter_has stays xs came.item came.there).there

        stands : Stands x.name front (f x) rest
        stands = record {
          named = ap (text_eq x.name) (named x) ∙ text_eq-refl x.name;
          before = all_from (IsOther x.name) front (λ z h. can.others x z (inl refl) e h);
          behind = all_from (IsOther x.name) rest (λ z h. behind z (came_from f (filter stays xs) z h));
        }

        not_above : (z : ClassOf Text) → Came f (filter stays xs) z → IsNotAbove x z
        not_above z came =
            let p = filter_has stays xs came.item came.there in
            ap (λ (y : ClassOf Text). option_map_or (text_eq x.name) y.superclass false) came.is ∙ can.of_stays x came.item (inl refl) (inr p.there) e p.passes

        alone : has_subclass text_eq cs x.name ≡ false
        alone =
            any_none (λ (c : ClassOf Text). option_map_or (text_eq x.name) c.superclass false) cs
            (all_from (IsNotAbove x) cs (has_three (IsNotAbove x) front (f x) rest (λ z h. can.not_above x z (inl refl) e h) can.later.0.0 (λ z h. not_above z (came_from f (filter stays xs) z h))))

    -- one after the other
    pub removes : (front xs : List (ClassOf Text)) (ms : List (EntryOf Text)) → CanGo front xs
        → AreMade (map removal_of (reverse (filter (λ x. not (stays x)) xs))) (with_members i (front ++ map f xs) ms) (with_members i (front ++ map f (filter stays xs)) (left (filter (λ x. not (stays x)) xs) ms))
    removes front [] ms can = subst (λ (ns : List (EntryOf Text)). AreMade [] (with_members i (front ++ []) ms) (with_members i (front ++ []) ns)) (sym (all_left ms)) Over
    removes front (x ∷ xs) ms can = by (stays x) refl (shift (removes (front ++ f x ∷ []) xs ms (can_go_further front x xs can)))
      where
        gone : List (ClassOf Text)
        gone = filter (λ z. not (stays z)) xs

        es : List Edit
        es = map removal_of (reverse gone)

        rest : List (ClassOf Text)
        rest = map f (filter stays xs)

        shift : AreMade es (with_members i ((front ++ f x ∷ []) ++ map f xs) ms) (with_members i ((front ++ f x ∷ []) ++ rest) (left gone ms)) → AreMade es (with_members i (front ++ f x ∷ map f xs) ms) (with_members i (front ++ f x ∷ rest) (left gone ms))
        shift m =
            subst (λ (cs : List (ClassOf Text)). AreMade es (with_members i cs ms) (with_members i (front ++ f x ∷ rest) (left gone ms))) (append_assoc front (f x ∷ []) (map f xs))
            (subst (λ (cs : List (ClassOf Text)). AreMade es (with_members i ((front ++ f x ∷ []) ++ map f xs) ms) (with_members i cs (left gone ms))) (append_assoc front (f x ∷ []) rest) m)

        last : map removal_of (reverse (x ∷ gone)) ≡ es ++ removal_of x ∷ []
        last = ap (map removal_of) (reverse-append (x ∷ []) gone) ∙ map-append removal_of (reverse gone) (x ∷ [])

        step : stays x ≡ false → edited (removal_of x) (with_members i (front ++ f x ∷ rest) (left gone ms)) ≡ Ok (with_members i (front ++ rest) (left (x ∷ gone) ms))
        step e = goes front x xs (left gone ms) can e ∙ ap (λ (ns : List (EntryOf Text)). Ok (with_members i (front ++ rest) ns)) (left_further x gone ms)

        by : (b : Bool) → stays x ≡ b → AreMade es (with_members i (front ++ f x ∷ map f xs) ms) (with_members i (front ++ f x ∷ rest) (left gone ms))
            → AreMade (map removal_of (reverse (cond (not b) (x ∷ gone) gone))) (with_members i (front ++ f x ∷ map f xs) ms) (with_members i (front ++ map f (cond b (x ∷ filter stays xs) (filter stays xs))) (left (cond (not b) (x ∷ gone) gone) ms))
        by true e before = before
        by false e before = subst (λ (ds : List Edit). AreMade ds (with_members i (front ++ f x ∷ map f xs) ms) (with_members i (front ++ rest) (left (x ∷ gone) ms))) (sym last) (made_further before (Made (step e) Over))
