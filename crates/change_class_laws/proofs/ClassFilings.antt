-- The classes that differ are filed in as they will be.
use Rattle.std.proofs.Common.{◌≡◌, ◌⊎◌, inl, inr, ℕ, suc, ◌≤◌, Bool, true, false, cond, not, List, [], ◌∷◌, ◌++◌, map, find, length, Option, Some, None, Ok, refl, ap, sym, subst, ◌∙◌, true≢false, append_assoc, arith, length-append}
use Rattle.std.specs.Prelude.{◌&&◌, ◌||◌, ◌==◌, flat_map, if◌then◌else◌, nat_le, is_some}
use Rattle.std.specs.List.{AllByRecursion, list_any}
use Rattle.std.specs.Option.{option_map_or, option_map}
use Rattle.std.proofs.lemmas.Bool.{lt-leb}
use Rattle.rb_base.specs.Names.{text_eq}
use Rattle.rb_base.proofs.NamesLemmas.{text_eq-refl}
use Rattle.image_model.specs.Image.{ClassOf, ImageOf}
use Rattle.image_model.specs.Chain.{class_named}
use Rattle.image_model.specs.Means.{of_instance, of_class_side}
use Rattle.image_model.specs.Valid.{HasNoRepeat, SuperclassesStandBefore}
use Rattle.image_model.proofs.ChainLemmas.{slice_get-map}
use Rattle.file_model.specs.Applied.{new_class, class_again, changed_class, with_definition, with_class_side}
use Rattle.file_model.specs.Changes.{DefineAt, Comment, SetClassSide}
use Rattle.file_model.specs.Filing.{Text}
use Rattle.file_model.specs.Hierarchy.{has_class, is_kernel_class, stands_twice, has_repeat}
use Rattle.file_model.specs.Places.{PlacedOf, PlacesOf, ClassPlaceOf, class_place, with_class_place}
use Rattle.file_model.specs.Refusals.{lacks_superclass, is_one_class_too_many}
use Rattle.file_laws.proofs.Moves.{text_equal}
use Rattle.file_rereading.proofs.Fresh.{find_none, none_in}
use Rattle.file_rereading.proofs.Prefixes.{above_before, has_repeat_none}
use Rattle.change_model.specs.Equal.{is_namesake}
use Rattle.change_model.specs.Differs.{is_among, differing_from}
use Rattle.change_model.specs.Edits.{Change, definition_of, filed}
use Rattle.change_model.specs.Edited.{edited, AreMade, Over, Made}
use Rattle.change_laws.specs.Merged.{Has, AreApart, with_item, with_items, place_after, item_of}
use Rattle.change_laws.proofs.Orders.{any_has, at_has, one_alike}
use Rattle.change_laws.proofs.Puts.{Stays, apart_with, with_has}
use Rattle.change_laws.proofs.MethodsFiled.{no_longer}
use Rattle.change_laws.proofs.Rest.{made_further}
use Rattle.change_laws.proofs.Tests.{namesake_same, namesake_back, namesake_through}
use Rattle.change_class_laws.proofs.Stands.{has_front, has_back, has_either, has_three, IsOther, Stands, Split, split, is_there, its_kernel, changed_there, put_there, Named, has_named, named_has}
use Rattle.change_class_laws.proofs.Lessened.{IsWhole, IsLess, PartOf, less_itself, none_twice, none_on_class_side, not_above_itself}
use Rattle.change_class_laws.proofs.Conditions.{with_classes, Fits, defines_at, sets_class_side, comments}

-- there is a class of a name where one is among them
has_any : (n : Text) (cs : List (ClassOf Text)) → has_class text_eq cs n ≡ list_any (λ (c : ClassOf Text). text_eq n c.name) cs
has_any n [] = refl
has_any n (c ∷ cs) = by (text_eq n c.name) (has_any n cs)
  where
    by : (b : Bool) → has_class text_eq cs n ≡ list_any (λ (x : ClassOf Text). text_eq n x.name) cs → is_some (cond b (Some c) (class_named text_eq cs n)) ≡ (b || list_any (λ (x : ClassOf Text). text_eq n x.name) cs)
    by true rest = refl
    by false rest = rest

none_any : {X : Type 0} (p : X → Bool) (xs : List X) → list_any p xs ≡ false → AllByRecursion (λ x. p x ≡ false) xs
none_any p [] e = tt
none_any p (x ∷ xs) e = by (p x) refl e (none_any p xs)
  where
    by : (b : Bool) → p x ≡ b → (b || list_any p xs) ≡ false → (list_any p xs ≡ false → AllByRecursion (λ y. p y ≡ false) xs) → (p x ≡ false) × AllByRecursion (λ y. p y ≡ false) xs
    by true f k rest = absurd (true≢false k)
    by false f k rest = (f, rest k)

-- names stay where a class is put in
still_there : (y : ClassOf Text) (cs : List (ClassOf Text)) (n : Text) → has_class text_eq cs n ≡ true → has_class text_eq (with_item is_namesake y cs) n ≡ true
still_there y cs n h = by (is_among is_namesake cs y) (named_has cs n h)
  where
    in_place : (xs : List (ClassOf Text)) (c : ClassOf Text) → Has c xs → Named (map (λ (x : ClassOf Text). if is_namesake y x then y else x) xs) c.name
    in_place [] c k = absurd k
    in_place (x ∷ xs) c (inl e) = at (is_namesake y x) refl
      where
        at : (b : Bool) → is_namesake y x ≡ b → Named ((if b then y else x) ∷ map (λ (z : ClassOf Text). if is_namesake y z then y else z) xs) c.name
        at true f = record { class = y; there = inl refl; named = text_equal y.name x.name f ∙ ap (λ (z : ClassOf Text). z.name) (sym e) }
        at false f = record { class = x; there = inl refl; named = ap (λ (z : ClassOf Text). z.name) (sym e) }
    in_place (x ∷ xs) c (inr k) = let p = in_place xs c k in record { class = p.class; there = inr p.there; named = p.named }

    by : (b : Bool) → Named cs n → has_class text_eq (if b then map (λ (x : ClassOf Text). if is_namesake y x then y else x) cs else cs ++ y ∷ []) n ≡ true
    by true c = let p = in_place cs c.class c.there in has_named (map (λ (x : ClassOf Text). if is_namesake y x then y else x) cs) n (record { class = p.class; there = p.there; named = p.named ∙ c.named })
    by false c = has_named (cs ++ y ∷ []) n (record { class = c.class; there = has_front c.class cs (y ∷ []) c.there; named = c.named })

-- the places once classes are filed
abbrev pub places_filed : List (PlacedOf (ClassOf Text)) → PlacesOf Text → PlacesOf Text
places_filed [] places = places
places_filed (p ∷ ps) places = places_filed ps (with_class_place p.item.name p.place places)

place_after_at : (ps : List (PlacedOf (ClassOf Text))) (f g : ClassOf Text → Option ℕ) (c : ClassOf Text) → f c ≡ g c → place_after is_namesake ps f c ≡ place_after is_namesake ps g c
place_after_at [] f g c e = e
place_after_at (p ∷ ps) f g c e = place_after_at ps (λ z. if is_namesake p.item z then Some p.place else f z) (λ z. if is_namesake p.item z then Some p.place else g z) c (ap (λ (o : Option ℕ). if is_namesake p.item c then Some p.place else o) e)

pub places_are : (ps : List (PlacedOf (ClassOf Text))) (places : PlacesOf Text) (c : ClassOf Text) → class_place text_eq (places_filed ps places).classes c ≡ place_after is_namesake ps (class_place text_eq places.classes) c
places_are [] places c = refl
places_are (p ∷ ps) places c =
    places_are ps (with_class_place p.item.name p.place places) c
    ∙ place_after_at ps (class_place text_eq (with_class_place p.item.name p.place places).classes) (λ z. if is_namesake p.item z then Some p.place else class_place text_eq places.classes z) c (by (text_eq p.item.name c.name))
  where
    by : (b : Bool) → option_map (λ (q : ClassPlaceOf Text). q.place) (cond b (Some (record { class = p.item.name; place = p.place })) (find (λ (q : ClassPlaceOf Text). text_eq q.class c.name) places.classes)) ≡ (if b then Some p.place else class_place text_eq places.classes c)
    by true = refl
    by false = refl

pub methods_stay : (ps : List (PlacedOf (ClassOf Text))) (places : PlacesOf Text) → (places_filed ps places).methods ≡ places.methods
methods_stay [] places = refl
methods_stay (p ∷ ps) places = methods_stay ps (with_class_place p.item.name p.place places)

module _ (i : ImageOf Text) (whole : List (ClassOf Text)) (w : IsWhole whole) (apart : AreApart is_namesake whole) (few : length whole ≤ 10000) (shared : (y : ClassOf Text) → Has y whole → HasNoRepeat y.shared) where
  -- classes of the whole, or less, no two of a name
  pub record IsGood (cs : List (ClassOf Text)) : Type 0 where
    pub distinct : AreApart is_namesake cs
    pub parts : (c : ClassOf Text) → Has c cs → PartOf whole c

  good_with : (y : ClassOf Text) (cs : List (ClassOf Text)) → Has y whole → IsGood cs → IsGood (with_item is_namesake y cs)
  good_with y cs h g = record {
    distinct = apart_with is_namesake namesake_same namesake_back namesake_through y cs g.distinct;
    parts = λ c k. by c (with_has is_namesake namesake_same namesake_back namesake_through y c cs k);
  }
    where
      by : (c : ClassOf Text) → (c ≡ y) ⊎ Stays is_namesake namesake_same namesake_back namesake_through y cs c → PartOf whole c
      by c (inl e) = subst (PartOf whole) (sym e) (record { class = y; there = h; less = less_itself y })
      by c (inr s) = g.parts c s.there

  known : (cs : List (ClassOf Text)) → IsGood cs → (c : ClassOf Text) → Has c cs → is_among is_namesake whole c ≡ true
  known cs g c h = let p = g.parts c h in any_has (is_namesake c) whole p.class p.there (ap (text_eq c.name) (sym p.less.named) ∙ text_eq-refl c.name)

  -- Where a class is defined: between others, or last.
  record Slot (y : ClassOf Text) (cs : List (ClassOf Text)) : Type 0 where
    pre : List (ClassOf Text)
    half : ClassOf Text
    post : List (ClassOf Text)
    is_defined : with_definition text_eq false (definition_of y) cs ≡ pre ++ half ∷ post
    is_put : with_item is_namesake y cs ≡ pre ++ y ∷ post
    stands : Stands y.name pre half post
    before : (c : ClassOf Text) → Has c pre → Has c cs
    behind : (c : ClassOf Text) → Has c post → Has c cs
    is : half ≡ record y { class_side = half.class_side; comment = half.comment }
    side : (half.class_side ≡ y.class_side) ⊎ (half.class_side ≡ [])
    of_user : is_kernel_class text_eq cs y.name ≡ false
    room : is_one_class_too_many text_eq cs y.name ≡ false

  -- a class that is there is defined again
  slot_again : (y : ClassOf Text) (cs : List (ClassOf Text)) → Has y whole → y.kernel ≡ false → IsGood cs → list_any (λ (c : ClassOf Text). text_eq y.name c.name) cs ≡ true → Slot y cs
  slot_again y cs h user g there = record {
    pre = s.pre;
    half = class_again (definition_of y) s.class;
    post = s.post;
    is_defined = ap (λ (b : Bool). if b then changed_class text_eq y.name (class_again (definition_of y)) cs else cs ++ new_class false (definition_of y) ∷ []) has
        ∙ ap (changed_class text_eq y.name (class_again (definition_of y))) s.is ∙ changed_there y.name (class_again (definition_of y)) s.pre s.class s.post s.stands;
    is_put = ap (with_item is_namesake y) s.is ∙ put_there y s.pre s.class s.post s.stands;
    stands = record { named = s.stands.named; before = s.stands.before; behind = s.stands.behind };
    before = λ c k. from c (has_front c s.pre (s.class ∷ s.post) k);
    behind = λ c k. from c (has_back c s.pre (s.class ∷ s.post) (inr k));
    is = λ k. record { name = name k; superclass = y.superclass; instance = y.instance; shared = y.shared; class_side = s.class.class_side; category = y.category; comment = s.class.comment; kernel = less.kernel k };
    side = less.class_side;
    of_user = ap (λ (xs : List (ClassOf Text)). is_kernel_class text_eq xs y.name) s.is ∙ its_kernel y.name s.pre s.class s.post s.stands ∙ less.kernel ∙ user;
    room = ap (λ (b : Bool). not b && nat_le 10000 (length cs)) has;
  }
    where
      s : Split y.name cs
      s = split y.name cs g.distinct there

      has : has_class text_eq cs y.name ≡ true
      has = has_any y.name cs ∙ there

      from : (c : ClassOf Text) → Has c (s.pre ++ s.class ∷ s.post) → Has c cs
      from c k = subst (λ (xs : List (ClassOf Text)). Has c xs) (sym s.is) k

      name : s.class.name ≡ y.name
      name = sym (text_equal y.name s.class.name s.stands.named)

      part : PartOf whole s.class
      part = g.parts s.class (from s.class (has_back s.class s.pre (s.class ∷ s.post) (inl refl)))

      one : part.class ≡ y
      one = one_alike is_namesake namesake_same namesake_back whole part.class y apart part.there h (ap (text_eq part.class.name) (sym name ∙ part.less.named) ∙ text_eq-refl part.class.name)

      less : IsLess s.class y
      less = subst (IsLess s.class) one part.less

  -- a class that is new comes last
  slot_new : (y : ClassOf Text) (cs : List (ClassOf Text)) → Has y whole → y.kernel ≡ false → IsGood cs → list_any (λ (c : ClassOf Text). text_eq y.name c.name) cs ≡ false → Slot y cs
  slot_new y cs h user g none = record {
    pre = cs;
    half = new_class false (definition_of y);
    post = [];
    is_defined = ap (λ (b : Bool). if b then changed_class text_eq y.name (class_again (definition_of y)) cs else cs ++ new_class false (definition_of y) ∷ []) lacks;
    is_put = is_put;
    stands = record { named = text_eq-refl y.name; before = others; behind = tt };
    before = λ c k. k;
    behind = λ c k. absurd k;
    is = λ k. record { name = y.name; superclass = y.superclass; instance = y.instance; shared = y.shared; class_side = []; category = y.category; comment = []; kernel = sym user k };
    side = inr refl;
    of_user = ap (λ (o : Option (ClassOf Text)). option_map_or (λ (x : ClassOf Text). x.kernel) o false) (find_none (λ (c : ClassOf Text). text_eq y.name c.name) cs others);
    room = ap (λ (b : Bool). not b && nat_le 10000 (length cs)) lacks ∙ lt-leb 10000 (length cs) (omega (arith, grown, few, length-append cs (y ∷ [])));
  }
    where
      others : AllByRecursion (IsOther y.name) cs
      others = none_any (λ (c : ClassOf Text). text_eq y.name c.name) cs none

      lacks : has_class text_eq cs y.name ≡ false
      lacks = has_any y.name cs ∙ none

      is_put : with_item is_namesake y cs ≡ cs ++ y ∷ []
      is_put = ap (λ (b : Bool). if b then map (λ (x : ClassOf Text). if is_namesake y x then y else x) cs else cs ++ y ∷ []) none

      grown : length (cs ++ y ∷ []) ≤ length whole
      grown =
          let n = good_with y cs h g in
          subst (λ (xs : List (ClassOf Text)). length xs ≤ length whole) is_put (no_longer is_namesake namesake_back namesake_through (with_item is_namesake y cs) whole n.distinct (known (with_item is_namesake y cs) n))

  slot : (y : ClassOf Text) (cs : List (ClassOf Text)) → Has y whole → y.kernel ≡ false → IsGood cs → Slot y cs
  slot y cs h user g = by (list_any (λ (c : ClassOf Text). text_eq y.name c.name) cs) refl
    where
      by : (b : Bool) → list_any (λ (c : ClassOf Text). text_eq y.name c.name) cs ≡ b → Slot y cs
      by true e = slot_again y cs h user g e
      by false e = slot_new y cs h user g e

  -- a class is filed in
  files_one : (y : ClassOf Text) (k : ℕ) (cs : List (ClassOf Text)) (places : PlacesOf Text) → Has y whole → y.kernel ≡ false → 1 ≤ k → IsGood cs → lacks_superclass text_eq cs (definition_of y) ≡ false
      → AreMade (filed (record { place = k; item = y })) (with_classes i places cs) (with_classes i (with_class_place y.name k places) (with_item is_namesake y cs))
  files_one y k cs places h user from g above = by (length y.class_side == 0) refl
    where
      s : Slot y cs
      s = slot y cs h user g

      after : PlacesOf Text
      after = with_class_place y.name k places

      with_at : ClassOf Text → List (ClassOf Text)
      with_at x = s.pre ++ x ∷ s.post

      parts : (x : ClassOf Text) → IsLess x y → (c : ClassOf Text) → Has c (s.pre ++ x ∷ s.post) → PartOf whole c
      parts x l = has_three (PartOf whole) s.pre x s.post (λ c m. g.parts c (s.before c m)) (record { class = y; there = h; less = l }) (λ c m. g.parts c (s.behind c m))

      half_less : IsLess s.half y
      half_less = record {
        named = ap (λ (x : ClassOf Text). x.name) s.is;
        kernel = ap (λ (x : ClassOf Text). x.kernel) s.is;
        under = inl (ap (λ (x : ClassOf Text). x.superclass) s.is);
        instance = inl (ap (λ (x : ClassOf Text). x.instance) s.is);
        class_side = s.side;
      }

      half_user : s.half.kernel ≡ false
      half_user = half_less.kernel ∙ user

      fits : Fits cs (with_definition text_eq false (definition_of y) cs) (definition_of y)
      fits = record {
        of_user = s.of_user;
        above = above;
        no_cycle = not_above_itself whole cs w g.parts y (record { class = y; there = h; less = less_itself y });
        once = ap (λ (ns : List (ClassOf Text)). stands_twice text_eq ns of_instance y.name || (stands_twice text_eq ns of_class_side y.name || has_repeat text_eq y.shared)) s.is_defined
            ∙ none_twice whole (s.pre ++ s.half ∷ s.post) w (parts s.half half_less) y.name y.shared (has_repeat_none y.shared (shared y h));
        room = s.room;
      }

      defined : edited (Change (DefineAt (definition_of y) k)) (with_classes i places cs) ≡ Ok (with_classes i after (s.pre ++ s.half ∷ s.post))
      defined = defines_at i places cs (definition_of y) k from fits ∙ ap (λ (ns : List (ClassOf Text)). Ok (with_classes i after ns)) s.is_defined

      sided : ClassOf Text
      sided = record s.half { class_side = y.class_side }

      sided_stands : Stands y.name s.pre sided s.post
      sided_stands = record { named = s.stands.named; before = s.stands.before; behind = s.stands.behind }

      side_is : with_class_side text_eq y.name y.class_side (s.pre ++ s.half ∷ s.post) ≡ s.pre ++ sided ∷ s.post
      side_is = changed_there y.name (λ (c : ClassOf Text). record c { class_side = y.class_side }) s.pre s.half s.post s.stands

      side_set : edited (Change (SetClassSide y.name y.class_side)) (with_classes i after (s.pre ++ s.half ∷ s.post)) ≡ Ok (with_classes i after (s.pre ++ sided ∷ s.post))
      side_set =
          sets_class_side i after (s.pre ++ s.half ∷ s.post) y.name y.class_side (is_there y.name s.pre s.half s.post s.stands) (its_kernel y.name s.pre s.half s.post s.stands ∙ half_user)
          (ap (λ (ns : List (ClassOf Text)). stands_twice text_eq ns of_class_side y.name) side_is
          ∙ none_on_class_side whole (s.pre ++ sided ∷ s.post) w (parts sided (record { named = half_less.named; kernel = half_less.kernel; under = half_less.under; instance = half_less.instance; class_side = inl refl })) y.name)
          ∙ ap (λ (ns : List (ClassOf Text)). Ok (with_classes i after ns)) side_is

      commented : (x : ClassOf Text) → Stands y.name s.pre x s.post → x.kernel ≡ false → record x { comment = y.comment } ≡ y → edited (Change (Comment y.name y.comment)) (with_classes i after (s.pre ++ x ∷ s.post)) ≡ Ok (with_classes i after (with_item is_namesake y cs))
      commented x stands of_user is =
          comments i after (s.pre ++ x ∷ s.post) y.name y.comment (is_there y.name s.pre x s.post stands) (its_kernel y.name s.pre x s.post stands ∙ of_user)
          ∙ ap (λ (ns : List (ClassOf Text)). Ok (with_classes i after ns))
          (changed_there y.name (λ (c : ClassOf Text). record c { comment = y.comment }) s.pre x s.post stands ∙ ap with_at is ∙ sym s.is_put)

      sided_is : record sided { comment = y.comment } ≡ y
      sided_is = ap (λ (x : ClassOf Text). record x { class_side = y.class_side; comment = y.comment }) s.is

      none_is : y.class_side ≡ [] → record s.half { comment = y.comment } ≡ y
      none_is e = ap (λ (x : ClassOf Text). record x { comment = y.comment }) s.is ∙ ap (λ (ns : List Text). record y { class_side = ns }) (at s.side)
        where
          at : (s.half.class_side ≡ y.class_side) ⊎ (s.half.class_side ≡ []) → s.half.class_side ≡ y.class_side
          at (inl f) = f
          at (inr f) = f ∙ sym e

      by : (b : Bool) → (length y.class_side == 0) ≡ b
          → AreMade (Change (DefineAt (definition_of y) k) ∷ (if b then [] else Change (SetClassSide y.name y.class_side) ∷ []) ++ Change (Comment y.name y.comment) ∷ []) (with_classes i places cs) (with_classes i after (with_item is_namesake y cs))
      by true e = Made defined (Made (commented s.half s.stands half_user (none_is (none_in y.class_side e))) Over)
      by false e = Made defined (Made side_set (Made (commented sided sided_stands half_user sided_is) Over))

  -- all are filed in, and all classes of the whole are there
  pub record AreFiled (ps : List (PlacedOf (ClassOf Text))) (cs : List (ClassOf Text)) (places : PlacesOf Text) : Type 0 where
    pub made : AreMade (flat_map filed ps) (with_classes i places cs) (with_classes i (places_filed ps places) (with_items is_namesake (map item_of ps) cs))
    pub there : (y : ClassOf Text) → Has y whole → has_class text_eq (with_items is_namesake (map item_of ps) cs) y.name ≡ true

  module _ (stay : ClassOf Text → Bool) where
    above_there : (front : List (ClassOf Text)) (y : ClassOf Text) (ys cs : List (ClassOf Text)) → front ++ y ∷ ys ≡ whole → ((x : ClassOf Text) → Has x front → has_class text_eq cs x.name ≡ true) → lacks_superclass text_eq cs (definition_of y) ≡ false
    above_there front y ys cs is there = by y.superclass refl
      where
        by : (o : Option Text) → y.superclass ≡ o → option_map_or (λ n. not (has_class text_eq cs n)) o false ≡ false
        by None e = refl
        by (Some n) e =
            let b = above_before front y ys (subst (λ (xs : List (ClassOf Text)). SuperclassesStandBefore xs) (sym is) w.classes.before) n e in
            let x = slice_get-map (λ (c : ClassOf Text). c.name) front b.0 n b.1 in
            ap (λ (m : Text). not (has_class text_eq cs m)) (sym x.2) ∙ ap not (there x.0 (at_has front b.0 x.0 x.1))

    pub files : (k : ℕ) (front ys cs : List (ClassOf Text)) (places : PlacesOf Text) → front ++ ys ≡ whole → 1 ≤ k → IsGood cs → ((y : ClassOf Text) → Has y ys → y.kernel ≡ false)
        → ((y : ClassOf Text) → Has y front → has_class text_eq cs y.name ≡ true) → ((y : ClassOf Text) → Has y ys → stay y ≡ true → has_class text_eq cs y.name ≡ true) → AreFiled (differing_from k stay ys) cs places
    files k front [] cs places is from g users there stays = record { made = Over; there = λ y h. by y (has_either y front [] (subst (λ (xs : List (ClassOf Text)). Has y xs) (sym is) h)) }
      where
        by : (y : ClassOf Text) → Has y front ⊎ Has y [] → has_class text_eq cs y.name ≡ true
        by y (inl h) = there y h
        by y (inr h) = absurd h
    files k front (y ∷ ys) cs places is from g users there stays =
        by (stay y) refl
        (λ ds after good still. files (suc k) (front ++ y ∷ []) ys ds after (append_assoc front (y ∷ []) ys ∙ is) (omega (arith, from)) good (λ x h. users x (inr h)) still.0 still.1)
      where
        IsStill : List (ClassOf Text) → Type 0
        IsStill ds = ((x : ClassOf Text) → Has x (front ++ y ∷ []) → has_class text_eq ds x.name ≡ true) × ((x : ClassOf Text) → Has x ys → stay x ≡ true → has_class text_eq ds x.name ≡ true)

        in_whole : Has y whole
        in_whole = subst (λ (xs : List (ClassOf Text)). Has y xs) is (has_back y front (y ∷ ys) (inl refl))

        one_more : (ds : List (ClassOf Text)) → ((n : Text) → has_class text_eq cs n ≡ true → has_class text_eq ds n ≡ true) → has_class text_eq ds y.name ≡ true → IsStill ds
        one_more ds still own = (λ x h. at x (has_either x front (y ∷ []) h), λ x h e. still x.name (stays x (inr h) e))
          where
            at : (x : ClassOf Text) → Has x front ⊎ Has x (y ∷ []) → has_class text_eq ds x.name ≡ true
            at x (inl h) = still x.name (there x h)
            at x (inr (inl e)) = ap (λ (z : ClassOf Text). has_class text_eq ds z.name) e ∙ own
            at x (inr (inr h)) = absurd h

        put : List (ClassOf Text)
        put = with_item is_namesake y cs

        own_name : has_class text_eq put y.name ≡ true
        own_name = let s = slot y cs in_whole (users y (inl refl)) g in ap (λ (xs : List (ClassOf Text)). has_class text_eq xs y.name) s.is_put ∙ has_named (s.pre ++ y ∷ s.post) y.name (record { class = y; there = has_back y s.pre (y ∷ s.post) (inl refl); named = refl })

        step : AreMade (filed (record { place = k; item = y })) (with_classes i places cs) (with_classes i (with_class_place y.name k places) put)
        step = files_one y k cs places in_whole (users y (inl refl)) from g (above_there front y ys cs is there)

        by : (b : Bool) → stay y ≡ b → ((ds : List (ClassOf Text)) (after : PlacesOf Text) → IsGood ds → IsStill ds → AreFiled (differing_from (suc k) stay ys) ds after)
            → AreFiled (if b then differing_from (suc k) stay ys else record { place = k; item = y } ∷ differing_from (suc k) stay ys) cs places
        by true e rest = rest cs places g (one_more cs (λ n h. h) (stays y (inl refl) e))
        by false e rest =
            let r = rest put (with_class_place y.name k places) (good_with y cs in_whole g) (one_more put (still_there y cs) own_name) in
            record { made = made_further step r.made; there = r.there }
