-- The classes that differ and stay are left without variables, under `Object`.
use Rattle.std.proofs.Common.{◌≡◌, ◌≢◌, inl, inr, Bool, true, false, cond, not, List, [], ◌∷◌, ◌++◌, map, filter, Some, None, Ok, refl, ap, sym, subst, ◌∙◌, true≢false, append_assoc, length}
use Rattle.std.specs.Prelude.{◌&&◌, ◌||◌, codes, flat_map, if◌then◌else◌, nat_le}
use Rattle.rb_base.specs.Names.{text_eq}
use Rattle.rb_base.proofs.NamesLemmas.{text_eq-refl}
use Rattle.image_model.specs.Image.{ClassOf, ImageOf}
use Rattle.image_model.specs.Means.{of_instance, of_class_side}
use Rattle.image_model.specs.Valid.{HasNoRepeat}
use Rattle.file_model.specs.Applied.{new_class, class_again, changed_class, with_definition, defined, with_class_side}
use Rattle.file_model.specs.Changes.{DefinitionOf, Define, SetClassSide}
use Rattle.file_model.specs.Filing.{Text}
use Rattle.file_model.specs.Hierarchy.{has_class, settled, stands_twice, has_repeat}
use Rattle.file_model.specs.Places.{no_places}
use Rattle.file_model.specs.Written.{user_classes}
use Rattle.file_laws.proofs.Moves.{text_equal}
use Rattle.file_laws.proofs.Settled.{settled_stays}
use Rattle.change_model.specs.Equal.{is_namesake}
use Rattle.change_model.specs.Differs.{is_among, class_stays}
use Rattle.change_model.specs.Edits.{Edit, Change, bare_definition, category_in, cleared, clearings}
use Rattle.change_model.specs.Edited.{edited, AreMade, Over, Made}
use Rattle.change_laws.specs.Merged.{Has, AreApart}
use Rattle.change_laws.specs.Images.{CanBeMade, at_rest}
use Rattle.change_laws.proofs.Rest.{made_further}
use Rattle.change_laws.proofs.Tests.{apart_from}
use Rattle.change_class_laws.proofs.Stands.{has_front, has_back, Stands, stands_between, is_there, its_kernel, changed_there, Named, has_named, named_has}
use Rattle.change_class_laws.proofs.Lessened.{IsWhole, PartOf, AreLess, less_all, less_part, less_names, less_set, less_before, root_named, none_twice, none_on_class_side, not_above_itself}
use Rattle.change_class_laws.proofs.Conditions.{with_classes, Fits, defines, sets_class_side}
use Rattle.change_class_laws.proofs.Users.{whole_of, of_user, not_object}

-- whether a class differs and stays
abbrev pub is_cleared : ImageOf Text → ImageOf Text → ClassOf Text → Bool
is_cleared i j x = not (class_stays i j x) && is_among is_namesake (user_classes j) x

-- a class under `Object`, without variables and with the category that it will have
abbrev pub bared : ImageOf Text → ClassOf Text → ClassOf Text
bared j x = record x { superclass = Some (codes "Object"); instance = []; shared = []; class_side = []; category = category_in j x }

-- the same where it differs and stays
abbrev pub cleared_class : ImageOf Text → ImageOf Text → ClassOf Text → ClassOf Text
cleared_class i j x = if is_cleared i j x then bared j x else x

module _ (kernel i j : ImageOf Text) (c : CanBeMade kernel i j) (root : has_class text_eq kernel.classes (codes "Object") ≡ true) where
  abbrev w : IsWhole i.classes
  w = whole_of kernel i c.old c.old_first

  -- a class is cleared
  record IsBared (pre : List (ClassOf Text)) (x : ClassOf Text) (rest : List (ClassOf Text)) : Type 0 where
    less : AreLess (pre ++ bared j x ∷ rest) i.classes
    made : AreMade (cleared j x) (with_classes i no_places (pre ++ x ∷ rest)) (with_classes i no_places (pre ++ bared j x ∷ rest))

  bares : (pre : List (ClassOf Text)) (x : ClassOf Text) (rest : List (ClassOf Text)) → Has x (user_classes i) → Named pre (codes "Object") → AreLess (pre ++ x ∷ rest) i.classes → IsBared pre x rest
  bares pre x rest h object l = record { less = end_less; made = Made first (Made second Over) }
    where
      cs : List (ClassOf Text)
      cs = pre ++ x ∷ rest

      d : DefinitionOf Text
      d = bare_definition x.name (category_in j x)

      half : ClassOf Text
      half = record x { superclass = Some (codes "Object"); instance = []; shared = []; category = category_in j x }

      mid : List (ClassOf Text)
      mid = pre ++ half ∷ rest

      end : List (ClassOf Text)
      end = pre ++ bared j x ∷ rest

      user : x.kernel ≡ false
      user = of_user kernel i c.old c.old_first x h

      has_above : (y : ClassOf Text) → Has y i.classes → x.name ≡ y.name → y.superclass ≢ None
      has_above y k named e =
          let object_name : codes "Object" ≡ y.name = root_named i.classes w y k e in
          true≢false (sym (ap (text_eq x.name) (object_name ∙ sym named) ∙ text_eq-refl x.name) ∙ not_object kernel i c.old c.old_first root x h)

      mid_less : AreLess mid i.classes
      mid_less = less_set pre x half rest i.classes l (λ y k s. record { named = s.named; kernel = s.kernel; under = inr (refl, has_above y k s.named); instance = inr refl; class_side = s.class_side })

      end_less : AreLess end i.classes
      end_less = less_set pre half (bared j x) rest i.classes mid_less (λ y k s. record { named = s.named; kernel = s.kernel; under = s.under; instance = s.instance; class_side = inr refl })

      apart : AreApart is_namesake cs
      apart = apart_from (λ (z : ClassOf Text). z.name) is_namesake cs (λ y z k m e. text_equal y.name z.name e) (subst (λ (ns : List Text). HasNoRepeat ns) (sym (less_names cs i.classes l)) w.classes.distinct)

      stands : Stands x.name pre x rest
      stands = stands_between pre x rest apart

      still : Stands x.name pre half rest
      still = record { named = stands.named; before = stands.before; behind = stands.behind }

      there : has_class text_eq cs x.name ≡ true
      there = is_there x.name pre x rest stands

      with_is : with_definition text_eq false d cs ≡ mid
      with_is = ap (λ (b : Bool). if b then changed_class text_eq x.name (class_again d) cs else cs ++ new_class false d ∷ []) there ∙ changed_there x.name (class_again d) pre x rest stands

      defined_is : defined text_eq false d cs ≡ mid
      defined_is =
          ap (λ (b : Bool). if b then settled text_eq (with_definition text_eq false d cs) else with_definition text_eq false d cs) there
          ∙ ap (settled text_eq) with_is ∙ settled_stays text_eq text_eq-refl text_equal mid (less_before i.classes w mid mid_less)

      part : PartOf i.classes (bared j x)
      part = less_part end i.classes end_less (bared j x) (has_back (bared j x) pre (bared j x ∷ rest) (inl refl))

      fits : Fits cs (with_definition text_eq false d cs) d
      fits = record {
        of_user = its_kernel x.name pre x rest stands ∙ user;
        above = ap not (has_named cs (codes "Object") (record { class = object.class; there = has_front object.class pre (x ∷ rest) object.there; named = object.named }));
        no_cycle = not_above_itself i.classes cs w (less_part cs i.classes l) (bared j x) part;
        once = ap (λ (ns : List (ClassOf Text)). stands_twice text_eq ns of_instance x.name || (stands_twice text_eq ns of_class_side x.name || has_repeat text_eq [])) with_is
            ∙ none_twice i.classes mid w (less_part mid i.classes mid_less) x.name [] refl;
        room = ap (λ (b : Bool). not b && nat_le 10000 (length cs)) there;
      }

      first : edited (Change (Define d)) (with_classes i no_places cs) ≡ Ok (with_classes i no_places mid)
      first = defines i no_places cs d fits ∙ ap (λ (ns : List (ClassOf Text)). Ok (with_classes i no_places ns)) defined_is

      side_is : with_class_side text_eq x.name [] mid ≡ end
      side_is = changed_there x.name (λ (z : ClassOf Text). record z { class_side = [] }) pre half rest still

      second : edited (Change (SetClassSide x.name [])) (with_classes i no_places mid) ≡ Ok (with_classes i no_places end)
      second =
          sets_class_side i no_places mid x.name [] (is_there x.name pre half rest still) (its_kernel x.name pre half rest still ∙ user)
          (ap (λ (ns : List (ClassOf Text)). stands_twice text_eq ns of_class_side x.name) side_is ∙ none_on_class_side i.classes end w (less_part end i.classes end_less) x.name)
          ∙ ap (λ (ns : List (ClassOf Text)). Ok (with_classes i no_places ns)) side_is

  -- classes are cleared, one after the other
  clears : (pre rest : List (ClassOf Text)) → AreLess (pre ++ rest) i.classes → Named pre (codes "Object") → ((x : ClassOf Text) → Has x rest → Has x (user_classes i))
      → AreMade (flat_map (cleared j) (filter (is_cleared i j) rest)) (with_classes i no_places (pre ++ rest)) (with_classes i no_places (pre ++ map (cleared_class i j) rest))
  clears pre [] l object users = Over
  clears pre (x ∷ rest) l object users =
      by (is_cleared i j x)
      (λ y m. shift y (clears (pre ++ y ∷ []) rest (subst (λ (cs : List (ClassOf Text)). AreLess cs i.classes) (sym (append_assoc pre (y ∷ []) rest)) m)
      (record { class = object.class; there = has_front object.class pre (y ∷ []) object.there; named = object.named }) (λ z h. users z (inr h))))
    where
      es : List Edit
      es = flat_map (cleared j) (filter (is_cleared i j) rest)

      done : List (ClassOf Text)
      done = map (cleared_class i j) rest

      shift : (y : ClassOf Text) → AreMade es (with_classes i no_places ((pre ++ y ∷ []) ++ rest)) (with_classes i no_places ((pre ++ y ∷ []) ++ done)) → AreMade es (with_classes i no_places (pre ++ y ∷ rest)) (with_classes i no_places (pre ++ y ∷ done))
      shift y m =
          subst (λ (cs : List (ClassOf Text)). AreMade es (with_classes i no_places cs) (with_classes i no_places (pre ++ y ∷ done))) (append_assoc pre (y ∷ []) rest)
          (subst (λ (cs : List (ClassOf Text)). AreMade es (with_classes i no_places ((pre ++ y ∷ []) ++ rest)) (with_classes i no_places cs)) (append_assoc pre (y ∷ []) done) m)

      by : (b : Bool) → ((y : ClassOf Text) → AreLess (pre ++ y ∷ rest) i.classes → AreMade es (with_classes i no_places (pre ++ y ∷ rest)) (with_classes i no_places (pre ++ y ∷ done)))
          → AreMade (flat_map (cleared j) (cond b (x ∷ filter (is_cleared i j) rest) (filter (is_cleared i j) rest))) (with_classes i no_places (pre ++ x ∷ rest)) (with_classes i no_places (pre ++ (if b then bared j x else x) ∷ done))
      by true further = let b = bares pre x rest (users x (inl refl)) object l in made_further b.made (further (bared j x) b.less)
      by false further = further x l

  -- all clearings are made
  pub clears_all : AreMade (clearings i j) (at_rest i) (with_classes i no_places (kernel.classes ++ map (cleared_class i j) (user_classes i)))
  clears_all =
      subst (λ (cs : List (ClassOf Text)). AreMade (clearings i j) (with_classes i no_places cs) (with_classes i no_places (kernel.classes ++ map (cleared_class i j) (user_classes i)))) (sym c.old_first.classes)
      (clears kernel.classes (user_classes i) (subst (λ (cs : List (ClassOf Text)). AreLess cs i.classes) c.old_first.classes (less_all i.classes)) (named_has kernel.classes (codes "Object") root) (λ x h. h))
