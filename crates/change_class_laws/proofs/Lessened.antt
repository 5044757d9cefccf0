-- Classes that are those of an image, or less than them for a while.
use Rattle.std.proofs.Common.{◌≡◌, ◌≢◌, ◌⊎◌, inl, inr, ℕ, zero, suc, ◌<◌, false, List, [], ◌∷◌, ◌++◌, Option, Some, None, slice_get, refl, ap, sym, subst, ◌∙◌, arith}
use Rattle.std.specs.Prelude.{◌||◌, codes, ◌↔◌, IsTrue}
use Rattle.std.specs.List.{AllByRecursion}
use Rattle.rb_base.specs.Names.{text_eq}
use Rattle.image_model.specs.Image.{ClassOf}
use Rattle.image_model.specs.Chain.{chain}
use Rattle.image_model.specs.Means.{of_instance, of_class_side}
use Rattle.image_model.specs.Valid.{DefinesOnceOnChain, SuperclassesStandBefore, class_names}
use Rattle.file_model.specs.Filing.{Text}
use Rattle.file_model.specs.Hierarchy.{stands_in, stands_twice, has_repeat}
use Rattle.file_laws.proofs.Moves.{text_equal}
use Rattle.file_laws.proofs.Redefined.{name_at_place}
use Rattle.change_laws.specs.Merged.{Has}
use Rattle.change_laws.specs.Mixed.{AreClasses, IsPartOf}
use Rattle.change_laws.proofs.Placing.{all_has, all_from}
use Rattle.change_laws.proofs.Orders.{at_has}
use Rattle.change_laws.proofs.Parts.{first_at}
use Rattle.change_laws.proofs.Mixed.{twice, no_cycle}
use Rattle.change_laws.proofs.Tests.{has_at}

-- classes in order, on whose chains no variable stands twice
pub record IsWhole (whole : List (ClassOf Text)) : Type 0 where
  pub classes : AreClasses whole
  pub instance : AllByRecursion (DefinesOnceOnChain text_eq whole of_instance) whole
  pub class_side : AllByRecursion (DefinesOnceOnChain text_eq whole of_class_side) whole

-- A class is another one, under its superclass or under `Object`, and with its variables of each side or with none.
pub record IsLess (c x : ClassOf Text) : Type 0 where
  pub named : c.name ≡ x.name
  pub kernel : c.kernel ≡ x.kernel
  pub under : (c.superclass ≡ x.superclass) ⊎ ((c.superclass ≡ Some (codes "Object")) × (x.superclass ≢ None))
  pub instance : (c.instance ≡ x.instance) ⊎ (c.instance ≡ [])
  pub class_side : (c.class_side ≡ x.class_side) ⊎ (c.class_side ≡ [])

pub less_itself : (x : ClassOf Text) → IsLess x x
less_itself x = record { named = refl; kernel = refl; under = inl refl; instance = inl refl; class_side = inl refl }

-- a class is one of a list, or less
pub record PartOf (whole : List (ClassOf Text)) (c : ClassOf Text) : Type 0 where
  pub class : ClassOf Text
  pub there : Has class whole
  pub less : IsLess c class

by_instance : (whole : List (ClassOf Text)) (c : ClassOf Text) → PartOf whole c → IsPartOf of_instance whole c
by_instance whole c p = let at = has_at whole p.class p.there in record { place = at.0; class = p.class; at = at.1; named = p.less.named; under = p.less.under; defines = p.less.instance }

by_class_side : (whole : List (ClassOf Text)) (c : ClassOf Text) → PartOf whole c → IsPartOf of_class_side whole c
by_class_side whole c p = let at = has_at whole p.class p.there in record { place = at.0; class = p.class; at = at.1; named = p.less.named; under = p.less.under; defines = p.less.class_side }

module _ (whole mixed : List (ClassOf Text)) (w : IsWhole whole) (parts : (c : ClassOf Text) → Has c mixed → PartOf whole c) where
  pub none_on_class_side : (n : Text) → stands_twice text_eq mixed of_class_side n ≡ false
  none_on_class_side n = twice of_class_side whole mixed w.classes (all_from (IsPartOf of_class_side whole) mixed (λ c h. by_class_side whole c (parts c h))) w.class_side n

  -- no variable stands twice
  pub none_twice : (n : Text) (shared : List Text) → has_repeat text_eq shared ≡ false → (stands_twice text_eq mixed of_instance n || (stands_twice text_eq mixed of_class_side n || has_repeat text_eq shared)) ≡ false
  none_twice n shared e =
      let all = twice of_instance whole mixed w.classes (all_from (IsPartOf of_instance whole) mixed (λ c h. by_instance whole c (parts c h))) w.instance n in
      λ k. all k || (none_on_class_side n k || e k)

  -- no class comes to stand above itself
  pub not_above_itself : (c : ClassOf Text) → PartOf whole c → stands_in text_eq c.name (chain text_eq mixed c.superclass) ≡ false
  not_above_itself c p = no_cycle of_instance whole mixed w.classes (all_from (IsPartOf of_instance whole) mixed (λ x h. by_instance whole x (parts x h))) c (by_instance whole c p)

-- one list is the other, or less at some places
abbrev pub AreLess : List (ClassOf Text) → List (ClassOf Text) → Type 0
AreLess [] [] = Unit {0}
AreLess [] (x ∷ xs) = ⊥
AreLess (c ∷ cs) [] = ⊥
AreLess (c ∷ cs) (x ∷ xs) = IsLess c x × AreLess cs xs

pub less_all : (xs : List (ClassOf Text)) → AreLess xs xs
less_all [] = tt
less_all (x ∷ xs) = (less_itself x, less_all xs)

pub less_part : (cs xs : List (ClassOf Text)) → AreLess cs xs → (c : ClassOf Text) → Has c cs → PartOf xs c
less_part [] [] l c h = absurd h
less_part [] (x ∷ xs) l c h = absurd l
less_part (d ∷ ds) [] l c h = absurd l
less_part (d ∷ ds) (x ∷ xs) l c (inl e) = record { class = x; there = inl refl; less = subst (λ (y : ClassOf Text). IsLess y x) (sym e) l.0 }
less_part (d ∷ ds) (x ∷ xs) l c (inr h) = let p = less_part ds xs l.1 c h in record { class = p.class; there = inr p.there; less = p.less }

pub less_names : (cs xs : List (ClassOf Text)) → AreLess cs xs → class_names cs ≡ class_names xs
less_names [] [] l = refl
less_names [] (x ∷ xs) l = absurd l
less_names (c ∷ cs) [] l = absurd l
less_names (c ∷ cs) (x ∷ xs) l = λ k. l.0.named k ∷ less_names cs xs l.1 k

-- the class at a place
record LessAt (xs : List (ClassOf Text)) (k : ℕ) (c : ClassOf Text) : Type 0 where
  class : ClassOf Text
  at : slice_get xs k ≡ Some class
  less : IsLess c class

less_at : (cs xs : List (ClassOf Text)) → AreLess cs xs → (k : ℕ) (c : ClassOf Text) → slice_get cs k ≡ Some c → LessAt xs k c
less_at [] [] l k c e = absurd (cc)
less_at [] (x ∷ xs) l k c e = absurd l
less_at (d ∷ ds) [] l k c e = absurd l
less_at (d ∷ ds) (x ∷ xs) l zero c e = let one : d ≡ c = cc in record { class = x; at = refl; less = subst (λ (y : ClassOf Text). IsLess y x) one l.0 }
less_at (d ∷ ds) (x ∷ xs) l (suc k) c e = let p = less_at ds xs l.1 k c e in record { class = p.class; at = p.at; less = p.less }

-- one class of the list becomes less
pub less_set : (pre : List (ClassOf Text)) (c d : ClassOf Text) (post xs : List (ClassOf Text)) → AreLess (pre ++ c ∷ post) xs → ((x : ClassOf Text) → Has x xs → IsLess c x → IsLess d x) → AreLess (pre ++ d ∷ post) xs
less_set [] c d post [] l f = absurd l
less_set [] c d post (x ∷ xs) l f = (f x (inl refl) l.0, l.1)
less_set (p ∷ ps) c d post [] l f = absurd l
less_set (p ∷ ps) c d post (x ∷ xs) l f = (l.0, less_set ps c d post xs l.1 (λ z h. f z (inr h)))

module _ (whole : List (ClassOf Text)) (w : IsWhole whole) where
  -- the first class has no superclass
  first_root : (r : ClassOf Text) → slice_get whole 0 ≡ Some r → r.superclass ≡ None
  first_root r at = by r.superclass refl
    where
      by : (o : Option Text) → r.superclass ≡ o → o ≡ None
      by None e = refl
      by (Some n) e = let b = w.classes.before 0 r n at e in absurd (let l : b.0 < 0 = b.1 in omega (arith, l))

  -- only a class of the name `Object` has none
  pub root_named : (x : ClassOf Text) → Has x whole → x.superclass ≡ None → codes "Object" ≡ x.name
  root_named x h e = text_equal (codes "Object") x.name ((all_has (λ (c : ClassOf Text). IsTrue (text_eq (codes "Object") c.name) ↔ (c.superclass ≡ None)) whole x w.classes.root h).1 e)

  -- superclasses stand before their subclasses still
  pub less_before : (cs : List (ClassOf Text)) → AreLess cs whole → SuperclassesStandBefore cs
  less_before cs l k c n at e = by (less_at cs whole l k c at)
    where
      same : (m : ℕ) (o : Text) → slice_get (class_names whole) m ≡ Some o → slice_get (class_names cs) m ≡ Some o
      same m o f = subst (λ (ns : List Text). slice_get ns m ≡ Some o) (sym (less_names cs whole l)) f

      not_first : (x : ClassOf Text) (m : ℕ) → slice_get whole m ≡ Some x → (x.superclass ≡ None → ⊥) → 0 < m
      not_first x zero f other = absurd (other (first_root x f))
      not_first x (suc m) f other = omega arith

      by : LessAt whole k c → (m : ℕ) × (m < k) × (slice_get (class_names cs) m ≡ Some n)
      by p = choose p.less.under
        where
          choose : (c.superclass ≡ p.class.superclass) ⊎ ((c.superclass ≡ Some (codes "Object")) × (p.class.superclass ≢ None)) → (m : ℕ) × (m < k) × (slice_get (class_names cs) m ≡ Some n)
          choose (inl s) = let b = w.classes.before k p.class n p.at (sym s ∙ e) in (b.0, b.1, same b.0 n b.2)
          choose (inr s) =
              let f = first_at whole k p.class p.at in
              let named : codes "Object" ≡ (f.0).name = root_named f.0 (at_has whole 0 f.0 f.1) (first_root f.0 f.1) in
              let its : Some n ≡ Some (codes "Object") = sym e ∙ s.0 in
              let name : n ≡ codes "Object" = cc in
              (0, not_first p.class k p.at s.1, same 0 n (name_at_place whole 0 f.0 f.1 ∙ ap Some (sym (name ∙ named))))
