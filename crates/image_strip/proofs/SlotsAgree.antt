-- What is closed slot by slot.
use Rattle.std.proofs.Common.{◌≡◌, ℕ, ◌&&◌, ◌||◌, Bool, true, false, not, List, [], ◌∷◌, map, Option, None, Some, slice_get, option_map, refl, sym, ap, ◌∙◌}
use Rattle.std.specs.Prelude.{nat_eq, if◌then◌else◌}
use Rattle.std.specs.List.{list_all}
use Rattle.std.specs.Option.{option_map_or, option_and_then}
use Rattle.std.proofs.lemmas.List.Folds.{list_all-append, list_all-map}
use Rattle.image_model.specs.Image.{EntryOf, DoItOf, ImageOf, plus}
use Rattle.image_model.specs.Words.{WordsOf, number_words}
use Rattle.strip_model.specs.Reach.{ReachOf, has_class, has_selector, has_signature, has_method, if_named, code_means, code_sends, doit_code, method_code}
use Rattle.class_table.specs.declared.record.ClassRec.{ClassRec}
use Rattle.class_table.specs.declared.record.MethodRec.{MethodRec}
use Rattle.class_table.specs.declared.record.DoIt.{DoIt}
use Rattle.class_table.specs.Slots.{Slots}
use Rattle.class_table.specs.Valid.{IsLive, IsOrderly}
use Rattle.class_table.specs.View.{class_name, class_of, entry_of, doit_of, number_image}
use Rattle.class_table.proofs.Live.{there}
use Rattle.image_strip.specs.Closed.{is_closed_with}
use Rattle.image_strip.specs.Code.{method_at}
use Rattle.image_strip.specs.Once.{HasMethodsOnce}
use Rattle.image_strip.specs.Reached.{Marks, is_marked, reached}
use Rattle.image_strip.specs.SlotsClosed.{class_closed, code_closed, doit_closed, is_wanted, method_closed}
use Rattle.image_strip.specs.Stripped.{is_class_marked}
use Rattle.image_strip.proofs.Alls.{all-live, all-agree}
use Rattle.image_strip.proofs.ClosedParts as parts
use Rattle.image_strip.proofs.Marked.{class-marked, selector-marked, method-marked}

and-true : (b : Bool) → (b && true) ≡ b
and-true true = refl
and-true false = refl

-- what is asked in two ways
either-class : (k b t : Bool) → ((not k || b) && (not b || t)) ≡ (if b then t else not k)
either-class true true t = refl
either-class false true t = refl
either-class true false t = refl
either-class false false t = refl

either-method : (w b c x y : Bool) → ((not w || b) && ((not b || c) && ((not b || x) && (not b || y)))) ≡ (if b then (c && (x && y)) else not w)
either-method true true c x y = refl
either-method false true c x y = refl
either-method true false c x y = refl
either-method false false c x y = refl

-- the last of the do-its first
last-first : (a c b d : Bool) → (a && ((c && (b && true)) && d)) ≡ (a && (b && (c && d)))
last-first false c b d = refl
last-first true false true d = refl
last-first true false false d = refl
last-first true true true d = refl
last-first true true false d = refl

module _ (s : Slots) (o : IsOrderly s) (once : HasMethodsOnce s) (e : DoItOf ℕ) (r : Marks) where
  abbrev w : WordsOf ℕ
  w = number_words s.names

  abbrev I : ImageOf ℕ
  I = plus (number_image s) e

  abbrev R : ReachOf ℕ
  R = reached s r

  abbrev hc : ℕ → Bool
  hc = has_class nat_eq R

  -- tests of names
  classes-same : (xs : List ℕ) → list_all hc xs ≡ list_all (is_marked r.classes) xs
  classes-same xs = λ j. list_all (λ c. class-marked s r c j) xs

  selectors-same : (xs : List ℕ) → list_all (has_selector nat_eq R) xs ≡ list_all (is_marked r.selectors) xs
  selectors-same xs = λ j. list_all (λ c. selector-marked s r c j) xs

  -- the class in a live slot
  slot-named : (j : ℕ) → IsLive s.class_order j → (c : ClassRec) × (slice_get s.classes j ≡ Some c) × (class_name s.classes j ≡ Some c.name) × (is_class_marked s.classes r.classes j ≡ hc c.name)
  slot-named j l =
      let at = there s.classes j (o.class_order.below j l) in (
        at.0,
        at.1,
        ap (option_map (λ (c : ClassRec). c.name)) at.1,
        ap (λ (p : Option ClassRec). option_map_or (λ (c : ClassRec). is_marked r.classes c.name) p false) at.1 ∙ sym (class-marked s r (at.0).name),
      )

  home-same : (j : ℕ) → IsLive s.class_order j → list_all hc (if_named (class_name s.classes j)) ≡ is_class_marked s.classes r.classes j
  home-same j l =
      let at = slot-named j l in
      ap (λ (p : Option ℕ). list_all hc (if_named p)) at.2 ∙ and-true (hc (at.0).name) ∙ sym at.3

  module _ (k : ℕ) (c : ClassRec) (l : IsLive s.class_order k) (at : slice_get s.classes k ≡ Some c) where
    above-same : (p : Option ℕ) → c.superclass ≡ p → list_all hc (if_named (option_and_then (class_name s.classes) p)) ≡ option_map_or (is_class_marked s.classes r.classes) p true
    above-same None q = refl
    above-same (Some j) q = home-same j (o.superclasses_live j k c l at q)

    class-same : parts.closed_class w I R (class_of s.classes c)
        ≡ (if is_marked r.classes c.name then option_map_or (is_class_marked s.classes r.classes) c.superclass true else not c.kernel)
    class-same =
        either-class c.kernel (hc c.name) (list_all hc (if_named (option_and_then (class_name s.classes) c.superclass)))
        ∙ (λ j. if class-marked s r c.name j then above-same c.superclass refl j else not c.kernel)

  classes-agree : list_all (parts.closed_class w I R) (number_image s).classes ≡ list_all (class_closed s r) s.class_order
  classes-agree =
      all-live (class_of s.classes) (parts.closed_class w I R) s.classes s.class_order
      ∙ all-agree (λ k. option_map_or (λ (c : ClassRec). parts.closed_class w I R (class_of s.classes c)) (slice_get s.classes k) true) (class_closed s r) s.class_order
      (λ k l. by k l (slice_get s.classes k) refl)
    where
      by : (k : ℕ) → IsLive s.class_order k → (p : Option ClassRec) → slice_get s.classes k ≡ p
          → option_map_or (λ (c : ClassRec). parts.closed_class w I R (class_of s.classes c)) p true
          ≡ option_map_or (λ (c : ClassRec). if is_marked r.classes c.name then option_map_or (is_class_marked s.classes r.classes) c.superclass true else not c.kernel) p true
      by k l None at = refl
      by k l (Some c) at = class-same k c l at

  module _ (k : ℕ) (m : MethodRec) (l : IsLive s.method_order k) (at : slice_get s.methods k ≡ Some m) where
    abbrev a : EntryOf ℕ
    a = entry_of s.classes m

    signed : (p : Option ℕ) (c : ℕ) → p ≡ Some c
        → list_all (has_signature nat_eq R) (map (λ d. (d, a.meta, a.tree.selector)) (if_named p)) ≡ option_map_or (λ d. has_signature nat_eq R (d, a.meta, a.tree.selector)) p false
    signed None c q = absurd (cc)
    signed (Some d) c q = and-true (has_signature nat_eq R (d, a.meta, a.tree.selector))

    method-same : parts.closed_method w I R a
        ≡ (if is_marked r.methods k then (is_class_marked s.classes r.classes m.class && code_closed r (method_at s m.class m.meta m.tree)) else not (is_wanted s r m))
    method-same =
        let home = slot-named m.class (o.method_classes_live k m l at) in
        let is : has_method nat_eq R a ≡ is_marked r.methods k = method-marked s o once r k m l at in
        let wanted : parts.is_wanted w I R a ≡ is_wanted s r m =
        λ j. m.kernel || ((ap (λ (p : Option ℕ). option_map_or hc p false) home.2 ∙ sym home.3) j && selector-marked s r m.tree.selector j) in
        let means = code_means (method_code w I a) in
        let sends = code_sends (method_code w I a) in
        (λ j. (not (parts.is_wanted w I R a) || signed a.class (home.0).name home.2 j)
        && ((not (has_method nat_eq R a) || list_all hc (if_named a.class)) && ((not (has_method nat_eq R a) || list_all hc means) && (not (has_method nat_eq R a) || list_all (has_selector nat_eq R) sends))))
        ∙ either-method (parts.is_wanted w I R a) (has_method nat_eq R a) (list_all hc (if_named a.class)) (list_all hc means) (list_all (has_selector nat_eq R) sends)
        ∙ (λ j. if is j then (home-same m.class (o.method_classes_live k m l at) j && (classes-same means j && selectors-same sends j)) else not (wanted j))

  methods-agree : list_all (parts.closed_method w I R) (number_image s).methods ≡ list_all (method_closed s r) s.method_order
  methods-agree =
      all-live (entry_of s.classes) (parts.closed_method w I R) s.methods s.method_order
      ∙ all-agree (λ k. option_map_or (λ (m : MethodRec). parts.closed_method w I R (entry_of s.classes m)) (slice_get s.methods k) true) (method_closed s r) s.method_order
      (λ k l. by k l (slice_get s.methods k) refl)
    where
      by : (k : ℕ) → IsLive s.method_order k → (p : Option MethodRec) → slice_get s.methods k ≡ p
          → option_map_or (λ (m : MethodRec). parts.closed_method w I R (entry_of s.classes m)) p true
          ≡ option_map_or (λ (m : MethodRec). if is_marked r.methods k then (is_class_marked s.classes r.classes m.class && code_closed r (method_at s m.class m.meta m.tree)) else not (is_wanted s r m)) p true
      by k l None at = refl
      by k l (Some m) at = method-same k m l at

  -- a do-it
  doit-same : (d : DoItOf ℕ) → parts.closed_doit w I R d ≡ code_closed r (doit_code w (number_image s) d)
  doit-same d = λ j. classes-same (code_means (doit_code w I d)) j && selectors-same (code_sends (doit_code w I d)) j

  doits-agree : list_all (parts.closed_doit w I R) I.doits ≡ (list_all (doit_closed s r) s.doits && (code_closed r (doit_code w (number_image s) e) && true))
  doits-agree =
      list_all-append (parts.closed_doit w I R) (map doit_of s.doits) (e ∷ [])
      ∙ (λ j. (list_all-map (parts.closed_doit w I R) doit_of s.doits ∙ (λ k. list_all (λ (d : DoIt). doit-same (doit_of d) k) s.doits)) j && (doit-same e j && true))

  pub closed-agree : is_closed_with s e r ≡ (list_all (class_closed s r) s.class_order && (code_closed r (doit_code w (number_image s) e) && (list_all (doit_closed s r) s.doits && list_all (method_closed s r) s.method_order)))
  closed-agree =
      parts.closed-parts w I R
      ∙ (λ j. classes-agree j && (doits-agree j && methods-agree j))
      ∙ last-first (list_all (class_closed s r) s.class_order) (list_all (doit_closed s r) s.doits) (code_closed r (doit_code w (number_image s) e)) (list_all (method_closed s r) s.method_order)
