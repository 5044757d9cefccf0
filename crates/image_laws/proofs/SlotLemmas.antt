-- Images of slots that stay valid and orderly where a class is taken out or put in.
use Rattle.std.proofs.Common.{◌≡◌, ◌⊎◌, inl, inr, ℕ, ◌<◌, ◌||◌, Bool, true, false, cond, List, length, map, position, Option, Some, None, option_map, slice_get, refl, sym, ap, subst, ◌∙◌}
use Rattle.std.specs.Prelude.{insert}
use Rattle.std.specs.List.{list_any}
use Rattle.std.specs.Option.{option_and_then}
use Rattle.std.proofs.Math.Dec.{eqb}
use Rattle.std.proofs.lemmas.Bool.Decides.{Decides-eqb}
use Rattle.std.proofs.lemmas.Option.{slice_get_within}
use Rattle.std.proofs.lemmas.Slice.Eq.{slice_eq-Decides}
use Rattle.rb_base.specs.Names.{text_eq, name_at}
use Rattle.rb_base.proofs.NamesLemmas.{text_eq-refl, text_eq-name_at}
use Rattle.image_model.specs.Image.{ClassOf, EntryOf, map_class, map_entry}
use Rattle.image_model.specs.ImageNames.{OptionNames, ClassNames}
use Rattle.image_model.specs.Words.{text_words}
use Rattle.image_model.specs.Valid.{ReadingOf, class_names, SuperclassesStandBefore, IsValid}
use Rattle.image_model.specs.Grown.{IsNewClass}
use Rattle.image_model.proofs.Lists.{all-map}
use Rattle.image_model.proofs.ChainLemmas.{slice_get-map}
use Rattle.class_table.specs.declared.record.ClassRec.{ClassRec}
use Rattle.class_table.specs.declared.record.Slot.TheVariants as slot
use Rattle.class_table.specs.Order.{without}
use Rattle.class_table.specs.Slots.{Slots}
use Rattle.class_table.specs.View.{live, class_name, class_of, entry_of, image_of}
use Rattle.class_table.specs.Valid.{IsLive, IsOrderly, SuperclassesFirst}
use Rattle.class_table.specs.Kept.{FitsClass, IsAboveNothing}
use Rattle.class_table.specs.Changing.{with_live}
use Rattle.class_table.proofs.Live.{or_true, eqb-refl, eqb-equal, live-fact, there}
use Rattle.class_table.proofs.OrderLemmas.{any-without, any-insert, position-none}
use Rattle.class_table.proofs.KeptLemmas.{live-all}
use Rattle.image_laws.specs.Placed.{TellsApart, IsUnused, FollowsSuperclass, with_class_at}
use Rattle.image_laws.specs.Orders.{HasOrders}
use Rattle.image_laws.proofs.Orders.{stands-live, still, IsOrderOf-moved, absent-without}
use Rattle.image_laws.proofs.ViewLemmas.{live-place, class-stands, class-there, class-taken_out, class-put_in}
use Rattle.image_laws.proofs.PlacedLemmas.{IsValid-without_class, IsValid-with_class_at}

-- texts are told apart
pub text_apart : TellsApart text_eq
text_apart s t = ((slice_eq-Decides Decides-eqb s t (text_eq s t) refl).0, (λ e. ap (text_eq s) (sym e) ∙ text_eq-refl s))

-- numbers are told apart
pub number_apart : TellsApart eqb
number_apart m n = (eqb-equal m n, (λ e. ap (eqb m) (sym e) ∙ eqb-refl m))

module _ (s : Slots) (o : IsOrderly s) where
  orders : HasOrders s
  orders = record { classes = o.class_order; methods = o.method_order }

  name-known : (q : ℕ) (b : ClassRec) → IsLive s.class_order q → slice_get s.classes q ≡ Some b → b.name < length s.names
  name-known q b l e = (live-fact (ClassNames (λ n. n < length s.names)) (class_of s.classes) s.classes s.class_order q b o.names_known.classes l e).name

  module _ (k : ℕ) (c : ClassRec) (l : IsLive s.class_order k) (e : slice_get s.classes k ≡ Some c) where
    -- the live class of the text of a name is the one that has the name
    same-class : (q : ℕ) → IsLive s.class_order q → option_map (name_at s.names) (class_name s.classes q) ≡ Some (name_at s.names c.name) → q ≡ k
    same-class q m h =
        let at = there s.classes q (o.class_order.below q m) in
        let given : Some (name_at s.names at.0.name) ≡ Some (name_at s.names c.name) = ap (λ (x : Option ClassRec). option_map (name_at s.names) (option_map (λ (d : ClassRec). d.name) x)) (sym at.1) ∙ h in
        let text : name_at s.names at.0.name ≡ name_at s.names c.name = cc in
        let test : eqb at.0.name c.name ≡ true = sym (text_eq-name_at s.names o.names_distinct at.0.name c.name (name-known q at.0 m at.1) (name-known k c l e)) ∙ ap (text_eq (name_at s.names at.0.name)) (sym text) ∙ text_eq-refl (name_at s.names at.0.name) in
        o.class_names_distinct q k c.name m l (ap (option_map (λ (d : ClassRec). d.name)) at.1 ∙ ap Some (eqb-equal at.0.name c.name test)) (ap (option_map (λ (d : ClassRec). d.name)) e)

    module _ (nothing : IsAboveNothing s k) where
      -- no class or method of the image is below the class
      unused : IsUnused (image_of s) (name_at s.names c.name)
      unused = record {
        classes =
            all-map (λ (d : ClassOf (List ℕ)). d.superclass ≡ Some (name_at s.names c.name) → ⊥) (map_class (name_at s.names)) (map (class_of s.classes) (live s.classes s.class_order))
            (live-all (λ (d : ClassOf ℕ). option_map (name_at s.names) d.superclass ≡ Some (name_at s.names c.name) → ⊥) (class_of s.classes) s.classes s.class_order (λ j d m f. none j d m f d.superclass refl));
        methods =
            all-map (λ (m : EntryOf (List ℕ)). m.class ≡ Some (name_at s.names c.name) → ⊥) (map_entry (name_at s.names)) (map (entry_of s.classes) (live s.methods s.method_order))
            (live-all (λ (m : EntryOf ℕ). option_map (name_at s.names) m.class ≡ Some (name_at s.names c.name) → ⊥) (entry_of s.classes) s.methods s.method_order
            (λ j m t f h. nothing.methods j m t f (same-class m.class (o.method_classes_live j m t f) h)));
      }
        where
          none : (j : ℕ) (d : ClassRec) → IsLive s.class_order j → slice_get s.classes j ≡ Some d → (x : Option ℕ) → d.superclass ≡ x → option_map (name_at s.names) (option_and_then (class_name s.classes) x) ≡ Some (name_at s.names c.name) → ⊥
          none j d m f None g h = absurd (cc)
          none j d m f (Some q) g h = nothing.classes j d m f (g ∙ ap Some (same-class q (o.superclasses_live q j d m f g) h))

      -- a valid image stays valid without the class
      pub valid-taken_out : (r : ReadingOf (List ℕ)) → IsValid text_words r (image_of s) → c.kernel ≡ false → IsValid text_words r (image_of (with_live s (slot.Class k) None))
      valid-taken_out r valid user = by (position (eqb k) s.class_order) refl
        where
          by : (x : Option ℕ) → position (eqb k) s.class_order ≡ x → IsValid text_words r (image_of (with_live s (slot.Class k) None))
          by None f = subst (λ (t : Slots). IsValid text_words r (image_of t)) (ap (λ (ks : List ℕ). record s { class_order = ks }) (sym (position-none k s.class_order (sym f)))) valid
          by (Some p) f =
              subst (λ i. IsValid text_words r i) (sym (class-taken_out s orders k p f))
              (IsValid-without_class text_words r (image_of s) valid text_apart p (map_class (name_at s.names) (class_of s.classes c))
              (class-there s orders k p f ∙ ap (λ (x : Option ClassRec). option_map (map_class (name_at s.names)) (option_map (class_of s.classes) x)) e) unused user)

  -- the live slot of the class of a name at a place
  slot-named : (q : ℕ) (n : List ℕ) → slice_get (class_names (image_of s).classes) q ≡ Some n → (k : ℕ) × (slice_get s.class_order q ≡ Some k) × (option_map (name_at s.names) (class_name s.classes k) ≡ Some n)
  slot-named q n e = third (slice_get-map (λ (d : ClassOf (List ℕ)). d.name) (image_of s).classes q n e)
    where
      first : (x : ClassOf ℕ) → name_at s.names x.name ≡ n → (c : ClassRec) × (slice_get (live s.classes s.class_order) q ≡ Some c) × (class_of s.classes c ≡ x)
          → (k : ℕ) × (slice_get s.class_order q ≡ Some k) × (option_map (name_at s.names) (class_name s.classes k) ≡ Some n)
      first x h found =
          let place = live-place s.classes s.class_order q found.0 o.class_order.below found.1 in
          (place.0, place.1, ap (λ (y : Option ClassRec). option_map (name_at s.names) (option_map (λ (d : ClassRec). d.name) y)) place.2 ∙ ap Some (ap (λ (d : ClassOf ℕ). name_at s.names d.name) found.2 ∙ h))

      second : (d : ClassOf (List ℕ)) → d.name ≡ n → (x : ClassOf ℕ) × (slice_get (map (class_of s.classes) (live s.classes s.class_order)) q ≡ Some x) × (map_class (name_at s.names) x ≡ d)
          → (k : ℕ) × (slice_get s.class_order q ≡ Some k) × (option_map (name_at s.names) (class_name s.classes k) ≡ Some n)
      second d h found = first found.0 (ap (λ (x : ClassOf (List ℕ)). x.name) found.2 ∙ h) (slice_get-map (class_of s.classes) (live s.classes s.class_order) q found.0 found.1)

      third : (d : ClassOf (List ℕ)) × (slice_get (image_of s).classes q ≡ Some d) × (d.name ≡ n) → (k : ℕ) × (slice_get s.class_order q ≡ Some k) × (option_map (name_at s.names) (class_name s.classes k) ≡ Some n)
      third found = second found.0 found.2 (slice_get-map (map_class (name_at s.names)) (map (class_of s.classes) (live s.classes s.class_order)) q found.0 found.1)

  -- where superclasses stand before their subclasses in the image, they do in the order of the live classes
  pub superclasses-first : SuperclassesStandBefore (image_of s).classes → SuperclassesFirst s.classes s.class_order
  superclasses-first before p k j c at e super =
      by j (o.superclasses_live j k c (stands-live k s.class_order p at) e super) super
    where
      stands : slice_get (image_of s).classes p ≡ Some (map_class (name_at s.names) (class_of s.classes c))
      stands = class-stands s orders k p at ∙ ap (λ (x : Option ClassRec). option_map (map_class (name_at s.names)) (option_map (class_of s.classes) x)) e

      from : (i : ℕ) (b : ClassRec) → IsLive s.class_order i → slice_get s.classes i ≡ Some b → (q : ℕ) × (q < p) × (slice_get (class_names (image_of s).classes) q ≡ Some (name_at s.names b.name)) → (q : ℕ) × (q < p) × (slice_get s.class_order q ≡ Some i)
      from i b l f named =
          let place = slot-named named.0 (name_at s.names b.name) named.2 in
          (named.0, named.1, place.1 ∙ ap Some (same-class i b l f place.0 (stands-live place.0 s.class_order named.0 place.1) place.2))

      by : (i : ℕ) → IsLive s.class_order i → c.superclass ≡ Some i → (q : ℕ) × (q < p) × (slice_get s.class_order q ≡ Some i)
      by i l h =
          let b = there s.classes i (o.class_order.below i l) in
          from i b.0 l b.1
          (before p (map_class (name_at s.names) (class_of s.classes c)) (name_at s.names b.0.name) stands
          (ap (λ (x : Option ℕ). option_map (name_at s.names) (option_and_then (class_name s.classes) x)) h ∙ ap (λ (x : Option ClassRec). option_map (name_at s.names) (option_map (λ (d : ClassRec). d.name) x)) b.1))

  module _ (k : ℕ) (c : ClassRec) (e : slice_get s.classes k ≡ Some c) where
    -- a valid image stays valid with a new class
    pub valid-put_in : (r : ReadingOf (List ℕ)) (p : ℕ) → IsValid text_words r (image_of s) → (IsLive s.class_order k → ⊥) → IsNewClass text_words r (image_of s) (map_class (name_at s.names) (class_of s.classes c))
        → FollowsSuperclass (image_of s) p (map_class (name_at s.names) (class_of s.classes c)) → IsValid text_words r (image_of (with_live s (slot.Class k) (Some p)))
    valid-put_in r p valid dead new follows =
        subst (λ i. IsValid text_words r i) (sym (class-put_in s orders k p c e ∙ ap (λ (t : Slots). with_class_at (image_of t) p (map_class (name_at s.names) (class_of s.classes c))) (ap (λ (ks : List ℕ). record s { class_order = ks }) gone)))
        (IsValid-with_class_at text_words r (image_of s) valid text_apart p (map_class (name_at s.names) (class_of s.classes c)) new follows)
      where
        gone : without k s.class_order ≡ s.class_order
        gone = absent-without k s.class_order (by (list_any (eqb k) s.class_order) refl)
          where
            by : (b : Bool) → list_any (eqb k) s.class_order ≡ b → list_any (eqb k) s.class_order ≡ false
            by true h = absurd (dead h)
            by false h = h

    module _ (p : ℕ) (fits : FitsClass s k c) where
      abbrev order : List ℕ
      order = insert (without k s.class_order) p k

      -- what is live now
      cases : (j : ℕ) → IsLive order j → (j ≡ k) ⊎ IsLive s.class_order j
      cases j m = by (or_true (eqb j k) (list_any (eqb j) (without k s.class_order)) (sym (any-insert k (eqb j) (without k s.class_order) p) ∙ m))
        where
          by : (eqb j k ≡ true) ⊎ (list_any (eqb j) (without k s.class_order) ≡ true) → (j ≡ k) ⊎ IsLive s.class_order j
          by (inl h) = inl (eqb-equal j k h)
          by (inr h) = inr (still k j s.class_order o.class_order.distinct h)

      -- what was live is live
      stays : (j : ℕ) → IsLive s.class_order j → IsLive order j
      stays j m = any-insert k (eqb j) (without k s.class_order) p ∙ ap (λ b. eqb j k || b) (any-without k j s.class_order o.class_order.distinct) ∙ by (eqb j k)
        where
          by : (b : Bool) → (b || cond b false (list_any (eqb j) s.class_order)) ≡ true
          by true = refl
          by false = m

      -- what stands in the slot
      is : (d : ClassRec) → slice_get s.classes k ≡ Some d → c ≡ d
      is d f = (let given : Some c ≡ Some d = sym e ∙ f in cc)

      known : (q : ℕ) → IsLive s.class_order q → OptionNames (λ n. n < length s.names) (class_name s.classes q)
      known q m = by (slice_get s.classes q) refl
        where
          by : (x : Option ClassRec) → slice_get s.classes q ≡ x → OptionNames (λ n. n < length s.names) (option_map (λ (d : ClassRec). d.name) x)
          by None f = tt
          by (Some d) f = name-known q d m f

      above-known : (x : Option ℕ) → c.superclass ≡ x → OptionNames (λ n. n < length s.names) (option_and_then (class_name s.classes) x)
      above-known None f = tt
      above-known (Some q) f = known q (fits.superclass_live q f)

      names : ClassNames (λ n. n < length s.names) (class_of s.classes c)
      names = record { name = fits.name_known; superclass = above-known c.superclass refl; instance = fits.instance_known; shared = fits.shared_known; class_side = fits.class_side_known }

      names-now : (j : ℕ) (d : ClassRec) → IsLive order j → slice_get s.classes j ≡ Some d → ClassNames (λ n. n < length s.names) (class_of s.classes d)
      names-now j d m f = by (cases j m)
        where
          by : (j ≡ k) ⊎ IsLive s.class_order j → ClassNames (λ n. n < length s.names) (class_of s.classes d)
          by (inl h) = subst (λ (x : ClassRec). ClassNames (λ n. n < length s.names) (class_of s.classes x)) (is d (ap (slice_get s.classes) (sym h) ∙ f)) names
          by (inr h) = live-fact (ClassNames (λ n. n < length s.names)) (class_of s.classes) s.classes s.class_order j d o.names_known.classes h f

      -- the slot of a name is still the only one
      distinct-now : (i j n : ℕ) → (i ≡ k) ⊎ IsLive s.class_order i → (j ≡ k) ⊎ IsLive s.class_order j → class_name s.classes i ≡ Some n → class_name s.classes j ≡ Some n → i ≡ j
      distinct-now i j n (inl g) (inl h) a b = g ∙ sym h
      distinct-now i j n (inl g) (inr h) a b = g ∙ sym (fits.name_is_new j h (b ∙ sym a ∙ ap (class_name s.classes) g ∙ ap (option_map (λ (d : ClassRec). d.name)) e))
      distinct-now i j n (inr g) (inl h) a b = fits.name_is_new i g (a ∙ sym b ∙ ap (class_name s.classes) h ∙ ap (option_map (λ (d : ClassRec). d.name)) e) ∙ sym h
      distinct-now i j n (inr g) (inr h) a b = o.class_names_distinct i j n g h a b

      above-live : (j q : ℕ) (d : ClassRec) → IsLive order q → slice_get s.classes q ≡ Some d → d.superclass ≡ Some j → IsLive order j
      above-live j q d m f super = stays j (by (cases q m))
        where
          by : (q ≡ k) ⊎ IsLive s.class_order q → IsLive s.class_order j
          by (inl h) = fits.superclass_live j (ap (λ (x : ClassRec). x.superclass) (is d (ap (slice_get s.classes) (sym h) ∙ f)) ∙ super)
          by (inr h) = o.superclasses_live j q d h f super

      -- an image stays orderly with a class that fits
      pub orderly-put_in : IsOrderly (with_live s (slot.Class k) (Some p))
      orderly-put_in = record {
        names_distinct = o.names_distinct;
        names_known = record {
          classes = live-all (ClassNames (λ n. n < length s.names)) (class_of s.classes) s.classes order names-now;
          methods = o.names_known.methods;
          doits = o.names_known.doits;
        };
        class_order = IsOrderOf-moved k s.class_order (length s.classes) (slice_get_within s.classes k c e) (Some p) o.class_order;
        method_order = o.method_order;
        class_names_distinct = λ i j n l m a b. distinct-now i j n (cases i l) (cases j m) a b;
        superclasses_live = above-live;
        method_classes_live = λ j m l f. stays m.class (o.method_classes_live j m l f);
      }
