-- The slots once a class has come, and classes under it.
use Rattle.std.proofs.Common.{◌≡◌, ℕ, ◌<◌, ◌≤◌, ◌||◌, Bool, true, false, List, [], ◌∷◌, length, map, Option, None, Some, option_map, slice_get, refl, sym, ap, subst, ◌∙◌}
use Rattle.std.specs.Prelude.{if◌then◌else◌, insert, nat_eq}
use Rattle.std.specs.List.{list_any, AllByRecursion}
use Rattle.std.specs.Option.{option_and_then, option_map_or}
use Rattle.std.proofs.Math.ListN.{set}
use Rattle.std.proofs.Math.Dec.{eqb}
use Rattle.std.proofs.lemmas.Option.{slice_get_within}
use Rattle.std.proofs.lemmas.Simd.{map-map}
use Rattle.scope_model.specs.Scope.{is_among}
use Rattle.image_model.specs.Image.{ClassOf}
use Rattle.image_model.specs.ImageNames.{ClassNames}
use Rattle.class_table.specs.declared.record.ClassRec.{ClassRec}
use Rattle.class_table.specs.declared.record.MethodRec.{MethodRec}
use Rattle.class_table.specs.declared.record.Place.TheVariants as place
use Rattle.class_table.specs.declared.record.Slot.TheVariants as slot
use Rattle.class_table.specs.Order.{without}
use Rattle.class_table.specs.Slots.{Slots}
use Rattle.class_table.specs.Changing.{with_live}
use Rattle.class_table.specs.Kept.{FitsClass}
use Rattle.class_table.specs.Valid.{IsLive, IsOrderly}
use Rattle.class_table.specs.View.{live, class_name, class_of, entry_of, number_image}
use Rattle.class_table.proofs.KeptLemmas.{class-swapped}
use Rattle.class_table.proofs.Live.{eqb-refl, live-same, live-fact, there}
use Rattle.class_table.proofs.OrderLemmas.{any-insert}
use Rattle.image_laws.proofs.Orders.{absent-without}
use Rattle.image_laws.proofs.SlotLemmas.{orderly-put_in}
use Rattle.change_set.specs.declared.change.Change.TheVariants as change
use Rattle.change_set.specs.Changes.{all_applied, CanApplyAll}
use Rattle.wider_slots.specs.Closed.{ClassWithin, FitsIn}
use Rattle.command_model.specs.Commands.{AddClass}
use Rattle.command_model.specs.ClassEffects.{new_class, put_before, put_under, class_added}
use Rattle.reference_index.specs.Mentioned.{DiffersAtMost}
use Rattle.plans.specs.Plan.{IsPlan}
use Rattle.class_plans.specs.Added.{is_one_of, place_before, record_under, class_comes}
use Rattle.class_plans.proofs.Before.{place-within, insert-before, live-before}
use Rattle.class_plans.proofs.Moves.{IsUnder, is-under, written, all_written, moves-written, moves-can, moves-fact, name-written, name-all, record_after, get-live, get-dead}

-- a new class under one in a slot
abbrev pub under_slot : (d above : ℕ) → ClassRec
under_slot d above = record {
  name = d;
  superclass = Some above;
  instance = [];
  shared = [];
  class_side = [];
  category = [];
  comment = [];
  kernel = false;
}

-- a slot that is not live holds a class of a new name under a live one
pub record IsComing (t : Slots) (d p n : ℕ) : Type 0 where
  pub above : ℕ
  pub above_live : IsLive t.class_order above
  pub above_named : class_name t.classes above ≡ Some p
  pub held : slice_get t.classes n ≡ Some (under_slot d above)
  pub dead : list_any (eqb n) t.class_order ≡ false
  pub known : d < length t.names
  pub new : (j : ℕ) → IsLive t.class_order j → class_name t.classes j ≡ Some d → ⊥

some-same : {x y : ℕ} → Some x ≡ Some y → x ≡ y
some-same h = cc

module _ (t : Slots) (o : IsOrderly t) (d p n : ℕ) (under : List ℕ) (h : IsComing t d p n) where
  abbrev rec : ClassRec
  rec = under_slot d h.above

  fits : FitsClass t n rec
  fits = record {
    name_known = h.known;
    instance_known = tt;
    shared_known = tt;
    class_side_known = tt;
    name_is_new = λ j l f. absurd (h.new j l f);
    superclass_live = λ j f. subst (IsLive t.class_order) (some-same f) h.above_live;
  }

  -- the class stands before the first one of the names
  none-taken : without n t.class_order ≡ t.class_order
  none-taken = absent-without n t.class_order h.dead

  order-is : insert (without n t.class_order) (place_before t under) n ≡ put_before (is_one_of t under) n t.class_order
  order-is = ap (λ (ks : List ℕ). insert ks (place_before t under) n) none-taken ∙ insert-before (is_one_of t under) n t.class_order

  abbrev placed : Slots
  placed = with_live t (slot.Class n) (Some (place_before t under))

  placed-orderly : IsOrderly placed
  placed-orderly = orderly-put_in t o n rec h.held (place_before t under) fits

  new-live : IsLive placed.class_order n
  new-live = any-insert n (eqb n) (without n t.class_order) (place_before t under) ∙ ap (λ (b : Bool). b || list_any (eqb n) (without n t.class_order)) (eqb-refl n)

  -- the names in a live record
  names-known : (k : ℕ) (c : ClassRec) → IsLive t.class_order k → slice_get t.classes k ≡ Some c → ClassNames (λ m. m < length t.names) (class_of t.classes c)
  names-known k c l e = live-fact (ClassNames (λ m. m < length t.names)) (class_of t.classes) t.classes t.class_order k c o.names_known.classes l e

  -- classes that come under it leave the slots orderly
  moves-orderly : (cs : List ClassRec) (ks : List ℕ) → ((j : ℕ) → class_name cs j ≡ class_name t.classes j) → IsOrderly (record placed { classes = cs }) → IsOrderly (record placed { classes = all_written t under n cs ks })
  moves-orderly cs [] same z = z
  moves-orderly cs (k ∷ ks) same z = moves-orderly (written t under n cs k) ks (name-written t under n cs k same) (by (record_under t under n k) refl)
    where
      fits-there : (r : ClassRec) → IsUnder t under n k r → IsLive placed.class_order k → FitsClass (record placed { classes = cs }) k r
      fits-there r u l =
          let was = names-known k u.former u.live u.there in
          subst (λ (x : ClassRec). FitsClass (record placed { classes = cs }) k x) (sym u.is) (record {
            name_known = was.name;
            instance_known = was.instance;
            shared_known = was.shared;
            class_side_known = was.class_side;
            name_is_new = λ j m f. z.class_names_distinct j k (u.former).name m l f (same k ∙ ap (option_map (λ (x : ClassRec). x.name)) u.there);
            superclass_live = λ j f. subst (IsLive placed.class_order) (some-same f) new-live;
          })

      by : (x : Option ClassRec) → record_under t under n k ≡ x → IsOrderly (record placed { classes = option_map_or (λ r. set cs k r) x cs })
      by None f = z
      by (Some r) f = class-swapped (record placed { classes = cs }) z k r (fits-there r (is-under t under n k r f))

  abbrev classes : List ClassRec
  classes = all_written t under n t.classes t.class_order

  abbrev end : Slots
  end = record placed { classes = classes }

  end-is : all_applied t (class_comes t under n) ≡ end
  end-is = moves-written t under n placed t.class_order

  end-orderly : IsOrderly end
  end-orderly = moves-orderly t.classes t.class_order (λ j. refl) placed-orderly

  names-same : (j : ℕ) → class_name classes j ≡ class_name t.classes j
  names-same = name-all t under n t.classes t.class_order (λ j. refl)

  above-same : (x : Option ℕ) → option_and_then (class_name classes) x ≡ option_and_then (class_name t.classes) x
  above-same None = refl
  above-same (Some j) = names-same j

  new-name : class_name classes n ≡ Some d
  new-name = names-same n ∙ ap (option_map (λ (x : ClassRec). x.name)) h.held

  -- each class is the one after
  class-after : (c : ClassRec) → class_of classes (record_after t under n c) ≡ put_under nat_eq d under (class_of t.classes c)
  class-after c = by (is_among nat_eq under c.name)
    where
      by : (b : Bool) → class_of classes (if b then record c { superclass = Some n } else c) ≡ (if b then record (class_of t.classes c) { superclass = Some d } else class_of t.classes c)
      by true = λ i. record { name = c.name; superclass = new-name i; instance = c.instance; shared = c.shared; class_side = c.class_side; category = c.category; comment = c.comment; kernel = c.kernel }
      by false = λ i. record { name = c.name; superclass = above-same c.superclass i; instance = c.instance; shared = c.shared; class_side = c.class_side; category = c.category; comment = c.comment; kernel = c.kernel }

  name-after : (c : ClassRec) → (record_after t under n c).name ≡ c.name
  name-after c = by (is_among nat_eq under c.name)
    where
      by : (b : Bool) → (if b then record c { superclass = Some n } else c).name ≡ c.name
      by true = refl
      by false = refl

  new-is : class_of classes rec ≡ new_class d p
  new-is = λ i. record { name = d; superclass = (names-same h.above ∙ h.above_named) i; instance = []; shared = []; class_side = []; category = []; comment = []; kernel = false }

  abbrev among : ClassOf ℕ → Bool
  among e = is_among nat_eq under e.name

  each : (k : ℕ) → IsLive t.class_order k → (y : ClassRec) × (slice_get classes k ≡ Some y) × (is_one_of t under k ≡ among (class_of classes y))
  each k l =
      let c = there t.classes k (o.class_order.below k l) in
      (record_after t under n c.0, get-live t under n k c.0 l c.1, one c.0 c.1 ∙ sym (ap (is_among nat_eq under) (name-after c.0)))
    where
      one : (c : ClassRec) → slice_get t.classes k ≡ Some c → is_one_of t under k ≡ is_among nat_eq under c.name
      one c e = ap (λ (x : Option ClassRec). option_map_or (λ (y : ClassRec). is_among nat_eq under y.name) x false) (ap (λ (b : Bool). if b then slice_get t.classes k else None) l ∙ e)

  old-are : map (class_of classes) (live classes t.class_order) ≡ map (put_under nat_eq d under) (number_image t).classes
  old-are =
      live-same (class_of classes) (λ (c : ClassRec). put_under nat_eq d under (class_of t.classes c)) classes t.classes t.class_order at
      ∙ sym (map-map (put_under nat_eq d under) (class_of t.classes) (live t.classes t.class_order))
    where
      at : (k : ℕ) → IsLive t.class_order k → option_map (class_of classes) (slice_get classes k) ≡ option_map (λ (c : ClassRec). put_under nat_eq d under (class_of t.classes c)) (slice_get t.classes k)
      at k l =
          let c = there t.classes k (o.class_order.below k l) in
          ap (option_map (class_of classes)) (get-live t under n k c.0 l c.1) ∙ ap Some (class-after c.0) ∙ sym (ap (option_map (λ (x : ClassRec). put_under nat_eq d under (class_of t.classes x))) c.1)

  classes-are : map (class_of classes) (live classes placed.class_order) ≡ (class_added nat_eq d p under (number_image t)).classes
  classes-are =
      ap (λ (ks : List ℕ). map (class_of classes) (live classes ks)) order-is
      ∙ live-before (class_of classes) among (is_one_of t under) classes n rec (get-dead t under n n h.dead ∙ h.held) t.class_order each
      ∙ (λ i. put_before among (new-is i) (old-are i))

  methods-are : map (entry_of classes) (live t.methods t.method_order) ≡ (number_image t).methods
  methods-are = λ i. map (λ (m : MethodRec). record (entry_of t.classes m) { class = names-same m.class i }) (live t.methods t.method_order)

  image-is : number_image end ≡ class_added nat_eq d p under (number_image t)
  image-is = λ i. record { classes = classes-are i; methods = methods-are i; doits = (number_image t).doits; heads = t.heads }

  -- each change can be made at its turn, and fits
  can-come : CanApplyAll t (class_comes t under n)
  can-come = ((slice_get_within t.classes n rec h.held, room), moves-can t under n placed t.class_order refl)
    where
      within : place_before t under ≤ length (without n t.class_order)
      within = subst (λ (ks : List ℕ). place_before t under ≤ length ks) (sym none-taken) (place-within (is_one_of t under) t.class_order)

      room : (m : ℕ) → Some (place_before t under) ≡ Some m → m ≤ length (without n t.class_order)
      room m e = subst (λ (x : ℕ). x ≤ length (without n t.class_order)) (some-same e) within

  fit-come : AllByRecursion (FitsIn t) (class_comes t under n)
  fit-come = (tt, moves-fact t under n (FitsIn t) one t.class_order)
    where
      one : (k : ℕ) (r : ClassRec) → IsUnder t under n k r → FitsIn t (change.Class k r)
      one k r u =
          let was = names-known k u.former u.live u.there in
          subst (ClassWithin (length t.names) (length t.classes)) (sym u.is) (record {
            name = was.name;
            superclass = slice_get_within t.classes n rec h.held;
            instance = was.instance;
            shared = was.shared;
            class_side = was.class_side;
          })

  differs : DiffersAtMost t end []
  differs (place.Method k) not_there = refl
  differs (place.DoIt m) not_there = refl

  pub come-plan : IsPlan t (AddClass d p under) (class_comes t under n) []
  come-plan = record {
    can = can-come;
    fit = fit-come;
    effect = ap number_image end-is ∙ image-is;
    names = ap (λ (z : Slots). z.names) end-is;
    orderly = subst IsOrderly (sym end-is) end-orderly;
    touched = subst (λ (z : Slots). DiffersAtMost t z []) (sym end-is) differs;
  }
