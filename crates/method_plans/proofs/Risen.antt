-- The slots in which methods of a class, a side and a selector are the superclass's.
use Rattle.std.proofs.Common.{◌≡◌, ◌⊎◌, inl, inr, ℕ, ◌+◌, ◌<◌, Bool, true, false, List, [], ◌∷◌, ◌++◌, length, take, drop, map, Option, None, Some, option_map, slice_get, refl, sym, ap, subst, ◌∙◌}
use Rattle.std.specs.Prelude.{nat_eq, if◌then◌else◌}
use Rattle.std.specs.List.{list_any}
use Rattle.std.specs.Option.{option_map_or, option_and_then}
use Rattle.std.proofs.Math.Dec.{eqb}
use Rattle.std.proofs.Math.ListN.{set}
use Rattle.std.proofs.Math.Seq.{take-length}
use Rattle.std.proofs.lemmas.Bool.Decides.{eqb_tells}
use Rattle.std.proofs.lemmas.List.{map-append}
use Rattle.std.proofs.lemmas.Option.{slice_get_within}
use Rattle.st_tree.specs.View.{method_of}
use Rattle.image_model.specs.Image.{EntryOf}
use Rattle.image_model.specs.Lookup.{is_method}
use Rattle.class_table.specs.declared.record.ClassRec.{ClassRec}
use Rattle.class_table.specs.declared.record.MethodRec.{MethodRec}
use Rattle.class_table.specs.declared.record.Place.{Place}
use Rattle.class_table.specs.declared.record.Place.TheVariants as place
use Rattle.class_table.specs.Order.{Distinct}
use Rattle.class_table.specs.Slots.{Slots}
use Rattle.class_table.specs.Valid.{IsLive, IsOrderly}
use Rattle.class_table.specs.View.{live, live_at, class_name, entry_of, number_image}
use Rattle.class_table.specs.Kept.{FitsMethod}
use Rattle.class_table.specs.Finding.{named_in}
use Rattle.class_table.proofs.Live.{there, live-same, IsLive-first, IsLive-rest}
use Rattle.class_table.proofs.OrderLemmas.{get-set_same, get-set_other}
use Rattle.class_table.proofs.KeptLemmas.{method-fits, method-swapped}
use Rattle.class_questions.proofs.AnyLive.{live_at-live}
use Rattle.class_questions.proofs.ChainLaws.{named-slot}
use Rattle.image_laws.proofs.Orders.{stands-live}
use Rattle.change_set.specs.declared.change.Change.{Change}
use Rattle.change_set.specs.declared.change.Change.TheVariants as change
use Rattle.command_model.specs.Commands.{PushUpMethod}
use Rattle.command_model.specs.Hierarchy.{superclass_name}
use Rattle.command_model.specs.MethodEffects.{of_class_named}
use Rattle.commands.specs.declared.command.MethodName.{MethodName}
use Rattle.mentions.specs.Mentions.{method_names}
use Rattle.reference_index.specs.Mentioned.{DiffersAtMost}
use Rattle.wider_slots.proofs.Fitting as fitting
use Rattle.plans.specs.Plan.{IsPlan}
use Rattle.method_plans.specs.Named.{superclass_slot, moved_to}
use Rattle.users_methods.specs.Users.{is_named}
use Rattle.method_plans.proofs.Leads.{Leads, leads-nowhere, leads-on, leads-plan}
use Rattle.method_plans.proofs.Orders.{drop-at, take-at, parts-at, distinct-before, distinct-right, live-apart}
use Rattle.method_plans.proofs.LiveMethods.{live-append, live-cons, named-live, superclass-named}

-- a live class that is above
pub record IsAbove (s : Slots) (method : MethodName) (class name : ℕ) : Type 0 where
  pub live : IsLive s.class_order class
  pub named : class_name s.classes class ≡ Some name
  pub above : superclass_name nat_eq (number_image s) method.class ≡ Some name

pub above-there : (s : Slots) → IsOrderly s → (method : MethodName) (class : ℕ) → superclass_slot s method.class ≡ Some class → (n : ℕ) × IsAbove s method class n
above-there s o method class e = from (named_in s.classes s.class_order method.class) refl e
  where
    live : (k : ℕ) (c : ClassRec) → IsLive s.class_order k → slice_get s.classes k ≡ Some c → c.superclass ≡ Some class → (n : ℕ) × IsAbove s method class n
    live k c l at up =
        let above : IsLive s.class_order class = o.superclasses_live class k c l at up in
        let r = there s.classes class (o.class_order.below class above) in
        let named : class_name s.classes class ≡ Some (r.0).name = ap (option_map (λ (d : ClassRec). d.name)) r.1 in
        ((r.0).name, record { live = above; named = named; above = superclass-named s method.class ∙ ap (option_and_then (class_name s.classes)) e ∙ named })

    from : (q : Option ℕ) → named_in s.classes s.class_order method.class ≡ q → option_and_then (λ (c : ClassRec). c.superclass) (option_and_then (live_at s.classes s.class_order) q) ≡ Some class → (n : ℕ) × IsAbove s method class n
    from None is up = absurd (cc)
    from (Some k) is up =
        let found = named-slot s.classes s.class_order method.class k is in
        let r = there s.classes k (o.class_order.below k found.0) in
        live k r.0 found.0 r.1 (sym (ap (option_and_then (λ (c : ClassRec). c.superclass)) (live_at-live s.classes s.class_order k found.0 ∙ r.1)) ∙ up)

-- no class is above
pub not_above : (s : Slots) → IsOrderly s → (method : MethodName) → superclass_slot s method.class ≡ None → IsPlan s (PushUpMethod method.class method.meta method.selector) [] []
not_above s o method e =
    let none : superclass_name nat_eq (number_image s) method.class ≡ None = superclass-named s method.class ∙ ap (option_and_then (class_name s.classes)) e in
    leads-plan s (PushUpMethod method.class method.meta method.selector) [] [] s (leads-nowhere s o) refl (
    sym (ap (λ (q : Option ℕ). option_map_or (λ p. record (number_image s) { methods = map (moved p) (number_image s).methods }) q (number_image s)) none))
  where
    moved : ℕ → EntryOf ℕ → EntryOf ℕ
    moved p m = if is_method nat_eq method.class method.meta method.selector m then of_class_named m p else m

-- a method as it is after
abbrev pub after_of : MethodName → ℕ → EntryOf ℕ → EntryOf ℕ
after_of method name m = if is_method nat_eq method.class method.meta method.selector m then of_class_named m name else m

-- the names in the code of a method, if there is one
abbrev names : Option MethodRec → List ℕ
names q = option_map_or (λ (m : MethodRec). method_names (method_of m.tree)) q []

-- the changes so far, where so many slots have been looked at
pub record Rising (s : Slots) (method : MethodName) (name i : ℕ) (cs : List Change) (ps : List Place) : Type 0 where
  pub methods : List MethodRec
  pub none : ps ≡ []
  pub leads : Leads s cs [] (record s { methods = methods })
  pub done : map (entry_of s.classes) (live methods (take i s.method_order)) ≡ map (after_of method name) (map (entry_of s.classes) (live s.methods (take i s.method_order)))
  pub rest : (k : ℕ) → IsLive (drop i s.method_order) k → slice_get methods k ≡ slice_get s.methods k

-- the same, with the name of the class above
pub record HasRisen (s : Slots) (method : MethodName) (class i : ℕ) (cs : List Change) (ps : List Place) : Type 0 where
  pub name : ℕ
  pub up : IsAbove s method class name
  pub rising : Rising s method name i cs ps

module _ (s : Slots) (o : IsOrderly s) (method : MethodName) (class name : ℕ) (up : IsAbove s method class name) where
  abbrev e : MethodRec → EntryOf ℕ
  e = entry_of s.classes

  abbrev after : EntryOf ℕ → EntryOf ℕ
  after = after_of method name

  pub rising-start : Rising s method name 0 [] []
  rising-start = record { methods = s.methods; none = refl; leads = leads-nowhere s o; done = refl; rest = λ k l. refl }

  module _ (i k : ℕ) (r : MethodRec) (at : slice_get s.method_order i ≡ Some k) (there : slice_get s.methods k ≡ Some r) where
    abbrev before : List ℕ
    before = take i s.method_order

    abbrev behind : List ℕ
    behind = drop (i + 1) s.method_order

    is_live : IsLive s.method_order k
    is_live = stands-live k s.method_order i at

    parts : Distinct (before ++ k ∷ behind)
    parts = subst Distinct (parts-at s.method_order i k at) o.method_order.distinct

    apart-before : (j : ℕ) → IsLive before j → k ≡ j → ⊥
    apart-before j l = live-apart j k before (distinct-before k before behind parts) l

    apart-behind : (j : ℕ) → IsLive behind j → k ≡ j → ⊥
    apart-behind j l = live-apart j k behind (distinct-right before (k ∷ behind) parts).0 l

    -- a slot at the end of those that have been looked at
    one-more : (methods : List MethodRec) (n : MethodRec) → map e (live methods before) ≡ map after (map e (live s.methods before)) → slice_get methods k ≡ Some n → e n ≡ after (e r)
        → map e (live methods (take (i + 1) s.method_order)) ≡ map after (map e (live s.methods (take (i + 1) s.method_order)))
    one-more methods n so last is =
        ap (λ (ks : List ℕ). map e (live methods ks)) (take-at s.method_order i k at)
        ∙ live-append e methods before (k ∷ [])
        ∙ (λ j. so j ++ (live-cons e methods k n [] last ∙ ap (λ (m : EntryOf ℕ). m ∷ []) is) j)
        ∙ sym (
        ap (λ (ks : List ℕ). map after (map e (live s.methods ks))) (take-at s.method_order i k at)
        ∙ ap (map after) (live-append e s.methods before (k ∷ []) ∙ ap (λ (ms : List (EntryOf ℕ)). map e (live s.methods before) ++ ms) (live-cons e s.methods k r [] there))
        ∙ map-append after (map e (live s.methods before)) (e r ∷ []))

    behind-still : (j : ℕ) → IsLive behind j → IsLive (drop i s.method_order) j
    behind-still j l = subst (λ (ks : List ℕ). IsLive ks j) (sym (drop-at s.method_order i k at)) (IsLive-rest j k behind l)

    here-still : IsLive (drop i s.method_order) k
    here-still = subst (λ (ks : List ℕ). IsLive ks k) (sym (drop-at s.method_order i k at)) (IsLive-first k behind)

    after-is : (b : Bool) → is_named s method k ≡ b → after (e r) ≡ (if b then of_class_named (e r) name else e r)
    after-is b h = ap (λ (c : Bool). if c then of_class_named (e r) name else e r) (sym (named-live s method k r is_live there) ∙ h)

    pub rising-miss : (cs : List Change) (ps : List Place) → is_named s method k ≡ false → Rising s method name i cs ps → Rising s method name (i + 1) cs ps
    rising-miss cs ps h now = record {
      methods = now.methods;
      none = now.none;
      leads = now.leads;
      done = one-more now.methods r now.done (now.rest k here-still ∙ there) (sym (after-is false h));
      rest = λ j l. now.rest j (behind-still j l);
    }

    -- the method in the slot, as one of the class above
    abbrev rec : MethodRec
    rec = record r { class = class }

    fits : FitsMethod s rec
    fits = record { names_known = (method-fits s o k r is_live there).names_known; class_live = up.live }

    pub rec-is : moved_to s class k ≡ Some rec
    rec-is = ap (option_map (λ (m : MethodRec). record m { class = class })) (live_at-live s.methods s.method_order k is_live ∙ there)

    -- the code of other slots stays, and so do the names in the code of this one
    same-names : (methods : List MethodRec) → slice_get methods k ≡ Some r → DiffersAtMost (record s { methods = methods }) (record s { methods = set methods k rec }) []
    same-names methods stands (place.DoIt n) not = refl
    same-names methods stands (place.Method j) not = by (eqb_tells k j)
      where
        same : (b : Bool) → names (if b then Some rec else None) ≡ names (if b then Some r else None)
        same true = refl
        same false = refl

        by : ((eqb k j ≡ true) × (k ≡ j)) ⊎ ((eqb k j ≡ false) × (k ≡ j → ⊥)) → names (live_at (set methods k rec) s.method_order j) ≡ names (live_at methods s.method_order j)
        by (inl t) =
            let now : slice_get (set methods k rec) j ≡ Some rec = ap (slice_get (set methods k rec)) (sym t.1) ∙ get-set_same methods k rec (slice_get_within methods k r stands) in
            let was : slice_get methods j ≡ Some r = ap (slice_get methods) (sym t.1) ∙ stands in
            ap (λ (q : Option MethodRec). names (if list_any (eqb j) s.method_order then q else None)) now
            ∙ same (list_any (eqb j) s.method_order)
            ∙ sym (ap (λ (q : Option MethodRec). names (if list_any (eqb j) s.method_order then q else None)) was)
        by (inr t) = ap (λ (q : Option MethodRec). names (if list_any (eqb j) s.method_order then q else None)) (get-set_other methods k j rec t.1)

    pub rising-hit : (cs : List Change) (ps : List Place) → is_named s method k ≡ true → Rising s method name i cs ps → Rising s method name (i + 1) (cs ++ change.Method k rec ∷ []) ps
    rising-hit cs ps h now =
        let stands : slice_get now.methods k ≡ Some r = now.rest k here-still ∙ there in
        let less : k < length now.methods = slice_get_within now.methods k r stands in
        record {
          methods = set now.methods k rec;
          none = now.none;
          leads =
              leads-on s cs [] (record s { methods = now.methods }) (change.Method k rec) [] now.leads less
              (fitting.method-fits s rec (record { classes = o.class_order; methods = o.method_order }) fits)
              (method-swapped (record s { methods = now.methods }) now.leads.orderly k rec (λ l. record { names_known = fits.names_known; class_live = fits.class_live }))
              (same-names now.methods stands);
          done =
              one-more (set now.methods k rec) rec
              (live-same e e (set now.methods k rec) now.methods before (λ j l. ap (option_map e) (get-set_other now.methods k j rec (apart-before j l))) ∙ now.done)
              (get-set_same now.methods k rec less)
              ((λ j. record (e r) { class = up.named j }) ∙ sym (after-is true h));
          rest = λ j l. get-set_other now.methods k j rec (apart-behind j l) ∙ now.rest j (behind-still j l);
        }

  -- all slots have been looked at
  pub risen : (cs : List Change) (ps : List Place) → Rising s method name (length s.method_order) cs ps → IsPlan s (PushUpMethod method.class method.meta method.selector) cs ps
  risen cs ps now =
      let all : map e (live now.methods s.method_order) ≡ map after (map e (live s.methods s.method_order)) =
      ap (λ (ks : List ℕ). map e (live now.methods ks)) (sym (take-length s.method_order)) ∙ now.done ∙ ap (λ (ks : List ℕ). map after (map e (live s.methods ks))) (take-length s.method_order) in
      let is : record (number_image s) { methods = map e (live now.methods s.method_order) } ≡ record (number_image s) { methods = map after (number_image s).methods } =
      ap (λ (ms : List (EntryOf ℕ)). record (number_image s) { methods = ms }) all in
      leads-plan s (PushUpMethod method.class method.meta method.selector) cs ps (record s { methods = now.methods }) (subst (λ (qs : List Place). Leads s cs qs (record s { methods = now.methods })) (sym now.none) now.leads) refl (
      is ∙ sym (ap (λ (q : Option ℕ). option_map_or (λ p. record (number_image s) { methods = map (λ m. if is_method nat_eq method.class method.meta method.selector m then of_class_named m p else m) (number_image s).methods }) q (number_image s)) up.above))

pub risen-same : (s : Slots) (method : MethodName) (class i : ℕ) (cs ds : List Change) (ps qs : List Place) → ds ≡ cs → qs ≡ ps → HasRisen s method class i cs ps → HasRisen s method class i ds qs
risen-same s method class i cs ds ps qs a b now = subst (λ (xs : List Change). HasRisen s method class i xs qs) (sym a) (subst (λ (xs : List Place). HasRisen s method class i cs xs) (sym b) now)

-- a slot that holds such a method, and one that does not
pub risen-more : (s : Slots) → IsOrderly s → (method : MethodName) (class i k : ℕ) (hit : Bool) (cs : List Change) (ps : List Place) → slice_get s.method_order i ≡ Some k → is_named s method k ≡ hit → HasRisen s method class i cs ps
    → HasRisen s method class (i + 1) (if hit then cs ++ option_map_or (λ (m : MethodRec). change.Method k m ∷ []) (moved_to s class k) [] else cs) ps
risen-more s o method class i k hit cs ps at is now = by hit is
  where
    r : (m : MethodRec) × (slice_get s.methods k ≡ Some m)
    r = there s.methods k (o.method_order.below k (stands-live k s.method_order i at))

    by : (b : Bool) → is_named s method k ≡ b → HasRisen s method class (i + 1) (if b then cs ++ option_map_or (λ (m : MethodRec). change.Method k m ∷ []) (moved_to s class k) [] else cs) ps
    by false e = record { name = now.name; up = now.up; rising = rising-miss s o method class now.name now.up i k r.0 at r.1 cs ps e now.rising }
    by true e =
        let copy : cs ++ option_map_or (λ (m : MethodRec). change.Method k m ∷ []) (moved_to s class k) [] ≡ cs ++ change.Method k (record r.0 { class = class }) ∷ [] =
        ap (λ (q : Option MethodRec). cs ++ option_map_or (λ (m : MethodRec). change.Method k m ∷ []) q []) (rec-is s o method class now.name now.up i k r.0 at r.1) in
        risen-same s method class (i + 1) (cs ++ change.Method k (record r.0 { class = class }) ∷ []) (cs ++ option_map_or (λ (m : MethodRec). change.Method k m ∷ []) (moved_to s class k) []) ps ps copy refl
        (record { name = now.name; up = now.up; rising = rising-hit s o method class now.name now.up i k r.0 at r.1 cs ps e now.rising })

-- no slot has been looked at, and all have
pub risen-start : (s : Slots) → IsOrderly s → (method : MethodName) (class : ℕ) (cs : List Change) (ps : List Place) → superclass_slot s method.class ≡ Some class → cs ≡ [] → ps ≡ [] → HasRisen s method class 0 cs ps
risen-start s o method class cs ps e a b =
    let up = above-there s o method class e in
    risen-same s method class 0 [] cs [] ps a b (record { name = up.0; up = up.1; rising = rising-start s o method class up.0 up.1 })

pub risen-end : (s : Slots) → IsOrderly s → (method : MethodName) (class i : ℕ) (cs : List Change) (ps : List Place) → i ≡ length s.method_order → HasRisen s method class i cs ps → IsPlan s (PushUpMethod method.class method.meta method.selector) cs ps
risen-end s o method class i cs ps e now = risen s o method class now.name now.up cs ps (subst (λ (j : ℕ). Rising s method now.name j cs ps) e now.rising)

pub not_risen : (s : Slots) → IsOrderly s → (method : MethodName) (cs : List Change) (ps : List Place) → superclass_slot s method.class ≡ None → cs ≡ [] → ps ≡ [] → IsPlan s (PushUpMethod method.class method.meta method.selector) cs ps
not_risen s o method cs ps e a b =
    subst (λ (xs : List Change). IsPlan s (PushUpMethod method.class method.meta method.selector) xs ps) (sym a) (subst (λ (xs : List Place). IsPlan s (PushUpMethod method.class method.meta method.selector) [] xs) (sym b) (not_above s o method e))
