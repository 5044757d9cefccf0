-- The slots in which copies of the methods of a class, a side and a selector stand at the places of these methods.
use Rattle.std.proofs.Common.{◌≡◌, ℕ, ◌+◌, ◌<◌, ◌≤◌, Bool, true, false, List, [], ◌∷◌, ◌++◌, length, take, drop, map, Option, None, Some, option_map, slice_get, refl, sym, ap, subst, ◌∙◌, arith, length-append}
use Rattle.std.specs.Prelude.{insert, nat_eq, if◌then◌else◌}
use Rattle.std.specs.List.{filter_map, cons_option, flat_map}
use Rattle.std.specs.Option.{option_map_or}
use Rattle.std.proofs.Math.Dec.{eqb}
use Rattle.std.proofs.Math.Seq.{take-length, drop-length}
use Rattle.std.proofs.lemmas.List.{append-nil, append_assoc, length-take-le}
use Rattle.std.proofs.lemmas.Option.{slice_get_within}
use Rattle.image_model.specs.Image.{EntryOf, ImageOf}
use Rattle.image_model.specs.Lookup.{is_method}
use Rattle.class_table.specs.declared.record.ClassRec.{ClassRec}
use Rattle.class_table.specs.declared.record.MethodRec.{MethodRec}
use Rattle.class_table.specs.declared.record.Place.{Place}
use Rattle.class_table.specs.declared.record.Place.TheVariants as place
use Rattle.class_table.specs.declared.record.Slot.TheVariants as slot
use Rattle.class_table.specs.Order.{without}
use Rattle.class_table.specs.Slots.{Slots}
use Rattle.class_table.specs.Valid.{IsLive, IsOrderly}
use Rattle.class_table.specs.View.{live, class_name, entry_of, number_image}
use Rattle.class_table.specs.Kept.{FitsMethod}
use Rattle.class_table.proofs.Live.{there, live-same}
use Rattle.class_table.proofs.KeptLemmas.{method-fits}
use Rattle.class_questions.proofs.AnyLive.{live_at-live}
use Rattle.image_laws.proofs.Middles.{get-middle}
use Rattle.image_laws.proofs.Orders.{absent-without, stands-live}
use Rattle.change_set.specs.declared.change.Change.{Change}
use Rattle.change_set.specs.declared.change.Change.TheVariants as change
use Rattle.command_model.specs.Commands.{PushDownMethod}
use Rattle.command_model.specs.Effects.{effect}
use Rattle.command_model.specs.Hierarchy as hierarchy
use Rattle.command_model.specs.MethodEffects.{of_class_named}
use Rattle.command_model.specs.Numbers.{number_writing}
use Rattle.commands.specs.Views.{asked_by}
use Rattle.commands.specs.declared.command.MethodName.{MethodName}
use Rattle.wider_slots.specs.Closed.{IsClosed}
use Rattle.wider_slots.specs.Wider.{one_method, widened, Wider}
use Rattle.wider_slots.proofs.Append.{get-append}
use Rattle.wider_slots.proofs.StepLemmas.{wider-same}
use Rattle.plans.specs.Plan.{IsPlan}
use Rattle.method_plans.specs.Named.{receives, receivers, moved_to, with_copy}
use Rattle.users_methods.specs.Users.{is_named}
use Rattle.method_plans.proofs.Leads.{Leads, leads-nowhere, leads-same, leads-out, leads-in, leads-roomy, roomy-orderly, leads-plan}
use Rattle.method_plans.proofs.Orders.{drop-at, take-at, live-left, live-right, distinct-before, without-middle, insert-middle}
use Rattle.method_plans.proofs.LiveMethods.{live-append, live-cons, named-live}
use Rattle.method_plans.proofs.Added.{new-absent, wider_room}
use Rattle.method_plans.proofs.Receivers.{filter-live, receivers-named}

-- the slots with further methods, which are not live
abbrev pub grown : Slots → List MethodRec → Slots
grown s more = record s { methods = s.methods ++ more }

-- the same slots with these in an order
abbrev pub reordered : Slots → List ℕ → Slots
reordered s order = record s { method_order = order }

widened-grown : (s : Slots) (more : List MethodRec) (m : MethodRec) → widened (one_method m) (grown s more) ≡ grown s (more ++ m ∷ [])
widened-grown s more m = λ i. record s { names = append-nil s.names i; classes = append-nil s.classes i; methods = append_assoc s.methods more (m ∷ []) i }

-- what stands for a method after
abbrev pub lowered : Slots → MethodName → EntryOf ℕ → List (EntryOf ℕ)
lowered s method m =
    if is_method nat_eq method.class method.meta method.selector m
    then map (of_class_named m) (hierarchy.receivers nat_eq (number_image s) method.class method.meta method.selector) else m ∷ []

-- the slots from a place of the order on have been looked at
pub record LoweringAt (s : Slots) (method : MethodName) (more : List MethodRec) (from : ℕ) (cs : List Change) (ps : List Place) : Type 0 where
  pub wider : Wider s (grown s more)
  pub orderly : IsOrderly (grown s more)
  pub out : List ℕ
  pub leads : Leads (grown s more) cs ps (reordered (grown s more) (take from s.method_order ++ out))
  pub entries : map (entry_of s.classes) (live (s.methods ++ more) out) ≡ flat_map (lowered s method) (map (entry_of s.classes) (live s.methods (drop from s.method_order)))

pub record Lowering (s u : Slots) (method : MethodName) (from : ℕ) (cs : List Change) (ps : List Place) : Type 0 where
  pub more : List MethodRec
  pub is : u ≡ grown s more
  pub at : LoweringAt s method more from cs ps

-- the method in the slot at a place has gone, and there are copies for the classes behind a number of them
pub record CopyingAt (s : Slots) (method : MethodName) (ids : List ℕ) (more : List MethodRec) (at k left : ℕ) (cs : List Change) (ps : List Place) : Type 0 where
  pub wider : Wider s (grown s more)
  pub orderly : IsOrderly (grown s more)
  pub rec : MethodRec
  pub stands : slice_get s.method_order at ≡ Some k
  pub there : slice_get s.methods k ≡ Some rec
  pub named : is_method nat_eq method.class method.meta method.selector (entry_of s.classes rec) ≡ true
  pub news : List ℕ
  pub out : List ℕ
  pub leads : Leads (grown s more) cs ps (reordered (grown s more) (take at s.method_order ++ (news ++ out)))
  pub copies : map (entry_of s.classes) (live (s.methods ++ more) news) ≡ map (of_class_named (entry_of s.classes rec)) (filter_map (class_name s.classes) (drop left ids))
  pub entries : map (entry_of s.classes) (live (s.methods ++ more) out) ≡ flat_map (lowered s method) (map (entry_of s.classes) (live s.methods (drop (at + 1) s.method_order)))

pub record Copying (s u : Slots) (method : MethodName) (ids : List ℕ) (at k left : ℕ) (cs : List Change) (ps : List Place) : Type 0 where
  pub more : List MethodRec
  pub is : u ≡ grown s more
  pub so : CopyingAt s method ids more at k left cs ps

-- room for one more method
grow : (s : Slots) (more : List MethodRec) (m : MethodRec) (order : List ℕ) (cs : List Change) (ps : List Place) → IsOrderly (grown s more) → FitsMethod s m
    → Leads (grown s more) cs ps (reordered (grown s more) order) → Leads (grown s (more ++ m ∷ [])) cs ps (reordered (grown s (more ++ m ∷ [])) order)
grow s more m order cs ps o fits l =
    subst (λ (g : Slots). Leads g cs ps (reordered g order)) (widened-grown s more m)
    (leads-roomy (grown s more) cs ps (reordered (grown s more) order) m o l (record { names_known = fits.names_known; class_live = fits.class_live }))

module _ (s : Slots) (o : IsOrderly s) (method : MethodName) where
  abbrev e : MethodRec → EntryOf ℕ
  e = entry_of s.classes

  abbrev order : List ℕ
  order = s.method_order

  -- no slot has been looked at
  lowering-nothing : IsClosed s → LoweringAt s method [] (length order) [] []
  lowering-nothing closed =
      let same : s ≡ grown s [] = λ i. record s { methods = sym (append-nil s.methods) i } in
      let whole : order ≡ take (length order) order ++ [] = sym (append-nil (take (length order) order) ∙ take-length order) in
      record {
        wider = subst (Wider s) same (wider-same s closed);
        orderly = subst IsOrderly same o;
        out = [];
        leads = subst (λ (g : Slots). Leads g [] [] (reordered g (take (length order) order ++ []))) same (subst (λ (ks : List ℕ). Leads s [] [] (reordered s ks)) whole (leads-nowhere s o));
        entries = sym (ap (λ (ks : List ℕ). flat_map (lowered s method) (map e (live s.methods ks))) (drop-length order));
      }

  module _ (more : List MethodRec) (at k : ℕ) (r : MethodRec) (stands : slice_get order at ≡ Some k) (there : slice_get s.methods k ≡ Some r) where
    is_live : IsLive order k
    is_live = stands-live k order at stands

    still : slice_get (s.methods ++ more) k ≡ Some r
    still = get-append s.methods more k (slice_get_within s.methods k r there) ∙ there

    split : (out : List ℕ) → take (at + 1) order ++ out ≡ take at order ++ k ∷ out
    split out = ap (λ (ks : List ℕ). ks ++ out) (take-at order at k stands) ∙ append_assoc (take at order) (k ∷ []) out

    -- what stands for the method after
    lowered-is : (b : Bool) → is_method nat_eq method.class method.meta method.selector (e r) ≡ b
        → lowered s method (e r) ≡ (if b then map (of_class_named (e r)) (hierarchy.receivers nat_eq (number_image s) method.class method.meta method.selector) else e r ∷ [])
    lowered-is b h = ap (λ (c : Bool). if c then map (of_class_named (e r)) (hierarchy.receivers nat_eq (number_image s) method.class method.meta method.selector) else e r ∷ []) h

    test-is : (b : Bool) → is_named s method k ≡ b → is_method nat_eq method.class method.meta method.selector (e r) ≡ b
    test-is b h = sym (named-live s method k r is_live there) ∙ h

    behind-is : flat_map (lowered s method) (map e (live s.methods (drop at order))) ≡ lowered s method (e r) ++ flat_map (lowered s method) (map e (live s.methods (drop (at + 1) order)))
    behind-is =
        ap (λ (ks : List ℕ). flat_map (lowered s method) (map e (live s.methods ks))) (drop-at order at k stands)
        ∙ ap (flat_map (lowered s method)) (live-cons e s.methods k r (drop (at + 1) order) there)

    -- the slot holds another method
    lowering-miss : (cs : List Change) (ps : List Place) → is_named s method k ≡ false → LoweringAt s method more (at + 1) cs ps → LoweringAt s method more at cs ps
    lowering-miss cs ps h now = record {
      wider = now.wider;
      orderly = now.orderly;
      out = k ∷ now.out;
      leads = subst (λ (ks : List ℕ). Leads (grown s more) cs ps (reordered (grown s more) ks)) (split now.out) now.leads;
      entries =
          live-cons e (s.methods ++ more) k r now.out still
          ∙ ap (λ (ms : List (EntryOf ℕ)). e r ∷ ms) now.entries
          ∙ sym (behind-is ∙ ap (λ (ms : List (EntryOf ℕ)). ms ++ flat_map (lowered s method) (map e (live s.methods (drop (at + 1) order)))) (lowered-is false (test-is false h)));
    }

    -- the slot holds such a method, which goes
    lowering-hit : (ids : List ℕ) (cs : List Change) (ps : List Place) → is_named s method k ≡ true → LoweringAt s method more (at + 1) cs ps
        → CopyingAt s method ids more at k (length ids) (cs ++ change.Live (slot.Method k) None ∷ []) (ps ++ place.Method k ∷ [])
    lowering-hit ids cs ps h now =
        let front : List ℕ = take at order in
        let before : Leads (grown s more) cs ps (reordered (grown s more) (front ++ k ∷ now.out)) = subst (λ (ks : List ℕ). Leads (grown s more) cs ps (reordered (grown s more) ks)) (split now.out) now.leads in
        let gone : without k (front ++ k ∷ now.out) ≡ front ++ now.out = without-middle k front now.out (distinct-before k front now.out before.orderly.method_order.distinct) in
        record {
          wider = now.wider;
          orderly = now.orderly;
          rec = r;
          stands = stands;
          there = there;
          named = test-is true h;
          news = [];
          out = now.out;
          leads =
              leads-same (grown s more) (cs ++ change.Live (slot.Method k) None ∷ []) (ps ++ place.Method k ∷ []) (reordered (grown s more) (without k (front ++ k ∷ now.out))) (reordered (grown s more) (front ++ now.out))
              (ap (reordered (grown s more)) gone) (leads-out (grown s more) cs ps (reordered (grown s more) (front ++ k ∷ now.out)) k before (slice_get_within (s.methods ++ more) k r still));
          copies = sym (ap (λ (ks : List ℕ). map (of_class_named (e r)) (filter_map (class_name s.classes) ks)) (drop-length ids));
          entries = now.entries;
        }

  -- there is a copy for each class
  copying-end : (ids : List ℕ) (more : List MethodRec) (at k : ℕ) (cs : List Change) (ps : List Place) → ids ≡ receivers s method → CopyingAt s method ids more at k 0 cs ps → LoweringAt s method more at cs ps
  copying-end ids more at k cs ps are now =
      let named : filter_map (class_name s.classes) ids ≡ hierarchy.receivers nat_eq (number_image s) method.class method.meta method.selector = ap (filter_map (class_name s.classes)) are ∙ receivers-named s o method in
      record {
        wider = now.wider;
        orderly = now.orderly;
        out = now.news ++ now.out;
        leads = now.leads;
        entries =
            live-append e (s.methods ++ more) now.news now.out
            ∙ (λ i. (now.copies ∙ ap (map (of_class_named (e now.rec))) named ∙ sym (lowered-is more at k now.rec now.stands now.there true now.named)) i ++ now.entries i)
            ∙ sym (behind-is more at k now.rec now.stands now.there);
      }

  -- a copy for one more class
  module _ (ids : List ℕ) (are : ids ≡ receivers s method) (more : List MethodRec) (at k left id : ℕ) (next : slice_get ids left ≡ Some id) (cs : List Change) (ps : List Place)
      (now : CopyingAt s method ids more at k (left + 1) cs ps) where
    abbrev stands : slice_get order at ≡ Some k
    stands = now.stands

    id-live : IsLive s.class_order id
    id-live = filter-live (receives s method) s.class_order id (subst (λ (ks : List ℕ). IsLive ks id) are (stands-live id ids left next))

    -- the copy, and its slot
    abbrev copy : MethodRec
    copy = record now.rec { class = id }

    abbrev n : ℕ
    n = length (s.methods ++ more)

    abbrev after : Slots
    after = grown s (more ++ copy ∷ [])

    abbrev live_now : List ℕ
    live_now = take at order ++ (now.news ++ now.out)

    copy-fits : FitsMethod s copy
    copy-fits = record { names_known = (method-fits s o k now.rec (stands-live k order at stands) now.there).names_known; class_live = id-live }

    copy-is : moved_to (grown s more) id k ≡ Some copy
    copy-is =
        ap (option_map (λ (m : MethodRec). record m { class = id })) (
        live_at-live (s.methods ++ more) order k (stands-live k order at stands)
        ∙ get-append s.methods more k (slice_get_within s.methods k now.rec now.there)
        ∙ now.there)

    copy-there : slice_get after.methods n ≡ Some copy
    copy-there = ap (λ (ms : List MethodRec). slice_get ms n) (sym (append_assoc s.methods more (copy ∷ []))) ∙ get-middle (s.methods ++ more) copy []

    -- the other slots stay
    stay : (ks : List ℕ) → ((j : ℕ) → IsLive ks j → IsLive live_now j) → map e (live after.methods ks) ≡ map e (live (s.methods ++ more) ks)
    stay ks among =
        live-same e e after.methods (s.methods ++ more) ks (λ j l.
        ap (option_map e) (
        ap (λ (ms : List MethodRec). slice_get ms j) (sym (append_assoc s.methods more (copy ∷ [])))
        ∙ get-append (s.methods ++ more) (copy ∷ []) j (now.leads.orderly.method_order.below j (among j l))))

    copy-leads : Leads after (cs ++ change.Live (slot.Method n) (Some at) ∷ []) (ps ++ place.Method n ∷ []) (reordered after (take at order ++ ((n ∷ now.news) ++ now.out)))
    copy-leads =
        let roomy : Leads after cs ps (reordered after live_now) = grow s more copy live_now cs ps now.orderly copy-fits now.leads in
        let absent : without n live_now ≡ live_now = absent-without n live_now (new-absent (reordered (grown s more) live_now) now.leads.orderly) in
        let within : at < length order = slice_get_within order at k stands in
        let front : length (take at order) ≡ at = length-take-le at order (omega arith) in
        let fits : at ≤ length (without n live_now) = omega (arith, ap (λ (ks : List ℕ). length ks) absent, length-append (take at order) (now.news ++ now.out), front) in
        let put : insert (without n live_now) at n ≡ take at order ++ ((n ∷ now.news) ++ now.out) =
        ap (λ (ks : List ℕ). insert ks at n) absent ∙ ap (λ (p : ℕ). insert live_now p n) (sym front) ∙ insert-middle (take at order) (now.news ++ now.out) n in
        leads-same after (cs ++ change.Live (slot.Method n) (Some at) ∷ []) (ps ++ place.Method n ∷ []) (reordered after (insert (without n live_now) at n)) (reordered after (take at order ++ ((n ∷ now.news) ++ now.out)))
        (ap (reordered after) put)
        (leads-in after cs ps (reordered after live_now) n at copy roomy copy-there (record { names_known = copy-fits.names_known; class_live = copy-fits.class_live }) fits)

    copying-at : CopyingAt s method ids (more ++ copy ∷ []) at k left (cs ++ change.Live (slot.Method n) (Some at) ∷ []) (ps ++ place.Method n ∷ [])
    copying-at =
        let fits : FitsMethod (grown s more) copy = record { names_known = copy-fits.names_known; class_live = copy-fits.class_live } in
        let c = there s.classes id (o.class_order.below id id-live) in
        let named : class_name s.classes id ≡ Some (c.0).name = ap (option_map (λ (d : ClassRec). d.name)) c.1 in
        record {
          wider = wider_room s (grown s more) after copy now.wider now.orderly fits (sym (widened-grown s more copy));
          orderly = subst IsOrderly (widened-grown s more copy) (roomy-orderly (grown s more) now.orderly copy fits);
          rec = now.rec;
          stands = now.stands;
          there = now.there;
          named = now.named;
          news = n ∷ now.news;
          out = now.out;
          leads = copy-leads;
          copies =
              live-cons e after.methods n copy now.news copy-there
              ∙ (λ i. record (e now.rec) { class = named i } ∷ (stay now.news (λ j l. live-right j (take at order) (now.news ++ now.out) (live-left j now.news now.out l)) ∙ now.copies) i)
              ∙ sym (
              ap (λ (ks : List ℕ). map (of_class_named (e now.rec)) (filter_map (class_name s.classes) ks)) (drop-at ids left id next)
              ∙ ap (λ (q : Option ℕ). map (of_class_named (e now.rec)) (cons_option q (filter_map (class_name s.classes) (drop (left + 1) ids)))) named);
          entries = stay now.out (λ j l. live-right j (take at order) (now.news ++ now.out) (live-right j now.news now.out l)) ∙ now.entries;
        }

    pub copying-more : (u v : Slots) (ds : List Change) (qs : List Place) → u ≡ grown s more → v ≡ with_copy u id k
        → ds ≡ cs ++ option_map_or (λ (m : MethodRec). change.Live (slot.Method (length u.methods)) (Some at) ∷ []) (moved_to u id k) []
        → qs ≡ ps ++ option_map_or (λ (m : MethodRec). place.Method (length u.methods) ∷ []) (moved_to u id k) []
        → Copying s v method ids at k left ds qs
    copying-more u v ds qs is made changes places =
        let grew : v ≡ after = made ∙ ap (λ (x : Slots). with_copy x id k) is ∙ ap (λ (q : Option MethodRec). option_map_or (λ (m : MethodRec). widened (one_method m) (grown s more)) q (grown s more)) copy-is ∙ widened-grown s more copy in
        let all : ds ≡ cs ++ change.Live (slot.Method n) (Some at) ∷ [] =
        changes
        ∙ ap (λ (x : Slots). cs ++ option_map_or (λ (m : MethodRec). change.Live (slot.Method (length x.methods)) (Some at) ∷ []) (moved_to x id k) []) is
        ∙ ap (λ (q : Option MethodRec). cs ++ option_map_or (λ (m : MethodRec). change.Live (slot.Method n) (Some at) ∷ []) q []) copy-is in
        let each : qs ≡ ps ++ place.Method n ∷ [] =
        places
        ∙ ap (λ (x : Slots). ps ++ option_map_or (λ (m : MethodRec). place.Method (length x.methods) ∷ []) (moved_to x id k) []) is
        ∙ ap (λ (q : Option MethodRec). ps ++ option_map_or (λ (m : MethodRec). place.Method n ∷ []) q []) copy-is in
        record {
          more = more ++ copy ∷ [];
          is = grew;
          so =
              subst (λ (xs : List Change). CopyingAt s method ids (more ++ copy ∷ []) at k left xs qs) (sym all) (
              subst (λ (xs : List Place). CopyingAt s method ids (more ++ copy ∷ []) at k left (cs ++ change.Live (slot.Method n) (Some at) ∷ []) xs) (sym each) copying-at);
        }

-- the record of a live slot
rec-there : (s : Slots) → IsOrderly s → (at k : ℕ) → slice_get s.method_order at ≡ Some k → (r : MethodRec) × (slice_get s.methods k ≡ Some r)
rec-there s o at k stands = there s.methods k (o.method_order.below k (stands-live k s.method_order at stands))

module _ (s : Slots) (method : MethodName) (from : ℕ) (u : Slots) (cs : List Change) (ps : List Place) (now : Lowering s u method from cs ps) where
  -- what holds of the slots all the time
  pub lowering-wider : Wider s u
  lowering-wider = subst (Wider s) (sym now.is) now.at.wider

  pub lowering-orderly : IsOrderly u
  lowering-orderly = subst IsOrderly (sym now.is) now.at.orderly

  pub lowering-order : u.method_order ≡ s.method_order
  lowering-order = ap (λ (x : Slots). x.method_order) now.is

module _ (s : Slots) (method : MethodName) (ids : List ℕ) (at k left : ℕ) (u : Slots) (cs : List Change) (ps : List Place) (now : Copying s u method ids at k left cs ps) where
  pub copying-wider : Wider s u
  copying-wider = subst (Wider s) (sym now.is) now.so.wider

  pub copying-orderly : IsOrderly u
  copying-orderly = subst IsOrderly (sym now.is) now.so.orderly

  pub copying-live : (j id : ℕ) → ids ≡ receivers s method → slice_get ids j ≡ Some id → IsLive u.class_order id
  copying-live j id are next =
      subst (λ (ks : List ℕ). IsLive ks id) (ap (λ (x : Slots). x.class_order) (sym now.is)) (
      filter-live (receives s method) s.class_order id (subst (λ (ks : List ℕ). IsLive ks id) are (stands-live id ids j next)))

module _ (s : Slots) (o : IsOrderly s) (method : MethodName) where
  pub lowering-start : (from : ℕ) (cs : List Change) (ps : List Place) → IsClosed s → from ≡ length s.method_order → cs ≡ [] → ps ≡ [] → Lowering s s method from cs ps
  lowering-start from cs ps closed a b c = record {
    more = [];
    is = λ i. record s { methods = sym (append-nil s.methods) i };
    at =
        subst (λ (j : ℕ). LoweringAt s method [] j cs ps) (sym a) (
        subst (λ (xs : List Change). LoweringAt s method [] (length s.method_order) xs ps) (sym b) (
        subst (λ (xs : List Place). LoweringAt s method [] (length s.method_order) [] xs) (sym c) (lowering-nothing s o method closed)));
  }

  pub lowering-same : (from : ℕ) (u v : Slots) (cs ds : List Change) (ps qs : List Place) → v ≡ u → ds ≡ cs → qs ≡ ps → Lowering s u method from cs ps → Lowering s v method from ds qs
  lowering-same from u v cs ds ps qs a b c now =
      subst (λ (x : Slots). Lowering s x method from ds qs) (sym a) (subst (λ (xs : List Change). Lowering s u method from xs qs) (sym b) (subst (λ (xs : List Place). Lowering s u method from cs xs) (sym c) now))

  module _ (from at k : ℕ) (u : Slots) (cs : List Change) (ps : List Place) (one : from ≡ at + 1) (stands : slice_get u.method_order at ≡ Some k) (now : Lowering s u method from cs ps) where
    here : slice_get s.method_order at ≡ Some k
    here = ap (λ (ks : List ℕ). slice_get ks at) (sym (lowering-order s method from u cs ps now)) ∙ stands

    now_at : LoweringAt s method now.more (at + 1) cs ps
    now_at = subst (λ (j : ℕ). LoweringAt s method now.more j cs ps) one now.at

    pub lowering-skips : is_named s method k ≡ false → Lowering s u method at cs ps
    lowering-skips h =
        let r = rec-there s o at k here in
        record { more = now.more; is = now.is; at = lowering-miss s o method now.more at k r.0 here r.1 cs ps h now_at }

    pub lowering-begins : (ids : List ℕ) (left : ℕ) (ds : List Change) (qs : List Place) → is_named s method k ≡ true → left ≡ length ids → ds ≡ cs ++ change.Live (slot.Method k) None ∷ [] → qs ≡ ps ++ place.Method k ∷ []
        → Copying s u method ids at k left ds qs
    lowering-begins ids left ds qs h a b c =
        let r = rec-there s o at k here in
        let so : CopyingAt s method ids now.more at k (length ids) (cs ++ change.Live (slot.Method k) None ∷ []) (ps ++ place.Method k ∷ []) =
        lowering-hit s o method now.more at k r.0 here r.1 ids cs ps h now_at in
        record {
          more = now.more;
          is = now.is;
          so =
              subst (λ (j : ℕ). CopyingAt s method ids now.more at k j ds qs) (sym a) (
              subst (λ (xs : List Change). CopyingAt s method ids now.more at k (length ids) xs qs) (sym b) (
              subst (λ (xs : List Place). CopyingAt s method ids now.more at k (length ids) (cs ++ change.Live (slot.Method k) None ∷ []) xs) (sym c) so));
        }

  pub copying-next : (ids : List ℕ) → ids ≡ receivers s method → (at k from left id : ℕ) (u v : Slots) (cs ds : List Change) (ps qs : List Place) → from ≡ left + 1 → slice_get ids left ≡ Some id → v ≡ with_copy u id k
      → ds ≡ cs ++ option_map_or (λ (m : MethodRec). change.Live (slot.Method (length u.methods)) (Some at) ∷ []) (moved_to u id k) []
      → qs ≡ ps ++ option_map_or (λ (m : MethodRec). place.Method (length u.methods) ∷ []) (moved_to u id k) []
      → Copying s u method ids at k from cs ps → Copying s v method ids at k left ds qs
  copying-next ids are at k from left id u v cs ds ps qs one next made changes places now =
      copying-more s o method ids are now.more at k left id next cs ps (subst (λ (j : ℕ). CopyingAt s method ids now.more at k j cs ps) one now.so) u v ds qs now.is made changes places

  pub copying-done : (ids : List ℕ) → ids ≡ receivers s method → (at k left : ℕ) (u : Slots) (cs : List Change) (ps : List Place) → left ≡ 0 → Copying s u method ids at k left cs ps → Lowering s u method at cs ps
  copying-done ids are at k left u cs ps none now =
      record { more = now.more; is = now.is; at = copying-end s o method ids now.more at k cs ps are (subst (λ (j : ℕ). CopyingAt s method ids now.more at k j cs ps) none now.so) }

  -- all slots have been looked at
  lowered-whole : (more : List MethodRec) (cs : List Change) (ps : List Place) → LoweringAt s method more 0 cs ps → IsPlan (grown s more) (PushDownMethod method.class method.meta method.selector) cs ps
  lowered-whole more cs ps now =
      let command = PushDownMethod method.class method.meta method.selector in
      let numbers : number_image (grown s more) ≡ number_image s =
      (λ i. record (number_image s) { methods = live-same (entry_of s.classes) (entry_of s.classes) (s.methods ++ more) s.methods s.method_order (λ k l. ap (option_map (entry_of s.classes)) (get-append s.methods more k (o.method_order.below k l))) i }) in
      leads-plan (grown s more) command cs ps (reordered (grown s more) now.out) now.leads refl (
      ap (λ (ms : List (EntryOf ℕ)). record (number_image s) { methods = ms }) now.entries
      ∙ sym (ap (λ (i : ImageOf ℕ). effect (asked_by s.names) (number_writing s.names) command i) numbers))

  pub lowering-end : (from : ℕ) (u : Slots) (cs : List Change) (ps : List Place) → from ≡ 0 → Lowering s u method from cs ps → IsPlan u (PushDownMethod method.class method.meta method.selector) cs ps
  lowering-end from u cs ps none now =
      subst (λ (x : Slots). IsPlan x (PushDownMethod method.class method.meta method.selector) cs ps) (sym now.is) (
      lowered-whole now.more cs ps (subst (λ (j : ℕ). LoweringAt s method now.more j cs ps) none now.at))
