-- The slots with one more method, which is the last one.
use Rattle.std.proofs.Common.{◌≡◌, ℕ, ◌<◌, ◌≤◌, Bool, true, false, not, List, [], ◌∷◌, ◌++◌, length, map, Option, None, Some, slice_get, refl, sym, ap, subst, ◌∙◌, true≢false, arith}
use Rattle.std.specs.Prelude.{insert}
use Rattle.std.specs.List.{list_any}
use Rattle.std.specs.Option.{option_map_or, option_and_then}
use Rattle.std.proofs.Math.Dec.{eqb}
use Rattle.std.proofs.lemmas.List.{append-nil}
use Rattle.std.proofs.lemmas.List.Edits.{insert_end}
use Rattle.tree_model.specs.AllNames.{MethodNames}
use Rattle.st_tree.specs.View.{method_of}
use Rattle.st_tree.specs.declared.tree.Method.{Method}
use Rattle.image_model.specs.Image.{ClassOf, EntryOf}
use Rattle.class_table.specs.declared.record.ClassRec.{ClassRec}
use Rattle.class_table.specs.declared.record.MethodRec.{MethodRec}
use Rattle.class_table.specs.declared.record.Place.{Place}
use Rattle.class_table.specs.declared.record.Place.TheVariants as place
use Rattle.class_table.specs.declared.record.Slot.TheVariants as slot
use Rattle.class_table.specs.Order.{without}
use Rattle.class_table.specs.Slots.{Slots}
use Rattle.class_table.specs.Valid.{IsOrderly}
use Rattle.class_table.specs.View.{live, class_name, class_at, entry_of, number_image}
use Rattle.class_table.specs.Kept.{FitsMethod}
use Rattle.class_table.specs.Finding.{named_in}
use Rattle.class_table.proofs.Found.{class_named-named_in}
use Rattle.class_questions.proofs.ChainLaws.{named-slot}
use Rattle.image_laws.proofs.Middles.{get-middle}
use Rattle.image_laws.proofs.Orders.{absent-without}
use Rattle.change_set.specs.declared.change.Change.{Change}
use Rattle.change_set.specs.declared.change.Change.TheVariants as change
use Rattle.wider_slots.specs.Closed.{IsClosed}
use Rattle.wider_slots.specs.Wider.{one_method, widened, Wider}
use Rattle.wider_slots.proofs.Fitting as fitting
use Rattle.wider_slots.proofs.Opened.{more-closed}
use Rattle.wider_slots.proofs.StepLemmas.{wider-same, wider-more}
use Rattle.command_model.specs.AllHold.{AllHold}
use Rattle.command_model.specs.Commands.{CommandOf, AddMethod}
use Rattle.command_model.specs.MethodEffects.{new_method}
use Rattle.command_model.specs.Judged.{first_false}
use Rattle.command_model.proofs.Held.{all-hold}
use Rattle.command_numbers.specs.CommandNames.{CommandNames}
use Rattle.commands.specs.Views.{asked_by}
use Rattle.commands.specs.declared.command.NewMethod.{NewMethod}
use Rattle.plans.specs.Plan.{IsPlan}
use Rattle.method_plans.proofs.Leads.{Leads, leads-nowhere, leads-same, leads-in, leads-roomy, leads-plan}
use Rattle.method_plans.proofs.LiveMethods.{live-append, live-cons}

-- closed slots are as wide as themselves
pub wider_same : (s t : Slots) → IsClosed s → t ≡ s → Wider s t
wider_same s t closed e = subst (Wider s) (sym e) (wider-same s closed)

-- there is room for a method that fits
pub wider_room : (s t u : Slots) (m : MethodRec) → Wider s t → IsOrderly t → FitsMethod t m → u ≡ widened (one_method m) t → Wider s u
wider_room s t u m wide o fits e =
    let within = fitting.method-fits t m (record { classes = o.class_order; methods = o.method_order }) fits in
    subst (Wider s) (sym e) (wider-more s t (one_method m) wide (more-closed (one_method m) t wide.still (fitting.method-more t m wide.still within)))

-- a new slot is not in the order
pub new-absent : (s : Slots) → IsOrderly s → list_any (eqb (length s.methods)) s.method_order ≡ false
new-absent s o = by (list_any (eqb (length s.methods)) s.method_order) refl
  where
    by : (b : Bool) → list_any (eqb (length s.methods)) s.method_order ≡ b → b ≡ false
    by true e = absurd (let less : length s.methods < length s.methods = o.method_order.below (length s.methods) e in omega (arith, less))
    by false e = refl

module _ (s : Slots) (o : IsOrderly s) (new : NewMethod) where
  abbrev command : CommandOf ℕ
  command = AddMethod new.class new.meta new.protocol new.source (method_of new.tree)

  -- the class of the new method is found, since it is one of the user
  pub class-found : first_false (asked_by s.names) (number_image s) command ≡ None → named_in s.classes s.class_order new.class ≡ None → ⊥
  class-found none e =
      let held : AllHold (asked_by s.names) (number_image s) command = all-hold (asked_by s.names) (number_image s) command none in
      let no : false ≡ true = sym (ap (λ (q : Option (ClassOf ℕ)). option_map_or (λ (c : ClassOf ℕ). not c.kernel) q false) (class_named-named_in s new.class ∙ ap (option_and_then (class_at s)) e)) ∙ held.user_class in
      true≢false (sym no)

  module _ (class : ℕ) (found : named_in s.classes s.class_order new.class ≡ Some class) (known : CommandNames (λ n. n < length s.names) command) where
    -- the record of the new method
    abbrev pub rec : MethodRec
    rec = record { class = class; meta = new.meta; protocol = new.protocol; source = new.source; tree = new.tree; kernel = false }

    pub fits : FitsMethod s rec
    fits = record { names_known = known.1; class_live = (named-slot s.classes s.class_order new.class class found).0 }

    abbrev roomy : Slots
    roomy = widened (one_method rec) s

    abbrev k : ℕ
    k = length s.methods

    abbrev e : MethodRec → EntryOf ℕ
    e = entry_of roomy.classes

    changes-lead : Leads roomy (change.Live (slot.Method k) (Some (length s.method_order)) ∷ []) (place.Method k ∷ []) (record roomy { method_order = s.method_order ++ k ∷ [] })
    changes-lead =
        let start : Leads roomy [] [] roomy = leads-roomy s [] [] s rec o (leads-nowhere s o) fits in
        let absent : without k s.method_order ≡ s.method_order = absent-without k s.method_order (new-absent s o) in
        let there : slice_get roomy.methods k ≡ Some rec = get-middle s.methods rec [] in
        let fits_there : FitsMethod roomy rec = record { names_known = longer; class_live = fits.class_live } in
        let within : length s.method_order ≤ length (without k s.method_order) = omega (arith, ap (λ (ks : List ℕ). length ks) absent) in
        leads-same roomy (change.Live (slot.Method k) (Some (length s.method_order)) ∷ []) (place.Method k ∷ [])
        (record roomy { method_order = insert (without k s.method_order) (length s.method_order) k }) (record roomy { method_order = s.method_order ++ k ∷ [] })
        (ap (λ (ks : List ℕ). record roomy { method_order = ks }) (ap (λ (ks : List ℕ). insert ks (length s.method_order) k) absent ∙ insert_end s.method_order k))
        (leads-in roomy [] [] roomy k (length s.method_order) rec start there fits_there within)
      where
        longer : MethodNames (λ n. n < length (s.names ++ [])) (method_of new.tree)
        longer = subst (λ (ns : List (List ℕ)). MethodNames (λ n. n < length ns) (method_of new.tree)) (sym (append-nil s.names)) fits.names_known

    entry-is : e rec ≡ new_method new.class new.meta new.protocol new.source (method_of new.tree)
    entry-is =
        let named : class_name roomy.classes class ≡ Some new.class = ap (λ (cs : List ClassRec). class_name cs class) (append-nil s.classes) ∙ (named-slot s.classes s.class_order new.class class found).1 in
        λ i. record { class = named i; meta = new.meta; protocol = new.protocol; source = new.source; tree = method_of new.tree; kernel = false }

    methods-are : map e (live roomy.methods (s.method_order ++ k ∷ [])) ≡ (number_image roomy).methods ++ new_method new.class new.meta new.protocol new.source (method_of new.tree) ∷ []
    methods-are =
        live-append e roomy.methods s.method_order (k ∷ [])
        ∙ ap (λ (ms : List (EntryOf ℕ)). (number_image roomy).methods ++ ms) (live-cons e roomy.methods k rec [] (get-middle s.methods rec []) ∙ ap (λ (m : EntryOf ℕ). m ∷ []) entry-is)

    pub added : (u : Slots) (cs : List Change) (ps : List Place) → u ≡ roomy → cs ≡ change.Live (slot.Method k) (Some (length s.method_order)) ∷ [] → ps ≡ place.Method k ∷ [] → IsPlan u command cs ps
    added u cs ps is changes places =
        let plan : IsPlan roomy command (change.Live (slot.Method k) (Some (length s.method_order)) ∷ []) (place.Method k ∷ []) =
        leads-plan roomy command (change.Live (slot.Method k) (Some (length s.method_order)) ∷ []) (place.Method k ∷ []) (record roomy { method_order = s.method_order ++ k ∷ [] }) changes-lead refl
        (ap (λ (ms : List (EntryOf ℕ)). record (number_image roomy) { methods = ms }) methods-are) in
        subst (λ (v : Slots). IsPlan v command cs ps) (sym is) (subst (λ (ds : List Change). IsPlan roomy command ds ps) (sym changes) (subst (λ (qs : List Place). IsPlan roomy command (change.Live (slot.Method k) (Some (length s.method_order)) ∷ []) qs) (sym places) plan))

    -- the room that was made, with copies of the parts
    module _ (u : Slots) (protocol source : List ℕ) (tree : Method) (first : protocol ≡ new.protocol) (second : source ≡ new.source) (third : tree ≡ new.tree)
        (is : u ≡ widened (one_method (record { class = class; meta = new.meta; protocol = protocol; source = source; tree = tree; kernel = false })) s) where
      is_roomy : u ≡ roomy
      is_roomy = is ∙ (λ i. widened (one_method (record { class = class; meta = new.meta; protocol = first i; source = second i; tree = third i; kernel = false })) s)

      pub room-wider : IsClosed s → Wider s u
      room-wider closed = wider_room s s u rec (wider-same s closed) o fits is_roomy

      pub room-plan : (slot_number place_number : ℕ) (cs ds : List Change) (ps qs : List Place) → slot_number ≡ length s.methods → place_number ≡ length s.method_order → cs ≡ [] → ps ≡ []
          → ds ≡ cs ++ change.Live (slot.Method slot_number) (Some place_number) ∷ [] → qs ≡ ps ++ place.Method slot_number ∷ [] → IsPlan u command ds qs
      room-plan j p cs ds ps qs a b none empty e f =
          added u ds qs is_roomy (e ∙ (λ i. none i ++ change.Live (slot.Method (a i)) (Some (b i)) ∷ [])) (f ∙ (λ i. empty i ++ place.Method (a i) ∷ []))
