-- The changes by which a part of a method becomes a method of its own.
use Rattle.std.proofs.Common.{◌≡◌, ℕ, ◌<◌, ◌≤◌, Bool, true, false, not, List, [], ◌∷◌, ◌++◌, length, map, Option, None, Some, option_map, slice_get, refl, sym, ap, subst, ◌∙◌}
use Rattle.std.specs.Prelude.{nat_eq, ◌&&◌, if◌then◌else◌, insert, unwrap_or}
use Rattle.std.proofs.Math.Seq.{take-length}
use Rattle.std.proofs.lemmas.List.{append-nil}
use Rattle.std.proofs.lemmas.Option.{slice_get_within}
use Rattle.tree_model.specs.Tree.{MethodOf}
use Rattle.tree_model.specs.AllNames.{MethodNames}
use Rattle.tree_model.specs.Normal.{normal}
use Rattle.same_trees.specs.SameTrees.{same_code}
use Rattle.st_tree.specs.View as tree
use Rattle.image_model.specs.Image.{EntryOf, ImageOf}
use Rattle.image_model.specs.Lookup.{is_method}
use Rattle.class_table.specs.declared.record.ClassRec.{ClassRec}
use Rattle.class_table.specs.declared.record.MethodRec.{MethodRec}
use Rattle.class_table.specs.declared.record.Place.{Place}
use Rattle.class_table.specs.declared.record.Place.TheVariants as place
use Rattle.class_table.specs.declared.record.Slot.TheVariants as slot
use Rattle.class_table.specs.Kept.{FitsMethod}
use Rattle.class_table.specs.Order.{without}
use Rattle.class_table.specs.Slots.{Slots}
use Rattle.class_table.specs.Valid.{IsLive, IsOrderly}
use Rattle.class_table.specs.View.{live, entry_of, number_image}
use Rattle.class_table.proofs.Live.{there}
use Rattle.image_laws.proofs.Middles.{get-middle}
use Rattle.image_laws.proofs.Orders.{absent-without, stands-live}
use Rattle.change_set.specs.declared.change.Change.{Change}
use Rattle.change_set.specs.declared.change.Change.TheVariants as change
use Rattle.wider_slots.specs.Closed.{IsClosed}
use Rattle.wider_slots.specs.Wider.{one_method, widened, Wider}
use Rattle.wider_slots.proofs.Append.{get-append}
use Rattle.wider_slots.proofs.Images.{numbers-still}
use Rattle.wider_slots.proofs.StepLemmas.{wider-same}
use Rattle.command_model.specs.CodeEffects.{part_at}
use Rattle.command_model.specs.Commands.{CommandOf, ExtractMethod}
use Rattle.command_model.specs.Extracted.{put_behind_last, part_replaced, call_of, method_of, method_extracted}
use Rattle.command_model.specs.MethodEffects.{new_method}
use Rattle.command_model.specs.Numbers.{number_writing}
use Rattle.command_model.specs.Parts.{Part}
use Rattle.commands.specs.Views.{asked_by}
use Rattle.commands.specs.declared.command.MethodPart.{MethodPart}
use Rattle.plans.specs.Plan.{IsPlan}
use Rattle.method_plans.proofs.Added.{wider_room, new-absent}
use Rattle.method_plans.proofs.Leads.{Leads, leads-nowhere, leads-same, leads-in, leads-plan, roomy-orderly}
use Rattle.users_methods.specs.Users.{is_users}
use Rattle.temporary_plans.proofs.First.{users-live}
use Rattle.temporary_plans.proofs.Retelling.{Retelling}
use Rattle.code_plans.specs.Behind.{behind_last, is_beside}
use Rattle.code_plans.specs.Extractions.{IsExtraction}
use Rattle.code_plans.specs.declared.extraction.Extraction.{Extraction}
use Rattle.code_plans.proofs.Extractions.{of_side, behind-methods}
use Rattle.code_plans.proofs.Places.{behind_last-within, behind_last-map, put_behind_last-is, live-insert}

-- a method as it is after, by its tree
abbrev after_of : List (List ℕ) → MethodPart → MethodOf ℕ → EntryOf ℕ → EntryOf ℕ
after_of names part t m =
    if is_method nat_eq part.method.class part.method.meta part.method.selector m && not m.kernel then (if same_code nat_eq m.tree t then m else record m { tree = t; source = (number_writing names).method_text t })
    else m

-- it is a method of the same class and side
side-stays : (names : List (List ℕ)) (part : MethodPart) (t : MethodOf ℕ) (m : EntryOf ℕ) → of_side part.method.class part.method.meta (after_of names part t m) ≡ of_side part.method.class part.method.meta m
side-stays names part t m = by (is_method nat_eq part.method.class part.method.meta part.method.selector m && not m.kernel) (same_code nat_eq m.tree t)
  where
    by : (b d : Bool) → of_side part.method.class part.method.meta (if b then (if d then m else record m { tree = t; source = (number_writing names).method_text t }) else m) ≡ of_side part.method.class part.method.meta m
    by true true = refl
    by true false = refl
    by false d = refl

module _ (s : Slots) (o : IsOrderly s) (part : MethodPart) (to : ℕ) where
  abbrev command : CommandOf ℕ
  command = ExtractMethod part.method.class part.method.meta part.method.selector part.from part.to to

  abbrev c : ℕ
  c = part.method.class

  abbrev meta : Bool
  meta = part.method.meta

  -- the part that is found in an image over a table, and the image after, by the part
  abbrev found_part : List (List ℕ) → ImageOf ℕ → Option (EntryOf ℕ × Part)
  found_part names i = part_at (asked_by names) i c meta part.method.selector part.from part.to

  abbrev after : List (List ℕ) → ImageOf ℕ → Option (EntryOf ℕ × Part) → ImageOf ℕ
  after names i q = unwrap_or (option_map (λ (e : EntryOf ℕ × Part). method_extracted (asked_by names) (number_writing names) c meta part.method.selector e.0 e.1 to i) q) i

  -- there is no such part
  pub planned-nothing : (cs : List Change) (ps : List Place) → cs ≡ [] → ps ≡ [] → found_part s.names (number_image s) ≡ None → IsPlan s command cs ps
  planned-nothing cs ps a b none =
      let leads : Leads s [] [] s = leads-nowhere s o in
      subst (λ (xs : List Change). IsPlan s command xs ps) (sym a)
      (subst (λ (xs : List Place). IsPlan s command [] xs) (sym b) (leads-plan s command [] [] s leads refl (sym (ap (after s.names (number_image s)) none))))

  module _ (made : Extraction) (is : IsExtraction s part to made) where
    -- there is room for the new method
    fits : FitsMethod s made.rec
    fits = record { names_known = is.method_known; class_live = is.class_live }

    abbrev roomy : Slots
    roomy = widened (one_method made.rec) s

    pub room-orderly : (u : Slots) → u ≡ roomy → IsOrderly u
    room-orderly u e = subst IsOrderly (sym e) (roomy-orderly s o made.rec fits)

    pub room-wider : (u : Slots) → IsClosed s → u ≡ roomy → Wider s u
    room-wider u closed e = wider_room s s u made.rec (wider-same s closed) o fits e

    pub room-names : (u : Slots) → u ≡ roomy → u.names ≡ s.names
    room-names u e = ap (λ (v : Slots). v.names) e ∙ append-nil s.names

    pub sender-fits : (u : Slots) → u ≡ roomy → MethodNames (λ n. n < length u.names) (tree.method_of made.sender)
    sender-fits u e = subst (λ (ns : List (List ℕ)). MethodNames (λ n. n < length ns) (tree.method_of made.sender)) (sym (room-names u e)) is.sender_known

    -- a slot of the order holds the method there where it did before
    pub users-roomy : (u : Slots) → u ≡ roomy → (i j : ℕ) → slice_get u.method_order i ≡ Some j → is_users u part.method j ≡ is_users s part.method j
    users-roomy u e i j at =
        let stands : slice_get s.method_order i ≡ Some j = ap (λ (v : Slots). slice_get v.method_order i) (sym e) ∙ at in
        let l : IsLive s.method_order j = stands-live j s.method_order i stands in
        let r = there s.methods j (o.method_order.below j l) in
        let still : slice_get (s.methods ++ made.rec ∷ []) j ≡ Some r.0 = get-append s.methods (made.rec ∷ []) j (slice_get_within s.methods j r.0 r.1) ∙ r.1 in
        ap (λ (v : Slots). is_users v part.method j) e
        ∙ users-live roomy (room-orderly roomy refl) part.method j r.0 l still
        ∙ ap (λ (cs : List ClassRec). is_method nat_eq c meta part.method.selector (entry_of cs r.0) && not r.0.kernel) (append-nil s.classes)
        ∙ sym (users-live s o part.method j r.0 l r.1)

    module _ (closed : IsClosed s) where
      abbrev k : ℕ
      k = length s.methods

      -- the same names, and the same image
      names-are : roomy.names ≡ s.names
      names-are = append-nil s.names

      numbers-are : number_image roomy ≡ number_image s
      numbers-are = numbers-still s closed (one_method made.rec)

      abbrev methods : List (EntryOf ℕ)
      methods = (number_image roomy).methods

      -- the trees, over either table
      abbrev anew : List (List ℕ) → MethodOf ℕ
      anew names = part_replaced is.entry.tree is.found (call_of (asked_by names) to is.entry.tree is.found)

      abbrev new : List (List ℕ) → EntryOf ℕ
      new names = new_method c meta is.entry.protocol ((number_writing names).method_text (method_of (asked_by names) to is.entry.tree is.found)) (method_of (asked_by names) to is.entry.tree is.found)

      -- what the command makes of the image
      told : after roomy.names (number_image roomy) (found_part roomy.names (number_image roomy))
          ≡ record (number_image roomy) { methods = put_behind_last (of_side c meta) (new roomy.names) (map (after_of roomy.names part (normal (anew roomy.names))) methods) }
      told = ap (after roomy.names (number_image roomy)) ((λ i. found_part (names-are i) (numbers-are i)) ∙ is.there)

      -- the place is behind the last of the class on the side
      place-is : behind_last (of_side c meta) (map (after_of roomy.names part (tree.method_of made.sender)) methods) ≡ Some made.place
      place-is =
          behind_last-map (after_of roomy.names part (tree.method_of made.sender)) (of_side c meta) (of_side c meta) (side-stays roomy.names part (tree.method_of made.sender)) methods
          ∙ ap (λ (i : ImageOf ℕ). behind_last (of_side c meta) i.methods) numbers-are
          ∙ behind-methods s o c meta
          ∙ sym is.place

      within : made.place ≤ length s.method_order
      within = behind_last-within (is_beside s c meta) s.method_order made.place (sym is.place)

      absent : without k s.method_order ≡ s.method_order
      absent = absent-without k s.method_order (new-absent s o)

      abbrev e : MethodRec → EntryOf ℕ
      e = entry_of roomy.classes

      entry-is : e made.rec ≡ new s.names
      entry-is = ap (λ (cs : List ClassRec). entry_of cs made.rec) (append-nil s.classes) ∙ is.method

      module _ (cs : List Change) (ps : List Place) (now : Retelling roomy part.method made.sender (length s.method_order) cs ps) where
        abbrev retold : Slots
        retold = record roomy { methods = now.methods }

        abbrev last : Slots
        last = record roomy { methods = now.methods; method_order = insert s.method_order made.place k }

        held : slice_get now.methods k ≡ Some made.rec
        held = now.others k (new-absent s o) ∙ get-middle s.methods made.rec []

        lead : Leads roomy (cs ++ change.Live (slot.Method k) (Some made.place) ∷ []) (ps ++ place.Method k ∷ []) last
        lead =
            leads-same roomy (cs ++ change.Live (slot.Method k) (Some made.place) ∷ []) (ps ++ place.Method k ∷ [])
            (record roomy { methods = now.methods; method_order = insert (without k s.method_order) made.place k }) last
            (ap (λ (ks : List ℕ). record roomy { methods = now.methods; method_order = insert ks made.place k }) absent)
            (leads-in roomy cs ps retold k made.place made.rec now.leads held (record { names_known = longer; class_live = is.class_live }) short)
          where
            longer : MethodNames (λ n. n < length (s.names ++ [])) (tree.method_of made.rec.tree)
            longer = subst (λ (ns : List (List ℕ)). MethodNames (λ n. n < length ns) (tree.method_of made.rec.tree)) (sym names-are) is.method_known

            short : made.place ≤ length (without k s.method_order)
            short = subst (λ (ks : List ℕ). made.place ≤ length ks) (sym absent) within

        -- the methods before the new one comes
        all : map e (live now.methods s.method_order) ≡ map (after_of roomy.names part (tree.method_of made.sender)) methods
        all =
            ap (λ (ks : List ℕ). map e (live now.methods ks)) (sym (take-length s.method_order))
            ∙ now.done
            ∙ ap (λ (ks : List ℕ). map (after_of roomy.names part (tree.method_of made.sender)) (map e (live roomy.methods ks))) (take-length s.method_order)

        here : (j : ℕ) → IsLive s.method_order j → (y : MethodRec) × (slice_get now.methods j ≡ Some y)
        here j l = there now.methods j (now.leads.orderly.method_order.below j l)

        -- and after
        methods-are : map e (live now.methods (insert s.method_order made.place k))
            ≡ put_behind_last (of_side c meta) (new roomy.names) (map (after_of roomy.names part (normal (anew roomy.names))) methods)
        methods-are =
            live-insert e now.methods k made.rec held s.method_order made.place here within
            ∙ (λ i. insert (all i) made.place (entry-is i))
            ∙ sym (put_behind_last-is (of_side c meta) (new s.names) (map (after_of roomy.names part (tree.method_of made.sender)) methods) made.place place-is)
            ∙ (λ i. put_behind_last (of_side c meta) (new s.names) (map (after_of roomy.names part (is.sender i)) methods))
            ∙ (λ i. put_behind_last (of_side c meta) (new (sym names-are i)) (map (after_of roomy.names part (normal (anew (sym names-are i)))) methods))

        planned-roomy : IsPlan roomy command (cs ++ change.Live (slot.Method k) (Some made.place) ∷ []) (ps ++ place.Method k ∷ [])
        planned-roomy =
            leads-plan roomy command (cs ++ change.Live (slot.Method k) (Some made.place) ∷ []) (ps ++ place.Method k ∷ []) last lead refl
            (ap (λ (ms : List (EntryOf ℕ)). record (number_image roomy) { methods = ms }) methods-are ∙ sym told)

      -- all slots have been looked at, and the new method comes
      pub planned : (u : Slots) (i j : ℕ) (cs ds : List Change) (ps qs : List Place) → u ≡ roomy → i ≡ length u.method_order → j ≡ k → Retelling u part.method made.sender i cs ps
          → ds ≡ cs ++ change.Live (slot.Method j) (Some made.place) ∷ [] → qs ≡ ps ++ place.Method j ∷ [] → IsPlan u command ds qs
      planned u i j cs ds ps qs room end new_slot now a b =
          let length_is : i ≡ length s.method_order = end ∙ ap (λ (v : Slots). length v.method_order) room in
          let there_now : Retelling roomy part.method made.sender (length s.method_order) cs ps =
          subst (λ (n : ℕ). Retelling roomy part.method made.sender n cs ps) length_is (subst (λ (v : Slots). Retelling v part.method made.sender i cs ps) room now) in
          let first : ds ≡ cs ++ change.Live (slot.Method k) (Some made.place) ∷ [] = a ∙ ap (λ (n : ℕ). cs ++ change.Live (slot.Method n) (Some made.place) ∷ []) new_slot in
          let second : qs ≡ ps ++ place.Method k ∷ [] = b ∙ ap (λ (n : ℕ). ps ++ place.Method n ∷ []) new_slot in
          subst (λ (v : Slots). IsPlan v command ds qs) (sym room)
          (subst (λ (xs : List Change). IsPlan roomy command xs qs) (sym first)
          (subst (λ (xs : List Place). IsPlan roomy command (cs ++ change.Live (slot.Method k) (Some made.place) ∷ []) xs) (sym second) (planned-roomy cs ps there_now)))
