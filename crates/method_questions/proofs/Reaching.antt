-- Messages to `super` that begin their look-up in a class, at places and in the image.
use Rattle.std.proofs.Common.{◌≡◌, ℕ, Bool, true, false, not, ◌&&◌, ◌||◌, List, [], ◌∷◌, Option, Some, None, option_map, slice_get, refl, sym, ap, ◌∙◌, true≢false}
use Rattle.std.specs.Prelude.{nat_eq, Contains}
use Rattle.std.specs.List.{list_any}
use Rattle.std.specs.Option.{option_map_or, option_and_then}
use Rattle.std.proofs.Math.Bool.{or-false}
use Rattle.std.proofs.lemmas.Bool.{and_parts}
use Rattle.tree_model.specs.Tree.{TreeOf, var, literal, send, cascade, assign, block, brace, return}
use Rattle.tree_model.specs.Nodes.{Placed, nodes}
use Rattle.st_tree.specs.declared.tree.Method.{Method}
use Rattle.st_tree.specs.View.{method_of}
use Rattle.scope_model.specs.Control.{is_empty}
use Rattle.image_model.specs.Image.{ClassOf, EntryOf, DoItOf, ImageOf}
use Rattle.image_model.specs.Words.{number_words}
use Rattle.image_model.specs.Uses.{class_uses, has_message, is_sender}
use Rattle.mentions.specs.Mentions.{method_names}
use Rattle.reference_index.specs.Mentioned.{Mentioned, IsIndexOf, ListsPlaces}
use Rattle.class_table.specs.declared.record.ClassRec.{ClassRec}
use Rattle.class_table.specs.declared.record.MethodRec.{MethodRec}
use Rattle.class_table.specs.declared.record.MethodInfo.{MethodInfo}
use Rattle.class_table.specs.declared.record.DoIt.{DoIt}
use Rattle.class_table.specs.declared.record.Place.{Place}
use Rattle.class_table.specs.declared.record.Place.TheVariants as place
use Rattle.class_table.specs.Slots.{Slots}
use Rattle.class_table.specs.Info.{IsInfoOf}
use Rattle.class_table.specs.View.{class_name, entry_of, live_at, number_image}
use Rattle.class_table.specs.Valid.{IsLive, IsOrderly}
use Rattle.class_table.proofs.Live.{there}
use Rattle.class_table.proofs.Found.{class_named-live}
use Rattle.class_questions.proofs.AnyLive.{live_at-live, live-live_at}
use Rattle.code_questions.specs.declared.question.Way.TheVariants as way
use Rattle.code_questions.specs.declared.question.Whose.TheVariants as whose
use Rattle.code_questions.specs.Places.{passes_at}
use Rattle.code_questions.proofs.Witnesses.{passing, passes-any}
use Rattle.code_questions.proofs.AtPlaces.{listed-any}
use Rattle.code_questions.proofs.Mentioning.{found-method}
use Rattle.command_model.specs.Hierarchy.{superclass_name}
use Rattle.command_model.specs.SameMethods.{is_super_node, is_super_sender}
use Rattle.command_model.specs.MethodConditions.{begins_in, is_reached}
use Rattle.commands.specs.Views.{asked_by}
use Rattle.method_questions.specs.Reached.{is_child, begins_at}

-- tests that agree
any-same : {X : Type 0} (p q : X → Bool) → ((x : X) → p x ≡ q x) → (xs : List X) → list_any p xs ≡ list_any q xs
any-same p q h [] = refl
any-same p q h (x ∷ xs) = λ i. h x i || any-same p q h xs i

none-passes : {X : Type 0} (xs : List X) → list_any (λ (x : X). false) xs ≡ false
none-passes [] = refl
none-passes (x ∷ xs) = none-passes xs

-- what sends to `super` sends
super-sends : (is_super : ℕ → Bool) (s : ℕ) (t : TreeOf ℕ) → is_super_sender is_super nat_eq s t ≡ true → is_sender nat_eq s t ≡ true
super-sends is_super s (var n) e = e
super-sends is_super s (literal l) e = e
super-sends is_super s (send r t args) e = (and_parts (is_super_node is_super r) (nat_eq s t) e).1
super-sends is_super s (cascade r ms) e = (and_parts (is_super_node is_super r) (has_message nat_eq s ms) e).1
super-sends is_super s (assign n t) e = e
super-sends is_super s (block ps ts ss c) e = e
super-sends is_super s (brace ts) e = e
super-sends is_super s (return t) e = e

module _ (s : Slots) (name selector : ℕ) where
  -- the messages of a method to `super`
  abbrev sends : EntryOf ℕ → Bool
  sends m = list_any (λ (e : Placed ℕ). is_super_sender (asked_by s.names).is_super nat_eq selector e.1) (nodes m.tree.body)

  -- what is told of a method that is opened
  pub begins-told : (k : ℕ) (info : MethodInfo) (tree : Method) → IsInfoOf (Some info) (live_at s.methods s.method_order k) → Some tree ≡ option_map (λ (m : MethodRec). m.tree) (live_at s.methods s.method_order k) → is_child s info.class name ≡ true
      → list_any (λ (e : Placed ℕ). is_super_sender (asked_by s.names).is_super nat_eq selector e.1) (nodes (method_of tree).body) ≡ begins_at s name selector (place.Method k)
  begins-told k info tree = by (live_at s.methods s.method_order k)
    where
      by : (o : Option MethodRec) → IsInfoOf (Some info) o → Some tree ≡ option_map (λ (m : MethodRec). m.tree) o → is_child s info.class name ≡ true
          → list_any (λ (e : Placed ℕ). is_super_sender (asked_by s.names).is_super nat_eq selector e.1) (nodes (method_of tree).body)
          ≡ option_map_or (λ (m : MethodRec). is_child s m.class name && list_any (λ (e : Placed ℕ). is_super_sender (asked_by s.names).is_super nat_eq selector e.1) (nodes (method_of m.tree).body)) o false
      by None i t c = absurd i
      by (Some m) i t c =
          let same : tree ≡ m.tree = cc in
          ap (λ (x : Method). list_any (λ (e : Placed ℕ). is_super_sender (asked_by s.names).is_super nat_eq selector e.1) (nodes (method_of x).body)) same
          ∙ ap (λ (b : Bool). b && list_any (λ (e : Placed ℕ). is_super_sender (asked_by s.names).is_super nat_eq selector e.1) (nodes (method_of m.tree).body)) (sym c ∙ ap (λ (x : ℕ). is_child s x name) i.class)

  module _ (orderly : IsOrderly s) where
    abbrev image : ImageOf ℕ
    image = number_image s

    -- the superclass of a live class
    pub child-told : (k : ℕ) → IsLive s.class_order k → is_child s k name ≡ option_map_or (λ d. option_map_or (nat_eq name) (superclass_name nat_eq image d) false) (class_name s.classes k) false
    child-told k l =
        let c = there s.classes k (orderly.class_order.below k l) in
        ap (λ (o : Option ClassRec). option_map_or (λ (x : ClassRec). option_map_or (λ above. option_map_or (λ (d : ClassRec). nat_eq name d.name) (live_at s.classes s.class_order above) false) x.superclass false) o false) (live_at-live s.classes s.class_order k l ∙ c.1)
        ∙ by c.0 c.1 c.0.superclass refl
        ∙ sym (ap (λ (o : Option (ClassOf ℕ)). option_map_or (nat_eq name) (option_and_then (λ (e : ClassOf ℕ). e.superclass) o) false) (class_named-live s orderly k c.0 l c.1))
        ∙ sym (ap (λ (o : Option ℕ). option_map_or (λ d. option_map_or (nat_eq name) (superclass_name nat_eq image d) false) o false) (ap (option_map (λ (x : ClassRec). x.name)) c.1))
      where
        by : (c : ClassRec) → slice_get s.classes k ≡ Some c → (o : Option ℕ) → c.superclass ≡ o
            → option_map_or (λ above. option_map_or (λ (d : ClassRec). nat_eq name d.name) (live_at s.classes s.class_order above) false) o false ≡ option_map_or (nat_eq name) (option_and_then (class_name s.classes) o) false
        by c e None q = refl
        by c e (Some j) q =
            let m = orderly.superclasses_live j k c l e q in
            let d = there s.classes j (orderly.class_order.below j m) in
            ap (λ (o : Option ClassRec). option_map_or (λ (x : ClassRec). nat_eq name x.name) o false) (live_at-live s.classes s.class_order j m ∙ d.1)
            ∙ sym (ap (λ (o : Option ClassRec). option_map_or (nat_eq name) (option_map (λ (x : ClassRec). x.name) o) false) d.1)

    -- whether the look-up of a message of the method begins in the class
    abbrev begins : EntryOf ℕ → Bool
    begins m = begins_in (number_words s.names) (asked_by s.names).is_super image name selector m

    begins-at : (p : Place) → begins_at s name selector p ≡ passes_at begins (λ (d : DoItOf ℕ). false) s p
    begins-at (place.Method k) = by (live_at s.methods s.method_order k) refl
      where
        by : (o : Option MethodRec) → live_at s.methods s.method_order k ≡ o
            → option_map_or (λ (m : MethodRec). is_child s m.class name && list_any (λ (e : Placed ℕ). is_super_sender (asked_by s.names).is_super nat_eq selector e.1) (nodes (method_of m.tree).body)) o false
            ≡ option_map_or (λ (m : MethodRec). begins (entry_of s.classes m)) o false
        by None e = refl
        by (Some m) e =
            let h = live-live_at s.methods s.method_order k m e in
            ap (λ (b : Bool). b && sends (entry_of s.classes m)) (child-told m.class (orderly.method_classes_live k m h.0 h.1))
    begins-at (place.DoIt n) = by (slice_get s.doits n)
      where
        by : (o : Option DoIt) → false ≡ option_map_or (λ (d : DoIt). false) o false
        by None = refl
        by (Some d) = refl

    -- such a method mentions the selector
    begins-mentions : (m : EntryOf ℕ) → begins m ≡ true → Contains (method_names m.tree) selector
    begins-mentions m e =
        let t = (and_parts (option_map_or (λ d. option_map_or (nat_eq name) (superclass_name nat_eq image d) false) m.class false) (sends m) e).1 in
        let w = passing (λ (x : Placed ℕ). is_super_sender (asked_by s.names).is_super nat_eq selector x.1) (nodes m.tree.body) t in
        found-method image (record { whose = whose.Everyone; what = way.Sent; name = selector }) m
        (passes-any (λ (x : Placed ℕ). is_sender nat_eq selector x.1) (nodes m.tree.body) w.0 w.1 w.2 (super-sends (asked_by s.names).is_super selector w.1.1 w.3))

    -- so it is enough to look at the places that are listed under the selector
    pub reached-told : (x : Mentioned) (places : List Place) → IsIndexOf s x → ListsPlaces x selector places → not (is_empty (class_uses (number_words s.names) image name)) ≡ false
        → list_any (begins_at s name selector) places ≡ is_reached (number_words s.names) (asked_by s.names).is_super image name selector
    reached-told x places index lists unused =
        any-same (begins_at s name selector) (passes_at begins (λ (d : DoItOf ℕ). false) s) begins-at places
        ∙ listed-any begins (λ (d : DoItOf ℕ). false) s selector begins-mentions (λ d e. absurd (true≢false (sym e))) x places index lists
        ∙ ap (λ (b : Bool). list_any begins image.methods || b) (none-passes image.doits)
        ∙ or-false (list_any begins image.methods)
        ∙ sym (ap (λ (b : Bool). b || list_any begins image.methods) unused)
