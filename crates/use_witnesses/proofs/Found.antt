-- The method that a class finds, and those of the classes below it, from the slots and in the image.
use Rattle.std.proofs.Common.{◌≡◌, ℕ, ◌&&◌, not, Bool, true, false, cond, List, [], length, Option, None, Some, option_map, refl, sym, ap, subst, ◌∙◌}
use Rattle.std.specs.Prelude.{nat_eq}
use Rattle.std.specs.List.{list_any}
use Rattle.std.specs.Option.{option_and_then, option_map_or, option_or}
use Rattle.image_model.specs.Image.{ClassOf, EntryOf, ImageOf}
use Rattle.image_model.specs.Chain.{chain, superclass_of}
use Rattle.image_model.specs.Lookup.{as_object, lookup, on_chain, own_method}
use Rattle.image_model.specs.Nodes.{in_method}
use Rattle.image_model.specs.Upwards.{first_given}
use Rattle.image_model.specs.Words.{number_words}
use Rattle.image_model.proofs.UpwardsLemmas.{upwards-none}
use Rattle.class_table.specs.declared.record.ClassRec.{ClassRec}
use Rattle.class_table.specs.declared.record.MethodInfo.{MethodInfo}
use Rattle.class_table.specs.declared.record.MethodRec.{MethodRec}
use Rattle.class_table.specs.Finding.{found_by_lookup, named_in}
use Rattle.class_table.specs.Info.{IsInfoOf, TellsOf}
use Rattle.class_table.specs.Slots.{Slots}
use Rattle.class_table.specs.Valid.{IsOrderly}
use Rattle.class_table.specs.View.{class_at, class_name, class_of, entry_at, entry_of, live_at, number_image}
use Rattle.class_table.proofs.Found.{class_named-named_in, lookup-live}
use Rattle.class_questions.proofs.AnyLive.{live_at-live, live-live_at}
use Rattle.class_questions.proofs.ChainLaws.{chain-class, named-slot}
use Rattle.commands.specs.declared.command.MethodName.{MethodName}
use Rattle.method_questions.specs.Found.{object_slot}
use Rattle.method_questions.proofs.Inherited.{object-found, object-holds}
use Rattle.method_questions.proofs.OwnMethods.{Holds, looked-up}
use Rattle.rename_model.specs.Conditions.{stands_below}
use Rattle.refusal_witnesses.specs.MethodWitnesses.{method_there}
use Rattle.refusal_witnesses.specs.Witnesses.{AtPlace, InMethod, WitnessOf, AWhole, a_method, where_true}
use Rattle.witness_lists.specs.declared.witness.Owner.TheVariants as owner
use Rattle.witness_lists.specs.Views.{owner_of}
use Rattle.use_witnesses.specs.Targets.{found_slot, rival, rival_at}

module _ (s : Slots) (orderly : IsOrderly s) (n : ℕ) (meta : Bool) (selector : ℕ) where
  abbrev image : ImageOf ℕ
  image = number_image s

  root : (b : Bool) → cond b (as_object (number_words s.names) image selector) None ≡ option_and_then (entry_at s) (cond b (object_slot s selector) None)
  root true = object-found s orderly selector
  root false = refl

  -- the method that the class finds
  found-told : lookup (number_words s.names) image (Some n) meta selector ≡ option_and_then (entry_at s) (found_slot s n meta selector)
  found-told = by (named_in s.classes s.class_order n) refl
    where
      by : (o : Option ℕ) → named_in s.classes s.class_order n ≡ o → lookup (number_words s.names) image (Some n) meta selector ≡ option_and_then (entry_at s) (found_slot s n meta selector)
      by None e =
          ap (λ (o : Option (ClassOf ℕ)). option_or (on_chain nat_eq image o meta selector) (cond meta (as_object (number_words s.names) image selector) None)) (class_named-named_in s n ∙ ap (option_and_then (class_at s)) e)
          ∙ ap (λ cs. option_or (first_given (λ (d : ClassOf ℕ). own_method nat_eq image.methods d.name meta selector) cs) (cond meta (as_object (number_words s.names) image selector) None)) (upwards-none (superclass_of nat_eq image.classes) (length image.classes))
          ∙ root meta
          ∙ sym (ap (λ (o : Option ℕ). option_and_then (entry_at s) (option_map_or (λ k. found_by_lookup s k meta selector) o (cond meta (object_slot s selector) None))) e)
      by (Some k) e =
          let h = named-slot s.classes s.class_order n k e in
          ap (λ (o : Option ℕ). lookup (number_words s.names) image o meta selector) (sym h.1)
          ∙ lookup-live s orderly k meta selector h.0
          ∙ sym (ap (λ (o : Option ℕ). option_and_then (entry_at s) (option_map_or (λ j. found_by_lookup s j meta selector) o (cond meta (object_slot s selector) None))) e)

  -- its slot holds a method
  found-holds : (y : ℕ) → found_slot s n meta selector ≡ Some y → Holds s selector y
  found-holds y e = by (named_in s.classes s.class_order n) e
    where
      none : (b : Bool) → cond b (object_slot s selector) None ≡ Some y → Holds s selector y
      none true q = object-holds s selector y q
      none false q = absurd (cc)

      by : (o : Option ℕ) → option_map_or (λ k. found_by_lookup s k meta selector) o (cond meta (object_slot s selector) None) ≡ Some y → Holds s selector y
      by None q = none meta q
      by (Some k) q = looked-up s selector k meta y q

  -- the method, if it is one of the kernel
  abbrev kernel_found : List (WitnessOf ℕ)
  kernel_found = option_map_or (λ (m : EntryOf ℕ). where_true m.kernel (a_method m)) (lookup (number_words s.names) image (Some n) meta selector) []

  pub none-found : found_slot s n meta selector ≡ None → [] ≡ kernel_found
  none-found e = sym (ap (λ (o : Option (EntryOf ℕ)). option_map_or (λ (m : EntryOf ℕ). where_true m.kernel (a_method m)) o []) (found-told ∙ ap (option_and_then (entry_at s)) e))

  module _ (y : ℕ) (e : found_slot s n meta selector ≡ Some y) where
    live : live_at s.methods s.method_order y ≡ Some (found-holds y e).method
    live = let h = found-holds y e in live_at-live s.methods s.method_order y h.live ∙ h.there

    pub untold-found : IsInfoOf None (live_at s.methods s.method_order y) → ⊥
    untold-found t = subst (IsInfoOf None) live t

    pub kernel-found : (info : MethodInfo) → IsInfoOf (Some info) (live_at s.methods s.method_order y) → where_true info.kernel (AWhole (owner_of s (owner.Method y))) ≡ kernel_found
    kernel-found info t =
        let h = found-holds y e in
        let told : TellsOf info h.method = subst (IsInfoOf (Some info)) live t in
        let place : owner_of s (owner.Method y) ≡ InMethod (entry_of s.classes h.method) =
        ap (λ (o : Option MethodRec). option_map_or InMethod (option_map (entry_of s.classes) o) (AtPlace (in_method y))) h.there in
        (λ i. where_true (told.kernel i) (AWhole (place i)))
        ∙ sym (ap (λ (o : Option (EntryOf ℕ)). option_map_or (λ (m : EntryOf ℕ). where_true m.kernel (a_method m)) o [])
        (found-told ∙ ap (option_and_then (entry_at s)) e ∙ ap (option_map (entry_of s.classes)) h.there))

module _ (s : Slots) (n : MethodName) (k : ℕ) where
  pub no-rival : None ≡ live_at s.classes s.class_order k → [] ≡ rival_at s n k
  no-rival e = ap (λ (o : Option ClassRec). option_map_or (λ (c : ClassRec). rival s n (class_of s.classes c)) o []) e

  module _ (orderly : IsOrderly s) (c : ClassRec) (e : live_at s.classes s.class_order k ≡ Some c) where
    -- the class stands below, by its chain
    pub stands-told : list_any (λ (d : ClassOf ℕ). nat_eq n.class d.name) (chain nat_eq (number_image s).classes (class_name s.classes k)) ≡ stands_below nat_eq (number_image s).classes n.class (class_of s.classes c)
    stands-told = let h = live-live_at s.classes s.class_order k c e in ap (list_any (λ (d : ClassOf ℕ). nat_eq n.class d.name)) (chain-class s orderly k c h.0 h.1)

    -- what it has itself counts, or does not
    pub rival-told : (same stands : Bool) → nat_eq n.class c.name ≡ same → stands_below nat_eq (number_image s).classes n.class (class_of s.classes c) ≡ stands
        → cond (stands && not same) (method_there nat_eq (number_image s) c.name n.meta n.selector) [] ≡ rival_at s n k
    rival-told same stands p q =
        (λ i. cond (sym q i && not (sym p i)) (method_there nat_eq (number_image s) c.name n.meta n.selector) [])
        ∙ sym (ap (λ (o : Option ClassRec). option_map_or (λ (d : ClassRec). rival s n (class_of s.classes d)) o []) e)
