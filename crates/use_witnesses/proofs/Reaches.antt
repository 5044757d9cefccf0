-- What reaches classes, from the slots and in the image.
use Rattle.std.proofs.Common.{◌≡◌, ℕ, Bool, true, false, true≢false, cond, List, [], ◌∷◌, Option, None, Some, refl, sym, ap, ◌∙◌}
use Rattle.std.specs.Prelude.{nat_eq}
use Rattle.std.specs.List.{flat_map}
use Rattle.std.specs.Option.{option_map_or}
use Rattle.image_model.specs.Image.{ClassOf, EntryOf, ImageOf}
use Rattle.image_model.specs.Words.{number_words}
use Rattle.class_table.specs.declared.record.ClassRec.{ClassRec}
use Rattle.class_table.specs.declared.record.MethodInfo.{MethodInfo}
use Rattle.class_table.specs.declared.record.MethodRec.{MethodRec}
use Rattle.class_table.specs.Info.{IsInfoOf}
use Rattle.class_table.specs.Slots.{Slots}
use Rattle.class_table.specs.Valid.{IsOrderly}
use Rattle.class_table.specs.View.{class_of, entry_of, live_at, number_image}
use Rattle.class_questions.proofs.AnyLive.{live-live_at}
use Rattle.command_model.specs.Commands.{CommandOf, RenameClass, AddClass, RemoveClass, AddInstVar, RenameInstVar, RemoveInstVar, PushUpInstVar, PushDownInstVar, AddClassVar, RenameClassVar, RemoveClassVar, PushUpClassVar, PushDownClassVar, AddClassSideVar, RenameClassSideVar, RemoveClassSideVar, RenameSelector, AddMethod, RemoveMethod, PushUpMethod, PushDownMethod, AddParameter, RemoveParameter, AbstractInstVar, ExtractMethod, InlineMethod, ExtractTemp, InlineTemp, RenameTemp}
use Rattle.command_model.specs.MethodConditions.{is_sent_nowhere}
use Rattle.command_model.specs.MethodEffects.{method_added, method_pushed_up, method_pushed_down}
use Rattle.command_model.specs.SameMethods.{is_super_sender}
use Rattle.commands.specs.Views.{asked_by}
use Rattle.method_questions.specs.declared.moves.Moved.{Moved}
use Rattle.method_questions.specs.Reached.{is_child}
use Rattle.method_questions.specs.Unreached.{LeadsTo, is_one_reached}
use Rattle.method_questions.proofs.MovedImages.{one-reached}
use Rattle.method_questions.proofs.Reaching.{child-told}
use Rattle.refusal_witnesses.specs.MethodWitnesses.{another_found, others_after, others_found, reachings}
use Rattle.refusal_witnesses.specs.Refused.{is_moved_there}
use Rattle.refusal_witnesses.specs.Witnesses.{InMethod, WitnessOf, AClass, nodes_that}
use Rattle.witness_lists.specs.declared.code.Whose.TheVariants as whose
use Rattle.witness_lists.specs.declared.nodes.Sought.TheVariants as sought
use Rattle.witness_lists.specs.Walks.{slot_found}
use Rattle.witness_lists.proofs.Lists.{gathered-agree, gathered_live}
use Rattle.use_witnesses.specs.Reached.{LeadsAfter, MovesSelector, another_at, entry_begins, others_at, slot_begins}

module _ (s : Slots) (class selector slot : ℕ) where
  -- the messages to `super` in a method
  abbrev sends : EntryOf ℕ → List (WitnessOf ℕ)
  sends m = nodes_that (λ e. is_super_sender (asked_by s.names).is_super nat_eq selector e.1) (InMethod m) m.tree.body

  -- the slot is not live
  pub none-begins : IsInfoOf None (live_at s.methods s.method_order slot) → [] ≡ slot_begins s class selector slot
  none-begins = by (live_at s.methods s.method_order slot)
    where
      by : (o : Option MethodRec) → IsInfoOf None o → [] ≡ option_map_or (λ (m : MethodRec). entry_begins s class selector (entry_of s.classes m)) o []
      by None t = refl
      by (Some m) t = absurd t

  -- the messages begin in the class or do not, by the class of the method
  module _ (orderly : IsOrderly s) (info : MethodInfo) (t : IsInfoOf (Some info) (live_at s.methods s.method_order slot)) where
    begins-told : (b : Bool) → is_child s info.class class ≡ b → option_map_or (λ (m : MethodRec). cond b (sends (entry_of s.classes m)) []) (live_at s.methods s.method_order slot) [] ≡ slot_begins s class selector slot
    begins-told b e = by (live_at s.methods s.method_order slot) refl t
      where
        by : (o : Option MethodRec) → live_at s.methods s.method_order slot ≡ o → IsInfoOf (Some info) o
            → option_map_or (λ (m : MethodRec). cond b (sends (entry_of s.classes m)) []) o [] ≡ option_map_or (λ (m : MethodRec). entry_begins s class selector (entry_of s.classes m)) o []
        by None q i = absurd i
        by (Some m) q i =
            let h = live-live_at s.methods s.method_order slot m q in
            ap (λ (c : Bool). cond c (sends (entry_of s.classes m)) [])
            (sym e ∙ ap (λ (k : ℕ). is_child s k class) i.class ∙ child-told s class selector orderly m.class (orderly.method_classes_live slot m h.0 h.1))

    nothing : (o : Option MethodRec) → [] ≡ option_map_or (λ (m : MethodRec). cond false (sends (entry_of s.classes m)) []) o []
    nothing None = refl
    nothing (Some m) = refl

    pub others-begin : is_child s info.class class ≡ false → [] ≡ slot_begins s class selector slot
    others-begin e = nothing (live_at s.methods s.method_order slot) ∙ begins-told false e

    pub here-begins : is_child s info.class class ≡ true → slot_found s whose.Everyone (sought.SentToSuper selector) slot ≡ slot_begins s class selector slot
    here-begins e = begins-told true e

module _ (s : Slots) (v : Moved) where
  -- a class that finds another method, or does not
  pub another-is : (k : ℕ) (c : ClassRec) → live_at s.classes s.class_order k ≡ Some c → (b : Bool) → is_one_reached s v k ≡ b
      → cond b (AClass c.name ∷ reachings (number_words s.names) (asked_by s.names).is_super (number_image s) c.name v.selector) [] ≡ another_at s v k
  another-is k c e b q =
      ap (λ (d : Bool). cond d (AClass c.name ∷ reachings (number_words s.names) (asked_by s.names).is_super (number_image s) c.name v.selector) []) (sym q)
      ∙ sym (ap (λ (o : Option ClassRec). option_map_or (λ (d : ClassRec). cond (is_one_reached s v k) (AClass d.name ∷ reachings (number_words s.names) (asked_by s.names).is_super (number_image s) d.name v.selector) []) o []) e)

  -- the slot is not live
  pub none-other : (k : ℕ) → None ≡ live_at s.classes s.class_order k → [] ≡ another_at s v k
  none-other k e =
      ap (λ (o : Option ClassRec). option_map_or (λ (d : ClassRec). cond (is_one_reached s v k) (AClass d.name ∷ reachings (number_words s.names) (asked_by s.names).is_super (number_image s) d.name v.selector) []) o []) e

  -- all of them
  module _ (j : ImageOf ℕ) (meta : Bool) (selector : ℕ) (to : LeadsTo s v j meta selector) where
    abbrev found : ClassOf ℕ → List (WitnessOf ℕ)
    found = another_found (number_words s.names) (asked_by s.names).is_super (number_image s) j meta selector

    one-told : (k : ℕ) → another_at s v k ≡ option_map_or (λ (c : ClassRec). found (class_of s.classes c)) (live_at s.classes s.class_order k) []
    one-told k = by (live_at s.classes s.class_order k) refl
      where
        by : (o : Option ClassRec) → live_at s.classes s.class_order k ≡ o
            → option_map_or (λ (c : ClassRec). cond (is_one_reached s v k) (AClass c.name ∷ reachings (number_words s.names) (asked_by s.names).is_super (number_image s) c.name v.selector) []) o []
            ≡ option_map_or (λ (c : ClassRec). found (class_of s.classes c)) o []
        by None q = refl
        by (Some c) q =
            λ i. cond (one-reached s v j meta selector to k c q i) (AClass c.name ∷ reachings (number_words s.names) (asked_by s.names).is_super (number_image s) c.name (to.same_selector i)) []

    pub others-told : others_at s v ≡ others_found (number_words s.names) (asked_by s.names).is_super (number_image s) j meta selector
    others-told =
        (λ i. cond (is_sent_nowhere (number_words s.names) (number_image s) (to.same_selector i)) [] (flat_map (another_at s v) s.class_order))
        ∙ ap (λ (ws : List (WitnessOf ℕ)). cond (is_sent_nowhere (number_words s.names) (number_image s) selector) [] ws)
        (gathered-agree (another_at s v) (λ k. option_map_or (λ (c : ClassRec). found (class_of s.classes c)) (live_at s.classes s.class_order k) []) s.class_order (λ k l. one-told k)
        ∙ gathered_live (class_of s.classes) found s.classes s.class_order)

  -- so after a command that brings or moves a method
  abbrev After : CommandOf ℕ → ℕ → Type 0
  After command selector =
      MovesSelector command selector → LeadsAfter s v command → is_moved_there (asked_by s.names) (number_image s) command ≡ true
      → others_at s v ≡ others_after (number_words s.names) (asked_by s.names).is_super (number_image s) command selector

  pub told-after : (command : CommandOf ℕ) (selector : ℕ) → After command selector
  told-after (AddMethod c meta protocol text tree) selector m l t =
      others-told (method_added c meta protocol text tree (number_image s)) meta tree.selector l
      ∙ ap (others_found (number_words s.names) (asked_by s.names).is_super (number_image s) (method_added c meta protocol text tree (number_image s)) meta) (sym m)
  told-after (PushUpMethod c meta n) selector m l t =
      others-told (method_pushed_up nat_eq c meta n (number_image s)) meta n l
      ∙ ap (others_found (number_words s.names) (asked_by s.names).is_super (number_image s) (method_pushed_up nat_eq c meta n (number_image s)) meta) (sym m)
  told-after (PushDownMethod c meta n) selector m l t =
      others-told (method_pushed_down nat_eq c meta n (number_image s)) meta n l
      ∙ ap (others_found (number_words s.names) (asked_by s.names).is_super (number_image s) (method_pushed_down nat_eq c meta n (number_image s)) meta) (sym m)
  told-after (RenameClass c d) selector m l t = absurd (true≢false (sym t))
  told-after (AddClass d p under) selector m l t = absurd (true≢false (sym t))
  told-after (RemoveClass c) selector m l t = absurd (true≢false (sym t))
  told-after (AddInstVar c x) selector m l t = absurd (true≢false (sym t))
  told-after (RenameInstVar c x y) selector m l t = absurd (true≢false (sym t))
  told-after (RemoveInstVar c x) selector m l t = absurd (true≢false (sym t))
  told-after (PushUpInstVar c x) selector m l t = absurd (true≢false (sym t))
  told-after (PushDownInstVar c x) selector m l t = absurd (true≢false (sym t))
  told-after (AddClassVar c x) selector m l t = absurd (true≢false (sym t))
  told-after (RenameClassVar c x y) selector m l t = absurd (true≢false (sym t))
  told-after (RemoveClassVar c x) selector m l t = absurd (true≢false (sym t))
  told-after (PushUpClassVar c x) selector m l t = absurd (true≢false (sym t))
  told-after (PushDownClassVar c x d) selector m l t = absurd (true≢false (sym t))
  told-after (AddClassSideVar c x) selector m l t = absurd (true≢false (sym t))
  told-after (RenameClassSideVar c x y) selector m l t = absurd (true≢false (sym t))
  told-after (RemoveClassSideVar c x) selector m l t = absurd (true≢false (sym t))
  told-after (RenameSelector a b) selector m l t = absurd (true≢false (sym t))
  told-after (RemoveMethod c meta n) selector m l t = absurd (true≢false (sym t))
  told-after (AddParameter a b x passed) selector m l t = absurd (true≢false (sym t))
  told-after (RemoveParameter a k b) selector m l t = absurd (true≢false (sym t))
  told-after (AbstractInstVar c x setter given) selector m l t = absurd (true≢false (sym t))
  told-after (ExtractMethod c meta n from to b) selector m l t = absurd (true≢false (sym t))
  told-after (InlineMethod c meta n from to) selector m l t = absurd (true≢false (sym t))
  told-after (ExtractTemp c meta n from to x) selector m l t = absurd (true≢false (sym t))
  told-after (InlineTemp c meta n x) selector m l t = absurd (true≢false (sym t))
  told-after (RenameTemp c meta n x y) selector m l t = absurd (true≢false (sym t))
