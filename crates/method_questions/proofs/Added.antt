-- Which method each class itself has once one has come.
use Rattle.std.proofs.Common.{◌≡◌, ℕ, Bool, true, false, cond, ◌&&◌, List, [], ◌∷◌, ◌++◌, Option, Some, None, is_some, option_map, slice_get, refl, sym, ap, subst, ◌∙◌}
use Rattle.std.specs.Prelude.{nat_eq}
use Rattle.std.specs.Bool.{beq}
use Rattle.std.specs.Option.{option_and_then, option_or}
use Rattle.std.proofs.Math.Bool.{and-true, and-false}
use Rattle.std.proofs.lemmas.List.Folds.{find-append}
use Rattle.image_model.specs.Image.{EntryOf, ImageOf}
use Rattle.image_model.proofs.Lists.{option_map-option_or}
use Rattle.image_model.specs.Lookup.{is_method, own_method}
use Rattle.st_tree.specs.View.{method_of}
use Rattle.class_table.specs.declared.record.ClassRec.{ClassRec}
use Rattle.class_table.specs.Slots.{Slots}
use Rattle.class_table.specs.View.{class_name, class_of, class_at, number_image}
use Rattle.class_table.specs.Valid.{IsLive, IsOrderly}
use Rattle.class_table.specs.Finding.{named_in}
use Rattle.class_table.proofs.Live.{eqb-refl, eqb-equal, there}
use Rattle.class_table.proofs.Found.{class_named-named_in}
use Rattle.class_questions.proofs.ChainLaws.{named-slot}
use Rattle.command_model.specs.Hierarchy.{is_class}
use Rattle.command_model.specs.MethodEffects.{new_method, method_added}
use Rattle.method_questions.specs.declared.found.Found.{Found}
use Rattle.method_questions.specs.declared.moves.Way.TheVariants as way
use Rattle.method_questions.specs.declared.moves.Moved.{Moved}
use Rattle.method_questions.specs.declared.moves.After.{After}
use Rattle.method_questions.specs.declared.moves.After.TheVariants as after
use Rattle.method_questions.specs.Found.{bare_entry, as_entry, own_slot}
use Rattle.method_questions.specs.Moves as moves
use Rattle.method_questions.specs.Moves.{own_after, after_entry}
use Rattle.method_questions.specs.Unreached.{LeadsTo}
use Rattle.method_questions.proofs.OwnMethods.{sides-same, own-method, own-holds, opened-holds, own-live}
use Rattle.method_questions.proofs.Inherited.{or-none}
use Rattle.method_questions.proofs.AfterFacts.{there-read, first-read}
use Rattle.method_questions.proofs.MovedImages.{leads}
use Rattle.method_questions.proofs.Classes.{classes-agree}

module _ (s : Slots) (orderly : IsOrderly s) (found : Found) (protocol text : List ℕ) (c : ClassRec) (live : IsLive s.class_order found.class) (class : slice_get s.classes found.class ≡ Some c) where
  abbrev image : ImageOf ℕ
  image = number_image s

  abbrev selector : ℕ
  selector = found.tree.now.selector

  -- the method that comes
  abbrev pub new : EntryOf ℕ
  new = new_method c.name found.meta protocol text (method_of found.tree.now)

  abbrev pub coming : Moved
  coming = record { method = found; selector = selector; way = way.New }

  -- what a class has before
  own-before : (k : ℕ) (r : ClassRec) → IsLive s.class_order k → slice_get s.classes k ≡ Some r
      → option_map bare_entry (own_method nat_eq image.methods r.name found.meta selector) ≡ option_and_then (after_entry s coming) (moves.there (own_slot s k found.meta selector))
  own-before k r l e =
      ap (option_map bare_entry) (sym (own-method s orderly found.meta selector k r l e))
      ∙ sym (own-live s orderly found.meta selector (own_slot s k found.meta selector) (λ y q. (own-holds s orderly found.meta selector k y q).live))
      ∙ there-read s coming (own_slot s k found.meta selector)

  -- whether the method that comes is one of a class
  new-test : (k : ℕ) (r : ClassRec) → IsLive s.class_order k → slice_get s.classes k ≡ Some r → is_method nat_eq r.name found.meta selector new ≡ nat_eq k found.class
  new-test k r l e = (λ i. (nat_eq r.name c.name && sides-same found.meta i) && eqb-refl selector i) ∙ (and-true (nat_eq r.name c.name && true) ∙ and-true (nat_eq r.name c.name)) ∙ classes-agree s orderly k found.class r c l e live class

  new-told : (k : ℕ) (r : ClassRec) → slice_get s.classes k ≡ Some r → (b : Bool) → nat_eq k found.class ≡ b → option_map bare_entry (cond b (Some new) None) ≡ option_and_then (after_entry s coming) (cond b (Some (after.Comes k)) None)
  new-told k r e false t = refl
  new-told k r e true t =
      sym (ap (λ (o : Option ℕ). Some (record (as_entry s.classes found) { class = o })) (ap (class_name s.classes) (eqb-equal k found.class t) ∙ ap (option_map (λ (x : ClassRec). x.name)) class))

  own-read : (o : Option ℕ) (k : ℕ) → own_slot s k found.meta selector ≡ o → (a : After) → moves.there o ≡ Some a → is_some (after_entry s coming a) ≡ true
  own-read None k q a e = absurd (cc)
  own-read (Some y) k q a e =
      let same : after.There y ≡ a = cc in
      ap (λ x. is_some (after_entry s coming x)) (sym same) ∙ ap is_some (opened-holds s orderly found.meta selector y (own-holds s orderly found.meta selector k y q))

  own-told : (k : ℕ) (r : ClassRec) → IsLive s.class_order k → slice_get s.classes k ≡ Some r
      → option_map bare_entry (own_method nat_eq (image.methods ++ new ∷ []) r.name found.meta selector) ≡ option_and_then (after_entry s coming) (own_after s coming k)
  unfolding own_after
  own-told k r l e =
      ap (option_map bare_entry) (find-append (is_method nat_eq r.name found.meta selector) image.methods (new ∷ []))
      ∙ option_map-option_or bare_entry (own_method nat_eq image.methods r.name found.meta selector) (cond (is_method nat_eq r.name found.meta selector new) (Some new) None)
      ∙ (λ i. option_or (own-before k r l e i) (option_map bare_entry (cond (new-test k r l e i) (Some new) None)))
      ∙ ap (option_or (option_and_then (after_entry s coming) (moves.there (own_slot s k found.meta selector)))) (new-told k r e (nat_eq k found.class) refl)
      ∙ first-read (after_entry s coming) (moves.there (own_slot s k found.meta selector)) (cond (nat_eq k found.class) (Some (after.Comes k)) None) (own-read (own_slot s k found.meta selector) k refl)

  other-side : found.meta ≡ true → (n : ℕ) → own_method nat_eq (image.methods ++ new ∷ []) n false selector ≡ own_method nat_eq image.methods n false selector
  other-side t n =
      find-append (is_method nat_eq n false selector) image.methods (new ∷ [])
      ∙ ap (λ (b : Bool). option_or (own_method nat_eq image.methods n false selector) (cond b (Some new) None)) ((λ i. (nat_eq n c.name && beq false (t i)) && nat_eq selector selector) ∙ ap (λ (x : Bool). x && nat_eq selector selector) (and-false (nat_eq n c.name)))
      ∙ or-none (own_method nat_eq image.methods n false selector)

  pub comes-leads : LeadsTo s coming (method_added c.name found.meta protocol text (method_of found.tree.now) image) found.meta selector
  comes-leads = leads s orderly coming (image.methods ++ new ∷ []) (record { own = own-told; other = other-side })

module _ (s : Slots) (n : ℕ) where
  -- whether there is a class of the name
  pub no-class : named_in s.classes s.class_order n ≡ None → false ≡ is_class nat_eq (number_image s) n
  no-class e = sym (ap is_some (class_named-named_in s n ∙ ap (option_and_then (class_at s)) e))

  pub class-there : IsOrderly s → (k : ℕ) → named_in s.classes s.class_order n ≡ Some k → true ≡ is_class nat_eq (number_image s) n
  class-there orderly k e =
      let h = named-slot s.classes s.class_order n k e in
      let c = there s.classes k (orderly.class_order.below k h.0) in
      sym (ap is_some (class_named-named_in s n ∙ ap (option_and_then (class_at s)) e ∙ ap (option_map (class_of s.classes)) c.1))

-- a method that comes into a class
pub new-leads : (s : Slots) (orderly : IsOrderly s) (found : Found) (n : ℕ) (protocol text : List ℕ) → named_in s.classes s.class_order n ≡ Some found.class
    → LeadsTo s (record { method = found; selector = found.tree.now.selector; way = way.New }) (method_added n found.meta protocol text (method_of found.tree.now) (number_image s)) found.meta found.tree.now.selector
new-leads s orderly found n protocol text e =
    let h = named-slot s.classes s.class_order n found.class e in
    let c = there s.classes found.class (orderly.class_order.below found.class h.0) in
    let both : Some c.0.name ≡ Some n = sym (ap (option_map (λ (x : ClassRec). x.name)) c.1) ∙ h.1 in
    let name : c.0.name ≡ n = cc in
    subst (λ (x : ℕ). LeadsTo s (record { method = found; selector = found.tree.now.selector; way = way.New }) (method_added x found.meta protocol text (method_of found.tree.now) (number_image s)) found.meta found.tree.now.selector) name
    (comes-leads s orderly found protocol text c.0 h.0 c.1)
