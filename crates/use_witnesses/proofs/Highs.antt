-- Code that is too high, from the slots and in the image.
use Rattle.std.proofs.Common.{◌≡◌, ℕ, ◌&&◌, ◌||◌, not, Bool, true, false, cond, List, [], ◌∷◌, ◌++◌, map, Option, None, Some, option_map, slice_get, refl, sym, ap, ◌∙◌}
use Rattle.std.specs.Prelude.{nat_eq, filter}
use Rattle.std.specs.List.{enumerate_from, flat_map, list_any}
use Rattle.std.specs.Option.{option_and_then, option_map_or}
use Rattle.tree_model.specs.Normal.{normal}
use Rattle.tree_model.specs.Nodes.{nodes}
use Rattle.tree_model.specs.Tree.{MethodOf}
use Rattle.st_tree.specs.declared.tree.Method.{Method}
use Rattle.st_tree.specs.View as view
use Rattle.image_model.specs.Image.{EntryOf, DoItOf, ImageOf}
use Rattle.image_model.specs.Nodes.{in_method, in_doit}
use Rattle.image_model.specs.Uses.{is_sender}
use Rattle.rename_model.specs.Conditions.{speaks_of}
use Rattle.class_table.specs.declared.record.DoIt.{DoIt}
use Rattle.class_table.specs.declared.record.MethodRec.{MethodRec}
use Rattle.class_table.specs.declared.record.Place.TheVariants as place
use Rattle.class_table.specs.Slots.{Slots}
use Rattle.class_table.specs.Valid.{IsOrderly}
use Rattle.class_table.specs.View.{doit_of, entry_of, live_at, number_image}
use Rattle.class_questions.proofs.AnyLive.{live-live_at}
use Rattle.command_model.specs.Asked.{AskedOf}
use Rattle.command_model.specs.CodeEffects.{method_at, tree_made}
use Rattle.command_model.specs.Commands.{ExtractMethod}
use Rattle.command_model.specs.Extracted.{call_of, method_of, part_replaced}
use Rattle.command_model.specs.MethodEffects.{new_method}
use Rattle.command_model.specs.ParameterConditions.{is_low}
use Rattle.command_model.specs.Parts.{Part}
use Rattle.commands.specs.Views.{asked_by, self_in}
use Rattle.commands.specs.declared.command.MethodPart.{MethodPart}
use Rattle.abstracted_code.specs.declared.abstraction.Abstraction.{Abstraction}
use Rattle.code_conditions.proofs.HighInImage.{doit-low, low, low_doit, method-low}
use Rattle.hierarchy_questions.specs.OwnMethods.{own_slot}
use Rattle.scope_model.specs.Control.{is_empty}
use Rattle.code_conditions.specs.Trees.{users_part}
use Rattle.method_witnesses.proofs.Own.{none-gathered, own-gathered, own-there, own-users, slot-live, slot-owner}
use Rattle.refusal_witnesses.specs.ParameterWitnesses as model
use Rattle.refusal_witnesses.specs.ParameterWitnesses.{failing}
use Rattle.refusal_witnesses.specs.Witnesses.{AtPlace, InMethod, WitnessOf, AWhole, a_method, where_true}
use Rattle.witness_lists.specs.declared.witness.Owner.TheVariants as owner
use Rattle.witness_lists.specs.Views.{owner_of}
use Rattle.witness_lists.proofs.Lists.{gathered-agree, gathered_live}
use Rattle.use_witnesses.specs.declared.heights.Looked.{Looked}
use Rattle.use_witnesses.specs.declared.heights.Looked.TheVariants as looked
use Rattle.use_witnesses.specs.Brought.{brought_heights, heights_there}
use Rattle.use_witnesses.specs.Heights.{doit_high, high_at, high_methods, high_there, method_high, methods_made, senders_made}

-- the items that fail a test, by a test that is its opposite
failing-items : {X : Type 0} (p q : X → Bool) (h : X → WitnessOf ℕ) → ((x : X) → p x ≡ not (q x)) → (xs : List X) → flat_map (λ x. where_true (p x) (h x)) xs ≡ map h (filter (λ x. not (q x)) xs)
failing-items p q h same [] = refl
failing-items p q h same (x ∷ xs) = (λ i. where_true (same x i) (h x) ++ failing-items p q h same xs i) ∙ by (not (q x))
  where
    by : (b : Bool) → where_true b (h x) ++ map h (filter (λ x. not (q x)) xs) ≡ map h (cond b (x ∷ filter (λ x. not (q x)) xs) (filter (λ x. not (q x)) xs))
    by true = refl
    by false = refl

-- neither of the user and high, nor low
high-user : (kernel low : Bool) → (not kernel && not low) ≡ not (kernel || low)
high-user true low = refl
high-user false low = refl

high-speaking : (kernel low speaks : Bool) → (not kernel && (not low && speaks)) ≡ not (kernel || (not speaks || low))
high-speaking true low speaks = refl
high-speaking false true true = refl
high-speaking false true false = refl
high-speaking false false true = refl
high-speaking false false false = refl

high-sending : (low sends : Bool) → (not low && sends) ≡ not (not sends || low)
high-sending true true = refl
high-sending true false = refl
high-sending false true = refl
high-sending false false = refl

module _ (s : Slots) where
  abbrev i : ImageOf ℕ
  i = number_image s

  -- what is too high is what fails a test
  high-failing : (l : Looked) (m : EntryOf ℕ → Bool) (d : DoItOf ℕ → Bool) → ((x : EntryOf ℕ) → method_high s l x ≡ not (m x)) → ((x : DoItOf ℕ) → doit_high s l x ≡ not (d x)) → high_there s l ≡ failing m d i
  high-failing l m d ms ds =
      λ j. failing-items (method_high s l) m a_method ms i.methods j
      ++ failing-items (λ (e : ℕ × DoItOf ℕ). doit_high s l e.1) (λ (e : ℕ × DoItOf ℕ). d e.1) (λ (e : ℕ × DoItOf ℕ). AWhole (AtPlace (in_doit e.0))) (λ e. ds e.1) (enumerate_from 0 i.doits) j

  pub all-told : high_there s looked.All ≡ model.too_high i
  all-told = high-failing looked.All (λ m. m.kernel || is_low m.tree.body) (λ d. is_low d.body) (λ m. high-user m.kernel (is_low m.tree.body)) (λ d. refl)

  pub speaking-told : (n : ℕ) → high_there s (looked.Speaking n) ≡ model.too_high_speaking nat_eq n i
  speaking-told n =
      high-failing (looked.Speaking n) (λ m. m.kernel || (not (speaks_of nat_eq n m) || is_low m.tree.body)) (λ d. not (list_any (λ e. is_sender nat_eq n e.1) (nodes d.body)) || is_low d.body)
      (λ m. high-speaking m.kernel (is_low m.tree.body) (speaks_of nat_eq n m)) (λ d. high-sending (is_low d.body) (list_any (λ e. is_sender nat_eq n e.1) (nodes d.body)))

  pub abstracted-told : (a : Abstraction) → a.self_name ≡ self_in s.names → high_there s (looked.Abstracted a) ≡ model.too_high_abstracted (asked_by s.names) i a.class a.variable a.setter a.parameter
  abstracted-told a self =
      high-failing (looked.Abstracted a) (low s a) (low_doit s a) (method-low s a) (doit-low s a)
      ∙ ap (λ (k : ℕ). model.too_high_abstracted (record (asked_by s.names) { self_name = k }) i a.class a.variable a.setter a.parameter) self

  -- the methods, slot by slot
  module _ (l : Looked) where
    one-method : (k : ℕ) → high_at s l (place.Method k) ≡ option_map_or (λ (m : MethodRec). where_true (method_high s l (entry_of s.classes m)) (a_method (entry_of s.classes m))) (live_at s.methods s.method_order k) []
    one-method k = by (live_at s.methods s.method_order k) refl
      where
        by : (o : Option MethodRec) → live_at s.methods s.method_order k ≡ o
            → where_true (option_map_or (λ (m : MethodRec). method_high s l (entry_of s.classes m)) o false) (AWhole (owner_of s (owner.Method k)))
            ≡ option_map_or (λ (m : MethodRec). where_true (method_high s l (entry_of s.classes m)) (a_method (entry_of s.classes m))) o []
        by None e = refl
        by (Some m) e =
            ap (λ (o : Option MethodRec). where_true (method_high s l (entry_of s.classes m)) (AWhole (option_map_or InMethod (option_map (entry_of s.classes) o) (AtPlace (in_method k))))) (live-live_at s.methods s.method_order k m e).1

    pub methods-told : flat_map (λ k. high_at s l (place.Method k)) s.method_order ≡ high_methods s l
    methods-told =
        gathered-agree (λ k. high_at s l (place.Method k)) (λ k. option_map_or (λ (m : MethodRec). where_true (method_high s l (entry_of s.classes m)) (a_method (entry_of s.classes m))) (live_at s.methods s.method_order k) []) s.method_order (λ k h. one-method k)
        ∙ gathered_live (entry_of s.classes) (λ (m : EntryOf ℕ). where_true (method_high s l m) (a_method m)) s.methods s.method_order

    -- a do-it with its number
    abbrev pub one_doit : ℕ × DoIt → List (WitnessOf ℕ)
    one_doit e = where_true (doit_high s l (doit_of e.1)) (AWhole (AtPlace (in_doit e.0)))

    pub doit-here : (k : ℕ) → high_at s l (place.DoIt k) ≡ option_map_or (λ (d : DoIt). one_doit (k, d)) (slice_get s.doits k) []
    doit-here k = by (slice_get s.doits k)
      where
        by : (o : Option DoIt) → where_true (option_map_or (λ (d : DoIt). doit_high s l (doit_of d)) o false) (AWhole (AtPlace (in_doit k))) ≡ option_map_or (λ (d : DoIt). one_doit (k, d)) o []
        by None = refl
        by (Some d) = refl

  -- a tree that is made of a method
  module _ (orderly : IsOrderly s) (c : ℕ) (meta : Bool) (n : ℕ) (change : EntryOf ℕ → Option (MethodOf ℕ)) where
    abbrev pub made : List (WitnessOf ℕ)
    made = model.too_high_made (asked_by s.names) i c meta n change

    abbrev high_made : EntryOf ℕ → List (WitnessOf ℕ)
    high_made m = option_map_or (λ (t : MethodOf ℕ). where_true (not (is_low (normal t).body)) (a_method m)) (change m) []

    pub none-made : None ≡ option_map normal (tree_made (asked_by s.names) i c meta n change) → [] ≡ made
    none-made = by (method_at (asked_by s.names) i c meta n)
      where
        at : (m : EntryOf ℕ) (o : Option (MethodOf ℕ)) → None ≡ option_map normal o → [] ≡ option_map_or (λ (t : MethodOf ℕ). where_true (not (is_low (normal t).body)) (a_method m)) o []
        at m None e = refl
        at m (Some t) e = absurd (cc)

        by : (o : Option (EntryOf ℕ)) → None ≡ option_map normal (option_and_then change o) → [] ≡ option_map_or high_made o []
        by None e = refl
        by (Some m) e = at m (change m) e

    pub unmade : own_slot s c meta n ≡ None → [] ≡ made
    unmade e = none-gathered s orderly c meta n (λ (m : EntryOf ℕ). cond m.kernel [] (high_made m)) e ∙ own-users s orderly c meta n high_made

    pub made-told : (k : ℕ) → own_slot s c meta n ≡ Some k → (tree : Method) → Some (view.method_of tree) ≡ option_map normal (tree_made (asked_by s.names) i c meta n change)
        → where_true (not (is_low (view.method_of tree).body)) (AWhole (owner_of s (owner.Method k))) ≡ made
    made-told k e tree h =
        let held = slot-live s orderly c meta n k e in
        let m : EntryOf ℕ = entry_of s.classes held.0 in
        ap (λ o. where_true (not (is_low (view.method_of tree).body)) (AWhole o)) (slot-owner s orderly c meta n k held.0 e held.1)
        ∙ by m m.kernel (h ∙ ap (λ (o : Option (EntryOf ℕ)). option_map normal (option_and_then change (option_and_then (λ (x : EntryOf ℕ). cond x.kernel None (Some x)) o))) (own-there s orderly c meta n k held.0 e held.1))
        ∙ sym (ap (λ (o : Option MethodRec). option_map_or (λ (r : MethodRec). cond r.kernel [] (high_made (entry_of s.classes r))) o []) held.1)
        ∙ own-gathered s orderly c meta n (λ (x : EntryOf ℕ). cond x.kernel [] (high_made x)) k e
        ∙ own-users s orderly c meta n high_made
      where
        at : (m : EntryOf ℕ) (o : Option (MethodOf ℕ)) → Some (view.method_of tree) ≡ option_map normal o
            → where_true (not (is_low (view.method_of tree).body)) (a_method m) ≡ option_map_or (λ (t : MethodOf ℕ). where_true (not (is_low (normal t).body)) (a_method m)) o []
        at m None q = absurd (cc)
        at m (Some t) q = let same : view.method_of tree ≡ normal t = cc in ap (λ (x : MethodOf ℕ). where_true (not (is_low x.body)) (a_method m)) same

        by : (m : EntryOf ℕ) (b : Bool) → Some (view.method_of tree) ≡ option_map normal (option_and_then change (cond b None (Some m)))
            → where_true (not (is_low (view.method_of tree).body)) (a_method m) ≡ cond b [] (high_made m)
        by m true q = absurd (cc)
        by m false q = at m (change m) q

  -- the method that a part is taken from, as a tree that is made of it
  module _ (p : MethodPart) (t : ℕ) where
    abbrev a : AskedOf ℕ
    a = asked_by s.names

    abbrev pub taken : EntryOf ℕ → Option (MethodOf ℕ)
    taken m = option_map (λ (part : Part). part_replaced m.tree part (call_of a t m.tree part)) (a.part_of m.source p.from p.to)

    pub taken-made : senders_made s p t ≡ option_map normal (tree_made a i p.method.class p.method.meta p.method.selector taken)
    taken-made = by (method_at a i p.method.class p.method.meta p.method.selector)
      where
        at : (m : EntryOf ℕ) (o : Option Part) → option_map (λ (e : EntryOf ℕ × Part). normal (part_replaced e.0.tree e.1 (call_of a t e.0.tree e.1))) (option_map {U = EntryOf ℕ × Part} (λ (q : Part). (m, q)) o)
            ≡ option_map normal (option_map (λ (part : Part). part_replaced m.tree part (call_of a t m.tree part)) o)
        at m None = refl
        at m (Some q) = refl

        by : (o : Option (EntryOf ℕ)) → option_map (λ (e : EntryOf ℕ × Part). normal (part_replaced e.0.tree e.1 (call_of a t e.0.tree e.1))) (option_and_then {U = EntryOf ℕ × Part} (λ (m : EntryOf ℕ). option_map {U = EntryOf ℕ × Part} (λ (q : Part). (m, q)) (a.part_of m.source p.from p.to)) o)
            ≡ option_map normal (option_and_then taken o)
        by None = refl
        by (Some m) = at m (a.part_of m.source p.from p.to)

    -- the method, if it is too high then
    abbrev high : EntryOf ℕ × Part → List (WitnessOf ℕ)
    high e = where_true (not (is_low (normal (part_replaced e.0.tree e.1 (call_of a t e.0.tree e.1))).body)) (a_method e.0)

    pub taken-there : model.too_high_made a i p.method.class p.method.meta p.method.selector taken ≡ heights_there a i (ExtractMethod p.method.class p.method.meta p.method.selector p.from p.to t)
    taken-there = by (method_at a i p.method.class p.method.meta p.method.selector)
      where
        at : (m : EntryOf ℕ) (o : Option Part) → option_map_or (λ (x : MethodOf ℕ). where_true (not (is_low (normal x).body)) (a_method m)) (option_map (λ (part : Part). part_replaced m.tree part (call_of a t m.tree part)) o) []
            ≡ option_map_or high (option_map {U = EntryOf ℕ × Part} (λ (q : Part). (m, q)) o) []
        at m None = refl
        at m (Some q) = refl

        by : (o : Option (EntryOf ℕ)) → option_map_or (λ (m : EntryOf ℕ). option_map_or (λ (x : MethodOf ℕ). where_true (not (is_low (normal x).body)) (a_method m)) (taken m) []) o []
            ≡ option_map_or high (option_and_then {U = EntryOf ℕ × Part} (λ (m : EntryOf ℕ). option_map {U = EntryOf ℕ × Part} (λ (q : Part). (m, q)) (a.part_of m.source p.from p.to)) o) []
        by None = refl
        by (Some m) = at m (a.part_of m.source p.from p.to)

    -- whether the method is too high that the part becomes
    pub brought-told : (o : Option (MethodOf ℕ)) → o ≡ methods_made s p t
        → option_map_or (λ (x : MethodOf ℕ). not (is_low x.body)) o false ≡ not (is_empty (brought_heights a i (ExtractMethod p.method.class p.method.meta p.method.selector p.from p.to t)))
    brought-told o e = ap (λ (r : Option (MethodOf ℕ)). option_map_or (λ (x : MethodOf ℕ). not (is_low x.body)) r false) e ∙ by (users_part s p)
      where
        one : (b : Bool) (w : WitnessOf ℕ) → b ≡ not (is_empty (where_true b w))
        one true w = refl
        one false w = refl

        by : (r : Option (EntryOf ℕ × Part)) → option_map_or (λ (x : MethodOf ℕ). not (is_low x.body)) (option_map (λ (q : EntryOf ℕ × Part). method_of (asked_by s.names) t q.0.tree q.1) r) false
            ≡ not (is_empty (option_map_or (λ (q : EntryOf ℕ × Part). where_true (not (is_low (method_of a t q.0.tree q.1).body)) (a_method (new_method p.method.class p.method.meta q.0.protocol [] (method_of a t q.0.tree q.1)))) r []))
        by None = refl
        by (Some q) = one (not (is_low (method_of a t q.0.tree q.1).body)) (a_method (new_method p.method.class p.method.meta q.0.protocol [] (method_of a t q.0.tree q.1)))
