-- What is gathered of numbered methods and do-its, one by one.
use Rattle.std.proofs.Common.{◌≡◌, ℕ, zero, suc, ◌+◌, ◌<◌, Bool, true, false, cond, Bor, List, [], ◌∷◌, ◌++◌, drop, length, map, Option, None, Some, option_map, slice_get, refl, sym, ap, ◌∙◌, arith}
use Rattle.std.specs.List.{cons_option, enumerate_from, flat_map}
use Rattle.std.specs.Option.{option_map_or}
use Rattle.std.proofs.lemmas.List.Folds.{flat_map-map}
use Rattle.tree_model.specs.Tree.{SequenceOf}
use Rattle.tree_model.specs.Nodes.{Placed, nodes}
use Rattle.placed_nodes.specs.declared.placed.PlacedNode.{PlacedNode}
use Rattle.placed_nodes.specs.Placing.{placed}
use Rattle.image_model.specs.Image.{EntryOf}
use Rattle.image_model.specs.Nodes.{in_method, in_doit}
use Rattle.st_tree.specs.declared.tree.Method.{Method}
use Rattle.st_tree.specs.declared.tree.Sequence.{Sequence}
use Rattle.st_tree.specs.View.{method_of, sequence_of}
use Rattle.class_table.specs.declared.record.DoIt.{DoIt}
use Rattle.class_table.specs.declared.record.MethodInfo.{MethodInfo}
use Rattle.class_table.specs.declared.record.MethodRec.{MethodRec}
use Rattle.class_table.specs.Info.{IsInfoOf}
use Rattle.class_table.specs.Slots.{Slots}
use Rattle.class_table.specs.Valid.{IsLive, IsOrderly}
use Rattle.class_table.specs.View.{class_name, doit_of, entry_of, live, live_at, number_image}
use Rattle.class_table.proofs.Live.{there, IsLive-first, IsLive-rest}
use Rattle.class_questions.proofs.AnyLive.{live_at-live}
use Rattle.parameter_questions.specs.declared.code.Code.TheVariants as code
use Rattle.parameter_questions.specs.Codes.{means_in, means_in_doit, means_in_method}
use Rattle.refusal_witnesses.specs.Witnesses.{OwnerOf, AtPlace, a_node, nodes_that, where_true}
use Rattle.use_questions.specs.Questions.{is_asked}
use Rattle.witness_lists.proofs.Lists.{where-filter}
use Rattle.use_witnesses.specs.declared.uses.Uses.{Uses}
use Rattle.use_witnesses.specs.Uses.{body_uses, doit_uses, entry_uses, is_use, method_uses, slot_uses}

-- the nodes that pass a test of nodes with their places, gathered one by one
pub gathered-placed : (test : Placed ℕ → Bool) (owner : OwnerOf ℕ) (b : SequenceOf ℕ) (found : List PlacedNode) → placed found ≡ nodes b
    → flat_map (λ (p : PlacedNode). where_true (test (p.path, p.node.now)) (a_node owner p.path)) found ≡ nodes_that test owner b
gathered-placed test owner b found e =
    sym (flat_map-map (λ (x : Placed ℕ). where_true (test x) (a_node owner x.0)) (λ (p : PlacedNode). (p.path, p.node.now)) found)
    ∙ ap (flat_map (λ (x : Placed ℕ). where_true (test x) (a_node owner x.0))) e
    ∙ where-filter test (λ (x : Placed ℕ). a_node owner x.0) (nodes b)

-- what stands from a place on, if an item is there
drop-item : {X : Type 0} (xs : List X) (i : ℕ) (x : X) → slice_get xs i ≡ Some x → drop i xs ≡ x ∷ drop (suc i) xs
drop-item [] i x e = absurd (cc)
drop-item (y ∷ ys) zero x e = let same : y ≡ x = cc in ap (λ z. z ∷ ys) same
drop-item (y ∷ ys) (suc i) x e = drop-item ys i x e

module _ {X Z : Type 0} (f : ℕ × X → List Z) where
  -- what is gathered of the item of a number, before what is gathered of those after it
  pub more-numbered : (xs : List X) (k : ℕ) → k < length xs → option_map_or (λ (x : X). f (k, x)) (slice_get xs k) [] ++ flat_map f (enumerate_from (k + 1) (drop (k + 1) xs)) ≡ flat_map f (enumerate_from k (drop k xs))
  more-numbered xs k within =
      ap (λ (o : Option X). option_map_or (λ (x : X). f (k, x)) o [] ++ flat_map f (enumerate_from (k + 1) (drop (k + 1) xs))) held.1
      ∙ sym (ap (λ (ys : List X). flat_map f (enumerate_from k ys)) behind)
    where
      held : (x : X) × (slice_get xs k ≡ Some x)
      held = there xs k within

      behind : drop k xs ≡ held.0 ∷ drop (k + 1) xs
      behind = let next : suc k ≡ k + 1 = omega arith in drop-item xs k held.0 held.1 ∙ ap (λ (n : ℕ). held.0 ∷ drop n xs) next

  -- what is gathered of mapped items
  pub mapped-numbered : {Y : Type 0} (g : Y → X) (n : ℕ) (ys : List Y) → flat_map (λ (e : ℕ × Y). f (e.0, g e.1)) (enumerate_from n ys) ≡ flat_map f (enumerate_from n (map g ys))
  mapped-numbered g n [] = refl
  mapped-numbered g n (y ∷ ys) = ap (λ (zs : List Z). f (n, g y) ++ zs) (mapped-numbered g (n + 1) ys)

-- what is gathered of live slots with their numbers, and of the methods of the image with theirs
module _ {Z : Type 0} (s : Slots) (orderly : IsOrderly s) (f : ℕ × EntryOf ℕ → List Z) where
  -- of a slot with a number
  abbrev pub of_slot : ℕ × ℕ → List Z
  of_slot e = option_map_or (λ (m : MethodRec). f (e.0, entry_of s.classes m)) (live_at s.methods s.method_order e.1) []

  slots-numbered : (n : ℕ) (ks : List ℕ) → ((k : ℕ) → IsLive ks k → IsLive s.method_order k) → flat_map of_slot (enumerate_from n ks) ≡ flat_map f (enumerate_from n (map (entry_of s.classes) (live s.methods ks)))
  slots-numbered n [] are = refl
  slots-numbered n (k ∷ ks) are =
      ap (λ (o : Option MethodRec). option_map_or (λ (m : MethodRec). f (n, entry_of s.classes m)) o [] ++ flat_map of_slot (enumerate_from (n + 1) ks)) (live_at-live s.methods s.method_order k here ∙ held.1)
      ∙ ap (λ (zs : List Z). f (n, entry_of s.classes held.0) ++ zs) (slots-numbered (n + 1) ks (λ j h. are j (IsLive-rest j k ks h)))
      ∙ sym (ap (λ (o : Option MethodRec). flat_map f (enumerate_from n (map (entry_of s.classes) (cons_option o (live s.methods ks))))) held.1)
    where
      here : IsLive s.method_order k
      here = are k (IsLive-first k ks)

      held : (m : MethodRec) × (slice_get s.methods k ≡ Some m)
      held = there s.methods k (orderly.method_order.below k here)

  pub methods-numbered : flat_map of_slot (enumerate_from 0 s.method_order) ≡ flat_map f (enumerate_from 0 (number_image s).methods)
  methods-numbered = slots-numbered 0 s.method_order (λ k h. h)

-- the method of a number, by its slot
module _ (s : Slots) (u : Uses) (number slot : ℕ) (at : slice_get s.method_order number ≡ Some slot) where
  slot-told : slot_uses s u (number, slot) ≡ method_uses s u number
  slot-told = sym (ap (λ (o : Option ℕ). option_map_or (λ k. slot_uses s u (number, k)) o []) at)

  -- the slot is not live
  pub none-there : IsInfoOf None (live_at s.methods s.method_order slot) → [] ≡ method_uses s u number
  none-there t = by (live_at s.methods s.method_order slot) t ∙ slot-told
    where
      by : (o : Option MethodRec) → IsInfoOf None o → [] ≡ option_map_or (λ (m : MethodRec). entry_uses s u (number, entry_of s.classes m)) o []
      by None i = refl
      by (Some m) i = absurd i

  module _ (info : MethodInfo) (t : IsInfoOf (Some info) (live_at s.methods s.method_order slot)) (is : Bool)
      (told : (m : EntryOf ℕ) → m.class ≡ class_name s.classes info.class → is ≡ is_asked (number_image s) u.whose m) where
    -- the method is not asked
    pub unasked : is ≡ false → [] ≡ method_uses s u number
    unasked e = by (live_at s.methods s.method_order slot) t ∙ slot-told
      where
        by : (o : Option MethodRec) → IsInfoOf (Some info) o → [] ≡ option_map_or (λ (m : MethodRec). entry_uses s u (number, entry_of s.classes m)) o []
        by None i = absurd i
        by (Some m) i =
            ap (λ (b : Bool). cond b (nodes_that (is_use u.what (means_in_method s (entry_of s.classes m))) (AtPlace (in_method number)) (entry_of s.classes m).tree.body) [])
            (sym e ∙ told (entry_of s.classes m) (sym (ap (class_name s.classes) i.class)))

    -- it is
    pub asked : is ≡ true → (tree : Bor Method) → Some tree.now ≡ option_map (λ (m : MethodRec). m.tree) (live_at s.methods s.method_order slot)
        → nodes_that (is_use u.what (means_in s (code.Method info.class info.meta tree))) (AtPlace (in_method number)) (sequence_of tree.now.body) ≡ method_uses s u number
    asked e tree opened = by (live_at s.methods s.method_order slot) t opened ∙ slot-told
      where
        by : (o : Option MethodRec) → IsInfoOf (Some info) o → Some tree.now ≡ option_map (λ (m : MethodRec). m.tree) o
            → nodes_that (is_use u.what (means_in s (code.Method info.class info.meta tree))) (AtPlace (in_method number)) (sequence_of tree.now.body)
            ≡ option_map_or (λ (m : MethodRec). entry_uses s u (number, entry_of s.classes m)) o []
        by None i held = absurd i
        by (Some m) i held =
            let same : tree.now ≡ m.tree = cc in
            (λ j. nodes_that (is_use u.what (means_in_method s (record { class = class_name s.classes (i.class j); meta = i.meta j; protocol = []; source = []; tree = method_of (same j); kernel = false }))) (AtPlace (in_method number)) (method_of (same j)).body)
            ∙ ap (λ (b : Bool). cond b (nodes_that (is_use u.what (means_in_method s (entry_of s.classes m))) (AtPlace (in_method number)) (entry_of s.classes m).tree.body) [])
            (sym e ∙ told (entry_of s.classes m) (sym (ap (class_name s.classes) i.class)))

-- the do-it of a number
module _ (s : Slots) (u : Uses) (number : ℕ) where
  pub doit-told : (body : Bor Sequence) → Some body.now ≡ option_map (λ (d : DoIt). d.body) (slice_get s.doits number)
      → nodes_that (is_use u.what (means_in s (code.DoIt body))) (AtPlace (in_doit number)) (sequence_of body.now) ≡ doit_uses s u number
  doit-told body = by (slice_get s.doits number)
    where
      by : (o : Option DoIt) → Some body.now ≡ option_map (λ (d : DoIt). d.body) o
          → nodes_that (is_use u.what (means_in s (code.DoIt body))) (AtPlace (in_doit number)) (sequence_of body.now) ≡ option_map_or (λ (d : DoIt). body_uses s u (number, doit_of d)) o []
      by None held = absurd (cc)
      by (Some d) held =
          let same : body.now ≡ d.body = cc in
          λ j. nodes_that (is_use u.what (means_in_doit s (record { source = []; body = sequence_of (same j) }))) (AtPlace (in_doit number)) (sequence_of (same j))
