-- A node in the code of an image that is swapped along a loan.
use Rattle.std.proofs.Common.{◌≡◌, ℕ, true, List, Option, None, Some, option_map, is_some, slice_get, unwrap_or, refl, sym, ap, ◌∙◌, arith, true≢false}
use Rattle.std.specs.Option.{option_and_then, option_map_or}
use Rattle.std.proofs.Math.ListN.{set}
use Rattle.std.proofs.lemmas.Option.{slice_get_within}
use Rattle.tree_model.specs.Tree.{TreeOf}
use Rattle.st_tree.specs.declared.tree.Method.{Method}
use Rattle.st_tree.specs.declared.tree.Sequence.{Sequence}
use Rattle.class_table.specs.declared.record.MethodRec.{MethodRec}
use Rattle.class_table.specs.declared.record.DoIt.{DoIt}
use Rattle.class_table.specs.declared.record.Place.{Place}
use Rattle.class_table.specs.declared.record.Place.TheVariants as place
use Rattle.class_table.specs.Slots.{Slots}
use Rattle.class_table.specs.View.{live_at}
use Rattle.class_table.specs.Lending.{with_tree, with_body}
use Rattle.class_table.specs.Changing.{HasPlace, changed_at, with_source, source_in}
use Rattle.image_laws.proofs.Lists.{changed_at-some, get-changed_at}
use Rattle.change_set.specs.declared.change.Change.TheVariants as change
use Rattle.change_set.specs.Change.{applied, inverse}
use Rattle.change_set.specs.Code.{node_of, node_in, with_node, method_with, doit_with, with_part}
use Rattle.change_set.proofs.Lists.{length-changed_at, live_at-holds}
use Rattle.change_set.proofs.Nodes.{HasNode, has_node}

-- the slots with another node, and the node that stood there
pub record Swapped (s : Slots) (at : Place) (path : List ℕ) (part : TreeOf ℕ) (after : Slots) (former : TreeOf ℕ) : Type 0 where
  pub image : after ≡ with_part s at path part
  pub node : node_in s at path ≡ Some former

-- where nothing is lent there is no node
pub nothing_lent : {X Y : Type 0} (f : X → Y) (body : X → Sequence) (path : List ℕ) (o : Option X) → None ≡ option_map f o → is_some (option_and_then (node_of path) (option_map body o)) ≡ true → ⊥
nothing_lent f body path None e h = true≢false (sym h)
nothing_lent f body path (Some x) e h = cc

-- what came out is the node that stood there
former-is : (path : List ℕ) (b : Sequence) (node part former : TreeOf ℕ) → node_of path b ≡ Some node → former ≡ unwrap_or (node_of path b) part → Some node ≡ Some former
former-is path b node part former e is = ap Some (sym (is ∙ ap (λ (o : Option (TreeOf ℕ)). unwrap_or o part) e))

module _ (s : Slots) (path : List ℕ) (part former : TreeOf ℕ) where
  pub method_swapped : (k : ℕ) (tree : Method) (body : Sequence) → is_some (node_in s (place.Method k) path) ≡ true → Some tree ≡ option_map (λ (m : MethodRec). m.tree) (live_at s.methods s.method_order k)
      → body ≡ with_node path part tree.body → former ≡ unwrap_or (node_of path tree.body) part → Swapped s (place.Method k) path part (with_tree s k (record tree { body = body })) former
  method_swapped k tree body h lent is out =
      let found : HasNode (λ (m : MethodRec). m.tree.body) path (live_at s.methods s.method_order k) = has_node (λ (m : MethodRec). m.tree.body) path (live_at s.methods s.method_order k) h in
      let m = found.item in
      let stands = (live_at-holds s.methods s.method_order k m found.is).stands in
      let some : Some tree ≡ Some m.tree = lent ∙ ap (option_map (λ (x : MethodRec). x.tree)) found.is in
      let same : tree ≡ m.tree = cc in
      let now : body ≡ with_node path part m.tree.body = is ∙ ap (λ (u : Method). with_node path part u.body) same in
      record {
        image = ap (λ (xs : List MethodRec). record s { methods = xs }) (
            changed_at-some (λ (x : MethodRec). record x { tree = record tree { body = body } }) s.methods k m stands
            ∙ ap (λ (u : Method). set s.methods k (record m { tree = record u { body = body } })) same
            ∙ ap (λ (b : Sequence). set s.methods k (record m { tree = record m.tree { body = b } })) now
            ∙ sym (changed_at-some (method_with path part) s.methods k m stands));
        node = ap (λ (o : Option MethodRec). option_and_then (node_of path) (option_map (λ (x : MethodRec). x.tree.body) o)) found.is
            ∙ found.there
            ∙ former-is path tree.body found.node part former (ap (λ (u : Method). node_of path u.body) same ∙ found.there) out;
      }

  pub doit_swapped : (n : ℕ) (lent body : Sequence) → is_some (node_in s (place.DoIt n) path) ≡ true → Some lent ≡ option_map (λ (d : DoIt). d.body) (slice_get s.doits n)
      → body ≡ with_node path part lent → former ≡ unwrap_or (node_of path lent) part → Swapped s (place.DoIt n) path part (with_body s n body) former
  doit_swapped n lent body h is_lent is out =
      let found : HasNode (λ (d : DoIt). d.body) path (slice_get s.doits n) = has_node (λ (d : DoIt). d.body) path (slice_get s.doits n) h in
      let d = found.item in
      let some : Some lent ≡ Some d.body = is_lent ∙ ap (option_map (λ (x : DoIt). x.body)) found.is in
      let same : lent ≡ d.body = cc in
      let now : body ≡ with_node path part d.body = is ∙ ap (with_node path part) same in
      record {
        image = ap (λ (xs : List DoIt). record s { doits = xs }) (
            changed_at-some (λ (x : DoIt). record x { body = body }) s.doits n d found.is
            ∙ ap (λ (u : Sequence). set s.doits n (record d { body = u })) now
            ∙ sym (changed_at-some (doit_with path part) s.doits n d found.is));
        node = ap (λ (o : Option DoIt). option_and_then (node_of path) (option_map (λ (x : DoIt). x.body) o)) found.is
            ∙ found.there
            ∙ former-is path lent found.node part former (ap (node_of path) same ∙ found.there) out;
      }

-- where a node was put, the source is that from before
pub source-kept : (s : Slots) (at : Place) (path : List ℕ) (t : TreeOf ℕ) → source_in (with_part s at path t) at ≡ source_in s at
source-kept s (place.Method k) path t = by (slice_get s.methods k) refl
  where
    text_of : Option MethodRec → Option (List ℕ)
    text_of o = option_map (λ (m : MethodRec). m.source) o

    by : (o : Option MethodRec) → slice_get s.methods k ≡ o → text_of (slice_get (changed_at (method_with path t) s.methods k) k) ≡ text_of (slice_get s.methods k)
    by None e = ap (λ (o : Option MethodRec). text_of (slice_get (option_map_or (λ x. set s.methods k (method_with path t x)) o s.methods) k)) e
    by (Some m) e = ap text_of (get-changed_at (method_with path t) s.methods k m e) ∙ sym (ap text_of e)
source-kept s (place.DoIt n) path t = by (slice_get s.doits n) refl
  where
    text_of : Option DoIt → Option (List ℕ)
    text_of o = option_map (λ (d : DoIt). d.source) o

    by : (o : Option DoIt) → slice_get s.doits n ≡ o → text_of (slice_get (changed_at (doit_with path t) s.doits n) n) ≡ text_of (slice_get s.doits n)
    by None e = ap (λ (o : Option DoIt). text_of (slice_get (option_map_or (λ x. set s.doits n (doit_with path t x)) o s.doits) n)) e
    by (Some d) e = ap text_of (get-changed_at (doit_with path t) s.doits n d e) ∙ sym (ap text_of e)

-- where a node was put, there is code
pub place-there : (s : Slots) (at : Place) (path : List ℕ) (t : TreeOf ℕ) → is_some (node_in s at path) ≡ true → HasPlace (with_part s at path t) at
place-there s (place.Method k) path t h =
    let found : HasNode (λ (m : MethodRec). m.tree.body) path (live_at s.methods s.method_order k) = has_node (λ (m : MethodRec). m.tree.body) path (live_at s.methods s.method_order k) h in
    let within = slice_get_within s.methods k found.item (live_at-holds s.methods s.method_order k found.item found.is).stands in
    omega (arith, within, length-changed_at (method_with path t) s.methods k)
place-there s (place.DoIt n) path t h =
    let found : HasNode (λ (d : DoIt). d.body) path (slice_get s.doits n) = has_node (λ (d : DoIt). d.body) path (slice_get s.doits n) h in
    let within = slice_get_within s.doits n found.item found.is in
    omega (arith, within, length-changed_at (doit_with path t) s.doits n)

-- the two swaps of a part are one change
pub part_applied : (s t u : Slots) (at : Place) (path : List ℕ) (part former : TreeOf ℕ) (text source : List ℕ) → t ≡ with_part s at path part → node_in s at path ≡ Some former
    → u ≡ with_source t at text → source_in t at ≡ Some source
    → (u ≡ applied s (change.Part at path part text)) × (change.Part at path former source ≡ inverse s (change.Part at path part text))
part_applied s t u at path part former text source image node after there =
    let one : former ≡ unwrap_or (node_in s at path) part = sym (ap (λ (o : Option (TreeOf ℕ)). unwrap_or o part) node) in
    let kept : source_in s at ≡ Some source = sym (source-kept s at path part) ∙ sym (ap (λ (z : Slots). source_in z at) image) ∙ there in
    let two : source ≡ unwrap_or (source_in s at) text = sym (ap (λ (o : Option (List ℕ)). unwrap_or o text) kept) in
    (after ∙ ap (λ (z : Slots). with_source z at text) image, λ i. change.Part at path (one i) (two i))
