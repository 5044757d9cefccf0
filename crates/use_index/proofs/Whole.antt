-- Look-ups in an index are the filters of the image.
use Rattle.std.proofs.Common.{◌≡◌, ◌+◌, ◌<◌, inl, inr, ℕ, suc, List, [], ◌∷◌, ◌++◌, map, filter, filter_map, flat_map, length, slice_get, Bool, Option, Some, Contains, nat_eq, refl, sym, ap, ◌∙◌, arith}
use Rattle.std.specs.List.{enumerate_from, range_with_len, cons_option}
use Rattle.std.specs.Option.{option_map_or}
use Rattle.std.proofs.lemmas.List.{map-append}
use Rattle.std.proofs.lemmas.List.Concat.{flat_map-cons}
use Rattle.std.proofs.lemmas.List.Elements.{filter-append}
use Rattle.std.proofs.lemmas.Option.{slice_get_cases}
use Rattle.mentions.proofs.Lists.{Contains-first, Contains-later}
use Rattle.st_tree.specs.View.{method_of, sequence_of}
use Rattle.image_model.specs.Image.{EntryOf, DoItOf}
use Rattle.image_model.specs.Nodes.{Place as ImagePlace, in_method, in_doit, Use, NodeOf, nodes_of}
use Rattle.image_model.specs.Uses.{is_sender, identifier_uses_in, places, senders, identifier_uses}
use Rattle.image_model.specs.Words.{number_words}
use Rattle.class_table.specs.declared.record.DoIt.{DoIt}
use Rattle.class_table.specs.declared.record.MethodRec.{MethodRec}
use Rattle.class_table.specs.declared.record.Place.TheVariants as place
use Rattle.class_table.specs.Slots.{Slots}
use Rattle.class_table.specs.Valid.{IsOrderly}
use Rattle.class_table.specs.View.{live_at, entry_of, doit_of, number_image}
use Rattle.reference_index.proofs.Members.{number-tested}
use Rattle.use_index.specs.declared.found.Owner.{Owner}
use Rattle.use_index.specs.declared.found.Owner.TheVariants as owner
use Rattle.use_index.specs.declared.uses.Sought.{Sought}
use Rattle.use_index.specs.declared.uses.Sought.TheVariants as sought
use Rattle.use_index.specs.declared.uses.UseAt.{UseAt}
use Rattle.use_index.specs.Found.{place_of, use_of, found_at, found_in_row, found_in_methods, found_in_doits}
use Rattle.use_index.specs.Index.{Known, IsUseIndexOf, AreUsesOf}
use Rattle.use_index.specs.Paths.{at_place, paths}
use Rattle.use_index.specs.Rows.{used_of}
use Rattle.use_index.specs.Uses.{is_use, method_uses, doit_uses}
use Rattle.use_index.proofs.Looked.{method-sent, doit-sent, method-named, doit-named}

-- what is found in a row, as uses of the image
row-uses : (n : ℕ) (what : Sought) (o : Owner) (row : List UseAt) → map use_of (found_in_row n what o row) ≡ map (at_place (place_of o)) (paths n what row)
row-uses n what o row = by (filter (is_use n what) row)
  where
    by : (us : List UseAt) → map use_of (map (found_at o) us) ≡ map (at_place (place_of o)) (map (λ (u : UseAt). u.path) us)
    by [] = refl
    by (u ∷ us) = ap (λ zs. at_place (place_of o) u.path ∷ zs) (by us)

-- places of nodes that pass, piece by piece
places-flat : {X : Type 0} (p : NodeOf ℕ → Bool) (f : X → List (NodeOf ℕ)) (xs : List X) → places (filter p (flat_map f xs)) ≡ flat_map (λ x. places (filter p (f x))) xs
places-flat p f [] = refl
places-flat p f (x ∷ xs) =
    ap (λ es. places (filter p es)) (flat_map-cons f x xs)
    ∙ ap places (filter-append p (f x) (flat_map f xs))
    ∙ map-append (λ (e : NodeOf ℕ). e.use_of) (filter p (f x)) (filter p (flat_map f xs))
    ∙ ap (λ zs. places (filter p (f x)) ++ zs) (places-flat p f xs)
    ∙ sym (flat_map-cons (λ y. places (filter p (f y))) x xs)

places-both : (p : NodeOf ℕ → Bool) (es fs : List (NodeOf ℕ)) → places (filter p (es ++ fs)) ≡ places (filter p es) ++ places (filter p fs)
places-both p es fs = ap places (filter-append p es fs) ∙ map-append (λ (e : NodeOf ℕ). e.use_of) (filter p es) (filter p fs)

-- a live slot and what it holds
pub record IsHeld (s : Slots) (k : ℕ) : Type 0 where
  pub rec : MethodRec
  pub held : slice_get s.methods k ≡ Some rec
  pub live : live_at s.methods s.method_order k ≡ Some rec

held : (s : Slots) → IsOrderly s → (k : ℕ) → Contains s.method_order k → IsHeld s k
held s orderly k there =
    let t = number-tested k s.method_order there in
    elim (slice_get_cases s.methods k).1 [
      | inl g ↦ record { rec = g.0; held = g.2; live = rw t g.2 }
      | inr g ↦ absurd (omega (arith, g.0, orderly.method_order.below k t))
    ]

module _ (s : Slots) (x : Known) (n : ℕ) (what : Sought) (are : AreUsesOf s x.uses) where
  -- those in methods
  methods-found : (r : ImagePlace → EntryOf ℕ → List Use)
      → ((p : ImagePlace) (m : MethodRec) → map (at_place p) (paths n what (method_uses s.names (method_of m.tree))) ≡ r p (entry_of s.classes m))
      → (ks : List ℕ) → ((k : ℕ) → Contains ks k → IsHeld s k) → (j : ℕ)
      → map use_of (flat_map (λ e. found_in_row n what (owner.Method e.0) (used_of x.uses (place.Method e.1))) (enumerate_from j ks))
      ≡ flat_map (λ e. r (in_method e.0) e.1) (enumerate_from j (map (entry_of s.classes) (filter_map (slice_get s.methods) ks)))
  methods-found r each [] all j = refl
  methods-found r each (k ∷ ks) all j =
      let is = all k (Contains-first k k ks refl) in
      ap (map use_of) (flat_map-cons (λ e. found_in_row n what (owner.Method e.0) (used_of x.uses (place.Method e.1))) (j, k) (enumerate_from (j + 1) ks))
      ∙ map-append use_of (found_in_row n what (owner.Method j) (used_of x.uses (place.Method k))) (flat_map (λ e. found_in_row n what (owner.Method e.0) (used_of x.uses (place.Method e.1))) (enumerate_from (j + 1) ks))
      ∙ ap (λ zs. map use_of (found_in_row n what (owner.Method j) (used_of x.uses (place.Method k))) ++ zs) (methods-found r each ks (λ i c. all i (Contains-later k i ks c)) (j + 1))
      ∙ ap (λ zs. zs ++ flat_map (λ e. r (in_method e.0) e.1) (enumerate_from (j + 1) (map (entry_of s.classes) (filter_map (slice_get s.methods) ks)))) (here is)
      ∙ sym (flat_map-cons (λ e. r (in_method e.0) e.1) (j, entry_of s.classes is.rec) (enumerate_from (j + 1) (map (entry_of s.classes) (filter_map (slice_get s.methods) ks))))
      ∙ ap (λ (o : Option MethodRec). flat_map (λ e. r (in_method e.0) e.1) (enumerate_from j (map (entry_of s.classes) (cons_option o (filter_map (slice_get s.methods) ks))))) (sym is.held)
    where
      here : (is : IsHeld s k) → map use_of (found_in_row n what (owner.Method j) (used_of x.uses (place.Method k))) ≡ r (in_method j) (entry_of s.classes is.rec)
      here is =
          row-uses n what (owner.Method j) (used_of x.uses (place.Method k))
          ∙ ap (λ row. map (at_place (in_method j)) (paths n what row)) (are (place.Method k) ∙ ap (λ (o : Option MethodRec). option_map_or (λ (m : MethodRec). method_uses s.names (method_of m.tree)) o []) is.live)
          ∙ each (in_method j) is.rec

  -- those in do-its
  doits-found : (r : ImagePlace → DoItOf ℕ → List Use)
      → ((p : ImagePlace) (d : DoIt) → map (at_place p) (paths n what (doit_uses s.names (sequence_of d.body))) ≡ r p (doit_of d))
      → (ds : List DoIt) (j : ℕ) → ((i : ℕ) → i < length ds → slice_get s.doits (j + i) ≡ slice_get ds i)
      → map use_of (flat_map (λ k. found_in_row n what (owner.DoIt k) (used_of x.uses (place.DoIt k))) (range_with_len j (length ds)))
      ≡ flat_map (λ e. r (in_doit e.0) e.1) (enumerate_from j (map doit_of ds))
  doits-found r each [] j all = refl
  doits-found r each (d ∷ ds) j all =
      ap (map use_of) (flat_map-cons (λ k. found_in_row n what (owner.DoIt k) (used_of x.uses (place.DoIt k))) j (range_with_len (j + 1) (length ds)))
      ∙ map-append use_of (found_in_row n what (owner.DoIt j) (used_of x.uses (place.DoIt j))) (flat_map (λ k. found_in_row n what (owner.DoIt k) (used_of x.uses (place.DoIt k))) (range_with_len (j + 1) (length ds)))
      ∙ ap (λ zs. map use_of (found_in_row n what (owner.DoIt j) (used_of x.uses (place.DoIt j))) ++ zs) (doits-found r each ds (j + 1) further)
      ∙ ap (λ zs. zs ++ flat_map (λ e. r (in_doit e.0) e.1) (enumerate_from (j + 1) (map doit_of ds))) here
      ∙ sym (flat_map-cons (λ e. r (in_doit e.0) e.1) (j, doit_of d) (enumerate_from (j + 1) (map doit_of ds)))
    where
      first : slice_get s.doits j ≡ Some d
      first = ap (slice_get s.doits) (omega arith) ∙ all 0 (omega arith)

      further : (i : ℕ) → i < length ds → slice_get s.doits (j + 1 + i) ≡ slice_get ds i
      further i h = ap (slice_get s.doits) (omega arith) ∙ all (suc i) (omega (arith, h))

      here : map use_of (found_in_row n what (owner.DoIt j) (used_of x.uses (place.DoIt j))) ≡ r (in_doit j) (doit_of d)
      here =
          row-uses n what (owner.DoIt j) (used_of x.uses (place.DoIt j))
          ∙ ap (λ row. map (at_place (in_doit j)) (paths n what row)) (are (place.DoIt j) ∙ ap (λ (o : Option DoIt). option_map_or (λ (e : DoIt). doit_uses s.names (sequence_of e.body)) o []) first)
          ∙ each (in_doit j) d

  -- all of them
  pub all-found : IsOrderly s → (r : ImagePlace → EntryOf ℕ → List Use) → ((p : ImagePlace) (m : MethodRec) → map (at_place p) (paths n what (method_uses s.names (method_of m.tree))) ≡ r p (entry_of s.classes m))
      → (q : ImagePlace → DoItOf ℕ → List Use) → ((p : ImagePlace) (d : DoIt) → map (at_place p) (paths n what (doit_uses s.names (sequence_of d.body))) ≡ q p (doit_of d))
      → map use_of (found_in_methods x n what s.method_order ++ found_in_doits x n what (length s.doits))
      ≡ flat_map (λ e. r (in_method e.0) e.1) (enumerate_from 0 (number_image s).methods) ++ flat_map (λ e. q (in_doit e.0) e.1) (enumerate_from 0 (number_image s).doits)
  all-found orderly r in-methods q in-doits =
      map-append use_of (found_in_methods x n what s.method_order) (found_in_doits x n what (length s.doits))
      ∙ ap (λ zs. zs ++ map use_of (found_in_doits x n what (length s.doits))) (methods-found r in-methods s.method_order (held s orderly) 0)
      ∙ ap (λ zs. flat_map (λ e. r (in_method e.0) e.1) (enumerate_from 0 (number_image s).methods) ++ zs)
      (doits-found q in-doits s.doits 0 (λ i h. ap (slice_get s.doits) (omega arith)))

-- who sends a selector
pub senders-found : (s : Slots) (x : Known) (n : ℕ) → IsOrderly s → IsUseIndexOf s x
    → map use_of (found_in_methods x n sought.Sent s.method_order ++ found_in_doits x n sought.Sent (length s.doits)) ≡ senders (number_words s.names) (number_image s) n
senders-found s x n orderly is =
    all-found s x n sought.Sent is.uses orderly
    (λ place e. places (filter (λ (d : NodeOf ℕ). is_sender nat_eq n d.tree) (nodes_of place e.tree.body))) (λ place m. method-sent n s.names place (method_of m.tree))
    (λ place d. places (filter (λ (e : NodeOf ℕ). is_sender nat_eq n e.tree) (nodes_of place d.body))) (λ place d. doit-sent n s.names place (sequence_of d.body))
    ∙ sym (
    places-both (λ (e : NodeOf ℕ). is_sender nat_eq n e.tree) (flat_map (λ e. nodes_of (in_method e.0) e.1.tree.body) (enumerate_from 0 (number_image s).methods)) (flat_map (λ e. nodes_of (in_doit e.0) e.1.body) (enumerate_from 0 (number_image s).doits))
    ∙ ap (λ zs. zs ++ places (filter (λ (e : NodeOf ℕ). is_sender nat_eq n e.tree) (flat_map (λ e. nodes_of (in_doit e.0) e.1.body) (enumerate_from 0 (number_image s).doits))))
    (places-flat (λ (e : NodeOf ℕ). is_sender nat_eq n e.tree) (λ e. nodes_of (in_method e.0) e.1.tree.body) (enumerate_from 0 (number_image s).methods))
    ∙ ap (λ zs. flat_map (λ e. places (filter (λ (d : NodeOf ℕ). is_sender nat_eq n d.tree) (nodes_of (in_method e.0) e.1.tree.body))) (enumerate_from 0 (number_image s).methods) ++ zs)
    (places-flat (λ (e : NodeOf ℕ). is_sender nat_eq n e.tree) (λ e. nodes_of (in_doit e.0) e.1.body) (enumerate_from 0 (number_image s).doits)))

-- what names or declares a name
pub identifiers-found : (s : Slots) (x : Known) (n : ℕ) → IsOrderly s → IsUseIndexOf s x
    → map use_of (found_in_methods x n sought.Named s.method_order ++ found_in_doits x n sought.Named (length s.doits)) ≡ identifier_uses (number_words s.names) (number_image s) n
identifiers-found s x n orderly is =
    all-found s x n sought.Named is.uses orderly
    (λ place e. identifier_uses_in nat_eq n place (e.tree.arguments ++ e.tree.body.temporaries) e.tree.body) (λ place m. method-named n s.names place (method_of m.tree))
    (λ place d. identifier_uses_in nat_eq n place d.body.temporaries d.body) (λ place d. doit-named n s.names place (sequence_of d.body))
