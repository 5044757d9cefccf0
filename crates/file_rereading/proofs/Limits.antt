-- No file-out makes more classes and methods than there may be, nor counts more do-its than there are.
use Rattle.std.proofs.Common.{◌≡◌, ◌⊎◌, inl, inr, ℕ, zero, suc, ◌+◌, ◌<◌, ◌≤◌, Bool, true, false, not, cond, List, [], ◌∷◌, ◌++◌, length, map, find, filter, Option, Some, None, Ok, refl, ap, sym, subst, ◌∙◌, arith, true≢false}
use Rattle.std.specs.Prelude.{◌-◌, slice_set, ◌&&◌, if◌then◌else◌, nat_le}
use Rattle.std.specs.Option.{option_map_or}
use Rattle.std.proofs.lemmas.Bool.Decides.{leb_tells}
use Rattle.std.proofs.lemmas.List.Sums.{length-filter, count_by-le-length}
use Rattle.rb_base.specs.Names.{text_eq}
use Rattle.token_model.specs.declared.kind.Dialect.{Dialect}
use Rattle.tree_model.specs.Tree.{MethodOf}
use Rattle.image_model.specs.Image.{ClassOf, EntryOf, DoItOf, ImageOf, plus}
use Rattle.image_model.specs.Lookup.{is_method}
use Rattle.image_model.proofs.Ends.{length-end}
use Rattle.image_model.proofs.Lists.{length-map}
use Rattle.file_model.specs.Changes.{DefinitionOf, ChangeOf, Define, DefineAt, Comment, SetClassSide, RemoveMethod, RemoveClass, RunOf}
use Rattle.file_model.specs.Hierarchy.{has_class, can_follow, without_first, settle_behind, settled}
use Rattle.file_model.specs.Refusals.{has_method, is_one_class_too_many, is_one_method_too_many, definition_refusals, comment_refusals, class_side_refusals, removal_refusals, class_removal_refusals, method_refusals}
use Rattle.file_model.specs.Applied.{new_class, class_again, changed_class, with_definition, defined, with_class_side, with_comment, is_of_class, without_class, without_method, changed, entry_in, with_method, method_added}
use Rattle.file_model.specs.Filing.{Text}
use Rattle.file_model.specs.Reading.{IsKernelOf, IsImageOf}
use Rattle.file_rereading.specs.Rereading.{IsWithinLimits}
use Rattle.file_model.specs.Filing.{with_replaced}
use Rattle.file_model.specs.Numerals.{place_in}
use Rattle.file_model.specs.Places.{PlacesOf, put_again_behind, class_place, method_place, placed}
use Rattle.file_laws.proofs.PutAgain.{put_again_behind_same}
use Rattle.file_laws.proofs.Refused.{allowed}
use Rattle.file_laws.proofs.Taking.{IsKeptByChunks, kept_kernel, kept_image}
use Rattle.std.proofs.lemmas.List.{length-set}
use Rattle.std.proofs.lemmas.List.Sorted.{length_permutation}

-- a list without the first item that passes, where there is one
size_without : {X : Type 0} (p : X → Bool) (xs : List X) (x : X) → find p xs ≡ Some x → length (without_first p xs) + 1 ≡ length xs
size_without p [] x e = absurd (cc)
size_without p (z ∷ zs) x e = by (p z) e (size_without p zs x)
  where
    by : (b : Bool) → cond b (Some z) (find p zs) ≡ Some x → (find p zs ≡ Some x → length (without_first p zs) + 1 ≡ length zs) → length (if b then zs else z ∷ without_first p zs) + 1 ≡ length (z ∷ zs)
    by true h rest = omega arith
    by false h rest = omega (arith, rest h)

-- classes in order are no more than they were
size_settled : (k : ℕ) (taken left : List (ClassOf Text)) → length (settle_behind text_eq k taken left) ≤ length taken + length left
size_settled zero taken left = omega arith
size_settled (suc k) taken left = by (find (can_follow text_eq taken) left) refl (λ c. size_settled k (taken ++ c ∷ []) (without_first (can_follow text_eq taken) left))
  where
    by : (o : Option (ClassOf Text)) → find (can_follow text_eq taken) left ≡ o
        → ((c : ClassOf Text) → length (settle_behind text_eq k (taken ++ c ∷ []) (without_first (can_follow text_eq taken) left)) ≤ length (taken ++ c ∷ []) + length (without_first (can_follow text_eq taken) left))
        → length (option_map_or (λ c. settle_behind text_eq k (taken ++ c ∷ []) (without_first (can_follow text_eq taken) left)) o taken) ≤ length taken + length left
    by None e rest = omega arith
    by (Some c) e rest = omega (arith, rest c, length-end taken c, size_without (can_follow text_eq taken) left c e)

-- one more than there are is no more than there may be, where that is not refused
one_more : (limit size : ℕ) (is : Bool) → is ≡ false → (not is && nat_le limit size) ≡ false → size < limit
one_more limit size true e h = absurd (true≢false e)
one_more limit size false e h = by (leb_tells limit size)
  where
    by : ((nat_le limit size ≡ true) × (limit ≤ size)) ⊎ ((nat_le limit size ≡ false) × (size < limit)) → size < limit
    by (inl most) = absurd (true≢false (sym most.0 ∙ h))
    by (inr less) = less.1

-- a part of a list is no longer than the list
size_filter : {X : Type 0} (p : X → Bool) (xs : List X) → length (filter p xs) ≤ length xs
size_filter p xs = omega (arith, length-filter p xs, count_by-le-length p xs)

-- classes one of which is changed
size_changed : (n : Text) (f : ClassOf Text → ClassOf Text) (cs : List (ClassOf Text)) → length (changed_class text_eq n f cs) ≡ length cs
size_changed n f cs = length-map (λ (c : ClassOf Text). if text_eq n c.name then f c else c) cs

-- classes one of which is defined, with a place or in order
size_with : (kernel : Bool) (d : DefinitionOf Text) (cs : List (ClassOf Text)) → length cs ≤ 10000 → is_one_class_too_many text_eq cs d.name ≡ false → length (with_definition text_eq kernel d cs) ≤ 10000
size_with kernel d cs few h = by (has_class text_eq cs d.name) refl
  where
    by : (b : Bool) → has_class text_eq cs d.name ≡ b → length (if b then changed_class text_eq d.name (class_again d) cs else cs ++ new_class kernel d ∷ []) ≤ 10000
    by true e = omega (arith, size_changed d.name (class_again d) cs, few)
    by false e = let less : length cs < 10000 = one_more 10000 (length cs) (has_class text_eq cs d.name) e h in omega (arith, length-end cs (new_class kernel d), less)

size_defined : (kernel : Bool) (d : DefinitionOf Text) (cs : List (ClassOf Text)) → length cs ≤ 10000 → is_one_class_too_many text_eq cs d.name ≡ false → length (defined text_eq kernel d cs) ≤ 10000
size_defined kernel d cs few h = by (has_class text_eq cs d.name)
  where
    put : List (ClassOf Text)
    put = with_definition text_eq kernel d cs

    with_it : length (with_definition text_eq kernel d cs) ≤ 10000
    with_it = size_with kernel d cs few h

    by : (b : Bool) → length (if b then settled text_eq (with_definition text_eq kernel d cs) else with_definition text_eq kernel d cs) ≤ 10000
    by true = omega (arith, size_settled (length put) [] put, with_it)
    by false = with_it

-- methods one of which is put in
size_with_method : (kernel : Bool) (r : RunOf Text) (source : Text) (m : MethodOf Text) (ms : List (EntryOf Text)) → length ms ≤ 200000 → is_one_method_too_many text_eq ms r.class r.meta m.selector ≡ false → length (with_method text_eq kernel r source m ms) ≤ 200000
size_with_method kernel r source m ms few h = by (has_method text_eq ms r.class r.meta m.selector) refl
  where
    by : (b : Bool) → has_method text_eq ms r.class r.meta m.selector ≡ b → length (if b then map (λ e. if is_method text_eq r.class r.meta m.selector e then entry_in kernel r source m else e) ms else ms ++ entry_in kernel r source m ∷ []) ≤ 200000
    by true e = omega (arith, length-map (λ (e : EntryOf Text). if is_method text_eq r.class r.meta m.selector e then entry_in kernel r source m else e) ms, few)
    by false e = let less : length ms < 200000 = one_more 200000 (length ms) (has_method text_eq ms r.class r.meta m.selector) e h in omega (arith, length-end ms (entry_in kernel r source m), less)

-- a change keeps the limits
limits_changed : (kernel : Bool) (c : ChangeOf Text) (i j : ImageOf Text) → changed text_eq kernel c i ≡ Ok j → IsWithinLimits i → IsWithinLimits j
limits_changed kernel (Define d) i j e h =
    let a = allowed (definition_refusals text_eq i.classes d (with_definition text_eq kernel d i.classes)) (record i { classes = defined text_eq kernel d i.classes }) j e in
    subst IsWithinLimits a.same (record { classes = size_defined kernel d i.classes h.classes a.none.1.1.1.1.0; methods = h.methods })
limits_changed kernel (DefineAt d k) i j e h =
    let a = allowed (definition_refusals text_eq i.classes d (with_definition text_eq kernel d i.classes)) (record i { classes = with_definition text_eq kernel d i.classes }) j e in
    subst IsWithinLimits a.same (record { classes = size_with kernel d i.classes h.classes a.none.1.1.1.1.0; methods = h.methods })
limits_changed kernel (Comment n t) i j e h =
    let a = allowed (comment_refusals text_eq i.classes n) (record i { classes = with_comment text_eq n t i.classes }) j e in
    let few : length i.classes ≤ 10000 = h.classes in
    subst IsWithinLimits a.same (record { classes = omega (arith, size_changed n (λ (c : ClassOf Text). record c { comment = t }) i.classes, few); methods = h.methods })
limits_changed kernel (SetClassSide n names) i j e h =
    let a = allowed (class_side_refusals text_eq i.classes n names (with_class_side text_eq n names i.classes)) (record i { classes = with_class_side text_eq n names i.classes }) j e in
    let few : length i.classes ≤ 10000 = h.classes in
    subst IsWithinLimits a.same (record { classes = omega (arith, size_changed n (λ (c : ClassOf Text). record c { class_side = names }) i.classes, few); methods = h.methods })
limits_changed kernel (RemoveMethod c meta s) i j e h =
    let a = allowed (removal_refusals text_eq i c meta s) (without_method text_eq c meta s i) j e in
    let few : length i.methods ≤ 200000 = h.methods in
    subst IsWithinLimits a.same (record { classes = h.classes; methods = omega (arith, size_filter (λ (m : EntryOf Text). not (is_method text_eq c meta s m)) i.methods, few) })
limits_changed kernel (RemoveClass n) i j e h =
    let a = allowed (class_removal_refusals text_eq i.classes n) (without_class text_eq n i) j e in
    let few : length i.classes ≤ 10000 = h.classes in
    let fewer : length i.methods ≤ 200000 = h.methods in
    subst IsWithinLimits a.same (record {
      classes = omega (arith, size_filter (λ (c : ClassOf Text). not (text_eq n c.name)) i.classes, few);
      methods = omega (arith, size_filter (λ (m : EntryOf Text). not (is_of_class text_eq n m)) i.methods, fewer);
    })

-- so does a method that is put in
limits_added : (kernel : Bool) (r : RunOf Text) (source : Text) (m : MethodOf Text) (i j : ImageOf Text) → method_added text_eq kernel r source m i ≡ Ok j → IsWithinLimits i → IsWithinLimits j
limits_added kernel r source m i j e h =
    let a = allowed (method_refusals text_eq i.methods r m.selector) (record i { methods = with_method text_eq kernel r source m i.methods }) j e in
    subst IsWithinLimits a.same (record { classes = h.classes; methods = size_with_method kernel r source m i.methods h.methods a.none.1.0 })

-- so do methods and classes that go to the places that are stated for them
limits_placed : (i : ImageOf Text) (stated : PlacesOf Text) → IsWithinLimits i → IsWithinLimits (placed text_eq stated i)
limits_placed i stated h =
    let put = put_again_behind (λ (c : ClassOf Text). c.kernel) (class_place text_eq stated.classes) i.classes in
    let moved : length put ≡ length i.classes = length_permutation i.classes put (put_again_behind_same (λ (c : ClassOf Text). c.kernel) (class_place text_eq stated.classes) i.classes) in
    let methods = put_again_behind (λ (m : EntryOf Text). m.kernel) (method_place text_eq stated.methods) i.methods in
    let moved_too : length methods ≡ length i.methods = length_permutation i.methods methods (put_again_behind_same (λ (m : EntryOf Text). m.kernel) (method_place text_eq stated.methods) i.methods) in
    let few : length i.classes ≤ 10000 = h.classes in
    let fewer : length i.methods ≤ 200000 = h.methods in
    record { classes = omega (arith, size_settled (length put) [] put, moved, few); methods = omega (arith, moved_too, fewer) }

limits_keep : (d : Dialect) (kernel : Bool) → IsKeptByChunks d kernel IsWithinLimits
limits_keep d kernel = record {
  changes = λ b c i j says e h. limits_changed kernel c i j e h;
  adds = λ r source m i j spells stands there e h. limits_added kernel r source m i j e h;
  counts = λ i x at_head chunk h. record { classes = h.classes; methods = h.methods };
  replaces = λ i numeral x chunk h. record { classes = h.classes; methods = h.methods };
  places = limits_placed;
}

-- the image of a file-out
pub limits_image : (d : Dialect) (prelude text : Text) (i : ImageOf Text) → IsImageOf d prelude text i → IsWithinLimits i
limits_image d prelude text i r =
    kept_image d IsWithinLimits (limits_keep d false) prelude text i r
    (kept_kernel d IsWithinLimits (limits_keep d true) prelude r.kernel r.is_kernel (record { classes = omega arith; methods = omega arith }))

-- no more do-its are counted than there are
abbrev HasCounted : ImageOf Text → Type 0
HasCounted i = i.heads ≤ length i.doits

counted_changed : (kernel : Bool) (c : ChangeOf Text) (i j : ImageOf Text) → changed text_eq kernel c i ≡ Ok j → HasCounted i → HasCounted j
counted_changed kernel (Define d) i j e h = subst HasCounted (allowed (definition_refusals text_eq i.classes d (with_definition text_eq kernel d i.classes)) (record i { classes = defined text_eq kernel d i.classes }) j e).same h
counted_changed kernel (DefineAt d k) i j e h = subst HasCounted (allowed (definition_refusals text_eq i.classes d (with_definition text_eq kernel d i.classes)) (record i { classes = with_definition text_eq kernel d i.classes }) j e).same h
counted_changed kernel (Comment n t) i j e h = subst HasCounted (allowed (comment_refusals text_eq i.classes n) (record i { classes = with_comment text_eq n t i.classes }) j e).same h
counted_changed kernel (SetClassSide n names) i j e h = subst HasCounted (allowed (class_side_refusals text_eq i.classes n names (with_class_side text_eq n names i.classes)) (record i { classes = with_class_side text_eq n names i.classes }) j e).same h
counted_changed kernel (RemoveMethod c meta s) i j e h = subst HasCounted (allowed (removal_refusals text_eq i c meta s) (without_method text_eq c meta s i) j e).same h
counted_changed kernel (RemoveClass n) i j e h = subst HasCounted (allowed (class_removal_refusals text_eq i.classes n) (without_class text_eq n i) j e).same h

counted_added : (kernel : Bool) (r : RunOf Text) (source : Text) (m : MethodOf Text) (i j : ImageOf Text) → method_added text_eq kernel r source m i ≡ Ok j → HasCounted i → HasCounted j
counted_added kernel r source m i j e h = subst HasCounted (allowed (method_refusals text_eq i.methods r m.selector) (record i { methods = with_method text_eq kernel r source m i.methods }) j e).same h

counted_doit : (i : ImageOf Text) (x : DoItOf Text) (at_head : Bool) → HasCounted i → HasCounted (record (plus i x) { heads = if at_head then i.heads + 1 else i.heads })
counted_doit i x true h = omega (arith, h, length-end i.doits x)
counted_doit i x false h = omega (arith, h, length-end i.doits x)

counted_replaced : (i : ImageOf Text) (numeral : Text) (x : DoItOf Text) → HasCounted i → HasCounted (with_replaced i numeral x)
counted_replaced i numeral x h = by (place_in numeral)
  where
    by : (o : Option ℕ) → i.heads ≤ length (option_map_or (λ k. slice_set i.doits (k - 1) x) o i.doits)
    by None = h
    by (Some k) = omega (arith, h, length-set i.doits (k - 1) x)

counted_keeps : (d : Dialect) (kernel : Bool) → IsKeptByChunks d kernel HasCounted
counted_keeps d kernel = record {
  changes = λ b c i j says e h. counted_changed kernel c i j e h;
  adds = λ r source m i j spells stands there e h. counted_added kernel r source m i j e h;
  counts = λ i x at_head chunk h. counted_doit i x at_head h;
  replaces = λ i numeral x chunk h. counted_replaced i numeral x h;
  places = λ i stated h. h;
}

-- a kernel without do-its counts none
pub kernel_counted : (d : Dialect) (prelude : Text) (kernel : ImageOf Text) → IsKernelOf d prelude kernel → kernel.doits ≡ [] → kernel.heads ≡ 0
kernel_counted d prelude kernel k none =
    let all : kernel.heads ≤ length kernel.doits = kept_kernel d HasCounted (counted_keeps d true) prelude kernel k (omega arith) in
    let size : length kernel.doits ≡ 0 = ap (λ (ds : List (DoItOf Text)). length ds) none in
    omega (arith, all, size)
