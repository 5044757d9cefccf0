-- No class of a file-out has two methods of one side and one selector.
use Rattle.std.proofs.Common.{◌≡◌, ◌⊎◌, inl, inr, ℕ, zero, suc, Bool, true, false, not, cond, List, [], ◌∷◌, ◌++◌, map, filter, find, Option, Some, None, Ok, slice_get, refl, sym, ap, subst, ◌∙◌, true≢false, arith}
use Rattle.std.specs.Prelude.{◌&&◌, if◌then◌else◌, is_some}
use Rattle.std.specs.Bool.{beq}
use Rattle.std.specs.Option.{option_map_or}
use Rattle.file_model.specs.Places.{PlacesOf, method_place, placed}
use Rattle.file_laws.proofs.Reordered.{no_repeat_map_reordered}
use Rattle.file_laws.proofs.PutAgain.{put_again_behind_same}
use Rattle.file_laws.proofs.Taking.{IsKeptByChunks, kept_image}
use Rattle.rb_base.specs.Names.{text_eq}
use Rattle.rb_base.proofs.NamesLemmas.{text_eq-refl}
use Rattle.token_model.specs.declared.kind.Dialect.{Dialect}
use Rattle.tree_model.specs.Tree.{MethodOf}
use Rattle.image_model.specs.Image.{EntryOf, ImageOf}
use Rattle.image_model.specs.Lookup.{is_method}
use Rattle.image_model.specs.Valid.{HasNoRepeat, signature}
use Rattle.file_model.specs.Changes.{ChangeOf, Define, DefineAt, Comment, SetClassSide, RemoveMethod, RemoveClass, RunOf}
use Rattle.file_model.specs.Refusals.{has_method, definition_refusals, comment_refusals, class_side_refusals, removal_refusals, class_removal_refusals, method_refusals}
use Rattle.file_model.specs.Applied.{is_of_class, with_definition, with_comment, with_class_side, defined, without_class, without_method, changed, entry_in, with_method, method_added}
use Rattle.file_model.specs.Filing.{Text}
use Rattle.file_model.specs.Reading.{IsKernelOf, IsImageOf}
use Rattle.file_model.proofs.OneImage.{one_kernel}
use Rattle.file_laws.proofs.Refused.{unless_ok}
use Rattle.file_laws.proofs.Moves.{text_equal}

-- nothing stands twice, by recursion
abbrev pub Differ : {Y : Type 0} → List Y → Type 0
Differ [] = Unit {0}
Differ (y ∷ ys) = ((j : ℕ) → slice_get ys j ≡ Some y → ⊥) × Differ ys

pub differ_of : {Y : Type 0} (ys : List Y) → HasNoRepeat ys → Differ ys
differ_of [] h = tt
differ_of (y ∷ ys) h = (
  (λ j e. let twice : 0 ≡ suc j = h 0 (suc j) y refl e in omega (arith, twice)),
  differ_of ys (λ j k x a b. let same : suc j ≡ suc k = h (suc j) (suc k) x a b in omega (arith, same)),
)

pub no_repeat_of : {Y : Type 0} (ys : List Y) → Differ ys → HasNoRepeat ys
no_repeat_of [] d j k x a b = absurd (cc)
no_repeat_of (y ∷ ys) d zero zero x a b = refl
no_repeat_of (y ∷ ys) d zero (suc k) x a b = let same : y ≡ x = cc in absurd (d.0 k (b ∙ ap Some (sym same)))
no_repeat_of (y ∷ ys) d (suc j) zero x a b = let same : y ≡ x = cc in absurd (d.0 j (a ∙ ap Some (sym same)))
no_repeat_of (y ∷ ys) d (suc j) (suc k) x a b = ap suc (no_repeat_of ys d.1 j k x a b)

-- what stands among those that pass stands among all
stands_among : {X Y : Type 0} (f : X → Y) (p : X → Bool) (xs : List X) (y : Y) (j : ℕ) → slice_get (map f (filter p xs)) j ≡ Some y → (k : ℕ) × (slice_get (map f xs) k ≡ Some y)
stands_among f p [] y j e = absurd (cc)
stands_among f p (x ∷ xs) y j e = by (p x) j e (λ i h. stands_among f p xs y i h)
  where
    by : (b : Bool) (i : ℕ) → slice_get (map f (cond b (x ∷ filter p xs) (filter p xs))) i ≡ Some y → ((n : ℕ) → slice_get (map f (filter p xs)) n ≡ Some y → (k : ℕ) × (slice_get (map f xs) k ≡ Some y))
        → (k : ℕ) × (slice_get (map f (x ∷ xs)) k ≡ Some y)
    by true zero h rest = (0, h)
    by true (suc i) h rest = let r = rest i h in (suc r.0, r.1)
    by false i h rest = let r = rest i h in (suc r.0, r.1)

differ_filter : {X Y : Type 0} (f : X → Y) (p : X → Bool) (xs : List X) → Differ (map f xs) → Differ (map f (filter p xs))
differ_filter f p [] d = tt
differ_filter f p (x ∷ xs) d = by (p x) (differ_filter f p xs d.1)
  where
    by : (b : Bool) → Differ (map f (filter p xs)) → Differ (map f (cond b (x ∷ filter p xs) (filter p xs)))
    by true rest = ((λ j e. let r = stands_among f p xs (f x) j e in d.0 r.0 r.1), rest)
    by false rest = rest

-- one more at the end
end_or_before : {Y : Type 0} (xs : List Y) (y z : Y) (j : ℕ) → slice_get (xs ++ y ∷ []) j ≡ Some z → (slice_get xs j ≡ Some z) ⊎ (y ≡ z)
end_or_before [] y z zero e = inr cc
end_or_before [] y z (suc j) e = absurd (cc)
end_or_before (x ∷ xs) y z zero e = inl e
end_or_before (x ∷ xs) y z (suc j) e = end_or_before xs y z j e

differ_last : {X Y : Type 0} (f : X → Y) (xs : List X) (x : X) → Differ (map f xs) → ((j : ℕ) → slice_get (map f xs) j ≡ Some (f x) → ⊥) → Differ (map f (xs ++ x ∷ []))
differ_last f [] x d new = ((λ j e. cc), tt)
differ_last {X} {Y} f (z ∷ zs) x d new = ((λ j e. by j (end_or_before (map f zs) (f x) (f z) j (subst (λ (ys : List Y). slice_get ys j ≡ Some (f z)) (behind zs) e))), differ_last f zs x d.1 (λ j e. new (suc j) e))
  where
    behind : (ys : List X) → map f (ys ++ x ∷ []) ≡ map f ys ++ f x ∷ []
    behind [] = refl
    behind (y ∷ ys) = ap (λ t. f y ∷ t) (behind ys)

    by : (j : ℕ) → (slice_get (map f zs) j ≡ Some (f z)) ⊎ (f x ≡ f z) → ⊥
    by j (inl e) = d.0 j e
    by j (inr e) = new 0 (ap Some (sym e))

-- a method of a class, a side and a selector has this signature
pub beq_equal : (a b : Bool) → beq a b ≡ true → a ≡ b
beq_equal true true h = refl
beq_equal true false h = absurd (true≢false (sym h))
beq_equal false true h = absurd (true≢false (sym h))
beq_equal false false h = refl

beq_same : (a : Bool) → beq a a ≡ true
beq_same true = refl
beq_same false = refl

and_parts : (a b : Bool) → (a && b) ≡ true → (a ≡ true) × (b ≡ true)
and_parts true b h = (refl, h)
and_parts false b h = absurd (true≢false (sym h))

is_its : (c : Text) (meta : Bool) (s : Text) (m : EntryOf Text) → signature m ≡ (Some c, meta, s) → is_method text_eq c meta s m ≡ true
is_its c meta s m e =
    let class : m.class ≡ Some c = ap (λ (t : Option Text × Bool × Text). t.0) e in
    let side : m.meta ≡ meta = ap (λ (t : Option Text × Bool × Text). t.1) e in
    let selector : m.tree.selector ≡ s = ap (λ (t : Option Text × Bool × Text). t.2) e in
    ap (λ o. option_map_or (text_eq c) o false && beq meta m.meta && text_eq s m.tree.selector) class
    ∙ ap (λ b. b && beq meta m.meta && text_eq s m.tree.selector) (text_eq-refl c)
    ∙ ap (λ b. beq meta b && text_eq s m.tree.selector) side
    ∙ ap (λ b. b && text_eq s m.tree.selector) (beq_same meta)
    ∙ ap (text_eq s) selector ∙ text_eq-refl s

pub its_signature : (c : Text) (meta : Bool) (s : Text) (m : EntryOf Text) → is_method text_eq c meta s m ≡ true → (Some c, meta, s) ≡ signature m
its_signature c meta s m h =
    let parts = and_parts (option_map_or (text_eq c) m.class false && beq meta m.meta) (text_eq s m.tree.selector) h in
    let first = and_parts (option_map_or (text_eq c) m.class false) (beq meta m.meta) parts.0 in
    by m.class first.0 (beq_equal meta m.meta first.1) (text_equal s m.tree.selector parts.1)
  where
    by : (o : Option Text) → option_map_or (text_eq c) o false ≡ true → meta ≡ m.meta → s ≡ m.tree.selector → ◌≡◌ {A = Option Text × Bool × Text} (Some c, meta, s) (o, m.meta, m.tree.selector)
    by None k side selector = absurd (true≢false (sym k))
    by (Some d) k side selector = λ i. (Some (text_equal c d k i), side i, selector i)

-- a method that is not there has its signature at no place
absent : (ms : List (EntryOf Text)) (c : Text) (meta : Bool) (s : Text) → has_method text_eq ms c meta s ≡ false → (j : ℕ) → slice_get (map signature ms) j ≡ Some (Some c, meta, s) → ⊥
absent [] c meta s h j e = cc
absent (m ∷ ms) c meta s h j e = by (is_method text_eq c meta s m) refl h j e (λ k. absent ms c meta s k)
  where
    by : (b : Bool) → is_method text_eq c meta s m ≡ b → is_some (cond b (Some m) (find (is_method text_eq c meta s) ms)) ≡ false → (i : ℕ) → slice_get (map signature (m ∷ ms)) i ≡ Some (Some c, meta, s)
        → (has_method text_eq ms c meta s ≡ false → (n : ℕ) → slice_get (map signature ms) n ≡ Some (Some c, meta, s) → ⊥) → ⊥
    by true q g i f rest = true≢false g
    by false q g zero f rest = let same : signature m ≡ (Some c, meta, s) = cc in true≢false (sym (is_its c meta s m same) ∙ q)
    by false q g (suc i) f rest = rest g i f

-- methods that are replaced keep their signatures
same_signatures : (r : RunOf Text) (source : Text) (m : MethodOf Text) (ms : List (EntryOf Text)) → map signature (map (λ e. if is_method text_eq r.class r.meta m.selector e then entry_in false r source m else e) ms) ≡ map signature ms
same_signatures r source m [] = refl
same_signatures r source m (e ∷ es) = by (is_method text_eq r.class r.meta m.selector e) refl (same_signatures r source m es)
  where
    by : (b : Bool) → is_method text_eq r.class r.meta m.selector e ≡ b → map signature (map (λ x. if is_method text_eq r.class r.meta m.selector x then entry_in false r source m else x) es) ≡ map signature es
        → signature (if b then entry_in false r source m else e) ∷ map signature (map (λ x. if is_method text_eq r.class r.meta m.selector x then entry_in false r source m else x) es) ≡ signature e ∷ map signature es
    by true q rest = λ i. its_signature r.class r.meta m.selector e q i ∷ rest i
    by false q rest = ap (λ t. signature e ∷ t) rest

-- no two methods have one signature
abbrev pub IsOnce : ImageOf Text → Type 0
IsOnce i = Differ (map signature i.methods)

pub once_changed : (c : ChangeOf Text) (i j : ImageOf Text) → changed text_eq false c i ≡ Ok j → IsOnce i → IsOnce j
once_changed (Define x) i j e h = subst IsOnce (unless_ok (definition_refusals text_eq i.classes x (with_definition text_eq false x i.classes)) (record i { classes = defined text_eq false x i.classes }) j e) h
once_changed (DefineAt x k) i j e h = subst IsOnce (unless_ok (definition_refusals text_eq i.classes x (with_definition text_eq false x i.classes)) (record i { classes = with_definition text_eq false x i.classes }) j e) h
once_changed (Comment n t) i j e h = subst IsOnce (unless_ok (comment_refusals text_eq i.classes n) (record i { classes = with_comment text_eq n t i.classes }) j e) h
once_changed (SetClassSide n ns) i j e h = subst IsOnce (unless_ok (class_side_refusals text_eq i.classes n ns (with_class_side text_eq n ns i.classes)) (record i { classes = with_class_side text_eq n ns i.classes }) j e) h
once_changed (RemoveMethod c meta s) i j e h = subst IsOnce (unless_ok (removal_refusals text_eq i c meta s) (without_method text_eq c meta s i) j e) (differ_filter signature (λ m. not (is_method text_eq c meta s m)) i.methods h)
once_changed (RemoveClass n) i j e h = subst IsOnce (unless_ok (class_removal_refusals text_eq i.classes n) (without_class text_eq n i) j e) (differ_filter signature (λ m. not (is_of_class text_eq n m)) i.methods h)

pub once_added : (r : RunOf Text) (source : Text) (m : MethodOf Text) (i j : ImageOf Text) → method_added text_eq false r source m i ≡ Ok j → IsOnce i → IsOnce j
once_added r source m i j e h =
    subst IsOnce (unless_ok (method_refusals text_eq i.methods r m.selector) (record i { methods = with_method text_eq false r source m i.methods }) j e) (by (has_method text_eq i.methods r.class r.meta m.selector) refl)
  where
    by : (b : Bool) → has_method text_eq i.methods r.class r.meta m.selector ≡ b
        → Differ (map signature (if b then map (λ x. if is_method text_eq r.class r.meta m.selector x then entry_in false r source m else x) i.methods else i.methods ++ entry_in false r source m ∷ []))
    by true q = subst Differ (sym (same_signatures r source m i.methods)) h
    by false q = differ_last signature i.methods (entry_in false r source m) h (absent i.methods r.class r.meta m.selector q)

-- methods and classes go to the places that are stated for them
pub once_placed : (i : ImageOf Text) (stated : PlacesOf Text) → IsOnce i → IsOnce (placed text_eq stated i)
once_placed i stated h =
    let new : List (EntryOf Text) = (placed text_eq stated i).methods in
    let moved = put_again_behind_same (λ (m : EntryOf Text). m.kernel) (method_place text_eq stated.methods) i.methods in
    differ_of (map signature new) (no_repeat_map_reordered signature i.methods new moved (no_repeat_of (map signature i.methods) h))

-- the methods of a file-out's image, where it is so of the kernel's
pub methods_once : (d : Dialect) (prelude text : Text) (kernel i : ImageOf Text) → IsKernelOf d prelude kernel → HasNoRepeat (map signature kernel.methods) → IsImageOf d prelude text i → HasNoRepeat (map signature i.methods)
methods_once d prelude text kernel i k h r =
    let same : kernel ≡ r.kernel = one_kernel d prelude kernel r.kernel k r.is_kernel in
    let keeps : IsKeptByChunks d false IsOnce = record {
      changes = λ b c i j says e once. once_changed c i j e once;
      adds = λ r source m i j spells stands there e once. once_added r source m i j e once;
      counts = λ i x at_head chunk once. once;
      replaces = λ i numeral x chunk once. once;
      places = once_placed;
    } in
    no_repeat_of (map signature i.methods) (kept_image d IsOnce keeps prelude text i r (subst IsOnce same (differ_of (map signature kernel.methods) h)))
