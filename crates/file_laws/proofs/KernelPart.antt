-- The classes and methods of the kernel stay where a user's chunk changes others.
use Rattle.std.proofs.Common.{◌≡◌, ◌⊎◌, inl, inr, ℕ, zero, suc, Bool, true, false, not, cond, List, [], ◌∷◌, ◌++◌, map, filter, find, Some, slice_get, Contains, refl, sym, ap, subst, ◌∙◌, true≢false}
use Rattle.std.specs.Prelude.{if◌then◌else◌}
use Rattle.std.specs.List.{AllByRecursion}
use Rattle.std.specs.Option.{option_map_or}
use Rattle.rb_base.specs.Names.{text_eq}
use Rattle.rb_base.proofs.NamesLemmas.{text_eq-refl}
use Rattle.tree_model.specs.Tree.{MethodOf}
use Rattle.image_model.specs.Image.{ClassOf, EntryOf}
use Rattle.image_model.specs.Chain.{class_named}
use Rattle.image_model.specs.Lookup.{is_method}
use Rattle.image_model.specs.Valid.{HasNoRepeat, HasClass, class_names, signature}
use Rattle.image_model.proofs.ChainLemmas.{slice_get-map}
use Rattle.image_model.proofs.Ends.{contains-place, filter-end}
use Rattle.file_model.specs.Applied.{is_of_class, entry_in, with_method}
use Rattle.file_model.specs.Changes.{RunOf}
use Rattle.file_model.specs.Filing.{Text}
use Rattle.file_model.specs.Hierarchy.{is_kernel_class}
use Rattle.file_model.specs.Refusals.{has_method, is_kernel_method}
use Rattle.file_laws.proofs.Chains.{all_place, all_places, filtered_pass}
use Rattle.file_laws.proofs.KernelOrder.{of_kernel}
use Rattle.file_laws.proofs.Methods.{Differ, its_signature}
use Rattle.file_laws.proofs.Moves.{text_equal}
use Rattle.file_laws.proofs.Redefined.{named_at}
use Rattle.file_laws.proofs.Sound.{All-filter}

-- whether a method is one of the kernel
abbrev pub is_of_kernel : EntryOf Text → Bool
is_of_kernel m = m.kernel

-- where all items stay that pass, all pass
pub all_pass_whole : {X : Type 0} (q : X → Bool) (xs : List X) → filter q xs ≡ xs → AllByRecursion (λ x. q x ≡ true) xs
all_pass_whole q xs e = subst (AllByRecursion (λ x. q x ≡ true)) e (filtered_pass q xs)

-- what holds of the items that pass
pub unfiltered : {X : Type 0} (P : X → Type 0) (q : X → Bool) (xs : List X) → AllByRecursion P (filter q xs) → AllByRecursion (λ x. q x ≡ true → P x) xs
unfiltered P q [] h = tt
unfiltered {X} P q (x ∷ xs) h = by (q x) refl h (unfiltered P q xs)
  where
    by : (b : Bool) → q x ≡ b → AllByRecursion P (cond b (x ∷ filter q xs) (filter q xs)) → (AllByRecursion P (filter q xs) → AllByRecursion (λ y. q y ≡ true → P y) xs) → (q x ≡ true → P x) × AllByRecursion (λ y. q y ≡ true → P y) xs
    by true e k rest = ((λ passes. k.0), rest k.1)
    by false e k rest = ((λ passes. absurd (true≢false (sym passes ∙ e))), rest k)

-- items are left out that do not pass another test
pub filter_without : {X : Type 0} (q p : X → Bool) (xs : List X) → AllByRecursion (λ x. p x ≡ true → q x ≡ false) xs → filter q (filter (λ x. not (p x)) xs) ≡ filter q xs
filter_without q p [] h = refl
filter_without {X} q p (x ∷ xs) h = by (p x) refl (filter_without q p xs h.1)
  where
    by : (b : Bool) → p x ≡ b → filter q (filter (λ y. not (p y)) xs) ≡ filter q xs → filter q (cond (not b) (x ∷ filter (λ y. not (p y)) xs) (filter (λ y. not (p y)) xs)) ≡ filter q (x ∷ xs)
    by true e rest = rest ∙ sym (ap (λ (b : Bool). cond b (x ∷ filter q xs) (filter q xs)) (h.0 e))
    by false e rest = ap (λ (ys : List X). cond (q x) (x ∷ ys) ys) rest

-- items are replaced that do not pass another test, before or after
pub filter_replaced : {X : Type 0} (q p : X → Bool) (f : X → X) → ((x : X) → q (f x) ≡ q x) → (xs : List X) → AllByRecursion (λ x. p x ≡ true → (q x ≡ false) ⊎ (f x ≡ x)) xs → filter q (map (λ x. if p x then f x else x) xs) ≡ filter q xs
filter_replaced q p f keeps [] h = refl
filter_replaced {X} q p f keeps (x ∷ xs) h = by (p x) refl (filter_replaced q p f keeps xs h.1)
  where
    others : List X
    others = filter q (map (λ y. if p y then f y else y) xs)

    at : (q x ≡ false) ⊎ (f x ≡ x) → others ≡ filter q xs → cond (q (f x)) (f x ∷ others) others ≡ cond (q x) (x ∷ filter q xs) (filter q xs)
    at (inl user) rest =
        ap (λ (b : Bool). cond b (f x ∷ others) others) (keeps x ∙ user) ∙ rest ∙ sym (ap (λ (b : Bool). cond b (x ∷ filter q xs) (filter q xs)) user)
    at (inr same) rest =
        ap (λ (y : X). cond (q y) (y ∷ others) others) same ∙ ap (λ (ys : List X). cond (q x) (x ∷ ys) ys) rest

    by : (b : Bool) → p x ≡ b → others ≡ filter q xs → filter q ((if b then f x else x) ∷ map (λ y. if p y then f y else y) xs) ≡ filter q (x ∷ xs)
    by true e rest = at (h.0 e) rest
    by false e rest = ap (λ (ys : List X). cond (q x) (x ∷ ys) ys) rest

-- a class is the only one of its name, so each class of the name is one of the kernel or none is
pub user_classes : (cs : List (ClassOf Text)) (n : Text) → HasNoRepeat (class_names cs) → is_kernel_class text_eq cs n ≡ false → AllByRecursion (λ (c : ClassOf Text). text_eq n c.name ≡ true → of_kernel c ≡ false) cs
user_classes cs n distinct h =
    all_places _ cs (λ k c at same.
    sym (ap (λ o. option_map_or of_kernel o false) (ap (class_named text_eq cs) (text_equal n c.name same) ∙ named_at text_eq text_eq-refl text_equal cs k c distinct at)) ∙ h)

-- a method is the only one of its signature
pub user_methods : (ms : List (EntryOf Text)) (c : Text) (meta : Bool) (s : Text) → Differ (map signature ms) → is_kernel_method text_eq ms c meta s ≡ false → AllByRecursion (λ (m : EntryOf Text). is_method text_eq c meta s m ≡ true → is_of_kernel m ≡ false) ms
user_methods [] c meta s differ h = tt
user_methods (m ∷ ms) c meta s differ h = by (is_method text_eq c meta s m) refl h (user_methods ms c meta s differ.1)
  where
    signature_place : (es : List (EntryOf Text)) (k : ℕ) (e : EntryOf Text) → slice_get es k ≡ Some e → slice_get (map signature es) k ≡ Some (signature e)
    signature_place [] k e at = absurd (cc)
    signature_place (x ∷ xs) zero e at = let same : x ≡ e = cc in ap (λ (y : EntryOf Text). Some (signature y)) same
    signature_place (x ∷ xs) (suc k) e at = signature_place xs k e at

    by : (b : Bool) → is_method text_eq c meta s m ≡ b → option_map_or is_of_kernel (cond b (Some m) (find (is_method text_eq c meta s) ms)) false ≡ false
        → (is_kernel_method text_eq ms c meta s ≡ false → AllByRecursion (λ (e : EntryOf Text). is_method text_eq c meta s e ≡ true → is_of_kernel e ≡ false) ms)
        → (is_method text_eq c meta s m ≡ true → is_of_kernel m ≡ false) × AllByRecursion (λ (e : EntryOf Text). is_method text_eq c meta s e ≡ true → is_of_kernel e ≡ false) ms
    by true e k rest = (
      (λ passes. k),
      all_places _ ms (λ j x at passes. absurd (differ.0 j (signature_place ms j x at ∙ ap Some (sym (its_signature c meta s x passes) ∙ its_signature c meta s m e)))),
    )
    by false e k rest = ((λ passes. absurd (true≢false (sym passes ∙ e))), rest k)

-- a class of the kernel is not that of a user
no_kernel_class : (cs : List (ClassOf Text)) (n : Text) → AllByRecursion (λ (c : ClassOf Text). text_eq n c.name ≡ true → of_kernel c ≡ false) cs → (c : Text) → text_eq n c ≡ true → Contains (class_names (filter of_kernel cs)) c → ⊥
no_kernel_class cs n user c same has =
    let place = contains-place (class_names (filter of_kernel cs)) c has in
    let at = slice_get-map (λ (x : ClassOf Text). x.name) (filter of_kernel cs) place.0 c place.1 in
    true≢false
    (sym (all_place (λ (x : ClassOf Text). of_kernel x ≡ true) (filter of_kernel cs) place.0 at.0 (filtered_pass of_kernel cs) at.1)
    ∙ all_place (λ (x : ClassOf Text). text_eq n x.name ≡ true → of_kernel x ≡ false) (filter of_kernel cs) place.0 at.0 (All-filter _ of_kernel cs user) at.1 (ap (text_eq n) at.2 ∙ same))

-- a user's class has no methods of the kernel
pub user_class_methods : (cs : List (ClassOf Text)) (ms : List (EntryOf Text)) (n : Text) → AllByRecursion (λ (c : ClassOf Text). text_eq n c.name ≡ true → of_kernel c ≡ false) cs
    → AllByRecursion (HasClass (filter of_kernel cs)) (filter is_of_kernel ms) → AllByRecursion (λ (m : EntryOf Text). is_of_class text_eq n m ≡ true → is_of_kernel m ≡ false) ms
user_class_methods cs ms n user homes = each ms (unfiltered (HasClass (filter of_kernel cs)) is_of_kernel ms homes)
  where
    home : (m : EntryOf Text) → HasClass (filter of_kernel cs) m → is_of_class text_eq n m ≡ true → ⊥
    home m has h = no_kernel_class cs n user has.0 (sym (ap (λ o. option_map_or (text_eq n) o false) has.1) ∙ h) has.2

    by : (m : EntryOf Text) (b : Bool) → is_of_kernel m ≡ b → (is_of_kernel m ≡ true → HasClass (filter of_kernel cs) m) → is_of_class text_eq n m ≡ true → is_of_kernel m ≡ false
    by m false e has h = e
    by m true e has h = absurd (home m (has e) h)

    each : (es : List (EntryOf Text)) → AllByRecursion (λ (m : EntryOf Text). is_of_kernel m ≡ true → HasClass (filter of_kernel cs) m) es → AllByRecursion (λ (m : EntryOf Text). is_of_class text_eq n m ≡ true → is_of_kernel m ≡ false) es
    each [] all = tt
    each (e ∷ es) all = (by e (is_of_kernel e) refl all.0, each es all.1)

-- a method of a user in place of one, or last
pub kernel_with_method : (r : RunOf Text) (source : Text) (m : MethodOf Text) (ms : List (EntryOf Text)) → Differ (map signature ms) → is_kernel_method text_eq ms r.class r.meta m.selector ≡ false → filter is_of_kernel (with_method text_eq false r source m ms) ≡ filter is_of_kernel ms
kernel_with_method r source m ms differ h = by (has_method text_eq ms r.class r.meta m.selector)
  where
    each : (es : List (EntryOf Text)) → AllByRecursion (λ (e : EntryOf Text). is_method text_eq r.class r.meta m.selector e ≡ true → is_of_kernel e ≡ false) es
        → filter is_of_kernel (map (λ e. if is_method text_eq r.class r.meta m.selector e then entry_in false r source m else e) es) ≡ filter is_of_kernel es
    each [] all = refl
    each (e ∷ es) all = at (is_method text_eq r.class r.meta m.selector e) refl (each es all.1)
      where
        others : List (EntryOf Text)
        others = map (λ x. if is_method text_eq r.class r.meta m.selector x then entry_in false r source m else x) es

        at : (b : Bool) → is_method text_eq r.class r.meta m.selector e ≡ b → filter is_of_kernel others ≡ filter is_of_kernel es → filter is_of_kernel ((if b then entry_in false r source m else e) ∷ others) ≡ filter is_of_kernel (e ∷ es)
        at true q rest = rest ∙ sym (ap (λ (b : Bool). cond b (e ∷ filter is_of_kernel es) (filter is_of_kernel es)) (all.0 q))
        at false q rest = ap (λ (xs : List (EntryOf Text)). cond (is_of_kernel e) (e ∷ xs) xs) rest

    by : (b : Bool) → filter is_of_kernel (if b then map (λ e. if is_method text_eq r.class r.meta m.selector e then entry_in false r source m else e) ms else ms ++ entry_in false r source m ∷ []) ≡ filter is_of_kernel ms
    by true = each ms (user_methods ms r.class r.meta m.selector differ h)
    by false = filter-end is_of_kernel ms (entry_in false r source m) refl
