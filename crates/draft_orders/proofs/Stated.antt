-- Tables of the places that are stated.
use Rattle.std.proofs.Common.{◌≡◌, ℕ, ◌+◌, ◌<◌, Bool, true, false, cond, ◌&&◌, List, [], ◌∷◌, ◌++◌, length, take, reverse, find, get_or, option_map, Option, Some, nat_eq, refl, sym, ap, ◌∙◌, subst}
use Rattle.std.specs.Prelude.{if◌then◌else◌}
use Rattle.std.specs.Bool.{beq}
use Rattle.std.proofs.lemmas.List.{take_more}
use Rattle.std.specs.HashMap.{get}
use Rattle.file_model.specs.Places.{ClassPlaceOf, MethodPlaceOf, method_place}
use Rattle.image_draft.specs.declared.method_draft.MethodDraft.{MethodDraft}
use Rattle.image_draft.specs.Entries.{entry_of}
use Rattle.draft_orders.specs.declared.methods.PlaceKey.{PlaceKey}
use Rattle.draft_orders.specs.Tables.{ClassTable, IsClassPlaces, IsMethodPlaces, MethodTable, same_key, stated_key, key_of}
use Rattle.draft_orders.proofs.Ends.{reverse_end}

-- the last item that passes, of one item more at the end
last_found : {X : Type 0} (p : X → Bool) (place : X → ℕ) (xs : List X) (x : X)
    → option_map place (find p (reverse (xs ++ x ∷ []))) ≡ cond (p x) (Some (place x)) (option_map place (find p (reverse xs)))
last_found {X} p place xs x = ap (λ (r : List X). option_map place (find p r)) (reverse_end xs x) ∙ by (p x)
  where
    by : (b : Bool) → option_map place (cond b (Some x) (find p (reverse xs))) ≡ cond b (Some (place x)) (option_map place (find p (reverse xs)))
    by true = refl
    by false = refl

-- one place more is stated for a class
pub class_stated : (places : List (ClassPlaceOf ℕ)) (i : ℕ) (p : ClassPlaceOf ℕ) (before after : ClassTable) → i < length places → p ≡ get_or places i p → IsClassPlaces (take i places) before
    → ((n : ℕ) → get nat_eq after n ≡ (if nat_eq p.class n then Some p.place else get nat_eq before n)) → IsClassPlaces (take (i + 1) places) after
class_stated places i p before after h e its noted =
    let more : take (i + 1) places ≡ take i places ++ p ∷ [] = take_more places i p h ∙ ap (λ (q : ClassPlaceOf ℕ). take i places ++ q ∷ []) (sym e) in
    subst (λ (ps : List (ClassPlaceOf ℕ)). IsClassPlaces ps after) (sym more)
    (λ n. noted n ∙ ap (λ (o : Option ℕ). cond (nat_eq p.class n) (Some p.place) o) (its n)
    ∙ sym (last_found (λ (q : ClassPlaceOf ℕ). nat_eq q.class n) (λ (q : ClassPlaceOf ℕ). q.place) (take i places) p))

-- one place more is stated for a method
pub method_stated : (places : List (MethodPlaceOf ℕ)) (i : ℕ) (p : MethodPlaceOf ℕ) (before after : MethodTable) → i < length places → p ≡ get_or places i p → IsMethodPlaces (take i places) before
    → ((q : PlaceKey) → get same_key after q ≡ (if same_key (stated_key p) q then Some p.place else get same_key before q)) → IsMethodPlaces (take (i + 1) places) after
method_stated places i p before after h e its noted =
    let more : take (i + 1) places ≡ take i places ++ p ∷ [] = take_more places i p h ∙ ap (λ (q : MethodPlaceOf ℕ). take i places ++ q ∷ []) (sym e) in
    subst (λ (ps : List (MethodPlaceOf ℕ)). IsMethodPlaces ps after) (sym more)
    (λ n. noted n ∙ ap (λ (o : Option ℕ). cond (same_key (stated_key p) n) (Some p.place) o) (its n)
    ∙ sym (last_found (λ (q : MethodPlaceOf ℕ). same_key (stated_key q) n) (λ (q : MethodPlaceOf ℕ). q.place) (take i places) p))

-- the place of a method is that of its key
pub method_place_is : (places : List (MethodPlaceOf ℕ)) (table : MethodTable) → IsMethodPlaces places table → (m : MethodDraft) → get same_key table (key_of m) ≡ method_place nat_eq (reverse places) (entry_of m)
method_place_is places table its m =
    its (key_of m) ∙ (λ i. option_map (λ (p : MethodPlaceOf ℕ). p.place) (find (λ p. joined (nat_eq p.class m.class) (beq p.meta m.meta) (nat_eq p.selector m.tree.selector) i) (reverse places)))
  where
    joined : (a b c : Bool) → (a && (b && c)) ≡ ((a && b) && c)
    joined true b c = refl
    joined false b c = refl
