-- Classes and methods that stay where no place is stated.
use Rattle.std.proofs.Common.{◌≡◌, ℕ, Bool, true, false, not, cond, List, [], ◌∷◌, map, nat_eq, refl, sym, ap, ◌∙◌, true≢false}
use Rattle.std.specs.Prelude.{◌||◌}
use Rattle.std.specs.List.{list_any}
use Rattle.image_model.specs.Image.{ClassOf, EntryOf}
use Rattle.image_model.specs.Valid.{SuperclassesStandBefore}
use Rattle.file_model.specs.Hierarchy.{settled}
use Rattle.file_model.specs.Places.{ClassPlaceOf, MethodPlaceOf, class_place, method_place, put_again_behind}
use Rattle.file_laws.specs.Fronts.{IsKernelInFront}
use Rattle.file_laws.proofs.Repeats.{none_pass}
use Rattle.file_laws.proofs.Settled.{settled_stays}
use Rattle.file_laws.proofs.KernelInFront.{front_stays}
use Rattle.image_draft.specs.declared.method_draft.MethodDraft.{MethodDraft}
use Rattle.image_draft.specs.Entries.{entry_of}
use Rattle.image_draft.specs.Fronts.{in_front}
use Rattle.placed_draft.proofs.Numbers.{nat_itself, nat_equal}

-- none of the kernel stands behind another
front_of : {X : Type 0} (is_kernel : X → Bool) (xs : List X) → in_front is_kernel xs ≡ true → IsKernelInFront is_kernel xs
front_of is_kernel [] h = record { front = []; back = []; whole = refl; of_kernel = tt; of_user = tt }
front_of {X} is_kernel (x ∷ xs) h = by (is_kernel x) refl h (front_of is_kernel xs)
  where
    turned : (b : Bool) → not b ≡ true → b ≡ false
    turned true e = absurd (true≢false (sym e))
    turned false e = refl

    by : (b : Bool) → is_kernel x ≡ b → cond b (in_front is_kernel xs) (not (list_any is_kernel xs)) ≡ true → (in_front is_kernel xs ≡ true → IsKernelInFront is_kernel xs) → IsKernelInFront is_kernel (x ∷ xs)
    by true e k rest =
        let f : IsKernelInFront is_kernel xs = rest k in
        record { front = x ∷ f.front; back = f.back; whole = ap (λ ys. x ∷ ys) f.whole; of_kernel = (e, f.of_kernel); of_user = f.of_user }
    by false e k rest = record { front = []; back = x ∷ xs; whole = refl; of_kernel = tt; of_user = (e, none_pass is_kernel xs (turned (list_any is_kernel xs) k)) }

-- classes in order, of which none has a place
pub classes_stay : (cs : List (ClassOf ℕ)) (places : List (ClassPlaceOf ℕ)) → SuperclassesStandBefore cs → in_front (λ (c : ClassOf ℕ). c.kernel) cs ≡ true → places ≡ []
    → settled nat_eq (put_again_behind (λ (c : ClassOf ℕ). c.kernel) (class_place nat_eq places) cs) ≡ cs
classes_stay cs places before front none =
    ap (λ (ps : List (ClassPlaceOf ℕ)). settled nat_eq (put_again_behind (λ (c : ClassOf ℕ). c.kernel) (class_place nat_eq ps) cs)) none
    ∙ ap (settled nat_eq) (front_stays (λ (c : ClassOf ℕ). c.kernel) cs (front_of (λ (c : ClassOf ℕ). c.kernel) cs front)) ∙ settled_stays nat_eq nat_itself nat_equal cs before

-- the methods of a draft and those for which they stand
any_entries : (ms : List MethodDraft) → list_any (λ (m : EntryOf ℕ). m.kernel) (map entry_of ms) ≡ list_any (λ (m : MethodDraft). m.kernel) ms
any_entries [] = refl
any_entries (m ∷ ms) = by m.kernel (any_entries ms)
  where
    by : (b : Bool) → list_any (λ (e : EntryOf ℕ). e.kernel) (map entry_of ms) ≡ list_any (λ (e : MethodDraft). e.kernel) ms
        → (b || list_any (λ (e : EntryOf ℕ). e.kernel) (map entry_of ms)) ≡ (b || list_any (λ (e : MethodDraft). e.kernel) ms)
    by true h = refl
    by false h = h

front_entries : (ms : List MethodDraft) → in_front (λ (m : EntryOf ℕ). m.kernel) (map entry_of ms) ≡ in_front (λ (m : MethodDraft). m.kernel) ms
front_entries [] = refl
front_entries (m ∷ ms) = (λ i. cond m.kernel (front_entries ms i) (not (any_entries ms i)))

-- methods of which none has a place
pub methods_stay : (ms : List MethodDraft) (places : List (MethodPlaceOf ℕ)) → in_front (λ (m : MethodDraft). m.kernel) ms ≡ true → places ≡ []
    → put_again_behind (λ (m : EntryOf ℕ). m.kernel) (method_place nat_eq places) (map entry_of ms) ≡ map entry_of ms
methods_stay ms places front none =
    ap (λ (ps : List (MethodPlaceOf ℕ)). put_again_behind (λ (m : EntryOf ℕ). m.kernel) (method_place nat_eq ps) (map entry_of ms)) none
    ∙ front_stays (λ (m : EntryOf ℕ). m.kernel) (map entry_of ms) (front_of (λ (m : EntryOf ℕ). m.kernel) (map entry_of ms) (front_entries ms ∙ front))
