-- Methods found among those of the program.
use Rattle.std.proofs.Common.{◌≡◌, ℕ, Bool, false, List, [], ◌∷◌, map, find, is_some, Option, Some, None, option_map, nat_eq, refl, sym, ap, ◌∙◌}
use Rattle.std.specs.List.{AllByRecursion}
use Rattle.std.specs.Option.{option_map_or}
use Rattle.image_model.specs.Image.{EntryOf}
use Rattle.image_model.specs.Lookup.{is_method}
use Rattle.image_model.proofs.Lists.{find-map}
use Rattle.file_model.specs.Refusals.{has_method, is_kernel_method}
use Rattle.image_draft.specs.declared.method_draft.MethodDraft.{MethodDraft}
use Rattle.image_draft.specs.Entries.{entry_of}

-- a test of what an item stands for is the same test
all_same : {X Y : Type 0} (f : X → Y) (q : Y → Bool) (xs : List X) → AllByRecursion (λ x. q (f x) ≡ q (f x)) xs
all_same f q [] = tt
all_same f q (x ∷ xs) = (refl, all_same f q xs)

found : (ms : List MethodDraft) (c : ℕ) (meta : Bool) (s : ℕ) → find (is_method nat_eq c meta s) (map entry_of ms) ≡ option_map entry_of (find (λ (m : MethodDraft). is_method nat_eq c meta s (entry_of m)) ms)
found ms c meta s = find-map entry_of (λ (m : MethodDraft). is_method nat_eq c meta s (entry_of m)) (is_method nat_eq c meta s) ms (all_same entry_of (is_method nat_eq c meta s) ms)

-- there is a method where one is found
pub has_method_found : (ms : List MethodDraft) (c : ℕ) (meta : Bool) (s : ℕ) → is_some (find (λ (m : MethodDraft). is_method nat_eq c meta s (entry_of m)) ms) ≡ has_method nat_eq (map entry_of ms) c meta s
has_method_found ms c meta s = by (find (λ (m : MethodDraft). is_method nat_eq c meta s (entry_of m)) ms) ∙ ap is_some (sym (found ms c meta s))
  where
    by : (o : Option MethodDraft) → is_some o ≡ is_some (option_map entry_of o)
    by None = refl
    by (Some m) = refl

-- whether the method that is found is one of the kernel
pub kernel_found : (ms : List MethodDraft) (c : ℕ) (meta : Bool) (s : ℕ)
    → option_map_or (λ (m : MethodDraft). m.kernel) (find (λ (m : MethodDraft). is_method nat_eq c meta s (entry_of m)) ms) false ≡ is_kernel_method nat_eq (map entry_of ms) c meta s
kernel_found ms c meta s =
    by (find (λ (m : MethodDraft). is_method nat_eq c meta s (entry_of m)) ms) ∙ ap (λ (o : Option (EntryOf ℕ)). option_map_or (λ (m : EntryOf ℕ). m.kernel) o false) (sym (found ms c meta s))
  where
    by : (o : Option MethodDraft) → option_map_or (λ (m : MethodDraft). m.kernel) o false ≡ option_map_or (λ (m : EntryOf ℕ). m.kernel) (option_map entry_of o) false
    by None = refl
    by (Some m) = refl
