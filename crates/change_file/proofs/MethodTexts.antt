-- The keys of methods, methods told apart by what is shown of them, and the items of a list of methods.
use Rattle.std.proofs.Common.{◌≡◌, ℕ, zero, suc, ◌<◌, ◌≤◌, Bool, true, false, List, [], ◌∷◌, ◌++◌, length, map, drop, get_or, Some, slice_get, refl, sym, ap, ◌∙◌, arith}
use Rattle.std.specs.List.{AllByRecursion}
use Rattle.image_model.specs.Image.{EntryOf}
use Rattle.file_model.specs.Filing.{Text}
use Rattle.change_model.specs.Equal.{is_counterpart}
use Rattle.change_laws.specs.Merged.{AreApart}
use Rattle.change_file.specs.declared.methods.SignedMethod.{SignedMethod}
use Rattle.change_file.specs.Shown.{shown, key_text, key_shown, is_counterpart_shown}
use Rattle.change_file.proofs.KeyWalks.{drop_end}
use Rattle.change_file.proofs.MethodLists.{key_append}

-- the side and the selector
pub key_done : (class : Text) (meta : Bool) (selector : Text) (n : ℕ) (key side out : Text) → length class ≤ n → key ++ key_text (drop n class) meta [] ≡ key_text class meta []
    → side ≡ key ++ key_text [] meta [] → out ≡ side ++ selector → out ≡ key_text class meta selector
key_done class meta selector n key side out l h s m =
    m ∙ ap (λ (t : Text). t ++ selector) (s ∙ ap (λ (ds : Text). key ++ key_text ds meta []) (sym (drop_end class n l)) ∙ h) ∙ sym (key_append class meta selector)

-- methods told apart
pub shown_apart : (ms : List (EntryOf Text)) → AreApart is_counterpart ms → AreApart is_counterpart_shown (map shown ms)
shown_apart [] apart = tt
shown_apart (m ∷ ms) apart = (each ms apart.0, shown_apart ms apart.1)
  where
    each : (ns : List (EntryOf Text)) → AllByRecursion (λ (n : EntryOf Text). is_counterpart m n ≡ true → ⊥) ns → AllByRecursion (λ n. is_counterpart_shown (shown m) n ≡ true → ⊥) (map shown ns)
    each [] all = tt
    each (n ∷ ns) all = (all.0, each ns all.1)

-- the keys of what is shown
pub shown_keys : (ms : List (EntryOf Text)) → map key_shown (map shown ms) ≡ map (λ (e : EntryOf Text). key_shown (shown e)) ms
shown_keys [] = refl
shown_keys (m ∷ ms) = ap (λ (ts : List Text). key_shown (shown m) ∷ ts) (shown_keys ms)

-- what stands for a method past the end of a list
abbrev pub blank : SignedMethod
blank = record {
  method = record {
    class = record { ref_ptr = (0, 0); now = [] };
    meta = false;
    protocol = record { ref_ptr = (0, 0); now = [] };
    source = record { ref_ptr = (0, 0); now = [] };
  };
  selector = record { ref_ptr = (0, 0); now = [] };
}

-- before it stands an item of the list
pub item_there : {X : Type 0} (xs : List X) (i : ℕ) (x : X) → i < length xs → slice_get xs i ≡ Some (get_or xs i x)
item_there [] i x l = absurd (omega arith)
item_there (y ∷ ys) zero x l = refl
item_there (y ∷ ys) (suc i) x l = item_there ys i x (omega arith)
