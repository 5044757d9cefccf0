-- Slots with canonical sources as an image.
use Rattle.std.proofs.Common.{◌≡◌, ℕ, Bool, List, [], ◌∷◌, map, Option, None, Some, option_map, slice_get, refl, sym, ap, ◌∙◌}
use Rattle.std.specs.Prelude.{if◌then◌else◌}
use Rattle.rb_base.specs.Names.{name_at}
use Rattle.image_model.specs.Image.{EntryOf, DoItOf, ImageOf, map_class, map_entry, map_doit}
use Rattle.class_table.specs.declared.record.MethodRec.{MethodRec}
use Rattle.class_table.specs.declared.record.DoIt.{DoIt}
use Rattle.class_table.specs.Slots.{Slots}
use Rattle.class_table.specs.View.{live, class_of, entry_of, doit_of, image_of}
use Rattle.class_table.specs.Valid.{IsLive}
use Rattle.class_table.proofs.Live.{live-same}
use Rattle.canonical_image.specs.Formatted.{formatted_entry, formatted_doit, formatted}
use Rattle.canonical_image.specs.Sources.{canonical_rec, canonical_doit_rec, all_changed}
use Rattle.canonical_image.proofs.Slots.{get_all_changed}

-- a map of a map
map_twice : {X Y Z : Type 0} (f : X → Y) (g : Y → Z) (xs : List X) → map g (map f xs) ≡ map (λ x. g (f x)) xs
map_twice f g [] = refl
map_twice f g (x ∷ xs) = ap (λ ys. g (f x) ∷ ys) (map_twice f g xs)

-- the method that a record stands for, over texts
abbrev text_entry : Slots → MethodRec → EntryOf (List ℕ)
text_entry s m = map_entry (name_at s.names) (entry_of s.classes m)

-- the methods
methods_formatted : (s : Slots)
    → map (map_entry (name_at s.names)) (map (entry_of s.classes) (live (all_changed (canonical_rec s.names) s.methods s.method_order) s.method_order))
    ≡ map formatted_entry (map (map_entry (name_at s.names)) (map (entry_of s.classes) (live s.methods s.method_order)))
methods_formatted s =
    let ys = all_changed (canonical_rec s.names) s.methods s.method_order in
    map_twice (entry_of s.classes) (map_entry (name_at s.names)) (live ys s.method_order)
    ∙ live-same (text_entry s) (λ m. formatted_entry (text_entry s m)) ys s.methods s.method_order same
    ∙ sym (map_twice (text_entry s) formatted_entry (live s.methods s.method_order))
    ∙ ap (map formatted_entry) (sym (map_twice (entry_of s.classes) (map_entry (name_at s.names)) (live s.methods s.method_order)))
  where
    by : (o : Option MethodRec) → option_map (text_entry s) (option_map (canonical_rec s.names) o) ≡ option_map (λ m. formatted_entry (text_entry s m)) o
    by None = refl
    by (Some m) = refl

    same : (k : ℕ) → IsLive s.method_order k → option_map (text_entry s) (slice_get (all_changed (canonical_rec s.names) s.methods s.method_order) k) ≡ option_map (λ m. formatted_entry (text_entry s m)) (slice_get s.methods k)
    same k l =
        ap (option_map (text_entry s)) (get_all_changed s.names s.methods s.method_order k ∙ ap (λ (b : Bool). if b then option_map (canonical_rec s.names) (slice_get s.methods k) else slice_get s.methods k) l)
        ∙ by (slice_get s.methods k)

-- the do-its
doits_formatted : (names : List (List ℕ)) (ds : List DoIt)
    → map (map_doit (name_at names)) (map doit_of (map (canonical_doit_rec names) ds)) ≡ map formatted_doit (map (map_doit (name_at names)) (map doit_of ds))
doits_formatted names [] = refl
doits_formatted names (d ∷ ds) = ap (λ ys. formatted_doit (map_doit (name_at names) (doit_of d)) ∷ ys) (doits_formatted names ds)

-- the whole image
pub all_formatted : (s : Slots)
    → image_of (record s { methods = all_changed (canonical_rec s.names) s.methods s.method_order; doits = map (canonical_doit_rec s.names) s.doits }) ≡ formatted (image_of s)
all_formatted s =
    ap (λ (ms : List (EntryOf (List ℕ))). let i : ImageOf (List ℕ) = record {
      classes = map (map_class (name_at s.names)) (map (class_of s.classes) (live s.classes s.class_order));
      methods = ms;
      doits = map (map_doit (name_at s.names)) (map doit_of (map (canonical_doit_rec s.names) s.doits));
      heads = s.heads;
    } in i) (methods_formatted s)
    ∙ ap (λ (ds : List (DoItOf (List ℕ))). let i : ImageOf (List ℕ) = record (formatted (image_of s)) { doits = ds } in i) (doits_formatted s.names s.doits)
