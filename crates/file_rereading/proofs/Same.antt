-- What is read again is written as it was.
use Rattle.std.proofs.Common.{◌≡◌, ℕ, Bool, true, false, [], ◌++◌, length, take, drop, None, refl, ap, sym, ◌∙◌, append-nil, take-append-drop}
use Rattle.std.specs.Prelude.{◌==◌, if◌then◌else◌, flat_map}
use Rattle.std.proofs.lemmas.Grind.{flat_map-append}
use Rattle.std.proofs.lemmas.Bool.{and_parts}
use Rattle.image_model.specs.Image.{ImageOf}
use Rattle.file_model.specs.Filing.{Text}
use Rattle.file_model.specs.Written.{doit_text, class_text, methods_text, user_classes, user_methods, file_of}
use Rattle.file_rereading.specs.Rereading.{is_only_doits, with_heads}
use Rattle.file_rereading.proofs.Fresh.{none_in}

-- the text of an image that counts so many do-its as those at its head
abbrev text_with : ImageOf Text → ℕ → Text
text_with i heads = file_of (record i { heads = heads })

-- where there are do-its alone, it is their text
only_doits : (i : ImageOf Text) (heads : ℕ) → is_only_doits i ≡ true → text_with i heads ≡ flat_map doit_text i.doits
only_doits i heads h =
    let parts = and_parts (length (user_classes i) == 0) (length (user_methods i) == 0) h in
    let first = flat_map doit_text (take heads i.doits) in
    let rest = flat_map doit_text (drop heads i.doits) in
    (λ j. first ++ flat_map class_text (none_in (user_classes i) parts.0 j) ++ methods_text None (none_in (user_methods i) parts.1 j) ++ rest)
    ∙ ap (λ (x : Text). x ++ rest) (append-nil (first ++ []) ∙ append-nil first)
    ∙ sym (flat_map-append doit_text (take heads i.doits) (drop heads i.doits)) ∙ ap (flat_map doit_text) (take-append-drop heads i.doits)

-- the text does not say how many do-its of nothing else stand at the head
pub same_text : (i : ImageOf Text) → file_of (with_heads i) ≡ file_of i
same_text i = by (is_only_doits i) refl
  where
    by : (b : Bool) → is_only_doits i ≡ b → text_with i (if b then length i.doits else i.heads) ≡ file_of i
    by true e = only_doits i (length i.doits) e ∙ sym (only_doits i i.heads e)
    by false e = refl
