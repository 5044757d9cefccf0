-- What is written of the items of a list, one after the other, and texts of a few pieces.
use Rattle.std.proofs.Common.{◌≡◌, ℕ, zero, suc, ◌+◌, ◌≤◌, Bool, true, false, List, [], ◌∷◌, ◌++◌, length, map, drop, None, Some, slice_get, refl, sym, ap, ◌∙◌, arith, append_assoc, append-nil}
use Rattle.std.specs.Prelude.{flat_map, ◌==◌, if◌then◌else◌}
use Rattle.image_model.specs.Image.{ClassOf}
use Rattle.file_model.specs.Changes.{DefineAt, SetClassSide, Comment}
use Rattle.file_model.specs.Filing.{Text}
use Rattle.file_model.specs.Places.{PlacedOf}
use Rattle.file_model.specs.Written.{paragraph, paragraph_unless_empty, class_side_text, comment_text}
use Rattle.change_model.specs.Edits.{Change, definition_of, filed}
use Rattle.change_model.specs.Text.{change_source}
use Rattle.change_file.specs.Texts.{edit_texts}
use Rattle.change_file.proofs.EditTexts.{texts_append}
use Rattle.change_file.proofs.KeyWalks.{drop_item, drop_end}

module _ {X Y : Type 0} (show : X → Y) (text : Y → Text) (xs : List X) (n : ℕ) where
  -- one more item is written
  pub written_next : (x : X) (out new whole : Text) → slice_get xs n ≡ Some x → out ++ flat_map text (map show (drop n xs)) ≡ whole → new ≡ out ++ text (show x)
      → new ++ flat_map text (map show (drop (n + 1) xs)) ≡ whole
  written_next x out new whole e h m =
      ap (λ (t : Text). t ++ flat_map text (map show (drop (n + 1) xs))) m
      ∙ append_assoc out (text (show x)) (flat_map text (map show (drop (n + 1) xs)))
      ∙ ap (λ (t : Text). out ++ t) (sym (ap (λ (ys : List X). flat_map text (map show ys)) (drop_item xs n x e))) ∙ h

  -- no item is left
  pub written_end : (out whole : Text) → length xs ≤ n → out ++ flat_map text (map show (drop n xs)) ≡ whole → out ≡ whole
  written_end out whole l h =
      sym (append-nil out) ∙ ap (λ (t : Text). out ++ t) (sym (ap (λ (ys : List X). flat_map text (map show ys)) (drop_end xs n l))) ∙ h

-- the classes that are filed in, one after the other
pub filings_written : (ps : List (PlacedOf (ClassOf Text))) → flat_map (λ (p : PlacedOf (ClassOf Text)). edit_texts (filed p)) ps ≡ edit_texts (flat_map filed ps)
filings_written [] = refl
filings_written (p ∷ ps) = ap (λ (t : Text). edit_texts (filed p) ++ t) (filings_written ps) ∙ sym (texts_append (filed p) (flat_map filed ps))

-- five pieces in a line
pub five : (n a b d e : Text) → n ++ a ++ b ++ d ++ e ≡ n ++ (a ++ (b ++ (d ++ e)))
five n a b d e = simp append_assoc

-- two pieces, one after the other
pub written_twice : (o p r a b : Text) → p ≡ o ++ a → r ≡ p ++ b → r ≡ o ++ (a ++ (b ++ []))
written_twice o p r a b e f = f ∙ ap (λ (x : Text). x ++ b) e ∙ append_assoc o a b ∙ ap (λ (x : Text). o ++ (a ++ x)) (sym (append-nil b))

-- three pieces, one after the other
pub written_thrice : (o p q r a b d : Text) → p ≡ o ++ a → q ≡ p ++ b → r ≡ q ++ d → r ≡ o ++ (a ++ b ++ d)
written_thrice o p q r a b d e f g = g ∙ ap (λ (x : Text). x ++ d) (f ∙ ap (λ (x : Text). x ++ b) e) ∙ simp append_assoc

-- a class that is filed in, piece by piece
pub filed_text : (p : PlacedOf (ClassOf Text)) → edit_texts (filed p)
    ≡ paragraph (change_source (DefineAt (definition_of p.item) p.place)) ++ paragraph_unless_empty p.item.class_side (class_side_text p.item) ++ paragraph (comment_text p.item)
filed_text p = by (length p.item.class_side == 0)
  where
    definition : Text
    definition = paragraph (change_source (DefineAt (definition_of p.item) p.place))

    side : Text
    side = paragraph (class_side_text p.item)

    comment : Text
    comment = paragraph (comment_text p.item)

    by : (b : Bool) → definition ++ edit_texts ((if b then [] else Change (SetClassSide p.item.name p.item.class_side) ∷ []) ++ Change (Comment p.item.name p.item.comment) ∷ [])
        ≡ definition ++ (if b then [] else side) ++ comment
    by true = ap (λ (t : Text). definition ++ t) (append-nil comment) ∙ ap (λ (t : Text). t ++ comment) (sym (append-nil definition))
    by false = ap (λ (t : Text). definition ++ (side ++ t)) (append-nil comment) ∙ sym (append_assoc definition side comment)

-- nothing stands past the end
pub nothing_past : {X : Type 0} (xs : List X) (n : ℕ) → length xs ≤ n → slice_get xs n ≡ None
nothing_past [] n l = refl
nothing_past (x ∷ xs) zero l = absurd (omega arith)
nothing_past (x ∷ xs) (suc n) l = nothing_past xs n (omega arith)
