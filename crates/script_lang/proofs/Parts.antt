-- Lines, from the parts between line feeds.
use Rattle.std.proofs.Common.{◌≡◌, ℕ, ◌≤◌, Bool, true, false, if◌then◌else◌, List, [], ◌∷◌, ◌++◌, length, map, take, refl, sym, ap, ◌∙◌}
use Rattle.std.specs.Prelude.{◌==◌}
use Rattle.std.specs.Borrow.{Bor}
use Rattle.std.specs.List.{slice_split}
use Rattle.std.specs.Str.Lines.{lines_of_parts, strip_carriage_return}
use Rattle.std.proofs.lemmas.List.{map-append, append-nil, take_all}
use Rattle.script_model.specs.Lines.{lines_of}
use Rattle.script_lang.specs.Shown.{texts}

-- the last part is a line where it is not empty
abbrev pub last_line : List ℕ → List (List ℕ)
last_line x = if length x == 0 then [] else x ∷ []

lines-snoc : (xs : List (List ℕ)) (x : List ℕ) → lines_of_parts (xs ++ x ∷ []) ≡ map strip_carriage_return xs ++ last_line x
lines-snoc [] x = refl
lines-snoc (y ∷ []) x = refl
lines-snoc (y ∷ z ∷ xs) x = ap (λ (ls : List (List ℕ)). strip_carriage_return y ∷ ls) (lines-snoc (z ∷ xs) x)

module _ (text : List ℕ) (parts front : List (Bor (List ℕ))) (last : Bor (List ℕ)) (i : ℕ) (lines : List (Bor (List ℕ)))
    (split : texts parts ≡ slice_split (λ b. b == 10) text) (cut : parts ≡ front ++ last ∷ []) (all : length front ≤ i) (read : texts lines ≡ map strip_carriage_return (texts (take i front))) where
  lines-are : lines_of text ≡ texts lines ++ last_line last.now
  lines-are =
      ap lines_of_parts (sym split ∙ ap texts cut ∙ map-append (λ (w : Bor (List ℕ)). w.now) front (last ∷ []))
      ∙ lines-snoc (texts front) last.now
      ∙ ap (λ (ls : List (List ℕ)). ls ++ last_line last.now) (sym (read ∙ ap (λ (ws : List (Bor (List ℕ))). map strip_carriage_return (texts ws)) (take_all i front all)))

  -- the last part is a line
  pub lines-more : (new : List (Bor (List ℕ))) → new ≡ lines ++ last ∷ [] → (length last.now == 0) ≡ false → texts new ≡ lines_of text
  lines-more new e some =
      ap texts e ∙ map-append (λ (w : Bor (List ℕ)). w.now) lines (last ∷ [])
      ∙ ap (λ (b : Bool). texts lines ++ (if b then [] else last.now ∷ [])) (sym some)
      ∙ sym lines-are

  -- the last part is none
  pub lines-all : (length last.now == 0) ≡ true → texts lines ≡ lines_of text
  lines-all none =
      sym (append-nil (texts lines))
      ∙ ap (λ (b : Bool). texts lines ++ (if b then [] else last.now ∷ [])) (sym none)
      ∙ sym lines-are
