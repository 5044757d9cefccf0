-- Where no node is marked there are no lines.
use Rattle.std.proofs.Common.{◌≡◌, ℕ, Bool, true, false, List, [], ◌∷◌, refl, sym, ap, ◌∙◌, true≢false}
use Rattle.std.specs.List.{list_any}
use Rattle.event_spans.specs.declared.search.NodeSpan.{NodeSpan}
use Rattle.image_queries.specs.Marks.{marked_lines}

-- no marks, no lines
pub unmarked : (meant : List ℕ → Bool) (owner : List ℕ) (es : List NodeSpan) (marks : List Bool) → list_any (λ b. b) marks ≡ false → [] ≡ marked_lines meant owner es marks
unmarked meant owner [] marks e = refl
unmarked meant owner (x ∷ es) [] e = refl
unmarked meant owner (x ∷ es) (true ∷ marks) e = absurd (true≢false e)
unmarked meant owner (x ∷ es) (false ∷ marks) e = unmarked meant owner es marks e

-- the same as the program finds it
pub unmarked_text : (text : List ℕ) (held marks : List Bool) (any : Bool) → text ≡ [] → any ≡ list_any (λ b. b) held → any ≡ false → held ≡ marks
    → (meant : List ℕ → Bool) (owner : List ℕ) (es : List NodeSpan) → text ≡ marked_lines meant owner es marks
unmarked_text text held marks any nothing told fails same meant owner es =
    nothing ∙ unmarked meant owner es marks (ap (λ (bs : List Bool). list_any (λ b. b) bs) (sym same) ∙ sym told ∙ fails)
