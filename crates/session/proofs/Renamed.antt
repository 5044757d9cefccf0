-- What the commands of entries rename, collected in order, is what the present version renames.
use Rattle.std.proofs.Common.{◌≡◌, ◌<◌, ◌+◌, ℕ, suc, List, [], ◌∷◌, ◌++◌, length, map, take, reverse, get_or, refl, sym, ap, ◌∙◌, arith, length-append}
use Rattle.std.specs.Prelude.{flat_map}
use Rattle.std.proofs.lemmas.Grind.{flat_map-append}
use Rattle.std.proofs.lemmas.List.{append-nil, take_more, reverse-append}
use Rattle.image_model.specs.Image.{ImageOf}
use Rattle.run_model.specs.Values.{Name}
use Rattle.run_model.specs.Renamings.{Renaming, no_renaming, composed}
use Rattle.class_table.specs.Slots.{Slots}
use Rattle.class_table.specs.View.{image_of}
use Rattle.session.specs.Log.{DoneCommand, Done, taken_back}
use Rattle.session.specs.History.{renaming_in, renamed_by, renamed_back, renaming_at, images_within, images_judged, renamed_along}
use Rattle.session.proofs.Kept.{back-names}
use Rattle.session.specs.declared.renames.Renames.{Renames}

-- those of one entry
abbrev pub of_entry : Done → List Renames
of_entry e = map (λ (d : DoneCommand). d.renames) e.commands

-- those of one more entry
pub collected : (es : List Done) (k : ℕ) (e : Done) (found more : List Renames) → k < length es → e ≡ get_or es k e → found ≡ flat_map of_entry (take k es) → more ≡ found ++ of_entry e → more ≡ flat_map of_entry (take (k + 1) es)
collected es k e found more h at so_far next =
    next ∙ ap (λ (xs : List Renames). xs ++ of_entry e) so_far
    ∙ ap (λ (xs : List Renames). flat_map of_entry (take k es) ++ xs) (sym (append-nil (of_entry e)))
    ∙ sym (ap (flat_map of_entry) (take_more es k e h ∙ ap (λ (z : Done). take k es ++ z ∷ []) (sym at)) ∙ flat_map-append of_entry (take k es) (e ∷ []))

-- what is renamed in two parts
along-parts : (names : List (List ℕ)) (r : Renaming) (is js : List (ImageOf Name)) (xs ys : List Renames) → length is ≡ length xs
    → renamed_along names r (is ++ js) (xs ++ ys) ≡ renamed_along names (renamed_along names r is xs) js ys
along-parts names r [] js [] ys h = refl
along-parts names r [] js (x ∷ xs) ys h = absurd (omega arith)
along-parts names r (i ∷ is) js [] ys h = absurd (omega arith)
along-parts names r (i ∷ is) js (x ∷ xs) ys h = along-parts names (composed r (renaming_in names i x)) is js xs ys (omega arith)

-- the commands of one action
within-length : (s : Slots) (ds : List DoneCommand) → length (images_within s ds) ≡ length (map (λ (d : DoneCommand). d.renames) ds)
within-length s [] = refl
within-length s (d ∷ ds) = ap suc (within-length s ds)

within-renamed : (s : Slots) (r : Renaming) (ds : List DoneCommand) → renamed_along s.names r (images_within s ds) (map (λ (d : DoneCommand). d.renames) ds) ≡ renamed_back s r ds
within-renamed s r [] = refl
within-renamed s r (d ∷ ds) =
    let u : Slots = taken_back s (d ∷ ds) in
    ap (λ (names : List (List ℕ)). renamed_along s.names (composed r (renaming_in names (image_of u) d.renames)) (images_within s ds) (map (λ (c : DoneCommand). c.renames) ds)) (sym (back-names s (d ∷ ds)))
    ∙ within-renamed s (composed r (renamed_by u d)) ds

-- all actions
abbrev pub all_of : List Done → List Renames
all_of es = flat_map of_entry (reverse es)

pub all-first : (e : Done) (es : List Done) → all_of (e ∷ es) ≡ all_of es ++ of_entry e
all-first e es =
    ap (flat_map of_entry) (reverse-append (e ∷ []) es) ∙ flat_map-append of_entry (reverse es) (e ∷ [])
    ∙ ap (λ (xs : List Renames). all_of es ++ xs) (append-nil (of_entry e))

pub judged-length : (s : Slots) (es : List Done) → length (images_judged s es) ≡ length (all_of es)
judged-length s [] = refl
judged-length s (e ∷ es) =
    let u : Slots = taken_back s e.commands in
    length-append (images_judged u es) (images_within s e.commands)
    ∙ (λ i. judged-length u es i + within-length s e.commands i)
    ∙ sym (length-append (all_of es) (of_entry e))
    ∙ ap length (sym (all-first e es))

pub all-renamed : (s : Slots) (es : List Done) → renaming_at s es ≡ renamed_along s.names no_renaming (images_judged s es) (flat_map of_entry (reverse es))
all-renamed s [] = refl
all-renamed s (e ∷ es) =
    let u : Slots = taken_back s e.commands in
    let first : renaming_at u es ≡ renamed_along s.names no_renaming (images_judged u es) (all_of es) =
    all-renamed u es ∙ ap (λ (names : List (List ℕ)). renamed_along names no_renaming (images_judged u es) (all_of es)) (back-names s e.commands) in
    sym (within-renamed s (renaming_at u es) e.commands)
    ∙ ap (λ (r : Renaming). renamed_along s.names r (images_within s e.commands) (of_entry e)) first
    ∙ sym (along-parts s.names no_renaming (images_judged u es) (images_within s e.commands) (all_of es) (of_entry e) (judged-length u es))
    ∙ ap (renamed_along s.names no_renaming (images_judged s (e ∷ es))) (sym (all-first e es))
