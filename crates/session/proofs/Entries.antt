-- The entries of a log in a list, of which so many are done.
use Rattle.std.proofs.Common.{◌≡◌, ◌<◌, ℕ, ◌+◌, List, [], ◌∷◌, ◌++◌, length, take, drop, reverse, get_or, set, refl, sym, ap, ◌∙◌, arith}
use Rattle.std.proofs.lemmas.List.{take_all, take_more, take-set, take_more_set, drop_all, drop-set, drop-set-lt, drop_more, reverse-append}
use Rattle.class_table.specs.declared.record.Place.{Place}
use Rattle.reference_index.specs.Mentioned.{Mentioned}
use Rattle.session.specs.Log.{Done, log_at}

-- the last item comes first
reverse-last : (xs : List Done) (d : Done) → reverse (xs ++ d ∷ []) ≡ d ∷ reverse xs
reverse-last xs d = reverse-append xs (d ∷ [])

-- a log by its two halves
log-halves : (x : Mentioned) (stale : List Place) (es : List Done) (n : ℕ) (back forth : List Done) → reverse (take n es) ≡ back → drop n es ≡ forth
    → log_at x stale es n ≡ record { index = x; stale = stale; back = back; forth = forth }
log-halves x stale es n back forth b f = λ i. record { index = x; stale = stale; back = b i; forth = f i }

module _ (x : Mentioned) (stale : List Place) (es : List Done) (k : ℕ) (h : k < length es) where
  -- the entry at a place is the nearest that is done, or the nearest that is undone
  pub last-done : (d : Done) → d ≡ get_or es k d → log_at x stale es (k + 1) ≡ record { index = x; stale = stale; back = d ∷ reverse (take k es); forth = drop (k + 1) es }
  last-done d e =
      log-halves x stale es (k + 1) (d ∷ reverse (take k es)) (drop (k + 1) es)
      (ap reverse (take_more es k d h) ∙ reverse-last (take k es) (get_or es k d) ∙ ap (λ (z : Done). z ∷ reverse (take k es)) (sym e)) refl

  pub first-undone : (d : Done) → d ≡ get_or es k d → log_at x stale es k ≡ record { index = x; stale = stale; back = reverse (take k es); forth = d ∷ drop (k + 1) es }
  first-undone d e =
      log-halves x stale es k (reverse (take k es)) (d ∷ drop (k + 1) es) refl (drop_more es k d h ∙ ap (λ (z : Done). z ∷ drop (k + 1) es) (sym e))

  -- another entry at that place
  pub last-done-set : (d : Done) → log_at x stale (set es k d) (k + 1) ≡ record { index = x; stale = stale; back = d ∷ reverse (take k es); forth = drop (k + 1) es }
  last-done-set d =
      log-halves x stale (set es k d) (k + 1) (d ∷ reverse (take k es)) (drop (k + 1) es)
      (ap reverse (take_more_set es k d h) ∙ reverse-last (take k es) d) (drop-set-lt (k + 1) es k d (omega arith))

  pub first-undone-set : (d : Done) → log_at x stale (set es k d) k ≡ record { index = x; stale = stale; back = reverse (take k es); forth = d ∷ drop (k + 1) es }
  first-undone-set d =
      log-halves x stale (set es k d) k (reverse (take k es)) (d ∷ drop (k + 1) es) (ap reverse (take-set es k d)) (drop-set es k d h)

-- an entry behind those that are done
pub last-pushed : (x : Mentioned) (stale : List Place) (es : List Done) (n : ℕ) (d : Done)
    → log_at x stale (take n es ++ d ∷ []) (length (take n es ++ d ∷ [])) ≡ record { index = x; stale = stale; back = d ∷ reverse (take n es); forth = [] }
last-pushed x stale es n d =
    let all : List Done = take n es ++ d ∷ [] in
    log-halves x stale all (length all) (d ∷ reverse (take n es)) []
    (ap reverse (take_all (length all) all (omega arith)) ∙ reverse-last (take n es) d) (drop_all (length all) all (omega arith))
