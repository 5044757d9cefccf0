-- A selector cut behind each colon: what is left has none.
use Rattle.std.proofs.Common.{◌≡◌, ℕ, ◌≤◌, Bool, true, false, List, [], ◌∷◌, ◌++◌, length, None, refl, sym, ap, ◌∙◌, append-nil, arith}
use Rattle.std.specs.Prelude.{ltb, cond, nat_eq, Some}
use Rattle.std.specs.List.{position}
use Rattle.std.proofs.lemmas.Bool.{ltb-false, eqb-true}
use Rattle.text_model.specs.Pieces.{is_colon, keywords_of}
use Rattle.pattern_match.proofs.Keywords.{colon_at, one_piece}

-- no colon stands where none is found
none_found : (s : List ℕ) → None ≡ position is_colon s → length s ≤ colon_at s
none_found s e = by (ltb (colon_at s) (length s)) refl e
  where
    by : (b : Bool) → ltb (colon_at s) (length s) ≡ b → None ≡ cond b (Some (colon_at s)) None → length s ≤ colon_at s
    by true t f = let bad : ⊥ = cc in absurd bad
    by false t f = ltb-false (colon_at s) (length s) t

module _ (t rest : List ℕ) (ks : List (List ℕ)) (cut : ks ++ keywords_of rest ≡ keywords_of t) where
  -- nothing is left
  pub ends_empty : nat_eq (length rest) 0 ≡ true → ks ≡ keywords_of t
  ends_empty e = by rest (eqb-true (length rest) 0 e) cut
    where
      by : (s : List ℕ) → length s ≡ 0 → ks ++ keywords_of s ≡ keywords_of t → ks ≡ keywords_of t
      by [] h f = sym (append-nil ks) ∙ f
      by (b ∷ s) h f = absurd (omega (arith, h))

  -- the last piece has no colon
  pub ends_open : nat_eq (length rest) 0 ≡ false → None ≡ position is_colon rest → (ls : List (List ℕ)) → ls ≡ ks ++ rest ∷ [] → ls ≡ keywords_of t
  ends_open some e ls is = is ∙ by rest refl ∙ cut
    where
      by : (s : List ℕ) → s ≡ rest → ks ++ rest ∷ [] ≡ ks ++ keywords_of rest
      by [] f = let bad : ⊥ = cc in absurd bad
      by (b ∷ s) f =
          ap (λ (r : List ℕ). ks ++ r ∷ []) (sym f) ∙ ap (λ (ls : List (List ℕ)). ks ++ ls) (sym (one_piece b s (none_found (b ∷ s) (e ∙ ap (position is_colon) (sym f))))) ∙ ap (λ r. ks ++ keywords_of r) f
