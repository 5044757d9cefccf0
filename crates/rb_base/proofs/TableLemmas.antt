-- A table of names, in which each text is found under its number.
use Rattle.std.proofs.Common.{◌≡◌, ◌⊎◌, inl, inr, ℕ, zero, suc, Bool, true, false, cond, List, [], ◌∷◌, ◌++◌, length, get_or, Option, Some, None, slice_get, refl, sym, ap, ◌∙◌}
use Rattle.std.specs.Prelude.{Vec}
use Rattle.std.specs.declared.alloc.Global.{Global}
use Rattle.std.specs.HashMap.{UpdatesBy, IsEmpty}
use Rattle.std.specs.Map.{lookup, KeepsOthers, IsKeyTest, AreApart}
use Rattle.std.proofs.lemmas.Option.{slice_get-get_or}
use Rattle.std.proofs.lemmas.List.Quantifiers.{position-Some}
use Rattle.rb_base.specs.Names.{text_eq, number_in, HasNoTwice}
use Rattle.rb_base.specs.NameTable.{NameTable, number_under, KnowsTexts}
use Rattle.rb_base.proofs.NamesLemmas.{text_eq-refl, text_eq-one, number-of-place}

Some-one : {X : Type 0} (x y : X) → Some x ≡ Some y → x ≡ y
Some-one x y e = cc

None-Some : {X : Type 0} (x : X) → None ≡ Some x → ⊥
None-Some x e = cc

-- an empty table knows no texts
pub knows_none : (numbers : NameTable) → IsEmpty numbers → KnowsTexts numbers []
knows_none numbers e = record {
  found = λ n t h. absurd (None-Some t h);
  there = λ n t h. absurd (None-Some n (sym (ap (λ (es : List (Vec ℕ Global × ℕ)). lookup (λ (k : Vec ℕ Global). text_eq t k.items) es) e) ∙ h));
}

-- what is found under a text is its number
pub number_found : (numbers : NameTable) (texts : List (List ℕ)) → KnowsTexts numbers texts → (t : List ℕ) → number_under numbers t ≡ number_in texts t
number_found numbers texts knows t = by (number_in texts t) refl
  where
    none : (o : Option ℕ) → number_under numbers t ≡ o → number_in texts t ≡ None → o ≡ None
    none None h e = refl
    none (Some n) h e = absurd (number-of-place texts t n (knows.there n t h) e)

    by : (o : Option ℕ) → number_in texts t ≡ o → number_under numbers t ≡ o
    by None e = none (number_under numbers t) refl e
    by (Some n) e =
        let at = position-Some (text_eq t) texts n [] e in
        knows.found n t (slice_get-get_or texts n [] at.0 ∙ ap Some (sym (text_eq-one t (get_or texts n []) at.1)))

-- no text has two numbers
pub names_distinct : (numbers : NameTable) (texts : List (List ℕ)) → KnowsTexts numbers texts → HasNoTwice texts
names_distinct numbers texts knows i j h e =
    let here : slice_get texts i ≡ Some (get_or texts i []) = slice_get-get_or texts i [] h in
    Some-one i j (sym (knows.found i (get_or texts i []) here) ∙ knows.found j (get_or texts i []) (sym e ∙ here))

module _ {X : Type 0} where
  -- what stands last
  last : (xs : List X) (y : X) → slice_get (xs ++ y ∷ []) (length xs) ≡ Some y
  last [] y = refl
  last (x ∷ xs) y = last xs y

  -- what stands before it
  kept : (xs : List X) (y u : X) (n : ℕ) → slice_get xs n ≡ Some u → slice_get (xs ++ y ∷ []) n ≡ Some u
  kept [] y u n e = absurd (None-Some u e)
  kept (x ∷ xs) y u zero e = e
  kept (x ∷ xs) y u (suc n) e = kept xs y u n e

  -- each item stands before it or is it
  either : (xs : List X) (y u : X) (n : ℕ) → slice_get (xs ++ y ∷ []) n ≡ Some u → (slice_get xs n ≡ Some u) ⊎ ((n ≡ length xs) × (y ≡ u))
  either [] y u zero e = inr (refl, Some-one y u e)
  either [] y u (suc n) e = absurd (None-Some u e)
  either (x ∷ xs) y u zero e = inl e
  either (x ∷ xs) y u (suc n) e = by (either xs y u n e)
    where
      by : (slice_get xs n ≡ Some u) ⊎ ((n ≡ length xs) × (y ≡ u)) → (slice_get xs n ≡ Some u) ⊎ ((suc n ≡ length (x ∷ xs)) × (y ≡ u))
      by (inl h) = inl h
      by (inr h) = inr (ap suc h.0, h.1)

-- a key
abbrev pub Key : Type 0
Key = Vec ℕ Global

-- two keys have the same text
abbrev pub same_key : Key → Key → Bool
same_key x y = text_eq x.items y.items

module _ (numbers after : NameTable) (texts : List (List ℕ)) (key : Key) (t : List ℕ) (is : key.items ≡ t) (updates : UpdatesBy same_key (same_key key) numbers after (Some (length texts))) where
  -- the new text has the number, and each other one has what it had
  under : (u : List ℕ) (b : Bool) → text_eq u t ≡ b → number_under after u ≡ cond b (Some (length texts)) (number_under numbers u)
  unfolding KeepsOthers
  under u true h = ap (λ (s : List ℕ). number_under after s) (text_eq-one u t h ∙ sym is) ∙ updates.1
  under u false h = updates.3 (λ (k : Key). text_eq u k.items) keyed apart
    where
      keyed : IsKeyTest same_key (λ (k : Key). text_eq u k.items)
      keyed x y e = ap (λ (s : List ℕ). text_eq s y.items) (text_eq-one u x.items e)

      apart : AreApart (same_key key) (λ (k : Key). text_eq u k.items)
      apart k e = ap (text_eq u) (sym (text_eq-one key.items k.items e) ∙ is) ∙ h

  -- the table knows one more text
  pub knows_more : KnowsTexts numbers texts → number_in texts t ≡ None → KnowsTexts after (texts ++ t ∷ [])
  knows_more knows new = record {
    found = λ n u e. found n u (either texts t u n e);
    there = λ n u e. there n u (text_eq u t) refl e;
  }
    where
      found : (n : ℕ) (u : List ℕ) → (slice_get texts n ≡ Some u) ⊎ ((n ≡ length texts) × (t ≡ u)) → number_under after u ≡ Some n
      found n u (inr h) = under u true (ap (λ (s : List ℕ). text_eq s t) (sym h.1) ∙ text_eq-refl t) ∙ ap Some (sym h.0)
      found n u (inl h) = by (text_eq u t) refl
        where
          by : (b : Bool) → text_eq u t ≡ b → number_under after u ≡ Some n
          by true e = absurd (number-of-place texts t n (h ∙ ap Some (text_eq-one u t e)) new)
          by false e = under u false e ∙ knows.found n u h

      there : (n : ℕ) (u : List ℕ) (b : Bool) → text_eq u t ≡ b → number_under after u ≡ Some n → slice_get (texts ++ t ∷ []) n ≡ Some u
      there n u true h e =
          let same : length texts ≡ n = Some-one (length texts) n (sym (under u true h) ∙ e) in
          ap (slice_get (texts ++ t ∷ [])) (sym same) ∙ last texts t ∙ ap Some (sym (text_eq-one u t h))
      there n u false h e = kept texts t u n (knows.there n u (sym (under u false h) ∙ e))
