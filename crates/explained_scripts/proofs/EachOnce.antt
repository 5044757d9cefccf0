-- Texts that are kept once each, as a table of names keeps them.
use Rattle.std.proofs.Common.{◌≡◌, ℕ, ◌<◌, Bool, true, false, not, ◌||◌, ◌&&◌, List, [], ◌∷◌, ◌++◌, length, Option, Some, None, refl, sym, ap, ◌∙◌, arith, true≢false}
use Rattle.std.specs.Prelude.{filter, if◌then◌else◌}
use Rattle.std.specs.List.{list_any, flat_map}
use Rattle.std.proofs.lemmas.List.{append-nil}
use Rattle.std.proofs.lemmas.List.Elements.{filter-append}
use Rattle.std.proofs.lemmas.List.Quantifiers.{position-Some}
use Rattle.std.proofs.lemmas.Grind.{flat_map-append}
use Rattle.std.proofs.lemmas.Map.Views.{any-filter_same}
use Rattle.rb_base.specs.Names.{text_eq, number_in, interned}
use Rattle.rb_base.proofs.NamesLemmas.{text_eq-one, text_eq-refl, intern_known, intern_new, number_new}
use Rattle.scope_model.specs.FreeNames.{each_once}

-- two texts are compared both ways alike
same-back : (x y : List ℕ) → text_eq y x ≡ text_eq x y
same-back x y = by (text_eq x y) (text_eq y x) refl refl
  where
    by : (b c : Bool) → text_eq x y ≡ b → text_eq y x ≡ c → c ≡ b
    by true true e f = refl
    by false false e f = refl
    by true false e f = absurd (true≢false (sym (ap (text_eq y) (text_eq-one x y e) ∙ text_eq-refl y) ∙ f))
    by false true e f = absurd (true≢false (sym (ap (text_eq x) (text_eq-one y x f) ∙ text_eq-refl x) ∙ e))

-- a text more is one that a table of those before it gets
pub once-more : (xs : List (List ℕ)) (x : List ℕ) → each_once text_eq (xs ++ x ∷ []) ≡ interned (each_once text_eq xs) x
once-more [] x = refl
once-more (y ∷ ys) x =
    ap (λ zs. y ∷ filter p zs) (once-more ys x)
    ∙ by (list_any (text_eq x) rest) (text_eq x y)
    ∙ ap (λ (c : Bool). if text_eq x y || c then y ∷ filter p rest else (y ∷ filter p rest) ++ x ∷ []) (sym among)
  where
    rest : List (List ℕ)
    rest = each_once text_eq ys

    p : List ℕ → Bool
    p k = not (text_eq y k)

    among : list_any (text_eq x) (filter p rest) ≡ (not (text_eq x y) && list_any (text_eq x) rest)
    among = any-filter_same (text_eq x) p (not (text_eq x y)) (λ k e. ap not (ap (text_eq y) (sym (text_eq-one x k e)) ∙ same-back x y)) rest

    last : (b : Bool) → text_eq x y ≡ b → filter p (rest ++ x ∷ []) ≡ filter p rest ++ (if not b then x ∷ [] else [])
    last b e = filter-append p rest (x ∷ []) ∙ ap (λ (c : Bool). filter p rest ++ (if not c then x ∷ [] else [])) (same-back x y ∙ e)

    with : (b : Bool) → text_eq x y ≡ b → y ∷ filter p (rest ++ x ∷ []) ≡ (if b || (not b && false) then y ∷ filter p rest else (y ∷ filter p rest) ++ x ∷ [])
    with true e = ap (λ zs. y ∷ zs) (last true e ∙ append-nil (filter p rest))
    with false e = ap (λ zs. y ∷ zs) (last false e)

    without : (b : Bool) → y ∷ filter p rest ≡ (if b || (not b && true) then y ∷ filter p rest else (y ∷ filter p rest) ++ x ∷ [])
    without true = refl
    without false = refl

    by : (a b : Bool) → y ∷ filter p (if a then rest else rest ++ x ∷ []) ≡ (if text_eq x y || (not (text_eq x y) && a) then y ∷ filter p rest else (y ∷ filter p rest) ++ x ∷ [])
    by true b = without (text_eq x y)
    by false b = with (text_eq x y) refl

-- texts one after the other
abbrev pub joined : List (List ℕ) → List ℕ
joined xs = flat_map (λ (t : List ℕ). t) xs

-- a text with the number of a new one is new, and any other is known
module _ (seen : List (List ℕ)) (x : List ℕ) (n : ℕ) (e : Some n ≡ number_in (interned seen x) x) where
  pub told-new : n ≡ length seen → joined (interned seen x) ≡ joined seen ++ x
  told-new is = by (number_in seen x) refl
    where
      by : (o : Option ℕ) → number_in seen x ≡ o → joined (interned seen x) ≡ joined seen ++ x
      by None new =
          ap joined (sym (intern_new seen x new)) ∙ flat_map-append (λ (t : List ℕ). t) seen (x ∷ [])
          ∙ ap (λ zs. joined seen ++ zs) (append-nil x)
      by (Some k) known =
          let number : Some n ≡ Some k = e ∙ ap (λ ns. number_in ns x) (sym (intern_known seen x k known)) ∙ known in
          let same : n ≡ k = cc in
          let below : k < length seen = (position-Some (text_eq x) seen k [] known).0 in
          absurd (omega (arith, same, below, is))

  pub told-known : (n ≡ length seen → ⊥) → interned seen x ≡ seen
  told-known other = by (number_in seen x) refl
    where
      by : (o : Option ℕ) → number_in seen x ≡ o → interned seen x ≡ seen
      by None new =
          let number : Some n ≡ Some (length seen) = e ∙ ap (λ ns. number_in ns x) (sym (intern_new seen x new)) ∙ sym (number_new seen x new) in
          let same : n ≡ length seen = cc in
          absurd (other same)
      by (Some k) known = sym (intern_known seen x k known)
