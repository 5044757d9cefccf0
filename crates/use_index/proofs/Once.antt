-- Names where they stand first.
use Rattle.std.proofs.Common.{◌≡◌, ℕ, List, [], ◌∷◌, ◌++◌, Bool, true, false, if◌then◌else◌, ◌||◌, map, nat_eq, refl, sym, ap, ◌∙◌, eqb-true}
use Rattle.std.specs.List.{list_any}
use Rattle.std.proofs.lemmas.List.{append_assoc, map-append}
use Rattle.use_index.specs.declared.uses.UseAt.{UseAt}
use Rattle.use_index.specs.declared.uses.Way.{Way}
use Rattle.use_index.specs.Uses.{use_at, once_after, each_once, uses_of}

-- whichever of them is asked first
turned : (e s r : Bool) → ((e || s) || r) ≡ (s || (e || r))
turned true true r = refl
turned true false r = refl
turned false true r = refl
turned false false r = refl

-- one more name comes last, if it was not there
pub once-push : (seen ns : List ℕ) (n : ℕ) → once_after seen (ns ++ n ∷ []) ≡ once_after seen ns ++ (if list_any (nat_eq n) seen || list_any (nat_eq n) ns then [] else n ∷ [])
once-push seen [] n = by (list_any (nat_eq n) seen)
  where
    by : (b : Bool) → (if b then [] else n ∷ []) ≡ (if b || false then [] else n ∷ [])
    by true = refl
    by false = refl
once-push seen (m ∷ ms) n = by (list_any (nat_eq m) seen) refl (once-push seen ms n) (once-push (m ∷ seen) ms n)
  where
    here : list_any (nat_eq m) seen ≡ true → (e : Bool) → nat_eq n m ≡ e → (list_any (nat_eq n) seen || list_any (nat_eq n) ms) ≡ (list_any (nat_eq n) seen || (e || list_any (nat_eq n) ms))
    here is true same = let t : list_any (nat_eq n) seen ≡ true = ap (λ k. list_any (nat_eq k) seen) (eqb-true n m same) ∙ is in rw t refl
    here is false same = refl

    by : (b : Bool) → list_any (nat_eq m) seen ≡ b
        → once_after seen (ms ++ n ∷ []) ≡ once_after seen ms ++ (if list_any (nat_eq n) seen || list_any (nat_eq n) ms then [] else n ∷ [])
        → once_after (m ∷ seen) (ms ++ n ∷ []) ≡ once_after (m ∷ seen) ms ++ (if (nat_eq n m || list_any (nat_eq n) seen) || list_any (nat_eq n) ms then [] else n ∷ [])
        → (if b then once_after seen (ms ++ n ∷ []) else m ∷ once_after (m ∷ seen) (ms ++ n ∷ []))
        ≡ (if b then once_after seen ms else m ∷ once_after (m ∷ seen) ms) ++ (if list_any (nat_eq n) seen || (nat_eq n m || list_any (nat_eq n) ms) then [] else n ∷ [])
    by true is there more = there ∙ ap (λ c. once_after seen ms ++ (if c then [] else n ∷ [])) (here is (nat_eq n m) refl)
    by false is there more =
        ap (λ (zs : List ℕ). m ∷ zs)
        (more ∙ ap (λ c. once_after (m ∷ seen) ms ++ (if c then [] else n ∷ [])) (turned (nat_eq n m) (list_any (nat_eq n) seen) (list_any (nat_eq n) ms)))

-- the uses of one name more
uses-push : (w : Way) (path ns : List ℕ) (n : ℕ) → uses_of w path (ns ++ n ∷ []) ≡ uses_of w path ns ++ (if list_any (nat_eq n) ns then [] else use_at w path n ∷ [])
uses-push w path ns n =
    ap (map (use_at w path)) (once-push [] ns n)
    ∙ map-append (use_at w path) (each_once ns) (if list_any (nat_eq n) ns then [] else n ∷ [])
    ∙ ap (λ zs. uses_of w path ns ++ zs) (by (list_any (nat_eq n) ns))
  where
    by : (b : Bool) → map (use_at w path) (if b then [] else n ∷ []) ≡ (if b then [] else use_at w path n ∷ [])
    by true = refl
    by false = refl

-- and where they come behind others
pub once-step : (w : Way) (path seen more : List ℕ) (n : ℕ) (first before now : List UseAt) → before ≡ first ++ uses_of w path seen
    → now ≡ before ++ (if list_any (nat_eq n) seen then [] else use_at w path n ∷ []) → more ≡ seen ++ n ∷ [] → now ≡ first ++ uses_of w path more
once-step w path seen more n first before now was is grown =
    is
    ∙ ap (λ zs. zs ++ (if list_any (nat_eq n) seen then [] else use_at w path n ∷ [])) was
    ∙ append_assoc first (uses_of w path seen) (if list_any (nat_eq n) seen then [] else use_at w path n ∷ [])
    ∙ ap (λ zs. first ++ zs) (sym (uses-push w path seen n))
    ∙ ap (λ ns. first ++ uses_of w path ns) (sym grown)
