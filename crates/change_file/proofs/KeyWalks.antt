-- Keys in a table of texts, and the walks along them.
use Rattle.std.proofs.Common.{◌≡◌, ℕ, zero, suc, ◌+◌, ◌<◌, ◌≤◌, Bool, true, false, cond, not, List, [], ◌∷◌, ◌++◌, length, map, drop, Option, None, Some, slice_get, refl, sym, ap, subst, ◌∙◌, arith, append_assoc, append-nil, true≢false}
use Rattle.std.specs.Prelude.{◌||◌, if◌then◌else◌, nat_lt, is_some}
use Rattle.std.specs.List.{list_any, position_or_len, AllByRecursion}
use Rattle.std.proofs.lemmas.Bool.{lt-ltb, ltb-true, ltb-false}
use Rattle.rb_base.specs.Names.{text_eq, number_in, interned}
use Rattle.rb_base.proofs.NamesLemmas.{text_eq-refl}
use Rattle.file_model.specs.Filing.{Text}
use Rattle.file_laws.proofs.Moves.{text_equal}
use Rattle.change_laws.specs.Merged.{AreApart}
use Rattle.change_file.specs.Partners.{is_listed, places_from, partnered}

module _ {X : Type 0} (p : X → Bool) where
  -- the first place is within the list exactly where an item passes
  any_is : (xs : List X) → nat_lt (position_or_len p xs) (length xs) ≡ list_any p xs
  any_is [] = refl
  any_is (x ∷ xs) = by (p x) (any_is xs)
    where
      more : (b c : Bool) → nat_lt (position_or_len p xs) (length xs) ≡ b → nat_lt (1 + position_or_len p xs) (length (x ∷ xs)) ≡ c → c ≡ b
      more true true e f = refl
      more false false e f = refl
      more true false e f =
          let within : position_or_len p xs < length xs = ltb-true (position_or_len p xs) (length xs) e in
          absurd (true≢false (sym (lt-ltb (1 + position_or_len p xs) (length (x ∷ xs)) (omega arith)) ∙ f))
      more false true e f =
          let past : length xs ≤ position_or_len p xs = ltb-false (position_or_len p xs) (length xs) e in
          let within : 1 + position_or_len p xs < length (x ∷ xs) = ltb-true (1 + position_or_len p xs) (length (x ∷ xs)) f in
          absurd (omega (arith, past, within))

      by : (b : Bool) → nat_lt (position_or_len p xs) (length xs) ≡ list_any p xs → nat_lt (cond (not b) (1 + position_or_len p xs) 0) (length (x ∷ xs)) ≡ (b || list_any p xs)
      by true rest = lt-ltb 0 (length (x ∷ xs)) (omega arith)
      by false rest = more (list_any p xs) (nat_lt (1 + position_or_len p xs) (length (x ∷ xs))) rest refl

-- a text has a number exactly where it is in the table
pub number_listed : (names : List Text) (t : Text) → is_some (number_in names t) ≡ is_listed names t
number_listed names t = some (nat_lt (position_or_len (text_eq t) names) (length names)) (position_or_len (text_eq t) names) ∙ any_is (text_eq t) names
  where
    some : (b : Bool) (n : ℕ) → is_some (cond b (Some n) None) ≡ b
    some true n = refl
    some false n = refl

-- what stands from a place on where an item is
pub drop_item : {X : Type 0} (xs : List X) (i : ℕ) (x : X) → slice_get xs i ≡ Some x → drop i xs ≡ x ∷ drop (i + 1) xs
drop_item [] i x e = absurd (cc)
drop_item (y ∷ ys) zero x e = let same : y ≡ x = cc in ap (λ z. z ∷ ys) same
drop_item (y ∷ ys) (suc i) x e = let next : suc (i + 1) ≡ suc i + 1 = omega arith in drop_item ys i x e ∙ ap (λ (n : ℕ). x ∷ drop n (y ∷ ys)) next

-- nothing stands behind a place of an empty list
pub drop_nothing : (X : Type 0) (i : ℕ) → ◌≡◌ {A = List X} (drop i []) []
drop_nothing X zero = refl
drop_nothing X (suc i) = refl

-- nothing stands behind the last place
pub drop_end : {X : Type 0} (xs : List X) (i : ℕ) → length xs ≤ i → drop i xs ≡ []
drop_end [] zero l = refl
drop_end [] (suc i) l = refl
drop_end (y ∷ ys) zero l = absurd (omega arith)
drop_end (y ∷ ys) (suc i) l = drop_end ys i (omega arith)

-- what is still to come, once an item is put behind those that are there
pub moved : {X : Type 0} (out rest whole : List X) (x : X) → out ++ (x ∷ rest) ≡ whole → (out ++ x ∷ []) ++ rest ≡ whole
moved out rest whole x e = append_assoc out (x ∷ []) rest ∙ e

module _ (p : Text → Bool) (keys : List Text) (k : ℕ) (key : Text) (at : Some key ≡ slice_get keys k) where
  places_first : (b : Bool) → p key ≡ b → places_from k p (drop k keys) ≡ (if b then k ∷ places_from (k + 1) p (drop (k + 1) keys) else places_from (k + 1) p (drop (k + 1) keys))
  places_first b e =
      ap (places_from k p) (drop_item keys k key (sym at))
      ∙ ap (λ (n : ℕ). if p key then k ∷ places_from n p (drop (k + 1) keys) else places_from n p (drop (k + 1) keys)) (let next : suc k ≡ k + 1 = omega arith in next)
      ∙ ap (λ (c : Bool). if c then k ∷ places_from (k + 1) p (drop (k + 1) keys) else places_from (k + 1) p (drop (k + 1) keys)) e

  -- the place of a key that passes is put behind the others
  pub place_taken : (places whole : List ℕ) → p key ≡ true → places ++ places_from k p (drop k keys) ≡ whole → (places ++ k ∷ []) ++ places_from (k + 1) p (drop (k + 1) keys) ≡ whole
  place_taken places whole e h = moved places (places_from (k + 1) p (drop (k + 1) keys)) whole k (ap (λ (ns : List ℕ). places ++ ns) (sym (places_first true e)) ∙ h)

  -- that of a key that does not is left out
  pub place_left : (places whole : List ℕ) → p key ≡ false → places ++ places_from k p (drop k keys) ≡ whole → places ++ places_from (k + 1) p (drop (k + 1) keys) ≡ whole
  place_left places whole e h = ap (λ (ns : List ℕ). places ++ ns) (sym (places_first false e)) ∙ h

  partners_first : (ms : List ℕ) (b : Bool) → p key ≡ b
      → partnered p (drop k keys) ms ≡ (if b then slice_get ms 0 ∷ partnered p (drop (k + 1) keys) (drop 1 ms) else None ∷ partnered p (drop (k + 1) keys) ms)
  partners_first ms b e =
      ap (λ (ts : List Text). partnered p ts ms) (drop_item keys k key (sym at))
      ∙ ap (λ (c : Bool). if c then slice_get ms 0 ∷ partnered p (drop (k + 1) keys) (drop 1 ms) else None ∷ partnered p (drop (k + 1) keys) ms) e

  -- a key that passes has the next place
  pub partner_taken : (found whole : List (Option ℕ)) (ms : List ℕ) (next : ℕ) → p key ≡ true → found ++ partnered p (drop k keys) (drop next ms) ≡ whole
      → (found ++ slice_get ms next ∷ []) ++ partnered p (drop (k + 1) keys) (drop (next + 1) ms) ≡ whole
  partner_taken found whole ms next e h =
      moved found (partnered p (drop (k + 1) keys) (drop (next + 1) ms)) whole (slice_get ms next)
      (ap (λ (os : List (Option ℕ)). found ++ os) (sym (partners_first (drop next ms) true e ∙ (λ j. at_next ms next j ∷ partnered p (drop (k + 1) keys) (behind ms next j)))) ∙ h)
    where
      at_next : (ns : List ℕ) (n : ℕ) → slice_get (drop n ns) 0 ≡ slice_get ns n
      at_next [] zero = refl
      at_next [] (suc n) = refl
      at_next (m ∷ ns) zero = refl
      at_next (m ∷ ns) (suc n) = at_next ns n

      behind : (ns : List ℕ) (n : ℕ) → drop 1 (drop n ns) ≡ drop (n + 1) ns
      behind [] zero = refl
      behind [] (suc n) = sym (drop_nothing ℕ (suc n + 1))
      behind (m ∷ ns) zero = refl
      behind (m ∷ ns) (suc n) = let next : suc (n + 1) ≡ suc n + 1 = omega arith in behind ns n ∙ ap (λ (i : ℕ). drop i (m ∷ ns)) next

  -- another one has none
  pub partner_none : (found whole : List (Option ℕ)) (ms : List ℕ) → p key ≡ false → found ++ partnered p (drop k keys) ms ≡ whole
      → (found ++ None ∷ []) ++ partnered p (drop (k + 1) keys) ms ≡ whole
  partner_none found whole ms e h =
      moved found (partnered p (drop (k + 1) keys) ms) whole None (ap (λ (os : List (Option ℕ)). found ++ os) (sym (partners_first ms false e)) ∙ h)

-- no key is left
pub places_end : (p : Text → Bool) (keys : List Text) (k : ℕ) (places whole : List ℕ) → length keys ≤ k → places ++ places_from k p (drop k keys) ≡ whole → places ≡ whole
places_end p keys k places whole l h = sym (append-nil places) ∙ ap (λ (ts : List Text). places ++ places_from k p ts) (sym (drop_end keys k l)) ∙ h

pub partners_end : (p : Text → Bool) (keys : List Text) (k : ℕ) (found whole : List (Option ℕ)) (ms : List ℕ) → length keys ≤ k → found ++ partnered p (drop k keys) ms ≡ whole → found ≡ whole
partners_end p keys k found whole ms l h = sym (append-nil found) ∙ ap (λ (ts : List Text). found ++ partnered p ts ms) (sym (drop_end keys k l)) ∙ h

-- keys that are told apart
pub keys_apart : {X : Type 0} (key : X → Text) (alike : X → X → Bool) → ((x y : X) → alike x y ≡ text_eq (key x) (key y)) → (xs : List X) → AreApart alike xs → AreApart text_eq (map key xs)
keys_apart key alike tells [] apart = tt
keys_apart {X} key alike tells (x ∷ xs) apart = (each xs apart.0, keys_apart key alike tells xs apart.1)
  where
    each : (ys : List X) → AllByRecursion (λ y. alike x y ≡ true → ⊥) ys → AllByRecursion (λ t. text_eq (key x) t ≡ true → ⊥) (map key ys)
    each [] all = tt
    each (y ∷ ys) all = (λ e. all.0 (tells x y ∙ e), each ys all.1)

-- a key is not among those before it
new_key : (before : List Text) (t : Text) (rest : List Text) → AreApart text_eq (before ++ t ∷ rest) → list_any (text_eq t) before ≡ false
new_key [] t rest apart = refl
new_key (b ∷ bs) t rest apart = by (text_eq t b) refl (new_key bs t rest apart.1)
  where
    among : (cs : List Text) → AllByRecursion (λ y. text_eq b y ≡ true → ⊥) (cs ++ t ∷ rest) → text_eq b t ≡ true → ⊥
    among [] all = all.0
    among (c ∷ cs) all = among cs all.1

    by : (a : Bool) → text_eq t b ≡ a → list_any (text_eq t) bs ≡ false → (a || list_any (text_eq t) bs) ≡ false
    by true e more = absurd (among bs apart.0 (ap (text_eq b) (text_equal t b e) ∙ text_eq-refl b))
    by false e more = more

-- one more key is put into a table
pub key_taken : (names rest whole : List Text) (t : Text) → AreApart text_eq whole → names ++ (t ∷ rest) ≡ whole → interned names t ++ rest ≡ whole
key_taken names rest whole t apart h =
    ap (λ (b : Bool). (if b then names else names ++ t ∷ []) ++ rest) (new_key names t rest (subst (AreApart text_eq) (sym h) apart))
    ∙ moved names rest whole t h

-- what is in a table once a text is put in
pub interned_listed : (names : List Text) (t name : Text) → is_listed (interned names t) name ≡ (is_listed names name || text_eq name t)
interned_listed names t name = by (list_any (text_eq t) names) refl
  where
    last : (ns : List Text) → list_any (text_eq name) (ns ++ t ∷ []) ≡ (list_any (text_eq name) ns || text_eq name t)
    last [] = only (text_eq name t)
      where
        only : (b : Bool) → (b || false) ≡ b
        only true = refl
        only false = refl
    last (n ∷ ns) = by (text_eq name n) (last ns)
      where
        by : (b : Bool) → list_any (text_eq name) (ns ++ t ∷ []) ≡ (list_any (text_eq name) ns || text_eq name t) → (b || list_any (text_eq name) (ns ++ t ∷ [])) ≡ (b || list_any (text_eq name) ns || text_eq name t)
        by true e = refl
        by false e = e

    known : (b : Bool) → text_eq name t ≡ b → list_any (text_eq t) names ≡ true → list_any (text_eq name) names ≡ (list_any (text_eq name) names || b)
    known true e there = let same : name ≡ t = text_equal name t e in let here : list_any (text_eq name) names ≡ true = ap (λ (u : Text). list_any (text_eq u) names) same ∙ there in here ∙ sym (ap (λ (c : Bool). c || true) here)
    known false e there = only (list_any (text_eq name) names)
      where
        only : (c : Bool) → c ≡ (c || false)
        only true = refl
        only false = refl

    by : (b : Bool) → list_any (text_eq t) names ≡ b → list_any (text_eq name) (if b then names else names ++ t ∷ []) ≡ (list_any (text_eq name) names || text_eq name t)
    by true e = known (text_eq name t) refl e
    by false e = last names
