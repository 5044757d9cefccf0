-- Items of two lists that pair up in order: an item stays exactly where it is equal to its partner.
use Rattle.std.proofs.Common.{◌≡◌, ℕ, zero, suc, ◌+◌, Bool, true, false, cond, List, [], ◌∷◌, map, filter, drop, Option, Some, None, slice_get, refl, ap, sym, subst, ◌∙◌, arith, true≢false}
use Rattle.std.specs.Prelude.{◌&&◌, ◌||◌, if◌then◌else◌}
use Rattle.std.specs.Option.{option_map, option_map_or, option_and_then}
use Rattle.std.proofs.lemmas.Bool.{eqb-true, eq-eqb}
use Rattle.rb_base.specs.Names.{text_eq}
use Rattle.rb_base.proofs.NamesLemmas.{text_eq-refl}
use Rattle.file_model.specs.Filing.{Text}
use Rattle.file_laws.proofs.Moves.{text_equal}
use Rattle.change_model.specs.Differs.{is_among, in_both, place_of, is_one_place, stays}
use Rattle.change_laws.specs.Merged.{AreApart}
use Rattle.change_laws.proofs.Placing.{all_has}
use Rattle.change_laws.proofs.Orders.{found, any_has, filter_has, at_has, apart_filter, one_alike, IsFoundAt}
use Rattle.change_file.specs.Partners.{is_listed, places_from, partnered, partners, partner_at, is_partner_equal}

-- how many of the keys before a place pass
abbrev ahead : (Text → Bool) → ℕ → List Text → ℕ
ahead p zero ts = 0
ahead p (suc k) [] = 0
ahead p (suc k) (t ∷ ts) = if p t then suc (ahead p k ts) else ahead p k ts

-- an item behind the first
behind : (ms : List ℕ) (n : ℕ) → slice_get (drop 1 ms) n ≡ slice_get ms (suc n)
behind [] n = refl
behind (m ∷ ms) n = refl

-- the partner of a key
partner_is : (p : Text → Bool) (ts : List Text) (ms : List ℕ) (k : ℕ) (t : Text) → slice_get ts k ≡ Some t
    → partner_at (partnered p ts ms) k ≡ (if p t then slice_get ms (ahead p k ts) else None)
partner_is p [] ms k t e = absurd (cc)
partner_is p (u ∷ us) ms zero t e =
    let same : u ≡ t = cc in
    subst (λ (v : Text). partner_at (partnered p (u ∷ us) ms) zero ≡ (if p v then slice_get ms 0 else None)) same (by (p u))
  where
    by : (b : Bool) → partner_at (if b then slice_get ms 0 ∷ partnered p us (drop 1 ms) else None ∷ partnered p us ms) zero ≡ (if b then slice_get ms 0 else None)
    by true = refl
    by false = refl
partner_is p (u ∷ us) ms (suc k) t e = by (p u) (λ ns. partner_is p us ns k t e)
  where
    chosen : (b : Bool) → (if b then slice_get (drop 1 ms) (ahead p k us) else None) ≡ (if b then slice_get ms (suc (ahead p k us)) else None)
    chosen true = behind ms (ahead p k us)
    chosen false = refl

    by : (b : Bool) → ((ns : List ℕ) → partner_at (partnered p us ns) k ≡ (if p t then slice_get ns (ahead p k us) else None))
        → partner_at (if b then slice_get ms 0 ∷ partnered p us (drop 1 ms) else None ∷ partnered p us ms) (suc k) ≡ (if p t then slice_get ms (if b then suc (ahead p k us) else ahead p k us) else None)
    by true rest = rest (drop 1 ms) ∙ chosen (p t)
    by false rest = rest ms

-- a place is one with another where it is that one
one_place_is : (n : ℕ) (k : Option ℕ) → is_one_place (Some n) k ≡ true → k ≡ Some n
one_place_is n None h = absurd (true≢false (sym h))
one_place_is n (Some k) h = ap Some (sym (eqb-true n k h))

module _ {X : Type 0} where
  place_found : (p : X → Bool) (xs : List X) (n : ℕ) → place_of p xs ≡ Some n → IsFoundAt p xs n
  place_found p [] n e = absurd (cc)
  place_found p (x ∷ xs) n e = by (p x) refl e (λ k f. place_found p xs k f)
    where
      later : (o : Option ℕ) → place_of p xs ≡ o → option_map suc o ≡ Some n → ((k : ℕ) → place_of p xs ≡ Some k → IsFoundAt p xs k) → IsFoundAt p (x ∷ xs) n
      later None g f rest = absurd (cc)
      later (Some k) g f rest =
          let i = rest k g in let number : suc k ≡ n = cc in
          subst (IsFoundAt p (x ∷ xs)) number (record { item = i.item; at = i.at; passes = i.passes })

      by : (b : Bool) → p x ≡ b → (if b then Some 0 else option_map suc (place_of p xs)) ≡ Some n → ((k : ℕ) → place_of p xs ≡ Some k → IsFoundAt p xs k) → IsFoundAt p (x ∷ xs) n
      by true g f rest = let number : 0 ≡ n = cc in subst (IsFoundAt p (x ∷ xs)) number (record { item = x; at = refl; passes = g })
      by false g f rest = later (place_of p xs) refl f rest

  module _ (key : X → Text) where
    -- the place of the item that is as many-th of those that pass
    found_at : (q : Text → Bool) (whole rest : List X) (j n : ℕ) → ((i : ℕ) → slice_get whole (j + i) ≡ slice_get rest i)
        → option_and_then (slice_get whole) (slice_get (places_from j q (map key rest)) n) ≡ slice_get (filter (λ (y : X). q (key y)) rest) n
    found_at q whole [] j n at = refl
    found_at q whole (y ∷ ys) j n at = by (q (key y)) n (λ m. found_at q whole ys (suc j) m (λ i. ap (slice_get whole) (omega arith) ∙ at (suc i)))
      where
        by : (b : Bool) (n : ℕ) → ((m : ℕ) → option_and_then (slice_get whole) (slice_get (places_from (suc j) q (map key ys)) m) ≡ slice_get (filter (λ (z : X). q (key z)) ys) m)
            → option_and_then (slice_get whole) (slice_get (if b then j ∷ places_from (suc j) q (map key ys) else places_from (suc j) q (map key ys)) n)
            ≡ slice_get (cond b (y ∷ filter (λ (z : X). q (key z)) ys) (filter (λ (z : X). q (key z)) ys)) n
        by true zero rest = ap (slice_get whole) (omega arith) ∙ at 0
        by true (suc m) rest = rest m
        by false m rest = rest m

    module _ (alike : X → X → Bool) (tells : (x y : X) → alike x y ≡ text_eq (key x) (key y)) where
      itself : (x : X) → alike x x ≡ true
      itself x = tells x x ∙ text_eq-refl (key x)

      one_key : (x y : X) → alike x y ≡ true → key x ≡ key y
      one_key x y h = text_equal (key x) (key y) (sym (tells x y) ∙ h)

      from_key : (x y : X) → key x ≡ key y → alike x y ≡ true
      from_key x y e = tells x y ∙ ap (λ (t : Text). text_eq t (key y)) e ∙ text_eq-refl (key y)

      back : (x y : X) → alike x y ≡ true → alike y x ≡ true
      back x y h = from_key y x (sym (one_key x y h))

      -- an item of the one list has its key in the other
      pub among_listed : (xs : List X) (y : X) → is_among alike xs y ≡ is_listed (map key xs) (key y)
      among_listed [] y = refl
      among_listed (x ∷ xs) y = let rest = among_listed xs y in λ j. tells y x j || rest j

      -- the place of an item that is alike to the one at a place
      place_like : (xs : List X) (n : ℕ) (d x : X) → AreApart alike xs → slice_get xs n ≡ Some d → alike x d ≡ true → place_of (alike x) xs ≡ Some n
      place_like [] n d x apart e h = absurd (cc)
      place_like (y ∷ ys) zero d x apart e h =
          let one : y ≡ d = cc in
          ap (λ (b : Bool). if b then Some 0 else option_map suc (place_of (alike x) ys)) (ap (alike x) one ∙ h)
      place_like (y ∷ ys) (suc n) d x apart e h = by (alike x y) refl (place_like ys n d x apart.1 e h)
        where
          by : (b : Bool) → alike x y ≡ b → place_of (alike x) ys ≡ Some n → (if b then Some 0 else option_map suc (place_of (alike x) ys)) ≡ Some (suc n)
          by true k rest = absurd (all_has (λ (z : X). alike y z ≡ true → ⊥) ys d apart.0 (at_has ys n d e) (from_key y d (sym (one_key x y k) ∙ one_key x d h)))
          by false k rest = ap (option_map suc) rest

      -- the place of an item among those that pass
      place_ahead : (p : Text → Bool) (xs : List X) (k : ℕ) (x : X) → AreApart alike xs → slice_get xs k ≡ Some x → p (key x) ≡ true
          → place_of (alike x) (filter (λ (z : X). p (key z)) xs) ≡ Some (ahead p k (map key xs))
      place_ahead p [] k x apart e h = absurd (cc)
      place_ahead p (y ∷ ys) zero x apart e h =
          let one : y ≡ x = cc in
          let passes : p (key y) ≡ true = ap (λ (z : X). p (key z)) one ∙ h in
          (λ j. place_of (alike x) (cond (passes j) (y ∷ filter (λ (z : X). p (key z)) ys) (filter (λ (z : X). p (key z)) ys)))
          ∙ ap (λ (b : Bool). if b then Some 0 else option_map suc (place_of (alike x) (filter (λ (z : X). p (key z)) ys))) (ap (alike x) one ∙ itself x)
      place_ahead p (y ∷ ys) (suc k) x apart e h = by (p (key y)) (other (alike x y) refl) (place_ahead p ys k x apart.1 e h)
        where
          other : (b : Bool) → alike x y ≡ b → alike x y ≡ false
          other true f = absurd (all_has (λ (z : X). alike y z ≡ true → ⊥) ys x apart.0 (at_has ys k x e) (back x y f))
          other false f = f

          by : (b : Bool) → alike x y ≡ false → place_of (alike x) (filter (λ (z : X). p (key z)) ys) ≡ Some (ahead p k (map key ys))
              → place_of (alike x) (cond b (y ∷ filter (λ (z : X). p (key z)) ys) (filter (λ (z : X). p (key z)) ys)) ≡ Some (if b then suc (ahead p k (map key ys)) else ahead p k (map key ys))
          by true f rest =
              ap (λ (b : Bool). if b then Some 0 else option_map suc (place_of (alike x) (filter (λ (z : X). p (key z)) ys))) f ∙ ap (option_map suc) rest
          by false f rest = rest

      module _ (equal : X → X → Bool) (equal_alike : (x y : X) → equal x y ≡ true → alike x y ≡ true) where
        -- at one place and equal to one of the list is equal to the one at that place
        stands_equal : (q : X → Bool) (ys : List X) (x : X) (n : ℕ) → AreApart alike ys
            → (is_among equal ys x && is_one_place (Some n) (place_of (alike x) (filter q ys))) ≡ option_map_or (equal x) (slice_get (filter q ys) n) false
        stands_equal q ys x n apart = by (slice_get (filter q ys) n) refl
          where
            cs : List X
            cs = filter q ys

            cs_apart : AreApart alike cs
            cs_apart = apart_filter alike itself back q ys apart

            neither : (a b : Bool) → (a ≡ true → b ≡ true → ⊥) → (a && b) ≡ false
            neither true true f = absurd (f refl refl)
            neither true false f = refl
            neither false b f = refl

            both : (a b : Bool) → a ≡ true → b ≡ true → (a && b) ≡ true
            both a b e f = λ j. e j && f j

            one : (k : ℕ) → is_one_place (Some k) (Some k) ≡ true
            one k = eq-eqb k k refl

            gone : slice_get cs n ≡ None → is_among equal ys x ≡ true → is_one_place (Some n) (place_of (alike x) cs) ≡ true → ⊥
            gone e a b = let f = place_found (alike x) cs n (one_place_is n (place_of (alike x) cs) b) in let at : slice_get cs n ≡ Some f.item = f.at in cc

            other : (d : X) → slice_get cs n ≡ Some d → equal x d ≡ false → is_among equal ys x ≡ true → is_one_place (Some n) (place_of (alike x) cs) ≡ true → ⊥
            other d e no_equal a b =
                let f = place_found (alike x) cs n (one_place_is n (place_of (alike x) cs) b) in
                let at : slice_get cs n ≡ Some f.item = f.at in
                let item : f.item ≡ d = cc in
                let like : alike x d ≡ true = ap (alike x) (sym item) ∙ f.passes in
                let y = found (equal x) ys a in
                let same : y.item ≡ d = one_alike alike itself back ys y.item d apart y.there (filter_has q ys d (at_has cs n d e)).there
                (from_key y.item d (sym (one_key x y.item (equal_alike x y.item y.passes)) ∙ one_key x d like)) in
                true≢false (sym y.passes ∙ ap (equal x) same ∙ no_equal)

            at_item : (d : X) (b : Bool) → slice_get cs n ≡ Some d → equal x d ≡ b → (is_among equal ys x && is_one_place (Some n) (place_of (alike x) cs)) ≡ b
            at_item d true e h =
                both (is_among equal ys x) (is_one_place (Some n) (place_of (alike x) cs))
                (any_has (equal x) ys d (filter_has q ys d (at_has cs n d e)).there h)
                (ap (is_one_place (Some n)) (place_like cs n d x cs_apart e (equal_alike x d h)) ∙ one n)
            at_item d false e h = neither (is_among equal ys x) (is_one_place (Some n) (place_of (alike x) cs)) (λ a b. other d e h a b)

            by : (o : Option X) → slice_get cs n ≡ o → (is_among equal ys x && is_one_place (Some n) (place_of (alike x) cs)) ≡ option_map_or (equal x) o false
            by None e = neither (is_among equal ys x) (is_one_place (Some n) (place_of (alike x) cs)) (λ a b. gone e a b)
            by (Some d) e = at_item d (equal x d) e refl

        -- an item stays exactly where it is equal to its partner
        pub partner_stays : (xs ys : List X) (k : ℕ) (x : X) → AreApart alike xs → AreApart alike ys → slice_get xs k ≡ Some x
            → is_partner_equal equal ys x (partner_at (partners (map key xs) (map key ys)) k) ≡ stays alike equal xs ys x
        partner_stays xs ys k x apart apart' e = by (is_listed (map key ys) (key x)) refl
          where
            p : Text → Bool
            p = is_listed (map key ys)

            q : Text → Bool
            q = is_listed (map key xs)

            mine : in_both alike xs ys ≡ filter (λ (z : X). p (key z)) xs
            mine = ap (λ (f : X → Bool). filter f xs) (λ j z. among_listed ys z j)

            its : in_both alike ys xs ≡ filter (λ (z : X). q (key z)) ys
            its = ap (λ (f : X → Bool). filter f ys) (λ j z. among_listed xs z j)

            ms : List ℕ
            ms = places_from 0 q (map key ys)

            key_at : slice_get (map key xs) k ≡ Some (key x)
            key_at = at_map xs k x e
              where
                at_map : (zs : List X) (i : ℕ) (z : X) → slice_get zs i ≡ Some z → slice_get (map key zs) i ≡ Some (key z)
                at_map [] i z f = absurd (cc)
                at_map (w ∷ ws) zero z f = let same : w ≡ z = cc in ap (λ (v : X). Some (key v)) same
                at_map (w ∷ ws) (suc i) z f = at_map ws i z f

            partner : partner_at (partners (map key xs) (map key ys)) k ≡ (if p (key x) then slice_get ms (ahead p k (map key xs)) else None)
            partner = partner_is p (map key xs) ms k (key x) key_at

            nothing : p (key x) ≡ false → (b : Bool) → b ≡ is_among equal ys x → stays alike equal xs ys x ≡ false
            nothing h true f =
                let y = found (equal x) ys (sym f) in
                absurd (true≢false (sym (any_has (alike x) ys y.item y.there (equal_alike x y.item y.passes)) ∙ among_listed ys x ∙ h))
            nothing h false f = ap (λ (b : Bool). b && is_one_place (place_of (alike x) (in_both alike xs ys)) (place_of (alike x) (in_both alike ys xs))) (sym f)

            by : (b : Bool) → p (key x) ≡ b → is_partner_equal equal ys x (partner_at (partners (map key xs) (map key ys)) k) ≡ stays alike equal xs ys x
            by true h =
                ap (is_partner_equal equal ys x) (partner ∙ ap (λ (b : Bool). if b then slice_get ms (ahead p k (map key xs)) else None) h)
                ∙ ap (λ (o : Option X). option_map_or (equal x) o false) (found_at q ys ys 0 (ahead p k (map key xs)) (λ i. ap (slice_get ys) (omega arith)))
                ∙ sym (stands_equal (λ (z : X). q (key z)) ys x (ahead p k (map key xs)) apart')
                ∙ (λ j. is_among equal ys x && is_one_place (sym (place_ahead p xs k x apart e h) j) (place_of (alike x) (sym its j)))
                ∙ (λ j. is_among equal ys x && is_one_place (place_of (alike x) (sym mine j)) (place_of (alike x) (in_both alike ys xs)))
            by false h =
                ap (is_partner_equal equal ys x) (partner ∙ ap (λ (b : Bool). if b then slice_get ms (ahead p k (map key xs)) else None) h)
                ∙ sym (nothing h (is_among equal ys x) refl)
