-- A text says one certificate at most.
use Rattle.std.proofs.Common.{◌≡◌, ℕ, ◌<◌, ◌^◌, Bool, true, false, List, [], ◌∷◌, ◌++◌, map, length, refl, sym, ap, ◌∙◌, arith}
use Rattle.std.specs.Prelude.{◌≢◌, flat_map, if◌then◌else◌, codes}
use Rattle.std.specs.List.{list_all, AllByRecursion}
use Rattle.std.specs.Fmt.{decimal}
use Rattle.std.proofs.lemmas.Bool.{and_parts}
use Rattle.std.proofs.lemmas.Fmt.{decimal_injective, digits_decimal, decimal_nonempty}
use Rattle.token_model.specs.Bytes.{is_digit}
use Rattle.text_model.specs.Pieces.{pieces_joined}
use Rattle.reread_law.proofs.Decimals.{digits_model}
use Rattle.certified_model.specs.Marks.{Text}
use Rattle.certified_model.specs.Certificates.{CertStep}
use Rattle.certificate_model.specs.CertificateTexts.{path_text, step_text, HasNineDigits, IsStep, SaysCertificate}

-- no byte of a text is this one
abbrev pub Lacks : ℕ → Text → Type 0
Lacks c [] = Unit {0}
Lacks c (b ∷ s) = (b ≢ c) × Lacks c s

-- a text that is empty or begins with a byte
abbrev pub Starts : ℕ → Text → Type 0
Starts c [] = Unit {0}
Starts c (b ∷ s) = b ≡ c

-- texts that lack a byte, before what is empty or begins with it
pub cut : (c : ℕ) (u v r s : Text) → Lacks c u → Lacks c v → Starts c r → Starts c s → u ++ r ≡ v ++ s → (u ≡ v) × (r ≡ s)
cut c [] [] r s h k p q e = (refl, e)
cut c [] (b ∷ v) [] s h k p q e = let bad : ⊥ = cc in absurd bad
cut c [] (b ∷ v) (a ∷ r) s h k p q e = let same : a ≡ b = cc in absurd (k.0 (sym same ∙ p))
cut c (a ∷ u) [] r [] h k p q e = let bad : ⊥ = cc in absurd bad
cut c (a ∷ u) [] r (b ∷ s) h k p q e = let same : a ≡ b = cc in absurd (h.0 (same ∙ q))
cut c (a ∷ u) (b ∷ v) r s h k p q e =
    let first : a ≡ b = cc in
    let others : u ++ r ≡ v ++ s = cc in
    let rest = cut c u v r s h.1 k.1 p q others in
    ((λ i. first i ∷ rest.0 i), rest.1)

nothing_before : (u v : Text) → [] ≡ u ++ v → u ≡ []
nothing_before [] v e = refl
nothing_before (b ∷ u) v e = let bad : ⊥ = cc in absurd bad

pub lacks_both : (c : ℕ) (u v : Text) → Lacks c u → Lacks c v → Lacks c (u ++ v)
lacks_both c [] v h k = k
lacks_both c (b ∷ u) v h k = (h.0, lacks_both c u v h.1 k)

-- pieces that lack a byte, with that byte between
module _ {X : Type 0} (f : X → Text) (c : ℕ) (Good : X → Type 0) (lacks : (x : X) → Good x → Lacks c (f x)) (some : (x : X) → Good x → f x ≢ []) (one : (x y : X) → Good x → Good y → f x ≡ f y → x ≡ y) where
  abbrev behind : List X → Text
  behind xs = flat_map (λ (p : Text). (c ∷ []) ++ p) (map f xs)

  starts : (xs : List X) → Starts c (behind xs)
  starts [] = tt
  starts (x ∷ xs) = refl

  one_behind : (xs ys : List X) → AllByRecursion Good xs → AllByRecursion Good ys → behind xs ≡ behind ys → xs ≡ ys
  one_behind [] [] g h e = refl
  one_behind [] (y ∷ ys) g h e = let bad : ⊥ = cc in absurd bad
  one_behind (x ∷ xs) [] g h e = let bad : ⊥ = cc in absurd bad
  one_behind (x ∷ xs) (y ∷ ys) g h e =
      let others : f x ++ behind xs ≡ f y ++ behind ys = cc in
      let parts = cut c (f x) (f y) (behind xs) (behind ys) (lacks x g.0) (lacks y h.0) (starts xs) (starts ys) others in
      let first = one x y g.0 h.0 parts.0 in
      let rest = one_behind xs ys g.1 h.1 parts.1 in
      λ i. first i ∷ rest i

  one_joined : (xs ys : List X) → AllByRecursion Good xs → AllByRecursion Good ys → pieces_joined (c ∷ []) (map f xs) ≡ pieces_joined (c ∷ []) (map f ys) → xs ≡ ys
  one_joined [] [] g h e = refl
  one_joined [] (y ∷ ys) g h e = absurd (some y h.0 (nothing_before (f y) (behind ys) e))
  one_joined (x ∷ xs) [] g h e = absurd (some x g.0 (nothing_before (f x) (behind xs) (sym e)))
  one_joined (x ∷ xs) (y ∷ ys) g h e =
      let parts = cut c (f x) (f y) (behind xs) (behind ys) (lacks x g.0) (lacks y h.0) (starts xs) (starts ys) e in
      let first = one x y g.0 h.0 parts.0 in
      let rest = one_behind xs ys g.1 h.1 parts.1 in
      λ i. first i ∷ rest i

  -- what lacks another byte, where each piece does
  module _ (d : ℕ) (other : c ≢ d) (each : (x : X) → Good x → Lacks d (f x)) where
    behind_lacks : (xs : List X) → AllByRecursion Good xs → Lacks d (behind xs)
    behind_lacks [] g = tt
    behind_lacks (x ∷ xs) g = (other, lacks_both d (f x) (behind xs) (each x g.0) (behind_lacks xs g.1))

    joined_lacks : (xs : List X) → AllByRecursion Good xs → Lacks d (pieces_joined (c ∷ []) (map f xs))
    joined_lacks [] g = tt
    joined_lacks (x ∷ xs) g = lacks_both d (f x) (behind xs) (each x g.0) (behind_lacks xs g.1)

-- numbers are digits alone
abbrev AreDigits : Text → Type 0
AreDigits ds = list_all is_digit ds ≡ true

digits_lack : (c : ℕ) → is_digit c ≡ false → (ds : Text) → AreDigits ds → Lacks c ds
digits_lack c other [] h = tt
digits_lack c other (b ∷ ds) h =
    let p = and_parts (is_digit b) (list_all is_digit ds) h in
    ((λ e. let bad : true ≡ false = sym p.0 ∙ ap is_digit e ∙ other in absurd (cc)), digits_lack c other ds p.1)

pub small : (n : ℕ) → HasNineDigits n → n < 2 ^ 64
small n h = omega (arith, h)

pub number_lacks : (c : ℕ) → is_digit c ≡ false → (n : ℕ) → HasNineDigits n → Lacks c (decimal n)
number_lacks c other n h = digits_lack c other (decimal n) (digits_decimal digits_model n (small n h))

number_some : (n : ℕ) → HasNineDigits n → decimal n ≢ []
number_some n h e = let l : 0 < length (decimal n) = decimal_nonempty n (small n h) in let z : length (decimal n) ≡ 0 = ap length e in omega (arith, l, z)

one_number : (m n : ℕ) → HasNineDigits m → HasNineDigits n → decimal m ≡ decimal n → m ≡ n
one_number m n h k e = decimal_injective m n (small m h) (small n k) e

one_path : (p q : List ℕ) → AllByRecursion HasNineDigits p → AllByRecursion HasNineDigits q → path_text p ≡ path_text q → p ≡ q
one_path p q h k e = one_joined decimal 46 HasNineDigits (number_lacks 46 refl) number_some one_number p q h k e

path_lacks : (c : ℕ) → is_digit c ≡ false → 46 ≢ c → (p : List ℕ) → AllByRecursion HasNineDigits p → Lacks c (path_text p)
path_lacks c none apart p h = joined_lacks decimal 46 HasNineDigits (number_lacks 46 refl) number_some one_number c apart (number_lacks c none) p h

law_small : (x : CertStep) → IsStep x → HasNineDigits x.law
law_small x h = let most = h.to_ten in omega (arith, most)

-- what stands behind the sign
abbrev unsigned : CertStep → Text
unsigned x = decimal x.law ++ (64 ∷ path_text x.path)

unsigned_lacks : (x : CertStep) → IsStep x → Lacks 44 (unsigned x)
unsigned_lacks x h = lacks_both 44 (decimal x.law) (64 ∷ path_text x.path) (number_lacks 44 refl x.law (law_small x h)) ((λ e. omega (arith, e)), path_lacks 44 refl (λ e. omega (arith, e)) x.path h.path)

pub step_lacks : (x : CertStep) → IsStep x → Lacks 44 (step_text x)
step_lacks x h = by x.forward (unsigned_lacks x h)
  where
    by : (b : Bool) → Lacks 44 (unsigned x) → Lacks 44 ((if b then codes "+" else codes "-") ++ unsigned x)
    by true k = ((λ e. omega (arith, e)), k)
    by false k = ((λ e. omega (arith, e)), k)

step_some : (x : CertStep) → IsStep x → step_text x ≢ []
step_some x h e = by x.forward e
  where
    by : (b : Bool) → (if b then codes "+" else codes "-") ++ unsigned x ≡ [] → ⊥
    by true k = cc
    by false k = cc

one_unsigned : (x y : CertStep) → IsStep x → IsStep y → unsigned x ≡ unsigned y → (x.law ≡ y.law) × (x.path ≡ y.path)
one_unsigned x y h k e =
    let parts = cut 64 (decimal x.law) (decimal y.law) (64 ∷ path_text x.path) (64 ∷ path_text y.path) (number_lacks 64 refl x.law (law_small x h)) (number_lacks 64 refl y.law (law_small y k)) refl refl e in
    let paths : path_text x.path ≡ path_text y.path = let both = parts.1 in cc in
    (one_number x.law y.law (law_small x h) (law_small y k) parts.0, one_path x.path y.path h.path k.path paths)

one_step : (x y : CertStep) → IsStep x → IsStep y → step_text x ≡ step_text y → x ≡ y
one_step x y h k e = by x.forward y.forward refl refl e
  where
    same : x.forward ≡ y.forward → unsigned x ≡ unsigned y → x ≡ y
    same f u = let r = one_unsigned x y h k u in λ i. record { law = r.0 i; forward = f i; path = r.1 i }

    by : (a b : Bool) → x.forward ≡ a → y.forward ≡ b → (if a then codes "+" else codes "-") ++ unsigned x ≡ (if b then codes "+" else codes "-") ++ unsigned y → x ≡ y
    by true true p q r = let u : unsigned x ≡ unsigned y = cc in same (p ∙ sym q) u
    by true false p q r = let bad : ◌≡◌ {A = ℕ} 43 45 = cc in absurd (omega (arith, bad))
    by false true p q r = let bad : ◌≡◌ {A = ℕ} 45 43 = cc in absurd (omega (arith, bad))
    by false false p q r = let u : unsigned x ≡ unsigned y = cc in same (p ∙ sym q) u

-- a text says one certificate at most
pub one_certificate : (text : Text) (xs ys : List CertStep) → SaysCertificate text xs → SaysCertificate text ys → xs ≡ ys
one_certificate text xs ys a b = one_joined step_text 44 IsStep step_lacks step_some one_step xs ys a.steps b.steps (sym a.spelled ∙ b.spelled)
